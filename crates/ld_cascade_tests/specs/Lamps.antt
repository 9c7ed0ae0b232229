use Rattle.std.proofs.Common.{◌≡◌, ℕ, ◌-◌, ◌<◌, ◌≤◌, Bool, true, false, cond, List, [], ◌∷◌, length, set, get_or, Some, nat_lt, refl, sym, ◌∙◌, ap, arith, Contains, inl, inr}
use Rattle.std.proofs.lemmas.List.{length-set, get_or-set_other, get_or-set_same, get_or_past}
use Rattle.std.proofs.lemmas.List.Elements.{Contains-push}
use Rattle.std.proofs.lemmas.Bool.{le-ltb, lt-ltb, ltb-true, ltb-false, cases_lt}
use Rattle.ld_cascade_tests.specs.declared.lamps.Lamps.{Lamps}
use Rattle.ld_cascade.specs.System.{System, Lawful}
use Rattle.ld_cascade_tests.specs.Row.{Row}

-- each lamp is a slot, and has a site that reads it: the site's test is whether the lamp is lit, and
-- its firing hands that on to the lamp before it
abbrev pub lamps : System
lamps = record {
  Situation = Row;
  Content = Bool;
  Setting = ℕ;
  IsSound = λ s. length s.lit ≡ length s.marks;
  setting = λ s. length s.lit;
  GrowsTo = λ n m. n ≡ m;
  is_site = λ s i. nat_lt i (length s.lit);
  count = λ s. length s.lit;
  slots = λ s. length s.lit;
  content = λ s k. get_or s.lit k false;
  test = λ s i. get_or s.lit i false;
  mark = λ s i. Some (get_or s.marks i false);
  reads = λ s i. cond (nat_lt i (length s.lit)) (i ∷ []) [];
  size = λ s i. 0;
  after = λ s i. record { lit = set s.lit (i - 1) (get_or s.lit i false); marks = set s.marks i (get_or s.lit i false) };
  changed = λ s i. (i - 1) ∷ [];
  rejected = λ s i. 0;
  sent = λ s i. 0;
  cost = λ s i. 1;
}

-- the situation that a row of lamps means
abbrev pub lamps_of : Lamps → Row
lamps_of t = record { lit = t.lit.items; marks = t.marks.items }

-- there are as many marks as lamps
pub is_sound : (t : Lamps) → length (lamps_of t).lit ≡ length (lamps_of t).marks
is_sound t = t.even

-- a lamp is below their number
below : (i : ℕ) (lit : List Bool) → nat_lt i (length lit) ≡ true → i < length lit
below i lit there = ltb-true i (length lit) there

-- what is no lamp is not
beyond : (i : ℕ) (lit : List Bool) → nat_lt i (length lit) ≡ false → length lit ≤ i
beyond i lit out = ltb-false i (length lit) out

-- the one member of a list of one number
one_below : (i k n : ℕ) → i < n → Contains (i ∷ []) k → k < n
one_below i k n lt member =
    let first : member.0 ≡ 0 = let a = member.1 in omega arith in
    let same : i ≡ k = rw first at member.2 in
    omega arith

-- what a lamp's site reads is a lamp
reads_one : (n i k : ℕ) → Contains (cond (nat_lt i n) (i ∷ []) []) k → k < n
reads_one n i k member = elim (cases_lt i n) [
  | inl lt ↦ one_below i k n lt (rw (lt-ltb i n lt) at member)
  | inr past ↦ let none : Contains {X = ℕ} [] k = rw (le-ltb i n past) at member in absurd (let lt = none.1 in omega arith)
]

-- rows of lamps keep the laws
pub is_lawful : Lawful lamps
is_lawful = record {
  stays = λ n. refl;
  same_test = λ s t i a. a.agree i (rw a.there (Contains-push [] i));
  same_reads = λ s t i a. ap (λ (n : ℕ). cond (nat_lt i n) (i ∷ []) []) a.grows;
  reads_by_mark = λ s t i _ _ same _ _ _. ap (λ (n : ℕ). cond (nat_lt i n) (i ∷ []) []) same;
  keeps_sound = λ s i m. length-set s.lit (i - 1) (get_or s.lit i false) ∙ (m.sound ∙ sym (length-set s.marks i (get_or s.lit i false)));
  keeps_setting = λ s i m. length-set s.lit (i - 1) (get_or s.lit i false);
  keeps_sites = λ s i j m. ap (λ (n : ℕ). nat_lt j n) (length-set s.lit (i - 1) (get_or s.lit i false));
  keeps_count = λ s i m. length-set s.lit (i - 1) (get_or s.lit i false);
  keeps_slots = λ s i m. length-set s.lit (i - 1) (get_or s.lit i false);
  keeps_size = λ s i j m. refl;
  own_mark = λ s i m. ap (λ (b : Bool). Some b) (get_or-set_same s.marks i (get_or s.lit i false) false (let a = below i s.lit m.there in let b = m.sound in omega arith));
  other_marks = λ s i j m ne. ap (λ (b : Bool). Some b) (get_or-set_other s.marks i j (get_or s.lit i false) false ne);
  reported = λ s i k m out. get_or-set_other s.lit (i - 1) k (get_or s.lit i false) false (λ e. out (rw e (Contains-push [] (i - 1))));
  within = λ s i _ there. below i s.lit there;
  no_test = λ s i _ out. get_or_past s.lit i false (beyond i s.lit out);
  no_mark = λ s i e out. ap (λ (b : Bool). Some b) (get_or_past s.marks i false (let past = beyond i s.lit out in omega arith));
  no_reads = λ s i _ out. rw out refl;
  no_size = λ s i _ _. refl;
  reads_below = λ s i k _ member. reads_one (length s.lit) i k member;
  changes_below = λ s i k m member. one_below (i - 1) k (length s.lit) (let a = below i s.lit m.there in omega arith) member;
}
