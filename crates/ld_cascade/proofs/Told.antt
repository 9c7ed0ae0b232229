-- What the firings of a settling tell as changed: the slots of one list after those of another, and that nothing
-- else changes.
use Rattle.std.proofs.Common.{◌≡◌, ℕ, zero, suc, ◌+◌, cond, Bool, true, false, List, [], ◌∷◌, ◌++◌, Contains, length, take, drop, refl, sym, ◌∙◌, ap, subst, append_assoc, append-nil, add-zero, add-suc, arith, ◌-◌, ◌<◌, ◌≤◌, inl, inr}
use Rattle.std.proofs.lemmas.List.Elements.{Contains-append_left, Contains-append_right, Contains-append_cases}
use Rattle.std.proofs.Math.Seq.{drop-append_seam}
use Rattle.std.proofs.lemmas.List.{take_rest}
use Rattle.std.proofs.lemmas.Bool.{cases_Bool}
use Rattle.ld_cascade.specs.System.{System, fires, Lawful}
use Rattle.ld_cascade.specs.Settling.{Firing, step, fired, visited, fired_below, sweep_firings, swept, after_sweeps, all_firings, changes_of, DifferOnlyIn}
use Rattle.ld_cascade.proofs.Sweeps.{may_fire, quiet_visits, still_visited, still_after}
use Rattle.ld_cascade.specs.Standing.{Standing}
use Rattle.ld_cascade.proofs.Turns.{Turning, turning_still}
use Rattle.ld_cascade.proofs.Visits.{fired_due, fired_quiet}

pub changes_append : (y : System) (fs gs : List (Firing y)) → changes_of y (fs ++ gs) ≡ changes_of y fs ++ changes_of y gs
changes_append y [] gs = refl
changes_append y (f ∷ fs) gs =
    let rest : changes_of y (fs ++ gs) ≡ changes_of y fs ++ changes_of y gs = changes_append y fs gs in
    ap (λ (xs : List ℕ). y.changed f.before f.site ++ xs) rest ∙ sym (append_assoc (y.changed f.before f.site) (changes_of y fs) (changes_of y gs))

-- a list that was told so far, after more firings
pub told_then : (y : System) (old mid new : List ℕ) (fs gs all : List (Firing y)) → all ≡ fs ++ gs
    → mid ≡ old ++ changes_of y fs → new ≡ mid ++ changes_of y gs → new ≡ old ++ changes_of y all
told_then y old mid new fs gs all is first second =
    second ∙ (ap (λ (xs : List ℕ). xs ++ changes_of y gs) first
    ∙ (append_assoc old (changes_of y fs) (changes_of y gs)
    ∙ ap (λ (xs : List ℕ). old ++ xs) (sym (changes_append y fs gs) ∙ ap (λ (hs : List (Firing y)). changes_of y hs) (sym is))))

-- before the first firing a list has told nothing
pub told_first : (y : System) (s : y.Situation) (old : List ℕ) → old ≡ old ++ changes_of y (fired_below y s 0)
unfolding fired_below
told_first y s old = sym (append-nil old)

pub told_at_first : (y : System) (s : y.Situation) (old : List ℕ) → old ≡ old ++ changes_of y (all_firings y s 0)
unfolding all_firings
told_at_first y s old = sym (append-nil old)

-- the slots that the firing of one site tells
pub changes_due : (y : System) (s : y.Situation) (i : ℕ) → fires y s i ≡ true → changes_of y (fired y s i) ≡ y.changed s i
changes_due y s i is_due = ap (λ (fs : List (Firing y)). changes_of y fs) (fired_due y s i is_due) ∙ append-nil (y.changed s i)

-- a site that does not fire tells none
pub told_none : (y : System) (s : y.Situation) (i : ℕ) → fires y s i ≡ false → (old : List ℕ) → old ≡ old ++ changes_of y (fired y s i)
told_none y s i quiet old =
    sym (append-nil old) ∙ ap (λ (fs : List (Firing y)). old ++ changes_of y fs) (sym (fired_quiet y s i quiet))

-- the end of a list that was appended to
pub told_part : (old new more seen : List ℕ) (from : ℕ) → seen ≡ new → from ≡ length old → new ≡ old ++ more
    → take (length seen - from) (drop from seen) ≡ more
told_part old new more seen from same start told =
    take_rest seen from ∙ (ap (λ (xs : List ℕ). drop from xs) (same ∙ told) ∙ (ap (λ (n : ℕ). drop n (old ++ more)) start ∙ drop-append_seam old more))

-- two changes after one another differ only in what either tells
differ_then : (y : System) (s t u : y.Situation) (fs gs : List (Firing y)) → DifferOnlyIn y s t (changes_of y fs) → DifferOnlyIn y t u (changes_of y gs)
    → DifferOnlyIn y s u (changes_of y (fs ++ gs))
differ_then y s t u fs gs a b k out =
    let e = changes_append y fs gs in
    a k (λ there. out (rw e (Contains-append_left (changes_of y fs) (changes_of y gs) k there)))
    ∙ b k (λ there. out (rw e (Contains-append_right (changes_of y fs) (changes_of y gs) k there)))

untold_step : (y : System) → Lawful y → (s : y.Situation) → y.IsSound s → (i : ℕ) → DifferOnlyIn y s (step y s i) (changes_of y (fired y s i))
untold_step y law s sound i k =
    let P : Bool → Type 0 = λ b. fires y s i ≡ b
    → (Contains (changes_of y (cond b (record { before = s; site = i } ∷ []) [])) k → ⊥) → y.content s k ≡ y.content (cond b (y.after s i) s) k in
    let both : (b : Bool) → P b = elim [
      | true ↦ λ is_due out. sym (law.reported s i k (may_fire y law s i sound is_due) (λ there. out (rw (append-nil (y.changed s i)) there)))
      | false ↦ λ _ _. refl
    ] in
    both (fires y s i) refl

untold_visited : (y : System) → Lawful y → (s : y.Situation) → y.IsSound s → (n : ℕ) → DifferOnlyIn y s (visited y s n) (changes_of y (fired_below y s n))
unfolding visited fired_below
untold_visited y law s sound zero = λ _ _. refl
untold_visited y law s sound (suc n) =
    differ_then y s (visited y s n) (step y (visited y s n) n) (fired_below y s n) (fired y (visited y s n) n) (untold_visited y law s sound n)
    (untold_step y law (visited y s n) (still_visited y law s sound n).sound n)

-- after this many sweeps nothing differs but in what their firings tell
pub untold_after : (y : System) → Lawful y → (s : y.Situation) → y.IsSound s → (k : ℕ) → DifferOnlyIn y s (after_sweeps y s k) (changes_of y (all_firings y s k))
unfolding after_sweeps all_firings
untold_after y law s sound zero = λ _ _. refl
untold_after y law s sound (suc k) =
    let t = after_sweeps y s k in
    let still = still_after y law s sound k in
    differ_then y s t (swept y t) (all_firings y s k) (sweep_firings y t) (untold_after y law s sound k) (untold_visited y law t still.sound (y.count t))

-- what these firings tell is below the bound
abbrev pub AllBelow : (y : System) → ℕ → List (Firing y) → Type 0
AllBelow y bound fs = (k : ℕ) → Contains (changes_of y fs) k → k < bound

below_then : (y : System) (bound : ℕ) (fs gs : List (Firing y)) → AllBelow y bound fs → AllBelow y bound gs → AllBelow y bound (fs ++ gs)
below_then y bound fs gs a b k there =
    elim (Contains-append_cases (changes_of y fs) (changes_of y gs) k (rw (changes_append y fs gs) at there)) [
      | inl first ↦ a k first
      | inr second ↦ b k second
    ]

below_none : (y : System) (bound : ℕ) → AllBelow y bound []
below_none y bound k there = absurd (omega (arith, there.1))

slots_step : (y : System) → Lawful y → (s : y.Situation) → y.IsSound s → (i : ℕ) → y.slots (step y s i) ≡ y.slots s
slots_step y law s sound i = elim (cases_Bool (fires y s i)) [
  | inl is_due ↦ rw is_due (law.keeps_slots s i (may_fire y law s i sound is_due))
  | inr quiet ↦ rw quiet refl
]

below_step : (y : System) → Lawful y → (s : y.Situation) → y.IsSound s → (i : ℕ) → AllBelow y (y.slots s) (fired y s i)
below_step y law s sound i k there = elim (cases_Bool (fires y s i)) [
  | inl is_due ↦ law.changes_below s i k (may_fire y law s i sound is_due) (rw (changes_due y s i is_due) at there)
  | inr quiet ↦ below_none y (y.slots s) k (rw (fired_quiet y s i quiet) at there)
]

below_visited : (y : System) → Lawful y → (s : y.Situation) → y.IsSound s → (n : ℕ)
    → (y.slots (visited y s n) ≡ y.slots s) × AllBelow y (y.slots s) (fired_below y s n)
unfolding visited fired_below
below_visited y law s sound zero = (refl, below_none y (y.slots s))
below_visited y law s sound (suc n) =
    let before = below_visited y law s sound n in
    let t = visited y s n in
    let still = still_visited y law s sound n in
    let one : AllBelow y (y.slots s) (fired y t n) = subst (λ (b : ℕ). AllBelow y b (fired y t n)) before.0 (below_step y law t still.sound n) in
    (slots_step y law t still.sound n ∙ before.0, below_then y (y.slots s) (fired_below y s n) (fired y t n) before.1 one)

-- after this many sweeps there are the same slots, and what their firings tell is among them
pub below_after : (y : System) → Lawful y → (s : y.Situation) → y.IsSound s → (k : ℕ)
    → (y.slots (after_sweeps y s k) ≡ y.slots s) × AllBelow y (y.slots s) (all_firings y s k)
unfolding after_sweeps all_firings
below_after y law s sound zero = (refl, below_none y (y.slots s))
below_after y law s sound (suc k) =
    let before = below_after y law s sound k in
    let t = after_sweeps y s k in
    let still = still_after y law s sound k in
    let one = below_visited y law t still.sound (y.count t) in
    let here : AllBelow y (y.slots s) (sweep_firings y t) = subst (λ (n : ℕ). AllBelow y n (sweep_firings y t)) before.0 one.1 in
    (one.0 ∙ before.0, below_then y (y.slots s) (all_firings y s k) (sweep_firings y t) before.1 here)

-- once a sweep fires nothing, no later one does
rest_by : (y : System) (s : y.Situation) (k d : ℕ) → sweep_firings y (after_sweeps y s k) ≡ []
    → (after_sweeps y s (k + d) ≡ after_sweeps y s k) × (all_firings y s (k + d) ≡ all_firings y s k)
unfolding after_sweeps all_firings
rest_by y s k zero none = rw add-zero (refl, refl)
rest_by y s k (suc d) none =
    let before = rest_by y s k d none in
    let t = after_sweeps y s k in
    let quiet : swept y t ≡ t = quiet_visits y t (y.count t) none in
    rw (add-suc, before.0, before.1, none) (quiet, append-nil (all_firings y s k))

-- so the firings of all sweeps that are allowed are those until then
pub rest : (y : System) (s : y.Situation) (k turns : ℕ) → k ≤ turns → sweep_firings y (after_sweeps y s k) ≡ []
    → (after_sweeps y s turns ≡ after_sweeps y s k) × (all_firings y s turns ≡ all_firings y s k)
rest y s k turns within none =
    let e : k + (turns - k) ≡ turns = omega arith in
    subst (λ (n : ℕ). (after_sweeps y s n ≡ after_sweeps y s k) × (all_firings y s n ≡ all_firings y s k)) e (rest_by y s k (turns - k) none)

-- the firings of all sweeps that are allowed, where the next sweep after some fires nothing
pub all_in_turns : {y : System} {turns : ℕ} {p q : Standing y} {k : ℕ} → Turning y turns p q k → sweep_firings y q.situation ≡ []
    → all_firings y p.situation turns ≡ all_firings y p.situation k ++ sweep_firings y q.situation
all_in_turns {y} {turns} {p} {q} {k} w none =
    let quiet : sweep_firings y (after_sweeps y p.situation k) ≡ [] = rw (← w.same) none in
    (rest y p.situation k turns w.within quiet).1
    ∙ (sym (append-nil (all_firings y p.situation k)) ∙ ap (λ (fs : List (Firing y)). all_firings y p.situation k ++ fs) (sym none))

-- the settled situation differs from the first one only in what was told
pub settled_differ : {y : System} → Lawful y → {turns : ℕ} {p q : Standing y} {k : ℕ} → Turning y turns p q k → sweep_firings y q.situation ≡ []
    → y.IsSound p.situation → (s : y.Situation) → s ≡ swept y q.situation
    → DifferOnlyIn y p.situation s (changes_of y (all_firings y p.situation turns))
settled_differ {y} law {turns} {p} {q} {k} w none sound s stepped =
    let quiet : sweep_firings y (after_sweeps y p.situation k) ≡ [] = rw (← w.same) none in
    let same : s ≡ after_sweeps y p.situation turns = turning_still w none s stepped ∙ sym (rest y p.situation k turns w.within quiet).0 in
    subst (λ (u : y.Situation). DifferOnlyIn y p.situation u (changes_of y (all_firings y p.situation turns))) (sym same)
    (untold_after y law p.situation sound turns)
