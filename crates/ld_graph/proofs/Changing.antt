use Rattle.std.proofs.Common.{◌≡◌, ◌≢◌, ℕ, ◌+◌, ◌<◌, ◌⊎◌, inl, inr, List, [], length, get_or, set, Contains, sum_by, refl, sym, ◌∙◌, ap, subst, arith}
use Rattle.std.proofs.lemmas.Bool.{cases_eq}
use Rattle.std.proofs.lemmas.List.{get_or-set_same, get_or-set_other, length-set, set-set, set-get_or, get_or_default}
use Rattle.std.proofs.lemmas.List.Sums.{sum_by-set}
use Rattle.std.proofs.lemmas.List.Elements.{Contains-get_or}
use Rattle.ld_graph.specs.Slots.{AreDistinct}
use Rattle.ld_graph.specs.Edges.{Edges, IsLinked, Changes, edge_room}

-- nothing changes
pub changes_none : (g : Edges) (site : ℕ) → Changes g g site
changes_none g site = record { row = get_or g.rows site []; rows = sym (set-get_or g.rows site []); slots = refl; opened = refl; balance = refl }

pub changes_range : {old new : Edges} {site : ℕ} → Changes old new site → length new.rows ≡ length old.rows
changes_range {old} {new} {site} c = ap (λ (x : List (List ℕ)). length x) c.rows ∙ length-set old.rows site c.row

pub changes_row : {old new : Edges} {site : ℕ} (c : Changes old new site) → site < length old.rows → get_or new.rows site [] ≡ c.row
changes_row {old} {new} {site} c lt = ap (λ (x : List (List ℕ)). get_or x site []) c.rows ∙ get_or-set_same old.rows site c.row [] lt

pub changes_others : {old new : Edges} {site : ℕ} → Changes old new site → (i : ℕ) → i ≢ site → get_or new.rows i [] ≡ get_or old.rows i []
changes_others {old} {new} {site} c i ne = ap (λ (x : List (List ℕ)). get_or x i []) c.rows ∙ get_or-set_other old.rows site i c.row [] ne

pub changes_balance : {old new : Edges} {site : ℕ} → Changes old new site → site < length old.rows
    → new.spare + length (get_or new.rows site []) ≡ old.spare + length (get_or old.rows site [])
changes_balance c lt = let e = ap (λ (x : List ℕ). length x) (changes_row c lt) in let b = c.balance in omega arith

pub changes_room : {old new : Edges} {site : ℕ} → Changes old new site → site < length old.rows → edge_room new ≡ edge_room old
changes_room {old} {new} {site} c lt =
    let s = sum_by-set (λ (x : List ℕ). length x) old.rows site c.row [] lt in
    let e = ap (λ (x : List (List ℕ)). sum_by length x) c.rows in
    let b = c.balance in
    omega arith

-- one change after another
pub changes_then : {a b c : Edges} {site : ℕ} → Changes a b site → Changes b c site → site < length a.rows → Changes a c site
changes_then {a} {b} {c} {site} p q lt = record {
  row = q.row;
  rows = q.rows ∙ (ap (λ (x : List (List ℕ)). set x site q.row) p.rows ∙ set-set a.rows site p.row q.row);
  slots = q.slots ∙ p.slots;
  opened = q.opened ∙ p.opened;
  balance = let m = changes_balance p lt in let n = q.balance in omega arith;
}

-- the edges of a site are the first slots of a list
pub record HasFirst (g : Edges) (site : ℕ) (slots : List ℕ) (count : ℕ) : Type 0 where
  pub long : length (get_or g.rows site []) ≡ count
  pub only : (k : ℕ) → IsLinked g k site → (j : ℕ) × (j < count) × (get_or slots j 0 ≡ k)
  pub all : (j : ℕ) → j < count → IsLinked g (get_or slots j 0) site

pub has_first_none : (g : Edges) (site : ℕ) (slots : List ℕ) → get_or g.rows site [] ≡ [] → HasFirst g site slots 0
has_first_none g site slots is = record {
  long = ap (λ (x : List ℕ). length x) is;
  only = λ k h. let l = h.1 in let e = ap (λ (x : List ℕ). length x) is in absurd (omega arith);
  all = λ j lt. absurd (omega arith);
}

pub has_first_new : {g : Edges} {site : ℕ} {slots : List ℕ} {count : ℕ} → HasFirst g site slots count → AreDistinct slots → count < length slots
    → IsLinked g (get_or slots count 0) site → ⊥
has_first_new {g} {site} {slots} {count} h d lt is =
    let r = h.only (get_or slots count 0) is in
    let below = r.1 in
    let e = d r.0 count (omega arith) lt r.2 in
    omega arith

pub has_first_more : {g g' : Edges} {site : ℕ} {slots : List ℕ} {count : ℕ} (slot : ℕ) → HasFirst g site slots count → slot ≡ get_or slots count 0
    → length (get_or g'.rows site []) ≡ length (get_or g.rows site []) + 1
    → ((k : ℕ) → (IsLinked g' k site → (k ≡ slot) ⊎ IsLinked g k site) × ((k ≡ slot) ⊎ IsLinked g k site → IsLinked g' k site))
    → HasFirst g' site slots (count + 1)
has_first_more {g} {g'} {site} {slots} {count} slot h is more own = record {
  long = let l = h.long in omega arith;
  only = λ k linked. elim ((own k).0 linked) [
    | inl here ↦ (count, omega arith, sym is ∙ sym here)
    | inr was ↦ let r = h.only k was in let below = r.1 in (r.0, omega arith, r.2)
  ];
  all = λ j lt. elim (cases_eq j count) [
    | inl here ↦ (own (get_or slots j 0)).1 (inl (ap (λ (x : ℕ). get_or slots x 0) here ∙ sym is))
    | inr other ↦ (own (get_or slots j 0)).1 (inr (h.all j (omega arith)))
  ];
}

-- at the end they are its slots
pub has_all : {g : Edges} {site : ℕ} {slots : List ℕ} {count : ℕ} → HasFirst g site slots count → count ≡ length slots → (k : ℕ)
    → (IsLinked g k site → Contains slots k) × (Contains slots k → IsLinked g k site)
has_all {g} {site} {slots} {count} h e k = (
  λ linked. let r = h.only k linked in let below = r.1 in subst (λ (x : ℕ). Contains slots x) r.2 (Contains-get_or slots r.0 0 (omega arith)),
  λ member.
      let lt = member.1 in
      subst (λ (x : ℕ). IsLinked g x site) (get_or_default slots member.0 0 k lt ∙ member.2) (h.all member.0 (omega arith)),
)

-- the rows below a number are empty, and the rest is as it was
pub record EmptyBelow (old new : Edges) (count : ℕ) : Type 0 where
  pub below : (i : ℕ) → i < count → get_or new.rows i [] ≡ []
  pub range : length new.rows ≡ length old.rows
  pub slots : new.slots ≡ old.slots
  pub opened : new.opened ≡ old.opened
  pub room : edge_room new ≡ edge_room old

pub empty_none : (g : Edges) → EmptyBelow g g 0
empty_none g = record { below = λ i lt. absurd (omega arith); range = refl; slots = refl; opened = refl; room = refl }

pub empty_more : {old new new' : Edges} {count : ℕ} → EmptyBelow old new count → get_or new'.rows count [] ≡ []
    → ((i : ℕ) → i ≢ count → get_or new'.rows i [] ≡ get_or new.rows i []) → length new'.rows ≡ length new.rows
    → new'.slots ≡ new.slots → new'.opened ≡ new.opened → edge_room new' ≡ edge_room new → EmptyBelow old new' (count + 1)
empty_more {old} {new} {new'} {count} e here others range slots opened room = record {
  below = λ i lt. elim (cases_eq i count) [
    | inl q ↦ ap (λ (x : ℕ). get_or new'.rows x []) q ∙ here
    | inr ne ↦ others i ne ∙ e.below i (omega arith)
  ];
  range = range ∙ e.range;
  slots = slots ∙ e.slots;
  opened = opened ∙ e.opened;
  room = room ∙ e.room;
}
