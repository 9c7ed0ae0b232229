-- That sites and slots keep their numbers when persons join.
use Rattle.std.proofs.Common.{◌≡◌, refl, sym, ap, ap₂, subst, ◌∙◌, ℕ, zero, suc, ◌+◌, ◌-◌, ◌≤◌, inl, inr, List, [], ◌∷◌, ◌++◌, append_assoc, flat_map, filter_map, length, map, slice_get, Option, Some, Contains, arith}
use Rattle.std.proofs.lemmas.Grind.{flat_map-append}
use Rattle.std.specs.List.{cons_option, range_with_len}
use Rattle.ld_base.specs.Numbers.{numbers_below}
use Rattle.ld_model.specs.declared.cell.CellName.{CellName}
use Rattle.ld_model.specs.declared.unit.Unit.{Unit}
use Rattle.ld_names.specs.declared.rule.RuleKind.{RuleKind}
use Rattle.ld_names.specs.declared.rule.RuleKind.TheVariants.{Person as OfPerson, Run as OfRun}
use Rattle.ld_names.specs.Rules.{Site, kind_of, person_site, rules_of, sites_by_kind, sites_of, sites_of_rule}
use Rattle.ld_names.specs.SiteNumbers.{site_number}
use Rattle.ld_state.specs.RunCells.{all_cells, person_cells, run_cells, slot_of}
use Rattle.ld_state.specs.RunState.{RunState}
use Rattle.ld_state.proofs.Cells.{slot_stands}
use Rattle.ld_state.proofs.Elements.{IsIn, from_each, from_map, in_below, in_from_contains, in_map, is_below, none_is_some, stands_in}
use Rattle.ld_firing.specs.RunSystem.{site_at}
use Rattle.ld_firing.specs.SiteWalk.{HasSeats}
use Rattle.ld_firing.proofs.Sites.{site_found}
use Rattle.ld_firing.proofs.SitesNumbered.{site_numbered, site_of_rule_there}

-- ---- lists

numbers_more : (a n k : ℕ) → range_with_len a (n + k) ≡ range_with_len a n ++ range_with_len (a + n) k
numbers_more a zero k = ap₂ range_with_len (omega arith) (omega arith)
numbers_more a (suc n) k =
    let longer : suc n + k ≡ suc (n + k) = omega arith in
    let later : a + 1 + n ≡ a + suc n = omega arith in
    ap (range_with_len a) longer
    ∙ ap (λ rest. a ∷ rest) (numbers_more (a + 1) n k
    ∙ ap (λ from. range_with_len (a + 1) n ++ range_with_len from k) later)

stands_before : {A : Type 0} → (xs ys : List A) (k : ℕ) (x : A) → slice_get xs k ≡ Some x
    → slice_get (xs ++ ys) k ≡ Some x
stands_before [] ys k x at = none_is_some at
stands_before (z ∷ xs) ys zero x at = at
stands_before (z ∷ xs) ys (suc k) x at = stands_before xs ys k x at

pub same_given : {A B : Type 0} → (f g : A → Option B) (xs : List A) → ((x : A) → IsIn xs x → f x ≡ g x)
    → filter_map f xs ≡ filter_map g xs
same_given f g [] each = refl
same_given f g (x ∷ xs) each = ap₂ cons_option (each x (inl refl)) (same_given f g xs (λ y there. each y (inr there)))

-- ---- slots

-- With more persons there are the same cells, and more behind them.
pub more_cells : (unit : Unit) (n k : ℕ)
    → all_cells unit (n + k) ≡ all_cells unit n ++ flat_map (person_cells unit) (range_with_len n k)
more_cells unit n k =
    let cells = person_cells unit in
    ap (λ numbers. run_cells unit ++ flat_map cells numbers)
    (numbers_more 0 n k ∙ ap (λ from. numbers_below n ++ range_with_len from k) (omega arith))
    ∙ ap (λ more. run_cells unit ++ more) (flat_map-append cells (numbers_below n) (range_with_len n k))
    ∙ sym (append_assoc (run_cells unit) (flat_map cells (numbers_below n)) (flat_map cells (range_with_len n k)))

-- A cell stands where it stood.
pub cell_stays : (unit : Unit) (n m k : ℕ) (c : CellName) → n ≤ m → slice_get (all_cells unit n) k ≡ Some c
    → slice_get (all_cells unit m) k ≡ Some c
cell_stays unit n m k c grown at =
    let whole : m ≡ n + (m - n) = omega (arith, grown) in
    ap (λ persons. slice_get (all_cells unit persons) k) whole
    ∙ ap (λ cells. slice_get cells k) (more_cells unit n (m - n))
    ∙ stands_before (all_cells unit n) (flat_map (person_cells unit) (range_with_len n (m - n))) k c at

-- And so its slot stays.
pub slot_stays : (unit : Unit) (n m : ℕ) (c : CellName) → n ≤ m → IsIn (all_cells unit n) c
    → slot_of unit n c ≡ slot_of unit m c
slot_stays unit n m c grown there =
    let stands = stands_in (all_cells unit n) c there in
    slot_stands unit n stands.number c stands.at
    ∙ sym (slot_stands unit m stands.number c (cell_stays unit n m stands.number c grown stands.at))

-- ---- sites

kind_grows : (n m number : ℕ) (kind : RuleKind) (site : Site) → n ≤ m → IsIn (sites_by_kind n number kind) site → IsIn (sites_by_kind m number kind) site
kind_grows n m number OfPerson site grown inside =
    let by = from_map (person_site number) (numbers_below n) site inside in
    subst (IsIn (map (person_site number) (numbers_below m))) by.is
    (in_map (person_site number) (numbers_below m) by.element (in_below m by.element (omega (arith, is_below n by.element by.inside, grown))))
kind_grows n m number OfRun site grown inside = inside

-- A site of a run is one of a run with more persons.
pub sites_grow : (unit : Unit) (n m : ℕ) (site : Site) → n ≤ m → Contains (sites_of unit n) site → Contains (sites_of unit m) site
sites_grow unit n m site grown there =
    let by = from_each (sites_of_rule n) (rules_of unit) site (in_from_contains (sites_of unit n) site there) in
    site_of_rule_there unit m by.number by.element site by.at (kind_grows n m by.number (kind_of by.element) site grown by.inside)

-- Where another run with as many seats has the site too, it is there the one of its number.
pub site_is_there : (unit : Unit) (s t : RunState) (i : ℕ) (site : Site) → s.seats ≡ t.seats → HasSeats t
    → Contains (sites_of unit (length t.persons)) site → site_at unit s i ≡ Some site → site_at unit t i ≡ Some site
site_is_there unit s t i site seats seated there at =
    let number : site_number unit t.seats site ≡ i = ap (λ n. site_number unit n site) (sym seats) ∙ (site_found unit s i site at).number in
    subst (λ n. site_at unit t n ≡ Some site) number (site_numbered unit t site seated there)

-- A number stays that of its site.
pub site_stays : (unit : Unit) (s t : RunState) (i : ℕ) (site : Site) → s.seats ≡ t.seats
    → length s.persons ≤ length t.persons → HasSeats t → site_at unit s i ≡ Some site → site_at unit t i ≡ Some site
site_stays unit s t i site seats grown seated at =
    site_is_there unit s t i site seats seated
    (sites_grow unit (length s.persons) (length t.persons) site grown (site_found unit s i site at).there) at
