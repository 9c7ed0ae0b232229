-- That the rules which are named for a rule are those that it feeds.
use Rattle.std.proofs.Common.{◌≡◌, refl, sym, ap, ap₂, subst, ◌∙◌, ℕ, zero, suc, ◌+◌, ◌<◌, ◌≤◌, List, [], ◌∷◌, ◌++◌, drop, filter, take, get_or, length, slice_get, Some, None, Bool, true, false, cond, ◌&&◌, ◌||◌, nat_eq, not, arith}
use Rattle.std.proofs.Math.Seq.{take-append_seam}
use Rattle.std.proofs.lemmas.Option.{slice_get-get_or, slice_get_read}
use Rattle.std.specs.List.{list_any, range_with_len}
use Rattle.std.specs.Option.{unwrap_or}
use Rattle.ld_base.specs.Numbers.{numbers_below}
use Rattle.ld_model.specs.Cells.{same_cell}
use Rattle.ld_model.specs.declared.cell.CellName.{CellName}
use Rattle.ld_model.specs.declared.unit.Unit.{Unit}
use Rattle.ld_names.specs.declared.rule.Rule.{Rule}
use Rattle.ld_names.specs.declared.rule.Rule.TheVariants.{CompletesUnit}
use Rattle.ld_names.specs.Rules.{rules_of}
use Rattle.ld_expr.specs.Lookup.{is_some_and}
use Rattle.ld_rules.specs.SiteTests.{says_for_good, site_mark}
use Rattle.ld_rank.specs.Alone.{feeds_between, feeds_by, is_fed, looks_alone, site_alone, writes_alone}
use Rattle.ld_rank.specs.Lookers.{AreLookers, is_at}
use Rattle.ld_rank.specs.Rules.{IsRowOf, is_named}
use Rattle.ld_rank.specs.declared.lookers.Lookers.{Lookers}
use Rattle.ld_rank.proofs.Writing.{by_parts, looked, told_suffice}

same_from : (p q : ℕ → Bool) (n a : ℕ) → ((k : ℕ) → a ≤ k → k < a + n → p k ≡ q k)
    → filter p (range_with_len a n) ≡ filter q (range_with_len a n)
same_from p q zero a same = refl
same_from p q (suc n) a same =
    ap₂ (λ kept rest. cond kept (a ∷ rest) rest) (same a (omega arith) (omega arith))
    (same_from p q n (a + 1) (λ k from below. same k (omega (arith, from)) (omega (arith, below))))

-- The same numbers pass two tests that agree below their count.
pub same_filtered : (p q : ℕ → Bool) (n : ℕ) → ((k : ℕ) → k < n → p k ≡ q k) → filter p (numbers_below n) ≡ filter q (numbers_below n)
same_filtered p q n same = same_from p q n 0 (λ k from below. same k (omega (arith, below)))

pub named_read : (table : List Bool) (rule : ℕ) → rule < length table → is_named table rule ≡ get_or table rule false
named_read table rule within = ap (λ o. unwrap_or o false) (slice_get-get_or table rule false within)

-- Two tests that agree where a firing may write agree on a list of such cells.
same_fed : (p q : CellName → Bool) (cells : List CellName) → ((cell : CellName) → is_fed cell ≡ true → p cell ≡ q cell)
    → list_any p (filter is_fed cells) ≡ list_any q (filter is_fed cells)
same_fed p q [] same = refl
same_fed p q (cell ∷ cells) same = by (is_fed cell) refl (same_fed p q cells same)
  where
    by : (fed : Bool) → is_fed cell ≡ fed → list_any p (filter is_fed cells) ≡ list_any q (filter is_fed cells)
        → list_any p (cond fed (cell ∷ filter is_fed cells) (filter is_fed cells)) ≡ list_any q (cond fed (cell ∷ filter is_fed cells) (filter is_fed cells))
    by true is rest = ap₂ (λ a b. a || b) (same cell is) rest
    by false is rest = rest

module _ (unit : Unit) (lookers : Lookers) (are : AreLookers unit lookers) (a : ℕ) (first : Rule) (at : slice_get (rules_of unit) a ≡ Some first) where
  -- What is named by the mark, and by what else is written.
  abbrev named : ℕ → Bool
  named b =
      (not (nat_eq a b && says_for_good first) && is_at lookers (site_mark (site_alone a first)) b)
      || list_any (λ cell. is_at lookers cell b) (filter is_fed (writes_alone unit first))

  named_for : (b : ℕ) (second : Rule) → slice_get (rules_of unit) b ≡ Some second → named b ≡ feeds_between unit a b
  named_for b second there =
      let here = λ (cell : CellName) (fed : is_fed cell ≡ true). are.exact cell b fed ∙ ap (is_some_and (λ rule. list_any (same_cell cell) (looks_alone unit rule))) there in
      let good = ap (λ found. not (nat_eq a b && is_some_and says_for_good found)) at in
      ap₂ (λ x y. x || y)
      (ap₂ (λ x y. x && y) (sym good) (here (site_mark (site_alone a first)) refl))
      (same_fed (λ cell. is_at lookers cell b) (looked unit second) (writes_alone unit first) here ∙ told_suffice unit second first)
      ∙ sym (by_parts unit second a b first at)
      ∙ sym (ap (is_some_and (λ one. is_some_and (λ other. feeds_by unit a b one other) (slice_get (rules_of unit) b))) at
      ∙ ap (is_some_and (λ other. feeds_by unit a b first other)) there)

  pub named_are_fed : (b : ℕ) → b < length (rules_of unit) → named b ≡ feeds_between unit a b
  named_are_fed b within =
      named_for b (get_or (rules_of unit) b CompletesUnit) (slice_get-get_or (rules_of unit) b CompletesUnit within)

-- The table of a rule.
pub row_of : (unit : Unit) (lookers : Lookers) (are : AreLookers unit lookers) (a : ℕ) (first : Rule) (at : slice_get (rules_of unit) a ≡ Some first)
    (table : List Bool) → length table ≡ length (rules_of unit)
    → ((b : ℕ) → b < length (rules_of unit) → is_named table b ≡ named unit lookers are a first at b) → IsRowOf unit a table
row_of unit lookers are a first at table each value = record {
  each = each;
  value = λ b within. value b within ∙ named_are_fed unit lookers are a first at b within;
}

-- The numbers of the rules that a table names.
pub numbers_named : (unit : Unit) (a : ℕ) (table : List Bool) → IsRowOf unit a table
    → filter (λ b. is_named table b) (numbers_below (length table)) ≡ filter (λ b. feeds_between unit a b) (numbers_below (length (rules_of unit)))
numbers_named unit a table row =
    ap (λ n. filter (λ b. is_named table b) (numbers_below n)) row.each
    ∙ same_filtered (λ b. is_named table b) (feeds_between unit a) (length (rules_of unit)) row.value

-- What is no rule feeds nothing.
pub feeds_none : (unit : Unit) (a : ℕ) (numbers : List ℕ) → slice_get (rules_of unit) a ≡ None → filter (λ b. feeds_between unit a b) numbers ≡ []
feeds_none unit a [] past = refl
feeds_none unit a (b ∷ numbers) past =
    ap (λ o. cond (is_some_and (λ first. is_some_and (λ second. feeds_by unit a b first second) (slice_get (rules_of unit) b)) o) (b ∷ filter (λ b. feeds_between unit a b) numbers) (filter (λ b. feeds_between unit a b) numbers)) past
    ∙ feeds_none unit a numbers past

-- A table that is given back with what is behind it.
pub row_back : (unit : Unit) (a len : ℕ) (new old : List Bool) → length new ≡ length old → len ≡ length old → IsRowOf unit a new
    → IsRowOf unit a (take len (new ++ drop (length new) old))
row_back unit a len new old same is row =
    subst (λ (table : List Bool). IsRowOf unit a table)
    (sym (ap (λ n. take n (new ++ drop (length new) old)) (is ∙ sym same) ∙ take-append_seam new (drop (length new) old))) row

-- The rule of this number, as it is got from the rules.
pub rule_there : (unit : Unit) (rules : List Rule) (number : ℕ) (rule : Rule) → rules ≡ rules_of unit → number < length rules
    → rule ≡ get_or rules number rule → slice_get (rules_of unit) number ≡ Some rule
rule_there unit rules number rule are within is =
    ap (λ (all : List Rule). slice_get all number) (sym are) ∙ slice_get_read rules (length rules) number rule refl within is
