-- That feeding is decided in a run of one person who holds every role.
use Rattle.std.proofs.Common.{◌≡◌, refl, sym, ap, ap₂, subst, ◌∙◌, ℕ, inl, inr, List, [], ◌∷◌, ◌++◌, length, flat_map, slice_get, Option, Some, None, Bool, true, false, ◌&&◌, not, nat_eq, if◌then◌else◌}
use Rattle.std.proofs.lemmas.Bool.{false≢true, or_left, or_right, or_cases, and_from, eq-eqb}
use Rattle.std.specs.List.{list_any}
use Rattle.ld_model.specs.Cells.{same_cell}
use Rattle.ld_model.specs.declared.cell.CellName.{CellName}
use Rattle.ld_model.specs.declared.cell.CellName.TheVariants.{Mark}
use Rattle.ld_model.specs.declared.cell.Owner.{Owner}
use Rattle.ld_model.specs.declared.completion.Change.{Change as ChangeOf}
use Rattle.ld_model.specs.declared.condition.Action.{Action}
use Rattle.ld_model.specs.declared.condition.Action.TheVariants.{Show, Hide, Change, Notify}
use Rattle.ld_model.specs.declared.cell.Owner.TheVariants.{Run, Person}
use Rattle.ld_model.specs.declared.unit.Unit.{Unit}
use Rattle.ld_names.specs.Names.{thing_number}
use Rattle.ld_names.specs.Rules.{Site, is_for_persons, rules_of, kind_of, sites_by_kind, sites_of_rule, sites_of}
use Rattle.ld_names.specs.declared.rule.Rule.{Rule}
use Rattle.ld_names.specs.declared.rule.RuleKind.{RuleKind}
use Rattle.ld_names.specs.declared.rule.RuleKind.TheVariants.{Person as OfPerson, Run as OfRun}
use Rattle.ld_expr.specs.Lookup.{is_some_and, list_from}
use Rattle.ld_expr.specs.Owners.{mark_owner, of_person}
use Rattle.ld_expr.specs.Seen.{mark_cell, visibility_cell, act_opened_cell}
use Rattle.ld_expr.specs.Terms.{cell_of_property}
use Rattle.ld_firing.proofs.Effects.{is_written}
use Rattle.ld_firing.specs.ActionCells.{action_cells, change_cells, opened_act_cells, visible_cells}
use Rattle.ld_firing.specs.Actions.{actions_of, holder_named, owners_of_change, opened_by}
use Rattle.ld_rules.specs.LawWords.{is_for_good}
use Rattle.ld_rules.specs.SiteLooks.{rule_looks, looks_by, site_looks}
use Rattle.ld_rules.specs.SiteTests.{says_for_good, is_latched, site_mark, rule_of}
use Rattle.ld_state.specs.RunCells.{cell_if}
use Rattle.ld_state.specs.RunState.{seen_in, cell_of}
use Rattle.ld_state.proofs.Elements.{IsIn, in_left, in_right, in_either, in_from_contains, contains_from_in, from_flat_map, from_each, in_each, some_same}
use Rattle.ld_state.proofs.SameCells.{one_cell, same_cell_itself}
use Rattle.ld_firing.proofs.Sites.{IsOwner, of_rule}
use Rattle.ld_rank.specs.Alone.{alone, seen_alone, owner_alone, looks_alone, site_alone, have_common, feeds_by, feeds_between}
use Rattle.ld_rank.specs.Feeding.{branch_writes, rule_writes, mark_counts, feeding_cells, Feeds}
use Rattle.ld_rank.proofs.Lone.{lone_owner, lone_cell, AreLone, lone_looks, lone_writes}
use Rattle.ld_rank.proofs.Spared.{found_in, property_written, one_listed, looked_by_rule, run_owner, person_owner}

-- ---- what two lists have in common

any_in : {A : Type 0} → (test : A → Bool) (xs : List A) (x : A) → IsIn xs x → test x ≡ true → list_any test xs ≡ true
any_in test [] x there passes = absurd there
any_in test (y ∷ ys) x (inl is) passes = or_left (test y) (list_any test ys) (ap test is ∙ passes)
any_in test (y ∷ ys) x (inr later) passes = or_right (test y) (list_any test ys) (any_in test ys x later passes)

in_any : {A : Type 0} → (test : A → Bool) (xs : List A) → list_any test xs ≡ true → (x : A) × IsIn xs x × (test x ≡ true)
in_any test [] any = absurd (false≢true any)
in_any test (y ∷ ys) any = elim (or_cases (test y) (list_any test ys) any) [
  | inl here ↦ (y, inl refl, here)
  | inr there ↦ (let found = in_any test ys there in (found.0, inr found.1, found.2))
]

common : (xs ys : List CellName) (c : CellName) → IsIn xs c → IsIn ys c → have_common xs ys ≡ true
common xs ys c first second =
    any_in (λ x. list_any (same_cell x) ys) xs c first (any_in (same_cell c) ys c second (same_cell_itself c))

-- A cell of both lists.
common_cell : (xs ys : List CellName) → have_common xs ys ≡ true → (c : CellName) × IsIn xs c × IsIn ys c
common_cell xs ys have =
    let first = in_any (λ x. list_any (same_cell x) ys) xs have in
    let second = in_any (same_cell first.0) ys first.2 in
    (first.0, first.1, subst (λ c. IsIn ys c) (sym (one_cell first.0 second.0 second.2)) second.1)

-- ---- what actions write

written_change : (unit : Unit) (change : ChangeOf) (owner : Owner) (c : CellName)
    → IsIn (change_cells unit change owner) c → is_written c ≡ true
written_change unit change owner c there =
    let by = found_in (λ cell. cell ∷ []) (cell_of_property unit owner change.property) c there in
    property_written unit owner change.property c (by.1 ∙ ap Some (one_listed by.0 c by.2))

written_visible : (unit : Unit) (owner : Owner) (id : List ℕ) (c : CellName)
    → IsIn (visible_cells unit owner id) c → is_written c ≡ true
written_visible unit Run id c there = absurd there
written_visible unit (Person p) id c there =
    let by = found_in (λ thing. visibility_cell thing p.0 ∷ []) (thing_number unit id) c there in
    ap is_written (sym (one_listed (visibility_cell by.0 p.0) c by.2))

written_things : (unit : Unit) (owner : Owner) (ids : List (List ℕ)) (c : CellName)
    → IsIn (flat_map (visible_cells unit owner) ids) c → is_written c ≡ true
written_things unit owner ids c there =
    let by = from_flat_map (visible_cells unit owner) ids c there in
    written_visible unit owner by.element c by.gives

written_action : (unit : Unit) (persons : ℕ) (owner : Owner) (action : Action) (c : CellName)
    → IsIn (action_cells unit persons owner action) c → is_written c ≡ true
written_action unit persons owner (Show things) c there = written_things unit owner things c there
written_action unit persons owner (Hide things) c there = written_things unit owner things c there
written_action unit persons owner (Change change) c there =
    let by = from_flat_map (change_cells unit change) (owners_of_change (holder_named unit change.property) persons owner) c there in
    written_change unit change by.element c by.gives
written_action unit persons owner (Notify notice) c there = absurd there

written_branch : (unit : Unit) (persons : ℕ) (owner : Owner) (rule : Rule) (verdict : Bool) (c : CellName)
    → IsIn (branch_writes unit persons owner rule verdict) c → is_written c ≡ true
written_branch unit persons owner rule verdict c there =
    let by = from_flat_map (action_cells unit persons owner) (actions_of unit rule verdict) c there in
    written_action unit persons owner by.element c by.gives

written_opening : (unit : Unit) (rule : Rule) (c : CellName) → IsIn (opened_act_cells unit rule) c → is_written c ≡ true
written_opening unit rule c there =
    let by = found_in (λ thing. act_opened_cell thing ∷ []) (opened_by unit rule) c there in
    ap is_written (sym (one_listed (act_opened_cell by.0) c by.2))

written_rule : (unit : Unit) (persons : ℕ) (owner : Owner) (rule : Rule) (c : CellName)
    → IsIn (rule_writes unit persons owner rule) c → is_written c ≡ true
written_rule unit persons owner rule c there =
    let yes = branch_writes unit persons owner rule true in
    let no = branch_writes unit persons owner rule false in
    elim (in_either (opened_act_cells unit rule) (yes ++ no) c there) [
      | inl opened ↦ written_opening unit rule c opened
      | inr acted ↦ elim (in_either yes no c acted) [
        | inl first ↦ written_branch unit persons owner rule true c first
        | inr second ↦ written_branch unit persons owner rule false c second
      ]
    ]

-- ---- the sites of that run

lone_of : (persons : ℕ) (kind : RuleKind) (owner : Owner) → IsOwner persons (is_for_persons kind) owner
    → lone_owner owner ≡ mark_owner kind (of_person 0)
lone_of persons OfPerson owner own = ap lone_owner (person_owner persons true owner own refl).1
lone_of persons OfRun owner own = ap lone_owner (run_owner persons false owner own refl)

there_alone : (number : ℕ) (kind : RuleKind)
    → IsIn (sites_by_kind 1 number kind) (record { rule = number; owner = mark_owner kind (of_person 0) })
there_alone number OfPerson = inl refl
there_alone number OfRun = inl refl

site_is_there : (unit : Unit) (number : ℕ) (rule : Rule) → slice_get (rules_of unit) number ≡ Some rule
    → IsIn (sites_of unit 1) (site_alone number rule)
site_is_there unit number rule at =
    in_each (sites_of_rule 1) (rules_of unit) number rule (site_alone number rule) at (there_alone number (kind_of rule))

-- The rule of a site, and its owner with the one person in the place of its own.
record IsRuled (unit : Unit) (site : Site) (number : ℕ) (rule : Rule) : Type 0 where
  numbered : site.rule ≡ number
  ruled : rule_of unit site ≡ Some rule
  owner : lone_owner site.owner ≡ owner_alone rule

is_ruled : (unit : Unit) (persons : ℕ) (site : Site) (number : ℕ) (rule : Rule) → IsIn (sites_of unit persons) site
    → site.rule ≡ number → slice_get (rules_of unit) number ≡ Some rule → IsRuled unit site number rule
is_ruled unit persons site number rule inside numbered at =
    let by = from_each (sites_of_rule persons) (rules_of unit) site inside in
    let mine = of_rule persons by.number (kind_of by.element) site by.inside in
    let ruled : rule_of unit site ≡ Some rule = ap (slice_get (rules_of unit)) numbered ∙ at in
    let same : by.element ≡ rule = some_same (sym by.at ∙ ap (slice_get (rules_of unit)) (sym mine.number) ∙ ruled) in
    record {
      numbered = numbered;
      ruled = ruled;
      owner = lone_of persons (kind_of by.element) site.owner mine.owned ∙ ap owner_alone same;
    }

-- ---- decided there

-- The rule whose mark the cell is.
abbrev mark_rule : CellName → ℕ
mark_rule (Mark r _) = r.0
mark_rule _ = 0

module _ (unit : Unit) (a b : ℕ) (first second : Rule) (at_first : slice_get (rules_of unit) a ≡ Some first) (at_second : slice_get (rules_of unit) b ≡ Some second) where
  abbrev written : List CellName
  written = feeding_cells unit 1 (site_alone a first) b

  lone_if : (counts : Bool) (mark : CellName) → AreLone (cell_if counts mark) (cell_if counts (lone_cell mark))
  lone_if true mark c (inl is) = inl (ap lone_cell is)
  lone_if true mark c (inr later) = absurd later
  lone_if false mark c there = absurd there

  lone_written : (persons : ℕ) (site : Site) → IsRuled unit site a first → AreLone (feeding_cells unit persons site b) written
  lone_written persons site is c there =
      let acts = list_from (rule_writes unit persons site.owner) (rule_of unit site) in
      let lone_acts = list_from (rule_writes unit 1 (owner_alone first)) (rule_of unit (site_alone a first)) in
      let lone_mark = cell_if (mark_counts unit a b) (site_mark (site_alone a first)) in
      elim (in_either (cell_if (mark_counts unit site.rule b) (site_mark site)) acts c there) [
        | inl mark ↦ in_left lone_mark lone_acts (lone_cell c)
            (subst (λ owner. IsIn (cell_if (mark_counts unit a b) (mark_cell a owner)) (lone_cell c)) is.owner
            (subst (λ n. IsIn (cell_if (mark_counts unit n b) (mark_cell n (lone_owner site.owner))) (lone_cell c)) is.numbered
            (lone_if (mark_counts unit site.rule b) (site_mark site) c mark)))
        | inr acted ↦ in_right lone_mark lone_acts (lone_cell c)
            (subst (λ found. IsIn (list_from (rule_writes unit 1 (owner_alone first)) found) (lone_cell c)) (sym at_first)
            (subst (λ owner. IsIn (rule_writes unit 1 owner first) (lone_cell c)) is.owner
            (lone_writes unit persons site.owner first c
            (subst (λ found. IsIn (list_from (rule_writes unit persons site.owner) found) c) is.ruled acted))))
      ]

  in_cell_if : (counts : Bool) (mark c : CellName) → IsIn (cell_if counts mark) c → (counts ≡ true) × (mark ≡ c)
  in_cell_if true mark c (inl is) = (refl, is)
  in_cell_if true mark c (inr later) = absurd later
  in_cell_if false mark c there = absurd there

  one_rule : (m n : ℕ) (o q : Owner) → mark_cell m o ≡ mark_cell n q → m ≡ n
  one_rule m n o q is = ap mark_rule is

  -- The mark at which the reader looks before anything else is not what feeds it.
  not_own_mark : (persons : ℕ) (writer reader : Site) (c : CellName) → IsRuled unit writer a first → IsRuled unit reader b second
      → says_for_good second ≡ true → IsIn (feeding_cells unit persons writer b) c → site_mark reader ≡ c → ⊥
  not_own_mark persons writer reader c wrote read good there mark =
      let acts = list_from (rule_writes unit persons writer.owner) (rule_of unit writer) in
      elim (in_either (cell_if (mark_counts unit writer.rule b) (site_mark writer)) acts c there) [
        | inl own ↦ (let is = in_cell_if (mark_counts unit writer.rule b) (site_mark writer) c own in
            let same : writer.rule ≡ reader.rule = one_rule writer.rule reader.rule writer.owner reader.owner (is.1 ∙ sym mark) in
            let one : writer.rule ≡ b = same ∙ read.numbered in
            let for_good : is_for_good unit writer.rule ≡ true = ap (is_for_good unit) one ∙ ap (is_some_and says_for_good) at_second ∙ good in
            let both : (nat_eq writer.rule b && is_for_good unit writer.rule) ≡ true =
            and_from (nat_eq writer.rule b) (is_for_good unit writer.rule) (eq-eqb writer.rule b one) for_good in
            false≢true (sym (ap not both) ∙ is.0))
        | inr acted ↦ (let rule = found_in (rule_writes unit persons writer.owner) (rule_of unit writer) c acted in
            false≢true (ap is_written mark ∙ written_rule unit persons writer.owner rule.0 c rule.2))
      ]

  feeds_there : Feeds unit a b → feeds_by unit a b first second ≡ true
  feeds_there fed =
      let persons = length fed.state.persons in
      let wrote = is_ruled unit persons fed.writer a first (in_from_contains (sites_of unit persons) fed.writer fed.writer_there) fed.first at_first in
      let read = is_ruled unit persons fed.reader b second (in_from_contains (sites_of unit persons) fed.reader fed.reader_there) fed.second at_second in
      let there = in_from_contains (feeding_cells unit persons fed.writer b) fed.cell fed.writes in
      let looked = in_from_contains (site_looks unit (seen_in unit fed.state) fed.reader) fed.cell fed.looks in
      elim (looked_by_rule unit (seen_in unit fed.state) fed.reader second fed.cell read.ruled looked) [
        | inl own ↦ absurd (not_own_mark persons fed.writer fed.reader fed.cell wrote read own.1 there own.0)
        | inr asked ↦ common written (looks_alone unit second) (lone_cell fed.cell)
            (lone_written persons fed.writer wrote fed.cell there)
            (subst (λ owner. IsIn (rule_looks unit (seen_alone unit) owner second) (lone_cell fed.cell)) read.owner
            (lone_looks unit (seen_in unit fed.state) fed.reader.owner second fed.cell asked))
      ]

  -- In that run no mark has said yes.
  looks_there : (c : CellName) → IsIn (looks_alone unit second) c → IsIn (site_looks unit (seen_alone unit) (site_alone b second)) c
  unfolding site_looks cell_of
  looks_there c asked =
      subst (λ (found : Option Rule). IsIn (if is_some_and (is_latched (seen_alone unit) (site_alone b second)) found then site_mark (site_alone b second) ∷ [] else list_from (looks_by unit (seen_alone unit) (site_alone b second)) found) c) (sym at_second)
      (by (says_for_good second))
    where
      never : (good : Bool) → (good && false) ≡ false
      never true = refl
      never false = refl

      by : (good : Bool) → IsIn (if good && false then site_mark (site_alone b second) ∷ [] else looks_by unit (seen_alone unit) (site_alone b second) second) c
      by good = subst (λ latched. IsIn (if latched then site_mark (site_alone b second) ∷ [] else looks_by unit (seen_alone unit) (site_alone b second) second) c) (sym (never good))
          (in_right (cell_if (says_for_good second) (site_mark (site_alone b second))) (looks_alone unit second) c asked)

  there_feeds : feeds_by unit a b first second ≡ true → Feeds unit a b
  there_feeds have =
      let by = common_cell written (looks_alone unit second) have in
      record {
        state = alone;
        writer = site_alone a first;
        reader = site_alone b second;
        writer_there = contains_from_in (sites_of unit 1) (site_alone a first) (site_is_there unit a first at_first);
        reader_there = contains_from_in (sites_of unit 1) (site_alone b second) (site_is_there unit b second at_second);
        first = refl;
        second = refl;
        cell = by.0;
        writes = contains_from_in written by.0 by.1;
        looks = contains_from_in (site_looks unit (seen_alone unit) (site_alone b second)) by.0 (looks_there by.0 by.2);
      }

-- ---- by numbers

pub feeding_found : (unit : Unit) (a b : ℕ) → Feeds unit a b → feeds_between unit a b ≡ true
feeding_found unit a b fed =
    let persons = length fed.state.persons in
    let wrote = from_each (sites_of_rule persons) (rules_of unit) fed.writer (in_from_contains (sites_of unit persons) fed.writer fed.writer_there) in
    let read = from_each (sites_of_rule persons) (rules_of unit) fed.reader (in_from_contains (sites_of unit persons) fed.reader fed.reader_there) in
    let mine = of_rule persons wrote.number (kind_of wrote.element) fed.writer wrote.inside in
    let theirs = of_rule persons read.number (kind_of read.element) fed.reader read.inside in
    let at_first : slice_get (rules_of unit) a ≡ Some wrote.element = ap (slice_get (rules_of unit)) (sym fed.first ∙ mine.number) ∙ wrote.at in
    let at_second : slice_get (rules_of unit) b ≡ Some read.element = ap (slice_get (rules_of unit)) (sym fed.second ∙ theirs.number) ∙ read.at in
    ap₂ (λ x y. is_some_and (λ first. is_some_and (λ second. feeds_by unit a b first second) y) x) at_first at_second
    ∙ feeds_there unit a b wrote.element read.element at_first at_second fed

pub some_passes : {A : Type 0} → (test : A → Bool) (o : Option A) → is_some_and test o ≡ true → (x : A) × (o ≡ Some x) × (test x ≡ true)
some_passes test None is = absurd (false≢true is)
some_passes test (Some x) is = (x, refl, is)

pub found_feeding : (unit : Unit) (a b : ℕ) → feeds_between unit a b ≡ true → Feeds unit a b
found_feeding unit a b have =
    let first = some_passes (λ first. is_some_and (λ second. feeds_by unit a b first second) (slice_get (rules_of unit) b)) (slice_get (rules_of unit) a) have in
    let second = some_passes (λ second. feeds_by unit a b first.0 second) (slice_get (rules_of unit) b) first.2 in
    there_feeds unit a b first.0 second.0 first.1 second.1 second.2
