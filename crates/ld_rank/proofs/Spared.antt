-- That a ranking of a unit's rules ranks the sites of its runs.
use Rattle.std.proofs.Common.{◌≡◌, refl, sym, ap, ap₂, subst, ◌∙◌, ℕ, zero, suc, ◌<◌, ◌≤◌, ◌⊎◌, inl, inr, List, [], ◌∷◌, length, map, slice_get, Option, Some, None, Bool, true, false, ◌&&◌, ◌||◌, not, nat_eq, if◌then◌else◌, arith}
use Rattle.std.proofs.lemmas.Bool.{cases_Bool, eqb-true, false≢true, true≢false, or_left, and_from}
use Rattle.std.proofs.lemmas.Option.{slice_get_within}
use Rattle.std.specs.Option.{option_map, option_map_or}
use Rattle.ld_base.specs.Maybe.{◌>>=◌}
use Rattle.ld_cascade.specs.System.{due, fires}
use Rattle.ld_value.specs.Datum.{truth_datum}
use Rattle.ld_refs.specs.Checks.{IsValid}
use Rattle.ld_model.specs.Cells.{same_cell, same_owner}
use Rattle.ld_model.specs.declared.activity.Activity.{Activity}
use Rattle.ld_model.specs.declared.activity.Structure.{Structure}
use Rattle.ld_model.specs.declared.cell.CellName.{CellName}
use Rattle.ld_model.specs.declared.cell.CellName.TheVariants.{Prop, Vis, Member, Chosen, Opened, ActOpened, Started, Mark, Now, Roster}
use Rattle.ld_model.specs.declared.cell.Owner.{Owner}
use Rattle.ld_model.specs.declared.cell.Owner.TheVariants.{Run}
use Rattle.ld_model.specs.declared.completion.Completion.{Completion}
use Rattle.ld_model.specs.declared.completion.Completion.TheVariants.{UserChoice, TimeLimit, WhenPropertyValueIsSet, WhenRolePartCompleted, WhenConditionTrue, WhenLastActCompleted, WhenPlayCompleted}
use Rattle.ld_model.specs.declared.property.Property.{Property}
use Rattle.ld_model.specs.declared.unit.Unit.{Unit}
use Rattle.ld_names.specs.Names.{thing_number}
use Rattle.ld_names.specs.Holders.{holder_of}
use Rattle.ld_names.specs.Rules.{Site, is_for_persons, rules_of, kind_of, sites_of}
use Rattle.ld_names.specs.SiteNumbers.{site_count, site_number}
use Rattle.ld_names.specs.declared.rule.Rule.{Rule}
use Rattle.ld_names.specs.declared.rule.RuleKind.{RuleKind}
use Rattle.ld_names.specs.declared.rule.RuleKind.TheVariants.{Person as OfPerson, Run as OfRun}
use Rattle.ld_names.specs.declared.rule.Rule.TheVariants.{CompletesActivity, CompletesStructure, OpensAct, CompletesPart, CompletesAct, CompletesPlay, CompletesUnit, JudgesCondition}
use Rattle.ld_expr.specs.Done.{mark_for}
use Rattle.ld_expr.specs.Looks.{property_looks, done_looks}
use Rattle.ld_expr.specs.Lookup.{is_some_and, list_from, completing_number, property_number}
use Rattle.ld_expr.specs.Owners.{mark_owner, of_person, value_owner}
use Rattle.ld_expr.specs.Seen.{Seen, says_yes, mark_cell, member_cell, chosen_cell, opened_cell, property_cell}
use Rattle.ld_firing.specs.Actions.{Doing, nothing_done, site_firing}
use Rattle.ld_firing.specs.RunSystem.{site_at, firing_at, run_system, verdict_in}
use Rattle.ld_firing.specs.SiteWalk.{is_due}
use Rattle.ld_rules.specs.LawWords.{is_for_good}
use Rattle.ld_rules.specs.SiteLooks.{cell_list, completion_looks, completion_looks_if, reaching_roles, site_activity_looks, all_done_looks, person_looks, rule_looks, looks_by, site_looks}
use Rattle.ld_rules.specs.SiteTests.{activity_completing, rule_test, says_for_good, is_latched, site_mark, rule_of, site_test}
use Rattle.ld_state.specs.RunCells.{cell_if}
use Rattle.ld_state.specs.RunState.{RunState, seen_in, cell_of}
use Rattle.ld_state.specs.StateView.{is_following}
use Rattle.ld_state.proofs.Elements.{IsIn, in_left, in_right, in_either, contains_from_in, from_map, from_flat_map, different, none_is_some, some_same}
use Rattle.ld_state.proofs.SameCells.{both, one_owner}
use Rattle.ld_rules.proofs.Alike.{AgreeOn, same_if}
use Rattle.ld_rules.proofs.LooksAlike.{same_open_looks}
use Rattle.ld_rules.proofs.SitesAlike.{same_site_test}
use Rattle.ld_expr.specs.Terms.{cell_of_property}
use Rattle.ld_firing.proofs.Effects.{is_written}
use Rattle.ld_firing.proofs.Found.{chosen_by}
use Rattle.ld_firing.proofs.Firings.{firing_enrolment, firing_own_mark, firing_other_mark, firing_told}
use Rattle.ld_firing.proofs.Laws.{counted_by, same_cell_of, enrolled}
use Rattle.ld_firing.proofs.Sites.{IsOwner, a_person, the_run, site_found, said_of, said_of_none, same_site_at}
use Rattle.ld_layers.specs.Ranked.{IsRanked, IsAtMost}
use Rattle.ld_rank.specs.Feeding.{mark_counts, rule_writes, feeding_cells, Feeds}
use Rattle.ld_rank.specs.Ranking.{rank_at, IsRanking, depth_of, site_rank}
use Rattle.ld_rank.proofs.Completions.{asks_no_mark, activity_asks_no_mark}
use Rattle.ld_rank.proofs.Heard.{heard, heard_value, heard_rule}
use Rattle.ld_rank.proofs.Written.{firing_writes}

-- ---- what a list of cells has

-- What gives an element of a list that there may be.
pub found_in : {A B : Type 0} → (f : A → List B) (o : Option A) (y : B) → IsIn (list_from f o) y
    → (x : A) × (o ≡ Some x) × IsIn (f x) y
found_in f None y there = absurd there
found_in f (Some x) y there = (x, refl, there)

-- ---- the marks of other sites of one rule

-- The cell of a property is one that actions write.
pub property_written : (unit : Unit) (owner : Owner) (id : List ℕ) (c : CellName)
    → cell_of_property unit owner id ≡ Some c → is_written c ≡ true
property_written unit owner id c = by (property_number unit id)
  where
    at : (n : ℕ) (found : Option Property)
        → (found >>= λ property. Some (property_cell n (value_owner (holder_of unit property) owner))) ≡ Some c
        → is_written c ≡ true
    at n None is = none_is_some is
    at n (Some property) is = subst (λ d. is_written d ≡ true) (some_same is) refl

    by : (number : Option ℕ)
        → (number >>= λ n. slice_get unit.properties n >>= λ property. Some (property_cell n (value_owner (holder_of unit property) owner))) ≡ Some c
        → is_written c ≡ true
    by None is = none_is_some is
    by (Some n) is = at n (slice_get unit.properties n) is

pub one_listed : (x c : CellName) → IsIn (x ∷ []) c → x ≡ c
one_listed x c (inl is) = is
one_listed x c (inr later) = absurd later

unwritten_property : (unit : Unit) (seen : Seen) (owner : Owner) (id : List ℕ) (c : CellName) → is_written c ≡ false
    → IsIn (property_looks unit seen owner id) c → ⊥
unwritten_property unit seen owner id c fails there =
    let by = found_in (λ cell. cell ∷ []) (cell_of_property unit owner id) c there in
    let is = property_written unit owner id c (by.1 ∙ ap Some (one_listed by.0 c by.2)) in
    true≢false (sym is ∙ fails)

-- Of a cell by a number that there may be.
not_of_number : (f : ℕ → CellName) (o : Option ℕ) (c : CellName) → ((n : ℕ) → f n ≡ c → ⊥)
    → IsIn (cell_list (option_map f o)) c → ⊥
not_of_number f None c apart there = there
not_of_number f (Some n) c apart there = apart n (one_listed (f n) c there)

pub run_owner : (persons : ℕ) (own : Bool) (owner : Owner) → IsOwner persons own owner → own ≡ false → owner ≡ Run
run_owner persons own owner (a_person p below) is = different is
run_owner persons own owner the_run is = refl

pub person_owner : (persons : ℕ) (own : Bool) (owner : Owner) → IsOwner persons own owner → own ≡ true
    → (p : ℕ) × (owner ≡ of_person p)
person_owner persons own owner (a_person p below) is = (p, refl)
person_owner persons own owner the_run is = different (sym is)

module _ (unit : Unit) (valid : IsValid unit) (seen : Seen) (r : ℕ) where
  unseen_by_completion : (p : ℕ) (other : Owner) (activity : Activity) (completion : Completion)
      → asks_no_mark completion ≡ true
      → IsIn (completion_looks unit seen (activity_completing unit p activity) completion) (mark_cell r other) → ⊥
  unseen_by_completion p other activity UserChoice asks there =
      not_of_number (λ thing. chosen_cell thing p) (thing_number unit activity.identifier) (mark_cell r other)
      (λ n is. absurd (cc)) there
  unseen_by_completion p other activity (TimeLimit seconds) asks there =
      let start = cell_list (option_map (λ thing. opened_cell thing (of_person p)) (thing_number unit activity.identifier)) in
      elim (in_either start (Now ∷ []) (mark_cell r other) there) [
        | inl early ↦ not_of_number (λ thing. opened_cell thing (of_person p)) (thing_number unit activity.identifier) (mark_cell r other)
            (λ n is. absurd (cc)) early
        | inr last ↦ (let is = one_listed Now (mark_cell r other) last in absurd (cc))
      ]
  unseen_by_completion p other activity (WhenPropertyValueIsSet property text) asks there =
      unwritten_property unit seen (of_person p) property (mark_cell r other) refl there
  unseen_by_completion p other activity (WhenRolePartCompleted parts) asks there = different (sym asks)
  unseen_by_completion p other activity (WhenConditionTrue role test) asks there = different (sym asks)
  unseen_by_completion p other activity WhenLastActCompleted asks there = different (sym asks)
  unseen_by_completion p other activity (WhenPlayCompleted plays) asks there = different (sym asks)

  unseen_by_activity : (p a : ℕ) (other : Owner)
      → IsIn (person_looks unit seen p (CompletesActivity a)) (mark_cell r other) → ⊥
  unseen_by_activity p a other there =
      let by = found_in (site_activity_looks unit seen p) (slice_get unit.activities a) (mark_cell r other) there in
      let activity = by.0 in
      let roles = reaching_roles unit activity.identifier in
      let completing = activity_completing unit p activity in
      elim (in_either (map (λ role. member_cell role p) roles) (completion_looks_if unit seen completing activity.complete) (mark_cell r other) by.2) [
        | inl member ↦ (let one = from_map (λ role. member_cell role p) roles (mark_cell r other) member in let is = one.is in absurd (cc))
        | inr asked ↦ (let rule = found_in (completion_looks unit seen completing) activity.complete (mark_cell r other) asked in
            unseen_by_completion p other activity rule.0
            (activity_asks_no_mark unit a activity rule.0 valid.formed by.1 rule.1) rule.2)
      ]

  -- The mark that says whether something is done for a person is that person's, or the run's.
  own_by_kind : (p q number : ℕ) (kind : RuleKind) → (of_person p ≡ of_person q → ⊥)
      → mark_cell number (mark_owner kind (of_person p)) ≡ mark_cell r (of_person q) → ⊥
  own_by_kind p q number OfPerson apart is = apart (cc)
  own_by_kind p q number OfRun apart is = absurd (cc)

  own_mark_only : (p q number : ℕ) (found : Option Rule) → (of_person p ≡ of_person q → ⊥)
      → mark_cell number (option_map_or (λ rule. mark_owner (kind_of rule) (of_person p)) found Run) ≡ mark_cell r (of_person q) → ⊥
  own_mark_only p q number None apart is = absurd (cc)
  own_mark_only p q number (Some rule) apart is = own_by_kind p q number (kind_of rule) apart is

  unseen_by_structure : (p q n : ℕ) → (of_person p ≡ of_person q → ⊥)
      → IsIn (person_looks unit seen p (CompletesStructure n)) (mark_cell r (of_person q)) → ⊥
  unseen_by_structure p q n apart there =
      let by = found_in (λ (structure : Structure). all_done_looks unit seen (of_person p) structure.children) (slice_get unit.structures n) (mark_cell r (of_person q)) there in
      let child = from_flat_map (done_looks unit seen (of_person p)) by.0.children (mark_cell r (of_person q)) by.2 in
      let done = found_in (λ number. mark_for unit (of_person p) number ∷ []) (completing_number unit child.element) (mark_cell r (of_person q)) child.gives in
      own_mark_only p q done.0 (slice_get (rules_of unit) done.0) apart (one_listed (mark_for unit (of_person p) done.0) (mark_cell r (of_person q)) done.2)

  -- A site of a rule that says yes for good looks at the mark of no other site of the rule.
  unseen_mark : (persons : ℕ) (rule : Rule) (reader writer : Owner) → says_for_good rule ≡ true
      → IsOwner persons (is_for_persons (kind_of rule)) reader
      → IsOwner persons (is_for_persons (kind_of rule)) writer → (reader ≡ writer → ⊥)
      → IsIn (rule_looks unit seen reader rule) (mark_cell r writer) → ⊥
  unseen_mark persons (CompletesActivity a) reader writer good own other apart there =
      let mine = person_owner persons true reader own refl in
      unseen_by_activity mine.0 a writer
      (subst (λ o. IsIn (rule_looks unit seen o (CompletesActivity a)) (mark_cell r writer)) mine.1 there)
  unseen_mark persons (CompletesStructure n) reader writer good own other apart there =
      let mine = person_owner persons true reader own refl in
      let theirs = person_owner persons true writer other refl in
      unseen_by_structure mine.0 theirs.0 n (λ same. apart (mine.1 ∙ same ∙ sym theirs.1))
      (subst (λ o. IsIn (rule_looks unit seen o (CompletesStructure n)) (mark_cell r (of_person theirs.0))) mine.1
      (subst (λ o. IsIn (rule_looks unit seen reader (CompletesStructure n)) (mark_cell r o)) theirs.1 there))
  unseen_mark persons (OpensAct p a) reader writer good own other apart there =
      apart (run_owner persons false reader own refl ∙ sym (run_owner persons false writer other refl))
  unseen_mark persons (CompletesPart p a n) reader writer good own other apart there =
      apart (run_owner persons false reader own refl ∙ sym (run_owner persons false writer other refl))
  unseen_mark persons (CompletesAct p a) reader writer good own other apart there =
      apart (run_owner persons false reader own refl ∙ sym (run_owner persons false writer other refl))
  unseen_mark persons (CompletesPlay p) reader writer good own other apart there =
      apart (run_owner persons false reader own refl ∙ sym (run_owner persons false writer other refl))
  unseen_mark persons CompletesUnit reader writer good own other apart there =
      apart (run_owner persons false reader own refl ∙ sym (run_owner persons false writer other refl))
  unseen_mark persons (JudgesCondition c) reader writer good own other apart there = different (sym good)

-- ---- what a site looks at

-- Two sites with one mark have one owner.
one_mark_owner : (a b : Site) → site_mark a ≡ site_mark b → a.owner ≡ b.owner
one_mark_owner a b same = cc

-- A site of a rule that says yes for good looks at its own mark, and a site at what its rule asks.
pub looked_by_rule : (unit : Unit) (seen : Seen) (site : Site) (rule : Rule) (c : CellName)
    → rule_of unit site ≡ Some rule → IsIn (site_looks unit seen site) c
    → ((site_mark site ≡ c) × (says_for_good rule ≡ true)) ⊎ IsIn (rule_looks unit seen site.owner rule) c
unfolding site_looks
looked_by_rule unit seen site rule c ruled there =
    by (is_latched seen site rule) refl
    (subst (λ (found : Option Rule). IsIn (if is_some_and (is_latched seen site) found then site_mark site ∷ [] else list_from (looks_by unit seen site) found) c) ruled there)
  where
    marked : (good : Bool) → IsIn (cell_if good (site_mark site)) c → (site_mark site ≡ c) × (good ≡ true)
    marked true there = (one_listed (site_mark site) c there, refl)
    marked false there = absurd there

    by : (latched : Bool) → is_latched seen site rule ≡ latched
        → IsIn (if latched then site_mark site ∷ [] else looks_by unit seen site rule) c
        → ((site_mark site ≡ c) × (says_for_good rule ≡ true)) ⊎ IsIn (rule_looks unit seen site.owner rule) c
    by true is there =
        inl (one_listed (site_mark site) c there, (both (says_for_good rule) (says_yes (seen.value (site_mark site))) is).0)
    by false is there = elim (in_either (cell_if (says_for_good rule) (site_mark site)) (rule_looks unit seen site.owner rule) c there) [
      | inl early ↦ inl (marked (says_for_good rule) early)
      | inr late ↦ inr late
    ]

-- A site of the run, its rule, and that the run has its owner.
record IsSite (unit : Unit) (s : RunState) (site : Site) : Type 0 where
  inside : IsIn (sites_of unit (length s.persons)) site
  rule : Rule
  ruled : rule_of unit site ≡ Some rule
  owned : IsOwner (length s.persons) (is_for_persons (kind_of rule)) site.owner

site_there : (unit : Unit) (s : RunState) (i : ℕ) (site : Site) → site_at unit s i ≡ Some site → IsSite unit s site
site_there unit s i site at =
    let has = site_found unit s i site at in
    let chosen = chosen_by (λ one. nat_eq (site_number unit s.seats one) i) (sites_of unit (length s.persons)) site at in
    record { inside = chosen.inside; rule = has.rule; ruled = has.ruled; owned = has.owned }

-- ---- what a firing leaves to the sites of a rule that it does not feed

-- Where the mark does not count, the two are one rule, which says yes for good.
uncounted : (unit : Unit) (a b : ℕ) → mark_counts unit a b ≡ false → (a ≡ b) × (is_for_good unit a ≡ true)
uncounted unit a b is = by (nat_eq a b && is_for_good unit a) refl is
  where
    by : (both_hold : Bool) → (nat_eq a b && is_for_good unit a) ≡ both_hold → not both_hold ≡ false
        → (a ≡ b) × (is_for_good unit a ≡ true)
    by true hold is = let parts = both (nat_eq a b) (is_for_good unit a) hold in (eqb-true a b parts.0, parts.1)
    by false hold is = different is

module _ (unit : Unit) (s : RunState) (writer reader : Site) (writing : IsSite unit s writer) (reading : IsSite unit s reader) (unfed : Feeds unit writer.rule reader.rule → ⊥) where
  -- The state after the firing of the writer.
  abbrev later : RunState
  later = (site_firing unit s writer).state

  unread : (c : CellName) → IsIn (feeding_cells unit (length s.persons) writer reader.rule) c
      → IsIn (site_looks unit (seen_in unit s) reader) c → ⊥
  unread c written looked = unfed (record {
    state = s;
    writer = writer;
    reader = reader;
    writer_there = contains_from_in (sites_of unit (length s.persons)) writer writing.inside;
    reader_there = contains_from_in (sites_of unit (length s.persons)) reader reading.inside;
    first = refl;
    second = refl;
    cell = c;
    writes = contains_from_in (feeding_cells unit (length s.persons) writer reader.rule) c written;
    looks = contains_from_in (site_looks unit (seen_in unit s) reader) c looked;
  })

  -- What was changed and is looked at is the writer's mark, which does not count.
  only_mark : (c : CellName) → IsIn (site_firing unit s writer).changes c
      → IsIn (site_looks unit (seen_in unit s) reader) c
      → (site_mark writer ≡ c) × (mark_counts unit writer.rule reader.rule ≡ false)
  only_mark c changed looked =
      let mark = cell_if (mark_counts unit writer.rule reader.rule) (site_mark writer) in
      let acts = list_from (rule_writes unit (length s.persons) writer.owner) (rule_of unit writer) in
      elim (firing_writes unit s writer c changed) [
        | inr acted ↦ absurd (unread c (in_right mark acts c acted) looked)
        | inl is ↦ (is, by (mark_counts unit writer.rule reader.rule) refl is)
      ]
    where
      by : (counts : Bool) → mark_counts unit writer.rule reader.rule ≡ counts → site_mark writer ≡ c
          → mark_counts unit writer.rule reader.rule ≡ false
      by false is same = is
      by true is same =
          let acts = list_from (rule_writes unit (length s.persons) writer.owner) (rule_of unit writer) in
          absurd (unread c
          (in_left (cell_if (mark_counts unit writer.rule reader.rule) (site_mark writer)) acts c
          (subst (λ b. IsIn (cell_if b (site_mark writer)) c) (sym is) (inl same)))
          looked)

  -- What is looked at and is not that mark has the value that it had.
  stays : (c : CellName) → IsIn (site_looks unit (seen_in unit s) reader) c
      → (IsIn (site_firing unit s writer).changes c → ⊥) → cell_of unit s c ≡ cell_of unit later c
  stays c looked unchanged =
      let e = firing_enrolment unit s writer in
      elim (firing_told unit s writer c) [
        | inl changed ↦ absurd (unchanged changed)
        | inr same ↦ sym (same_cell_of unit later s c e.persons same)
      ]

  -- Where no mark is left that is looked at and does not count, the test stays.
  same_test_unless : ((c : CellName) → IsIn (site_firing unit s writer).changes c → IsIn (site_looks unit (seen_in unit s) reader) c → ⊥)
      → site_test unit (seen_in unit s) reader ≡ site_test unit (seen_in unit later) reader
  same_test_unless unchanged =
      same_site_test unit (seen_in unit s) (seen_in unit later) (counted_by unit s later) reader
      (λ c looked. stays c looked (λ changed. unchanged c changed looked))

  -- ---- another site

  same_rule_both : writer.rule ≡ reader.rule → writing.rule ≡ reading.rule
  same_rule_both same = some_same (sym writing.ruled ∙ ap (slice_get (rules_of unit)) same ∙ reading.ruled)

  good_both : writer.rule ≡ reader.rule → is_for_good unit writer.rule ≡ true → says_for_good reading.rule ≡ true
  good_both same good =
      ap says_for_good (sym (same_rule_both same)) ∙ sym (ap (is_some_and says_for_good) writing.ruled) ∙ good

  one_site : writer.rule ≡ reader.rule → writer.owner ≡ reader.owner → writer ≡ reader
  one_site rule owner = ap₂ (λ (r : ℕ) (o : Owner). let site : Site = record { rule = r; owner = o } in site) rule owner

  other_test : IsValid unit → (writer ≡ reader → ⊥)
      → site_test unit (seen_in unit s) reader ≡ site_test unit (seen_in unit later) reader
  other_test valid apart = same_test_unless (λ c changed looked.
      let mark = only_mark c changed looked in
      let one = uncounted unit writer.rule reader.rule mark.1 in
      let owners : reader.owner ≡ writer.owner → ⊥ = λ same. apart (one_site one.0 (sym same)) in
      elim (looked_by_rule unit (seen_in unit s) reader reading.rule c reading.ruled looked) [
        | inl own ↦ owners (one_mark_owner reader writer (own.0 ∙ sym mark.0))
        | inr asked ↦ unseen_mark unit valid (seen_in unit s) writer.rule (length s.persons) reading.rule reader.owner writer.owner
            (good_both one.0 one.1) reading.owned
            (subst (λ rule. IsOwner (length s.persons) (is_for_persons (kind_of rule)) writer.owner) (same_rule_both one.0) writing.owned)
            owners
            (subst (λ d. IsIn (rule_looks unit (seen_in unit s) reader.owner reading.rule) d) (sym mark.0) asked)
      ])

  other_mark : (writer ≡ reader → ⊥) → later.cells (site_mark reader) ≡ s.cells (site_mark reader)
  other_mark apart =
      firing_other_mark unit s writer reader writing.rule writing.ruled (by (same_cell (site_mark reader) (site_mark writer)) refl)
    where
      by : (same : Bool) → same_cell (site_mark reader) (site_mark writer) ≡ same → same ≡ false
      by false is = refl
      by true is =
          let (rule, owner) = both (nat_eq reader.rule writer.rule) (same_owner reader.owner writer.owner) is in
          absurd (apart (one_site (sym (eqb-true reader.rule writer.rule rule)) (sym (one_owner reader.owner writer.owner owner))))

  -- A site that would not fire does not fire after the firing of another whose rule does not feed its own.
  spared : IsValid unit → (writer ≡ reader → ⊥) → is_due unit s reader ≡ false → is_due unit later reader ≡ false
  spared valid apart quiet =
      ap₂ due (sym (other_test valid apart)) (ap verdict_in (other_mark apart)) ∙ quiet

-- ---- the site itself

heard_site : (unit : Unit) (seen : Seen) (site : Site) → site_test unit (heard seen) site ≡ site_test unit seen site
unfolding site_test
heard_site unit seen site =
    same_if (λ rule. is_latched (heard seen) site rule || rule_test unit (heard seen) site.owner rule)
    (λ rule. is_latched seen site rule || rule_test unit seen site.owner rule) (rule_of unit site)
    (λ rule is. ap (λ asked. is_latched seen site rule || asked) (heard_rule unit seen site.owner rule))

heard_following : (seen : Seen) (c : CellName) → is_following c ≡ true → heard_value c (seen.value c) ≡ seen.value c
heard_following seen (Mark _ _) follows = different (sym follows)
heard_following seen (Prop _ _) follows = refl
heard_following seen (Vis _ _) follows = refl
heard_following seen (Member _ _) follows = refl
heard_following seen (Chosen _ _) follows = refl
heard_following seen (Opened _ _) follows = refl
heard_following seen (ActOpened _) follows = refl
heard_following seen Started follows = refl
heard_following seen Now follows = refl
heard_following seen Roster follows = refl

heard_looks : (unit : Unit) (seen : Seen) (site : Site) → site_looks unit (heard seen) site ≡ site_looks unit seen site
unfolding site_looks
heard_looks unit seen site =
    ap (λ cells. if is_some_and (is_latched seen site) (rule_of unit site) then site_mark site ∷ [] else cells)
    (same_open_looks unit (heard seen) seen (λ same. refl) site (λ c there follows. heard_following seen c follows))

module _ (unit : Unit) (s : RunState) (site : Site) (being : IsSite unit s site) (unfed : Feeds unit site.rule site.rule → ⊥) where
  abbrev left : RunState
  left = (site_firing unit s site).state

  abbrev verdict : Bool
  verdict = site_test unit (seen_in unit s) site

  own : left.cells (site_mark site) ≡ Some (truth_datum verdict)
  own = firing_own_mark unit s site being.rule being.ruled

  own_seen : says_yes (cell_of unit left (site_mark site)) ≡ verdict
  unfolding cell_of
  own_seen = ap says_yes own

  latched_test : (seen : Seen) → says_for_good being.rule ≡ true → says_yes (seen.value (site_mark site)) ≡ true
      → site_test unit seen site ≡ true
  unfolding site_test
  latched_test seen good said =
      ap (is_some_and (λ rule. is_latched seen site rule || rule_test unit seen site.owner rule)) being.ruled
      ∙ or_left (is_latched seen site being.rule) (rule_test unit seen site.owner being.rule)
      (and_from (says_for_good being.rule) (says_yes (seen.value (site_mark site))) good said)

  -- A rule that says yes for good and says no has not said yes.
  not_yet : (seen : Seen) → says_for_good being.rule ≡ true → site_test unit seen site ≡ false
      → says_yes (seen.value (site_mark site)) ≡ false
  not_yet seen good unsaid = by (says_yes (seen.value (site_mark site))) refl
    where
      by : (said : Bool) → says_yes (seen.value (site_mark site)) ≡ said → said ≡ false
      by false is = refl
      by true is = absurd (false≢true (sym unsaid ∙ latched_test seen good is))

  condition_again : says_for_good being.rule ≡ false → verdict ≡ site_test unit (seen_in unit left) site
  condition_again again = same_test_unless unit s site site being being unfed (λ c changed looked.
      let mark = only_mark unit s site site being being unfed c changed looked in
      let good = (uncounted unit site.rule site.rule mark.1).1 in
      false≢true (sym again ∙ sym (ap (is_some_and says_for_good) being.ruled) ∙ good))

  yes_again : says_for_good being.rule ≡ true → verdict ≡ true → verdict ≡ site_test unit (seen_in unit left) site
  yes_again good said = said ∙ sym (latched_test (seen_in unit left) good (own_seen ∙ said))

  heard_alike : says_for_good being.rule ≡ true → verdict ≡ false
      → AgreeOn (heard (seen_in unit s)) (heard (seen_in unit left)) (site_looks unit (heard (seen_in unit s)) site)
  heard_alike good unsaid c looked =
      let seen = subst (λ cells. IsIn cells c) (heard_looks unit (seen_in unit s) site) looked in
      elim (firing_told unit s site c) [
        | inr same ↦ ap (heard_value c) (sym (same_cell_of unit left s c (firing_enrolment unit s site).persons same))
        | inl changed ↦ (let mark = only_mark unit s site site being being unfed c changed seen in
            subst (λ d. heard_value d (cell_of unit s d) ≡ heard_value d (cell_of unit left d)) mark.0
            (ap (λ b. Some (truth_datum b)) (not_yet (seen_in unit s) good unsaid ∙ sym (own_seen ∙ unsaid))))
      ]

  no_again : says_for_good being.rule ≡ true → verdict ≡ false → verdict ≡ site_test unit (seen_in unit left) site
  no_again good unsaid =
      sym (heard_site unit (seen_in unit s) site)
      ∙ same_site_test unit (heard (seen_in unit s)) (heard (seen_in unit left)) (counted_by unit s left) site (heard_alike good unsaid)
      ∙ heard_site unit (seen_in unit left) site

  test_again : verdict ≡ site_test unit (seen_in unit left) site
  test_again = elim (cases_Bool (says_for_good being.rule)) [
    | inr again ↦ condition_again again
    | inl good ↦ elim (cases_Bool verdict) [
      | inl said ↦ yes_again good said
      | inr unsaid ↦ no_again good unsaid
    ]
  ]

  -- A site that has fired would not fire again.
  calmed : is_due unit left site ≡ false
  calmed = ap₂ due (sym test_again) (ap verdict_in own) ∙ by verdict
    where
      by : (b : Bool) → due b (Some b) ≡ false
      by true = refl
      by false = refl

-- ---- the system of a unit's runs

fires_as : (unit : Unit) (s : RunState) (i : ℕ) (site : Site) → site_at unit s i ≡ Some site
    → fires (run_system unit) s i ≡ is_due unit s site
fires_as unit s i site at =
    ap₂ due (said_of unit s i site (site_test unit (seen_in unit s)) false at)
    (said_of unit s i site (λ found. verdict_in (s.cells (site_mark found))) (Some false) at)

no_site_fires : (unit : Unit) (s : RunState) (i : ℕ) → site_at unit s i ≡ None → fires (run_system unit) s i ≡ false
no_site_fires unit s i at =
    ap₂ due (said_of_none unit s i (site_test unit (seen_in unit s)) false at)
    (said_of_none unit s i (λ found. verdict_in (s.cells (site_mark found))) (Some false) at)

fires_at : (unit : Unit) (s : RunState) (i : ℕ) → fires (run_system unit) s i ≡ true
    → (site : Site) × (site_at unit s i ≡ Some site)
fires_at unit s i is_firing = by (site_at unit s i) refl
  where
    by : (found : Option Site) → site_at unit s i ≡ found → (site : Site) × (site_at unit s i ≡ Some site)
    by None at = absurd (false≢true (sym (no_site_fires unit s i at) ∙ is_firing))
    by (Some site) at = (site, at)

module _ (unit : Unit) (valid : IsValid unit) (ranks : List ℕ) (ranking : IsRanking unit ranks) where
  abbrev after : RunState → ℕ → RunState
  after s i = (firing_at unit s i).state

  same_sites : (s : RunState) (i j : ℕ) → site_at unit (after s i) j ≡ site_at unit s j
  same_sites s i j = let e = enrolled unit s i in same_site_at unit (after s i) s j e.seats e.persons

  after_site : (s : RunState) (i : ℕ) (site : Site) → site_at unit s i ≡ Some site
      → after s i ≡ (site_firing unit s site).state
  after_site s i site at =
      ap (λ (doing : Doing). doing.state) (said_of unit s i site (site_firing unit s) (nothing_done s) at)

  rank_of : (s : RunState) (i : ℕ) (site : Site) → site_at unit s i ≡ Some site
      → site_rank unit ranks s i ≡ rank_at ranks site.rule
  rank_of s i site at = said_of unit s i site (λ found. rank_at ranks found.rule) 0 at

  unfed_by : (a b : ℕ) → rank_at ranks b ≤ rank_at ranks a → Feeds unit a b → ⊥
  unfed_by a b few fed = let more = ranking.rises a b fed in absurd (omega (arith, few, more))

  positive : (s : RunState) (i : ℕ) → fires (run_system unit) s i ≡ true → 0 < site_rank unit ranks s i
  positive s i is_firing =
      let (site, at) = fires_at unit s i is_firing in
      let being = site_there unit s i site at in
      let below = slice_get_within (rules_of unit) site.rule being.rule being.ruled in
      let more = ranking.from_one site.rule (omega (arith, below, ranking.each)) in
      omega (arith, more, rank_of s i site at)

  calm_after : (s : RunState) (i : ℕ) → fires (run_system unit) s i ≡ true
      → fires (run_system unit) (after s i) i ≡ false
  calm_after s i is_firing =
      let (site, at) = fires_at unit s i is_firing in
      fires_as unit (after s i) i site (same_sites s i i ∙ at)
      ∙ ap (λ (t : RunState). is_due unit t site) (after_site s i site at)
      ∙ calmed unit s site (site_there unit s i site at) (unfed_by site.rule site.rule (omega arith))

  apart_by : (s : RunState) (i j : ℕ) (writer reader : Site) → site_at unit s i ≡ Some writer
      → site_at unit s j ≡ Some reader → (j ≡ i → ⊥) → writer ≡ reader → ⊥
  apart_by s i j writer reader at reads apart same =
      apart (sym (site_found unit s j reader reads).number
      ∙ ap (site_number unit s.seats) (sym same)
      ∙ (site_found unit s i writer at).number)

  spared_after : (s : RunState) (i j : ℕ) → fires (run_system unit) s i ≡ true → (j ≡ i → ⊥)
      → site_rank unit ranks s j ≤ site_rank unit ranks s i → fires (run_system unit) s j ≡ false
      → fires (run_system unit) (after s i) j ≡ false
  spared_after s i j is_firing apart few quiet =
      let found = fires_at unit s i is_firing in
      by found.0 found.1 (site_at unit s j) refl
    where
      by : (writer : Site) → site_at unit s i ≡ Some writer → (found : Option Site) → site_at unit s j ≡ found
          → fires (run_system unit) (after s i) j ≡ false
      by writer at None none = no_site_fires unit (after s i) j (same_sites s i j ∙ none)
      by writer at (Some reader) reads =
          let unfed = unfed_by writer.rule reader.rule (omega (arith, few, rank_of s i writer at, rank_of s j reader reads)) in
          fires_as unit (after s i) j reader (same_sites s i j ∙ reads)
          ∙ ap (λ (t : RunState). is_due unit t reader) (after_site s i writer at)
          ∙ spared unit s writer reader (site_there unit s i writer at) (site_there unit s j reader reads) unfed valid
          (apart_by s i j writer reader at reads apart)
          (sym (fires_as unit s j reader reads) ∙ quiet)

  pub is_ranked : IsRanked (run_system unit) (site_rank unit ranks)
  is_ranked = record {
    same_count = λ s i is_firing. ap (site_count unit) (enrolled unit s i).seats;
    same_ranks = λ s i j is_firing. ap (λ found. option_map_or (λ (site : Site). rank_at ranks site.rule) found 0) (same_sites s i j);
    from_one = positive;
    calms_itself = calm_after;
    spares = spared_after;
  }

  -- No number of a rule is greater than the depth.
  at_most_depth : (numbers : List ℕ) (rule : ℕ) → rank_at numbers rule ≤ depth_of numbers
  at_most_depth [] rule = omega arith
  at_most_depth (n ∷ numbers) zero = omega arith
  at_most_depth (n ∷ numbers) (suc rule) = let rest = at_most_depth numbers rule in omega (arith, rest)

  pub is_at_most : (turns : ℕ) → depth_of ranks ≤ turns → IsAtMost (run_system unit) (site_rank unit ranks) turns
  is_at_most turns deep s i is_firing =
      let (site, at) = fires_at unit s i is_firing in
      let few = at_most_depth ranks site.rule in
      omega (arith, deep, few, rank_of s i site at)
