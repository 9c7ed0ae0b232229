-- A firing sends each of its notices once, in order; and a settling sends as many as its outbox grows by.
use Rattle.std.proofs.Common.{◌≡◌, refl, sym, ap, subst, ◌∙◌, ℕ, zero, suc, ◌+◌, List, [], ◌∷◌, ◌++◌, map, fold, filter, length, Option, Some, None, Bool, true, false, cond, option_map, pos, unwrap_or, arith, append_assoc, append-nil, length-append}
use Rattle.std.proofs.lemmas.List.{length-map}
use Rattle.std.proofs.lemmas.List.Sums.{sum_by-append, sum_by-cons}
use Rattle.std.specs.List.{list_any}
use Rattle.ld_base.specs.Maybe.{◌>>=◌}
use Rattle.ld_base.specs.Numbers.{numbers_below}
use Rattle.ld_cascade.specs.System.{fires}
use Rattle.ld_cascade.specs.Settling.{Firing, step, fired, visited, fired_below, after_sweeps, sweep_firings, all_firings, notices}
use Rattle.ld_value.specs.Datum.{Datum, truth_datum}
use Rattle.ld_model.specs.declared.cell.CellName.{CellName}
use Rattle.ld_model.specs.declared.cell.CellName.TheVariants.{Now}
use Rattle.ld_model.specs.declared.cell.Owner.{Owner}
use Rattle.ld_model.specs.declared.cell.Owner.TheVariants.{Run, Person}
use Rattle.ld_model.specs.declared.completion.Change.{Change as ChangeOf}
use Rattle.ld_model.specs.declared.completion.Notice.{Notice}
use Rattle.ld_model.specs.declared.condition.Action.{Action}
use Rattle.ld_model.specs.declared.condition.Action.TheVariants.{Show, Hide, Change, Notify}
use Rattle.ld_model.specs.declared.unit.Unit.{Unit}
use Rattle.ld_names.specs.declared.rule.Rule.{Rule}
use Rattle.ld_names.specs.Names.{role_number, thing_number}
use Rattle.ld_names.specs.Rules.{Site}
use Rattle.ld_expr.specs.Lookup.{is_some_and}
use Rattle.ld_expr.specs.Membership.{is_member, is_member_of}
use Rattle.ld_expr.specs.Seen.{says_yes, moment_of_value}
use Rattle.ld_expr.specs.Terms.{term_value, cell_of_property}
use Rattle.ld_firing.specs.Actions.{Doing, nothing_done, with_write, with_change, if_fitting, change_for, targets_of, recipients, notice_now, with_visible, set_visible, do_action, actions_of, opened_by, with_opening, firing_by, site_firing}
use Rattle.ld_rules.specs.LawWords.{notices_among}
use Rattle.ld_firing.specs.RunSettling.{Settlement, settlement_after, turns_within, run_settling}
use Rattle.ld_state.specs.RunState.{RunState, NoticeState, seen_in, cell_of, membership_of}
use Rattle.ld_firing.specs.RunSystem.{run_system, firing_at}
use Rattle.ld_rules.specs.SiteTests.{site_test, site_mark, rule_of}
use Rattle.ld_rules.proofs.Alike.{same_any, same_kept}
use Rattle.ld_firing.proofs.Effects.{is_written, StaysTrue, through_action}
use Rattle.ld_firing.proofs.Firings.{other_cell}
use Rattle.ld_firing.proofs.LawsKept.{unruled_firing}
use Rattle.ld_firing.proofs.LawsOpenings.{told_apart}
use Rattle.ld_firing.proofs.SeatsKept.{fold_keeps}
use Rattle.ld_firing.proofs.Sites.{at_firing}

-- ---- what is sent

-- The states have one moment and the same persons.
record IsSteady (s t : RunState) : Type 0 where
  now : t.cells Now ≡ s.cells Now
  persons : t.persons ≡ s.persons

same_member : (unit : Unit) (s t : RunState) → t.persons ≡ s.persons → (role : List ℕ) (p : ℕ) → is_member_of unit (seen_in unit t) role p ≡ is_member_of unit (seen_in unit s) role p
unfolding cell_of
same_member unit s t persons role p = by (role_number unit role)
  where
    by : (number : Option ℕ) → is_some_and (λ r. is_member (seen_in unit t) r p) number ≡ is_some_and (λ r. is_member (seen_in unit s) r p) number
    by None = refl
    by (Some r) = ap (λ ps. says_yes (membership_of unit ps r p)) persons

-- A notice is the same whenever in a firing it is sent.
same_notice : (unit : Unit) (s t : RunState) (notice : Notice) → IsSteady s t → notice_now unit t notice ≡ notice_now unit s notice
same_notice unit s t notice steady = λ i. record {
  moment = unwrap_or (moment_of_value (steady.now i)) (pos 0);
  subject = unwrap_or notice.subject [];
  activity = notice.activity >>= thing_number unit;
  to = reached i;
}
  where
    reached : recipients unit (seen_in unit t) notice.roles ≡ recipients unit (seen_in unit s) notice.roles
    reached =
        ap (λ n. filter (λ p. list_any (λ role. is_member_of unit (seen_in unit t) role p) notice.roles) (numbers_below n)) (ap length steady.persons)
        ∙ same_kept (λ p. list_any (λ role. is_member_of unit (seen_in unit t) role p) notice.roles) (λ p. list_any (λ role. is_member_of unit (seen_in unit s) role p) notice.roles) (numbers_below (length s.persons))
        (λ p inside. same_any (λ role. is_member_of unit (seen_in unit t) role p) (λ role. is_member_of unit (seen_in unit s) role p) notice.roles (λ role there. same_member unit s t steady.persons role p))

keeps_steady : (unit : Unit) (s : RunState) → StaysTrue unit (λ doing. IsSteady s doing.state)
keeps_steady unit s = record {
  writes = λ doing cell value fair steady. record {
    now = other_cell doing.state.cells cell Now value (told_apart is_written Now cell refl fair.written) ∙ steady.now;
    persons = steady.persons;
  };
  rejects = λ doing steady. steady;
  sends = λ doing notice steady. record { now = steady.now; persons = steady.persons };
}

-- ---- what is in the outbox

-- The outbox, and how many notices were sent.
record Post : Type 0 where
  box : List NoticeState
  sent : ℕ

abbrev post_of : Doing → Post
post_of doing = record { box = doing.state.outbox; sent = doing.sent }

change_keeps : (doing : Doing) (cell : Option CellName) (value : Option Datum) → post_of (with_change doing cell value) ≡ post_of doing
change_keeps doing None value = refl
change_keeps doing (Some cell) None = refl
change_keeps doing (Some cell) (Some value) = refl

change_for_keeps : (unit : Unit) (change : ChangeOf) (doing : Doing) (owner : Owner) → post_of (change_for unit change doing owner) ≡ post_of doing
change_for_keeps unit change doing owner =
    change_keeps doing (cell_of_property unit owner change.property) (term_value unit (seen_in unit doing.state) owner change.value >>= if_fitting unit change.property)

visible_keeps : (p : ℕ) (visible : Bool) (doing : Doing) (thing : Option ℕ) → post_of (with_visible p visible doing thing) ≡ post_of doing
visible_keeps p visible doing None = refl
visible_keeps p visible doing (Some thing) = refl

set_visible_keeps : (unit : Unit) (owner : Owner) (visible : Bool) (doing : Doing) (id : List ℕ) → post_of (set_visible unit owner visible doing id) ≡ post_of doing
set_visible_keeps unit Run visible doing id = refl
set_visible_keeps unit (Person p) visible doing id = visible_keeps p.0 visible doing (thing_number unit id)

opening_keeps : (doing : Doing) (thing : Option ℕ) → post_of (with_opening doing thing) ≡ post_of doing
opening_keeps doing None = refl
opening_keeps doing (Some thing) = refl

-- These notices were sent, in order.
abbrev with_post : Unit → RunState → List Notice → Post → Post
with_post unit s sent post = record { box = post.box ++ map (notice_now unit s) sent; sent = post.sent + length sent }

nothing_sent : (unit : Unit) (s : RunState) (post : Post) → post ≡ with_post unit s [] post
nothing_sent unit s post = λ i. record { box = sym (append-nil post.box) i; sent = same i }
  where
    same : post.sent ≡ post.sent + 0
    same = omega arith

one_more : (unit : Unit) (s : RunState) (one : NoticeState) (notice : Notice) (later : List Notice) (post : Post) → one ≡ notice_now unit s notice
    → with_post unit s later (record { box = post.box ++ one ∷ []; sent = post.sent + 1 }) ≡ with_post unit s (notice ∷ later) post
one_more unit s one notice later post is = λ i. record { box = boxes i; sent = numbers i }
  where
    boxes : (post.box ++ one ∷ []) ++ map (notice_now unit s) later ≡ post.box ++ map (notice_now unit s) (notice ∷ later)
    boxes = append_assoc post.box (one ∷ []) (map (notice_now unit s) later) ∙ ap (λ first. post.box ++ first ∷ map (notice_now unit s) later) is

    numbers : post.sent + 1 + length later ≡ post.sent + length (notice ∷ later)
    numbers = omega arith

module _ (unit : Unit) (owner : Owner) (s : RunState) where
  same_post : (doing : Doing) (action : Action) → post_of (do_action unit owner doing action) ≡ post_of doing → (later : List Notice)
      → with_post unit s later (post_of (do_action unit owner doing action)) ≡ with_post unit s later (post_of doing)
  same_post doing action same later = ap (with_post unit s later) same

  actions_send : (actions : List Action) (doing : Doing) → IsSteady s doing.state
      → post_of (fold (do_action unit owner) doing actions) ≡ with_post unit s (notices_among actions) (post_of doing)
  actions_send [] doing steady = nothing_sent unit s (post_of doing)
  actions_send (Show things ∷ actions) doing steady =
      actions_send actions (do_action unit owner doing (Show things)) (through_action unit (λ d. IsSteady s d.state) (keeps_steady unit s) owner doing (Show things) steady)
      ∙ same_post doing (Show things) (fold_keeps post_of (set_visible unit owner true) (set_visible_keeps unit owner true) doing things) (notices_among actions)
  actions_send (Hide things ∷ actions) doing steady =
      actions_send actions (do_action unit owner doing (Hide things)) (through_action unit (λ d. IsSteady s d.state) (keeps_steady unit s) owner doing (Hide things) steady)
      ∙ same_post doing (Hide things) (fold_keeps post_of (set_visible unit owner false) (set_visible_keeps unit owner false) doing things) (notices_among actions)
  actions_send (Change change ∷ actions) doing steady =
      actions_send actions (do_action unit owner doing (Change change)) (through_action unit (λ d. IsSteady s d.state) (keeps_steady unit s) owner doing (Change change) steady)
      ∙ same_post doing (Change change) (fold_keeps post_of (change_for unit change) (change_for_keeps unit change) doing (targets_of unit doing.state owner change)) (notices_among actions)
  actions_send (Notify notice ∷ actions) doing steady =
      actions_send actions (do_action unit owner doing (Notify notice)) (through_action unit (λ d. IsSteady s d.state) (keeps_steady unit s) owner doing (Notify notice) steady)
      ∙ one_more unit s (notice_now unit doing.state notice) notice (notices_among actions) (post_of doing) (same_notice unit s doing.state notice steady)

-- ---- a firing

abbrev marked : Unit → RunState → Site → Doing
marked unit s site = with_write (nothing_done s) (site_mark site) (Some (truth_datum (site_test unit (seen_in unit s) site)))

opening_steady : (s : RunState) (doing : Doing) (thing : Option ℕ) → IsSteady s doing.state → IsSteady s (with_opening doing thing).state
opening_steady s doing None steady = steady
opening_steady s doing (Some thing) steady = record { now = steady.now; persons = steady.persons }

firing_post : (unit : Unit) (s : RunState) (site : Site) (rule : Rule) → rule_of unit site ≡ Some rule
    → post_of (site_firing unit s site) ≡ with_post unit s (notices_among (actions_of unit rule (site_test unit (seen_in unit s) site))) (post_of (nothing_done s))
unfolding site_firing
firing_post unit s site rule ruled =
    let opened = with_opening (marked unit s site) (opened_by unit rule) in
    let actions = actions_of unit rule (site_test unit (seen_in unit s) site) in
    ap (λ (found : Option Rule). post_of (elim found as (λ _. Doing) [ None ↦ nothing_done s | Some one ↦ firing_by unit s site one ])) ruled
    ∙ actions_send unit site.owner s actions opened (opening_steady s (marked unit s site) (opened_by unit rule) (record { now = refl; persons = refl }))
    ∙ ap (with_post unit s (notices_among actions)) (opening_keeps (marked unit s site) (opened_by unit rule))

-- The outbox after a firing is the one before it, and then each notice among the actions of its rule, once and
-- in order, as it is sent in the state before the firing.
pub firing_sends : (unit : Unit) (s : RunState) (site : Site) (rule : Rule) → rule_of unit site ≡ Some rule
    → (site_firing unit s site).state.outbox ≡ s.outbox ++ map (notice_now unit s) (notices_among (actions_of unit rule (site_test unit (seen_in unit s) site)))
firing_sends unit s site rule ruled = ap (λ (post : Post). post.box) (firing_post unit s site rule ruled)

-- What it tells as sent is their number.
pub firing_sent : (unit : Unit) (s : RunState) (site : Site) (rule : Rule) → rule_of unit site ≡ Some rule
    → (site_firing unit s site).sent ≡ length (notices_among (actions_of unit rule (site_test unit (seen_in unit s) site)))
firing_sent unit s site rule ruled = omega (arith, ap (λ (post : Post). post.sent) (firing_post unit s site rule ruled))

-- ---- a settling

abbrev HasGrown : RunState → Doing → Type 0
HasGrown s doing = length doing.state.outbox ≡ length s.outbox + doing.sent

firing_grows : (unit : Unit) (s : RunState) (site : Site) → HasGrown s (site_firing unit s site)
firing_grows unit s site = by (rule_of unit site) refl
  where
    none : HasGrown s (nothing_done s)
    none = omega arith

    by : (found : Option Rule) → rule_of unit site ≡ found → HasGrown s (site_firing unit s site)
    by None is = subst (HasGrown s) (sym (unruled_firing unit s site is)) none
    by (Some rule) is =
        let sent = notices_among (actions_of unit rule (site_test unit (seen_in unit s) site)) in
        ap length (firing_sends unit s site rule is) ∙ length-append s.outbox (map (notice_now unit s) sent)
        ∙ ap (λ n. length s.outbox + n) (length-map sent (notice_now unit s) ∙ sym (firing_sent unit s site rule is))

module _ (unit : Unit) where
  number_grows : (s : RunState) (i : ℕ) → length (step (run_system unit) s i).outbox ≡ length s.outbox + notices (run_system unit) (fired (run_system unit) s i)
  number_grows s i = by (fires (run_system unit) s i)
    where
      grown : HasGrown s (firing_at unit s i)
      grown = at_firing unit s i (HasGrown s) (omega arith) (λ site at. firing_grows unit s site)

      one : Firing (run_system unit)
      one = record { before = s; site = i }

      by : (b : Bool) → length (cond b (firing_at unit s i).state s).outbox ≡ length s.outbox + notices (run_system unit) (cond b (one ∷ []) [])
      by false = omega arith
      by true = omega (arith, grown, sum_by-cons (λ (f : Firing (run_system unit)). (run_system unit).sent f.before f.site) one [])

  visits_grow : (s : RunState) (n : ℕ) → length (visited (run_system unit) s n).outbox ≡ length s.outbox + notices (run_system unit) (fired_below (run_system unit) s n)
  unfolding visited fired_below
  visits_grow s zero = omega arith
  visits_grow s (suc n) = omega (
    arith,
    visits_grow s n,
    number_grows (visited (run_system unit) s n) n,
    sum_by-append (λ (f : Firing (run_system unit)). (run_system unit).sent f.before f.site) (fired_below (run_system unit) s n) (fired (run_system unit) (visited (run_system unit) s n) n),
  )

  sweeps_grow : (s : RunState) (k : ℕ) → length (after_sweeps (run_system unit) s k).outbox ≡ length s.outbox + notices (run_system unit) (all_firings (run_system unit) s k)
  unfolding after_sweeps all_firings
  sweeps_grow s zero = omega arith
  sweeps_grow s (suc k) = omega (
    arith,
    sweeps_grow s k,
    visits_grow (after_sweeps (run_system unit) s k) ((run_system unit).count (after_sweeps (run_system unit) s k)),
    sum_by-append (λ (f : Firing (run_system unit)). (run_system unit).sent f.before f.site) (all_firings (run_system unit) s k) (sweep_firings (run_system unit) (after_sweeps (run_system unit) s k)),
  )

  -- What a settling tells as sent is what the outbox has grown by.
  pub settling_sent : (s : RunState) (x : Settlement) → run_settling unit s ≡ Some x → length x.state.outbox ≡ length s.outbox + x.sums.sent
  unfolding run_settling
  settling_sent s x is = by (turns_within (run_system unit) s unit.turns) is
    where
      by : (turns : Option ℕ) → option_map (settlement_after unit s) turns ≡ Some x → length x.state.outbox ≡ length s.outbox + x.sums.sent
      by None none = absurd (cc)
      by (Some turns) some =
          let same : settlement_after unit s turns ≡ x = cc in
          subst (λ (y : Settlement). length y.state.outbox ≡ length s.outbox + y.sums.sent) same (sweeps_grow s turns)
