-- Laws of states that a run with seats comes to.
use Rattle.std.proofs.Common.{◌≡◌, refl, sym, Bool, true, false, is_some}
use Rattle.ld_model.specs.declared.cell.Owner.TheVariants.{Run}
use Rattle.ld_expr.specs.Seen.{act_opened_cell}
use Rattle.ld_state.proofs.Elements.{different}
use Rattle.ld_rules.specs.LawWords.{is_marked}
use Rattle.ld_firing.proofs.SeatsSweep.{sweep_fires, sweep_sums, sweep_walks}
use Rattle.ld_laws.specs.ActLaws.{ActsOpenByTheirRules, OpenedActStays, StartOpensFirstActs}
use Rattle.ld_laws.specs.SweepLaws.{MarksTellTests, PersonsHaveSeats, SweepVisitsSitesInOrder}
use Rattle.ld_laws.proofs.LawsActs.{step_leaves_act}
use Rattle.ld_laws.proofs.LawsOpeners.{opened_is_yes, yes_is_opened}
use Rattle.ld_laws.proofs.LawsRest.{marks_tell_tests}
use Rattle.ld_laws.proofs.LawsStart.{start_opens}
use Rattle.ld_laws.proofs.SeatsReached.{has_seats}

same_truths : (a b : Bool) → (a ≡ true → b ≡ true) → (b ≡ true → a ≡ true) → a ≡ b
same_truths true true there back = refl
same_truths false false there back = refl
same_truths true false there back = different (sym (there refl))
same_truths false true there back = different (sym (back refl))

pub acts_open_by_their_rules : ActsOpenByTheirRules
acts_open_by_their_rules unit s rule thing valid comes opener =
    same_truths (is_some (s.cells (act_opened_cell thing))) (is_marked s rule Run)
    (opened_is_yes unit s rule thing valid comes.reached (has_seats unit s comes) opener)
    (yes_is_opened unit s rule thing comes.reached opener)

pub opened_act_stays : OpenedActStays
opened_act_stays unit s store moment asked d thing value valid comes is opened =
    step_leaves_act unit s store moment asked d thing value valid comes.reached (has_seats unit s comes) is opened

pub start_opens_first_acts : StartOpensFirstActs
start_opens_first_acts unit s store moment d p act valid comes is at =
    start_opens unit s store moment d p act valid comes.reached (has_seats unit s comes) is at

pub sweep_visits_sites_in_order : SweepVisitsSitesInOrder
sweep_visits_sites_in_order unit s seats = (sweep_walks unit s seats, sweep_fires unit s seats, sweep_sums unit s seats)

pub persons_have_seats : PersonsHaveSeats
persons_have_seats unit s comes = (has_seats unit s comes).seated

pub every_mark_tells_its_test : MarksTellTests
every_mark_tells_its_test unit s site comes started there =
    marks_tell_tests unit s site comes.reached started (has_seats unit s comes) there
