use Rattle.std.proofs.Common.{length, sym, ap, subst, ◌∙◌, decimal, codes, [], ◌∷◌}
use Rattle.std.proofs.lemmas.List.{length-map}
use Rattle.ld_state.specs.Notices.{notice_of}
use Rattle.ld_state.specs.StateView.{seen_of}
use Rattle.ld_replies.specs.Printed.{printed_after}
use Rattle.ld_replies.specs.Printing.{HasMoments}
use Rattle.ld_replies.proofs.SeenInRuns.{has_moments}
use Rattle.ld_replies.proofs.Told.{Stages, report_told}
use Rattle.ld_replies.proofs.report.put_report.Goals as goal

pub invariant_of-reporter : goal.invariant_of-reporter
invariant_of-reporter g c = record {
  dated = subst (λ s. HasMoments (seen_of s).value) (sym c.scope.ensures.view)
      (has_moments c.args.unit.now c.args.state.now c.requires.own c.requires.sound);
}

pub returns-clause-lines : goal.returns-clause-lines
returns-clause-lines g c =
    let sent = sym (length-map c.outbox.result.now notice_of) ∙ ap length c.outbox.ensures in
    let stages : Stages c.args.unit.now c.args.state.now c.args.lines.now c.put_sent.new.lines = record {
      started = c.put_start.new.lines;
      with_roles = c.put_roles.new.lines;
      with_plays = c.put_plays.new.lines;
      with_unit = c.put_unit.new.lines;
      start = rw c.scope.ensures.view at c.in_ok-put_start.ensures.lines;
      roles = rw (c.roster.ensures.roles, c.roster.ensures.rows, c.as_slice.ensures, c.unit.ensures.unit) at c.in_ok-put_roles.ensures;
      plays = rw (c.scope.ensures.unit, c.scope.ensures.view, c.as_slice-2.ensures, c.unit-2.ensures.unit) at c.in_ok-put_plays.ensures.lines;
      whole = rw (c.scope.ensures.unit, c.scope.ensures.view) at c.in_ok-put_unit.ensures.lines;
      sent = c.in_ok-put_sent.ensures ∙ ap (λ n. printed_after c.put_unit.new.lines (codes "notices" ∷ decimal n ∷ [])) sent;
    } in
    report_told c.args.unit.now c.args.state.now c.args.lines.now c.put_sent.new.lines c.requires.own stages
