-- Runs in which nothing has happened.
use Rattle.std.specs.Prelude.{◌≡◌, ℕ, [], None, false}
use Rattle.ld_model.specs.declared.cell.Owner.{Owner}
use Rattle.ld_expr.specs.Seen.{act_opened_cell, opened_cell}
use Rattle.ld_rules.specs.LawWords.{is_marked}
use Rattle.ld_state.specs.RunState.{RunState}

-- No rule has said yes, no act and no activity was opened, and no notice was sent.
pub record IsUntouched (s : RunState) : Type 0 where
  pub unmarked : (rule : ℕ) (owner : Owner) → is_marked s rule owner ≡ false
  pub no_act : (thing : ℕ) → s.cells (act_opened_cell thing) ≡ None
  pub no_activity : (thing : ℕ) (owner : Owner) → s.cells (opened_cell thing owner) ≡ None
  pub no_notice : s.outbox ≡ []
