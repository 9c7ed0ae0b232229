-- What is answered to a command, as a value.
use Rattle.std.specs.Prelude.{◌≡◌, ℕ, Result, Ok, Err}
use Rattle.ld_cascade.specs.Settling.{Sums}
use Rattle.ld_cascade.specs.declared.settled.Settled.{Settled}
use Rattle.ld_admission.specs.Refusals.{Refusal, NoMemory, refusal_number}
use Rattle.ld_admission.specs.RefusalView.{refusal_of}
use Rattle.ld_admission.specs.declared.refusal.Refusal.{Refusal as RefusalOf}
use Rattle.ld_run.specs.RunStep.{DoneCommand}
use Rattle.ld_run.specs.declared.reply.Reply.{Reply}
use Rattle.ld_run.specs.declared.reply.Reply.TheVariants as reply

-- The four numbers of a reply: the turns, and the sums.
abbrev pub numbers_of : ℕ → Sums → Settled
numbers_of turns sums = record { turns = turns; fired = sums.fired; rejected = sums.rejected; sent = sums.sent }

-- The reply to a line that was done and for which no run settled.
abbrev pub done_alone : Reply
done_alone = reply.Done (record { turns = 0; fired = 0; rejected = 0; sent = 0 })

-- The reply where this refuses a line. Out of memory is a reply of its own.
abbrev pub reply_to_refusal : Refusal → Reply
reply_to_refusal NoMemory = reply.NoMemory
reply_to_refusal refusal = reply.Refused (refusal_number refusal)

-- The program refuses a command so.
abbrev pub IsRefusedWith : {A : Type 0} → Refusal → Result A RefusalOf → Type 0
IsRefusedWith refusal (Ok done) = ⊥
IsRefusedWith refusal (Err given) = refusal_of given ≡ refusal

-- The reply to a command of a run.
abbrev pub reply_of : Result DoneCommand Refusal → Reply
reply_of (Ok d) = reply.Done (numbers_of d.turns d.sums)
reply_of (Err refusal) = reply_to_refusal refusal

-- The stamp that a run keeps after the reply: the store's, where the command was done, and else the old one.
abbrev pub StampAfter : Reply → ℕ → ℕ → ℕ → Type 0
StampAfter (reply.Done totals) old store new = new ≡ store
StampAfter (reply.Refused number) old store new = new ≡ old
StampAfter reply.NoMemory old store new = new ≡ old
