use Rattle.std.proofs.Common.{ap, sym, ◌∙◌, ◌++◌, List, ℕ, append_assoc}
use Rattle.ld_admission.specs.RefusalView.{refusal_of}
use Rattle.ld_replies.proofs.RefusalTexts.{refusal_text_is}
use Rattle.ld_replies.proofs.replies.push_refusal.Goals as goal

pub returns-clause-text : goal.returns-clause-text
returns-clause-text c =
    let mid = rw c.number.ensures at c.in_ok-push_number_and_word.ensures.text in
    let new = rw mid at c.in_ok-push_details.ensures.text in
    let is = refusal_text_is (refusal_of c.args.refusal) in
    new ∙ append_assoc c.args.out.now.bytes _ _ ∙ ap (λ (t : List ℕ). c.args.out.now.bytes ++ t) (sym is)
