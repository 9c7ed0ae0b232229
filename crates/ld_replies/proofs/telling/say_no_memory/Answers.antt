use Rattle.std.proofs.Common.{◌≡◌, codes, sym}
use Rattle.ld_replies.proofs.RefusalTexts.{no_memory_text}
use Rattle.ld_replies.proofs.telling.say_no_memory.Goals as goal

pub returns-clause-text : goal.returns-clause-text
returns-clause-text c =
    let word : c.refusal_word.result.now ≡ codes "no-memory" = sym (cc c.refusal_word.ensures) in
    rw (c.push_within-3.ensures.text, c.push_within-2.ensures.text, c.push_within.ensures.text, c.clear.ensures.empty, word) no_memory_text
