use Rattle.std.proofs.Common.{◌≡◌, [], refl, ◌∙◌}
use Rattle.std.proofs.lemmas.Result.{err_from_is_err_and}
use Rattle.ld_top.proofs.Adding.{adds_all, adds_first, adds_second}
use Rattle.ld_top.proofs.sending.send.Goals as goal

pub returns-in_err-write_waiting-clause-err : goal.returns-in_err-write_waiting-clause-err
returns-in_err-write_waiting-clause-err g c =
    let p = err_from_is_err_and c.from_residual.result c.from_residual.ensures.1 in
    let same : c.put_behind.new.waiting.bytes ≡ c.args.waiting.now.bytes = c.if-put_behind.ensures.no refl in
    rw p.1 (adds_first _ _ c.args.waiting.now.bytes c.args.reply.now.bytes (rw same at c.in_err-write_waiting.ensures.err))

pub returns-in_err-write_all-clause-err : goal.returns-in_err-write_all-clause-err
returns-in_err-write_all-clause-err g c =
    let p = err_from_is_err_and c.from_residual-in_err-write_all.result c.from_residual-in_err-write_all.ensures.1 in
    let same : c.put_behind.new.waiting.bytes ≡ c.args.waiting.now.bytes = c.if-put_behind.ensures.no refl in
    let reply : c.as_bytes.result.now ≡ c.args.reply.now.bytes = c.as_bytes.ensures.value ∙ c.as_str.ensures.bytes in
    rw p.1 (adds_second _ _ _ c.args.waiting.now.bytes c.args.reply.now.bytes (rw same at c.in_ok-write_waiting.ensures.ok) (rw reply at c.in_err-write_all.ensures.err))

pub returns-clause-ok : goal.returns-clause-ok
returns-clause-ok g c =
    let same : c.put_behind.new.waiting.bytes ≡ c.args.waiting.now.bytes = c.if-put_behind.ensures.no refl in
    let reply : c.as_bytes.result.now ≡ c.args.reply.now.bytes = c.as_bytes.ensures.value ∙ c.as_str.ensures.bytes in
    let none : c.write_waiting.new.waiting.bytes ≡ [] = c.in_ok-write_waiting.ensures.none in
    rw none (adds_all _ _ _ c.args.waiting.now.bytes c.args.reply.now.bytes (rw same at c.in_ok-write_waiting.ensures.ok) (rw reply at c.in_ok-write_all.ensures.ok))
