use Rattle.std.proofs.Common.{◌≡◌, Bool, true, false, not, IsTrue, sym}
use Rattle.std.proofs.lemmas.Bool.{true≢false}
use Rattle.ld_globals.proofs.Pairs.{agrees-absent, agrees-same, differs-other}
use Rattle.ld_globals.proofs.declaring.differs.Goals as goal

pub returns-in_default-clause-no : goal.returns-in_default-clause-no
returns-in_default-clause-no c = λ _. agrees-absent c.args.declared.now.entries c.args.uri.now.bytes c.args.contents.now (sym c.in_default.ensures.value)

yes-from : (b : Bool) → not b ≡ false → IsTrue b
yes-from true is = cc
yes-from false is = cc

no-both : (b : Bool) → IsTrue (not b) → IsTrue b → ⊥
no-both true other _ = true≢false (sym other)
no-both false _ same = true≢false (sym same)

pub returns-clause-yes : goal.returns-clause-yes
returns-clause-yes c = λ other. differs-other c.args.declared.now.entries c.args.uri.now.bytes c.args.contents.now c.in-Some.old.now (sym c.in-Some.ensures.value) (λ same. no-both c.same_declared.result other (c.same_declared.ensures.1 same))

pub returns-clause-no : goal.returns-clause-no
returns-clause-no c = λ is. agrees-same c.args.declared.now.entries c.args.uri.now.bytes c.args.contents.now c.in-Some.old.now (sym c.in-Some.ensures.value) (c.same_declared.ensures.0 (yes-from c.same_declared.result is))
