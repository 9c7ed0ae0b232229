use Rattle.std.proofs.Common.{sym, ap, Err, ◌∙◌, is_some}
use Rattle.ld_value.specs.Datum.{datum_of}
use Rattle.ld_globals.specs.Declarations.{declaration_of, suits}
use Rattle.ld_globals.proofs.Texts.{no-value, misfit, unsuited, readable}
use Rattle.ld_globals.proofs.reading.read_declared.Goals as goal

pub returns-in-Err-BadValue-clause-refused : goal.returns-in-Err-BadValue-clause-refused
returns-in-Err-BadValue-clause-refused c = λ _. no-value (declaration_of c.args.declared.now) c.args.text.now (suits c.args.declared.now.kind (is_some c.args.person)) (c.read_value.ensures.bad.0 (c.in-Err-BadValue.is ∙ ap Err c.in-Err-BadValue.field-0-is))

pub returns-then-not-fits-clause-refused : goal.returns-then-not-fits-clause-refused
returns-then-not-fits-clause-refused c = λ _. misfit (declaration_of c.args.declared.now) c.args.text.now (suits c.args.declared.now.kind (is_some c.args.person)) (datum_of c.in-Ok.value) c.in-Ok.ensures.ok (sym c.fits.ensures ∙ c.if-not-fits.true)

pub returns-then-not-suits-clause-refused : goal.returns-then-not-suits-clause-refused
returns-then-not-suits-clause-refused c = λ _. unsuited (declaration_of c.args.declared.now) c.args.text.now (suits c.args.declared.now.kind (is_some c.args.person)) (datum_of c.in-Ok.value) c.in-Ok.ensures.ok (sym c.fits.ensures ∙ c.if-not-fits.false) (sym c.suits.ensures ∙ c.if-not-suits.true)

pub returns-clause-ok : goal.returns-clause-ok
returns-clause-ok c = readable (declaration_of c.args.declared.now) c.args.text.now (suits c.args.declared.now.kind (is_some c.args.person)) (datum_of c.in-Ok.value) c.in-Ok.ensures.ok (sym c.fits.ensures ∙ c.if-not-fits.false) (sym c.suits.ensures ∙ c.if-not-suits.false)
