-- What contracts see of words that are being read.
use Rattle.std.specs.Prelude.{◌≡◌, Some, None, Result, Err, IfOk}
use Rattle.serde_json.specs.Data.{Items}
use Rattle.ld_lines.specs.Texts.{texts_left}
use Rattle.ld_lines.specs.Words.{Form}
use Rattle.ld_lines.specs.declared.fault.LineFault.{LineFault}
use Rattle.ld_lines.specs.declared.fault.LineFault.TheVariants.{BadLine}
use Rattle.ld_lines.specs.declared.words.Words.{Words}

-- The elements that are still to be read.
abbrev pub left_of : Words → Items
left_of words = texts_left words.reader

-- Bad only where the words have another form.
abbrev pub IsBad : {A B : Type 0} → Form A → Words → Result B LineFault → Type 0
IsBad form old result = result ≡ Err BadLine → form (left_of old) ≡ None

-- What was found at the front has this form, and the words behind it are left; bad only where they have another form.
abbrev pub ReadsForm : {A : Type 0} → Form A → Words → Result A LineFault → Words → Type 0
ReadsForm form old result new = IfOk result (λ x. form (left_of old) ≡ Some (x, left_of new)) × IsBad form old result
