-- What a call that reports on the unit of one folder is to have done when it ends.
use Rattle.std.specs.Prelude.{ℕ, List, [], ◌∷◌, ◌++◌, ◌≡◌, ◌⊎◌, length, Option, Ok, Err, codes, decimal}
use Rattle.ld_base.specs.Outside.{Files, then_piece, AddsPrefix}
use Rattle.ld_json.specs.Fault.{Told}
use Rattle.ld_model.specs.declared.unit.Unit.{Unit}
use Rattle.ld_names.specs.Rules.{rules_of}
use Rattle.ld_refs.specs.Checks.{leaves_of}
use Rattle.ld_world.specs.Published.{refused_line}
use Rattle.ld_canon.specs.Documents.{IsCanonicalText}
use Rattle.ld_top.specs.declared.report.Report.{Report}
use Rattle.ld_rank.specs.Printed.{IsReportText}
use Rattle.ld_top.specs.declared.report.Report.TheVariants.{Check, Canon, Rank}
use Rattle.ld_top.specs.InFolder.{IsReading, WhereTold}

-- ---- texts

-- `ok UNIT rules=N leaves=M`: how many rules the unit has, and how many leaves its expressions have.
abbrev pub check_line : Unit → List ℕ
check_line unit =
    codes "ok " ++ unit.identifier ++ codes " rules=" ++ decimal (length (rules_of unit))
    ++ codes " leaves=" ++ decimal (leaves_of unit) ++ 10 ∷ []

-- This text is printed of the unit.
abbrev pub Prints : Report → Unit → List ℕ → Type 0
Prints Check unit text = text ≡ check_line unit
Prints Canon unit text = IsCanonicalText unit text
Prints Rank unit text = IsReportText unit text

-- ---- the folder

-- The folder has a unit, and of the text that is printed of it this was done.
abbrev pub FromText : Report → List ℕ → Option Files → (List ℕ → Type 0) → Type 0
FromText report folder files Done =
    (unit : Unit) × WhereTold files (λ told. IsReading told folder (Ok unit))
    × (text : List ℕ) × Prints report unit text × Done text

-- The folder has a first fault, and of the line that tells it this was done.
abbrev pub FromFault : List ℕ → Option Files → (List ℕ → Type 0) → Type 0
FromFault folder files Done =
    (fault : Told) × WhereTold files (λ told. IsReading told folder (Err fault))
    × Done (refused_line (record { folder = 1; fault = fault }))

-- ---- the ends of the call

-- It was done: the report was written.
abbrev pub Reported : Report → List ℕ → Option Files → Option (List ℕ) → Option (List ℕ) → Type 0
Reported report folder files old new = FromText report folder files (λ text. new ≡ then_piece old text)

-- The folder is refused, and the one line that tells it was written.
abbrev pub ReportRefused : List ℕ → Option Files → Option (List ℕ) → Option (List ℕ) → Type 0
ReportRefused folder files old new = FromFault folder files (λ line. new ≡ then_piece old line)

-- A beginning of what was to be written was written: the line of a refusal, or the report.
abbrev pub ReportCut : Report → List ℕ → Option Files → Option (List ℕ) → Option (List ℕ) → Type 0
ReportCut report folder files old new =
    FromFault folder files (λ line. AddsPrefix old line new)
    ⊎ FromText report folder files (λ text. AddsPrefix old text new)
