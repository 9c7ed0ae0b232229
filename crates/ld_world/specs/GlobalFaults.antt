-- Why a line that asks the store for something is refused.
use Rattle.ld_globals.specs.declared.faults.GlobalFault.{GlobalFault}
use Rattle.ld_globals.specs.declared.faults.GlobalFault.TheVariants as getting
use Rattle.ld_globals.specs.declared.faults.SetFault.{SetFault}
use Rattle.ld_globals.specs.declared.faults.SetFault.TheVariants as setting
use Rattle.ld_admission.specs.Refusals.{Refusal, UnknownGlobal, BadValue, NotAllowed, NoMemory}

-- The refusal of `global-set`, by the store's fault.
abbrev pub refusal_to_set : SetFault → Refusal
refusal_to_set setting.UnknownGlobal = UnknownGlobal
refusal_to_set setting.BadValue = BadValue
refusal_to_set setting.NotAllowed = NotAllowed
refusal_to_set setting.NoMemory = NoMemory

-- The refusal of `global-get`, by the store's fault.
abbrev pub refusal_to_get : GlobalFault → Refusal
refusal_to_get getting.UnknownGlobal = UnknownGlobal
refusal_to_get getting.NotAllowed = NotAllowed
