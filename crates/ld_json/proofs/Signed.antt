-- A number with a sign is no whole one without.
use Rattle.std.proofs.Common.{◌≡◌, ℤ, Bool, true, false, Float, Some, None, option_and_then, if◌then◌else◌, refl}
use Rattle.serde_json.specs.Data.{negative, float}
use Rattle.serde_json.specs.Find.{as_u64}
use Rattle.serde_json.specs.Read.{number_from}
use Rattle.fast_float.specs.Text.{Parts}

no_whole : (test other : Bool) (z : ℤ) (x : Float) → option_and_then as_u64 (if test then Some (negative z) else (if other then Some (float x) else None)) ≡ None
no_whole true other z x = refl
no_whole false true z x = refl
no_whole false false z x = refl

pub signed_is_no_whole : (p : Parts) → option_and_then as_u64 (number_from true p) ≡ None
signed_is_no_whole p = no_whole _ _ _ _
