-- The words by which a refusal names its cause.
use Rattle.std.specs.Prelude.{ℕ, List, codes}
use Rattle.ld_json.specs.declared.code.Code.{Code}
use Rattle.ld_json.specs.declared.code.Code.TheVariants.{Absent, TooBig, NotJson, WrongShape, UnknownMember, Missing, NotInProfile, RepeatedId, RepeatedUri, UnknownRef, WrongKindOfRef, Cycle, AboveLevel, BadType, TooMany, RepeatedUnit, GlobalDiffers}

-- The word of the code.
abbrev pub word_of : Code → List ℕ
word_of Absent = codes "absent"
word_of TooBig = codes "too-big"
word_of NotJson = codes "not-json"
word_of WrongShape = codes "wrong-shape"
word_of UnknownMember = codes "unknown-member"
word_of Missing = codes "missing"
word_of NotInProfile = codes "not-in-profile"
word_of RepeatedId = codes "repeated-id"
word_of RepeatedUri = codes "repeated-uri"
word_of UnknownRef = codes "unknown-ref"
word_of WrongKindOfRef = codes "wrong-kind-of-ref"
word_of Cycle = codes "cycle"
word_of AboveLevel = codes "above-level"
word_of BadType = codes "bad-type"
word_of TooMany = codes "too-many"
word_of RepeatedUnit = codes "repeated-unit"
word_of GlobalDiffers = codes "global-differs"
