-- Identifiers are ASCII, hence UTF-8.
use Rattle.std.proofs.Common.{ℕ, List, [], ◌∷◌, ◌<◌, ◌≡◌, true, arith, zero, suc, lit<}
use Rattle.std.specs.List.{list_all}
use Rattle.std.specs.Str.{IsAscii}
use Rattle.std.proofs.lemmas.Grind.{common_steps}
use Rattle.ld_base.specs.Identifier.{continues_identifier, has_identifier_form}

continues_ascii : (b : ℕ) → continues_identifier b ≡ true → b < 128
unfolding continues_identifier
continues_ascii b h = grind (arith, common_steps)

all_continue_ascii : (bs : List ℕ) → list_all continues_identifier bs ≡ true → IsAscii bs
all_continue_ascii [] h i = lit< tt
all_continue_ascii (b ∷ bs) h zero = continues_ascii b (grind (arith, common_steps))
all_continue_ascii (b ∷ bs) h (suc i) = all_continue_ascii bs (grind (arith, common_steps)) i

pub IsAscii-identifier : (bs : List ℕ) → has_identifier_form bs ≡ true → IsAscii bs
IsAscii-identifier bs h = all_continue_ascii bs (grind (arith, common_steps))
