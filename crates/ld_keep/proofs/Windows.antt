-- Bytes of a file that are held.
use Rattle.std.proofs.Common.{◌≡◌, ℕ, ◌+◌, ◌-◌, List, [], length, take, drop, sym, ap, ◌∙◌, arith, length-take-le, length-drop}
use Rattle.std.proofs.lemmas.List.{take-take, drop-take, drop-drop}
use Rattle.ld_keep.specs.Window.{WindowState, IsOfFile, Holds, held_at}

-- no bytes are those of any file
pub of_any_file : (w : WindowState) (file : List ℕ) → w.held ≡ [] → IsOfFile w file
of_any_file w file none = none ∙ ap (λ (l : List ℕ). take (length l) (drop w.start file)) (sym none)

-- as many bytes as are asked for
pub length-held_at : (w : WindowState) (place n : ℕ) → Holds w place n → length (held_at w place n) ≡ n
length-held_at w place n (after, within) = length-take-le n (drop (place - w.start) w.held) (omega (arith, after, within, length-drop (place - w.start) w.held))

-- and they are those of the file
pub held_of_file : (w : WindowState) (file : List ℕ) (place n : ℕ) → IsOfFile w file → Holds w place n → held_at w place n ≡ take n (drop place file)
held_of_file w file place n of_file (after, within) =
    let k = place - w.start in
    let m = length w.held - k in
    let whole : length w.held ≡ k + m = omega (arith, after, within) in
    let there : w.start + k ≡ place = omega (arith, after) in
    ap (λ (l : List ℕ). take n (drop k l)) (of_file ∙ ap (λ (i : ℕ). take i (drop w.start file)) whole)
    ∙ ap (take n) (drop-take k m (drop w.start file) ∙ ap (take m) (drop-drop k w.start file ∙ ap (λ (i : ℕ). drop i file) there))
    ∙ take-take n m (drop place file) (omega (arith, after, within))
