-- Parts of a list of bytes.
use Rattle.std.proofs.Common.{◌≡◌, ℕ, ◌+◌, ◌-◌, ◌≤◌, List, ◌++◌, take, drop, slice_range, sym, ap, ◌∙◌, arith}
use Rattle.std.proofs.lemmas.List.{drop-take, drop-drop}
use Rattle.std.proofs.Math.Seq.{take-add}
use Rattle.std.proofs.lemmas.Slice.{between_is}

-- a part that begins later
pub slice_range_later : (xs : List ℕ) (a n b : ℕ) → n ≤ b - a → slice_range xs (a + n) b ≡ drop n (slice_range xs a b)
slice_range_later xs a n b h =
    let e : b - a ≡ n + (b - (a + n)) = omega arith in
    rw e (ap (take (b - (a + n))) (sym (drop-drop n a xs)) ∙ sym (drop-take n (b - (a + n)) (drop a xs)))

-- a part in two
pub slice_range_join : (xs : List ℕ) (a m n : ℕ) → slice_range xs a (a + m + n) ≡ slice_range xs a (a + m) ++ slice_range xs (a + m) (a + m + n)
slice_range_join xs a m n =
    let e : a + m + n - a ≡ m + n = omega arith in
    let f : a + m - a ≡ m = omega arith in
    let h : a + m + n - (a + m) ≡ n = omega arith in
    rw (e, f, h) (take-add m n (drop a xs) ∙ ap (λ ys. take m (drop a xs) ++ take n ys) (drop-drop m a xs))

-- a part of two lists with the same front
pub slice_range_front : (xs ys : List ℕ) (a b : ℕ) → take b xs ≡ take b ys → slice_range xs a b ≡ slice_range ys a b
slice_range_front xs ys a b h = between_is xs a b ∙ ap (drop a) h ∙ sym (between_is ys a b)
