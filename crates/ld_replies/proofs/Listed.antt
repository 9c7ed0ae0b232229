-- Lists that are gone through, one element after another, and what is printed of each.
use Rattle.std.proofs.Common.{◌≡◌, ◌<◌, ◌+◌, ℕ, List, drop, fold, get_or, length, map, sym, ap, subst, ◌∙◌, arith}
use Rattle.std.proofs.lemmas.List.{get_or-map, length-map}
use Rattle.std.proofs.lemmas.List.Sums.{fold-append}
use Rattle.ld_model.specs.Counting.{each_numbered_from}
use Rattle.ld_model.specs.declared.unit.Unit.{Unit}
use Rattle.ld_expr.proofs.Totals.{from_here}
use Rattle.ld_state.specs.Notices.{notice_of, notices_of}
use Rattle.ld_state.specs.declared.notice.OutNotice.{OutNotice}
use Rattle.ld_tree.specs.Telling.{Printed}
use Rattle.ld_replies.specs.Printed.{printed_after}
use Rattle.ld_replies.specs.Printing.{AreNoticesOf, IsNoticeOf}
use Rattle.ld_replies.specs.Reports.{WordLine}

nth_of : {A B : Type 0} → (g : A → B) (xs : List A) (i : ℕ) (x : A) → i < length xs → x ≡ get_or xs i x
    → get_or (map g xs) i (g x) ≡ g x
nth_of g xs i x within is = get_or-map g xs i x (g x) within ∙ ap g (sym is)

-- The lines of the elements from the i-th on are printed once those of the i-th are, and those of the rest.
pub printed_next : {A B : Type 0} → (g : A → B) (f : ℕ → B → List WordLine) (xs : List A) (i : ℕ) (x : A)
    → (before now whole : Printed) → i < length xs → x ≡ get_or xs i x
    → fold printed_after before (each_numbered_from f i (drop i (map g xs))) ≡ whole
    → now ≡ fold printed_after before (f i (g x))
    → fold printed_after now (each_numbered_from f (i + 1) (drop (i + 1) (map g xs))) ≡ whole
printed_next g f xs i x before now whole within is so_far added =
    let rest = each_numbered_from f (i + 1) (drop (i + 1) (map g xs)) in
    let cut = from_here (map g xs) i (g x) (omega (arith, within, length-map xs g)) (sym (nth_of g xs i x within is)) in
    ap (λ printed. fold printed_after printed rest) added
    ∙ sym (fold-append printed_after before (f i (g x)) rest)
    ∙ (rw cut at so_far)

pub nth_notice : (unit : Unit) (notices : List OutNotice) (k : ℕ) (notice : OutNotice)
    → AreNoticesOf unit (notices_of notices) → k < length notices → notice ≡ get_or notices k notice
    → IsNoticeOf unit (notice_of notice)
nth_notice unit notices k notice all within is =
    subst (IsNoticeOf unit) (nth_of notice_of notices k notice within is)
    (all k (notice_of notice) (omega (arith, within, length-map notices notice_of)))
