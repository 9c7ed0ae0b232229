-- An object that is made of rows is canonical, where they hold what they may.
use Rattle.std.specs.Prelude.{◌≡◌, ◌==◌, ℕ, List, [], ◌∷◌, ◌++◌, map, Option, Some, None, is_none, option_map, Bool, true, false, not, codes}
use Rattle.std.proofs.Common.{Ordering, Less, Equal, Greater, nat_cmp, bytes_eq, refl, ap, sym, subst, ◌∙◌, true≢false}
use Rattle.std.proofs.lemmas.Cmp.{nat_list_cmp_total}
use Rattle.std.proofs.lemmas.Map.Lookups.{exact_bytes}
use Rattle.std.proofs.lemmas.Slice.Eq.{bytes_eq-Decides}
use Rattle.std.specs.Cmp.Lexicographic.{slice_cmp}
use Rattle.std.specs.List.{list_all}
use Rattle.std.specs.Ordering.{match_ordering}
use Rattle.serde_json.specs.Data.{unsigned, Data, boolean, number, string, Members, no_members, member, put}
use Rattle.serde_json.specs.View.{items_of}
use Rattle.ld_value.proofs.Choices.{and_left, and_right, eq_self}
use Rattle.ld_value.specs.Duration.{span_text}
use Rattle.ld_prints.specs.Canonical.{default_of, MayHold, is_plain, ComesBefore, IsCanonical, EachCanonical, HoldCanonical}
use Rattle.ld_prints.specs.Rows.{Row, put_if, members_into, object_of}

-- ---- names of which nothing is asked

no_default : (found : Option Data) (tree : Data) → is_none found ≡ true → found ≡ Some tree → ⊥
no_default None tree is same = cc
no_default (Some other) tree is same = cc

not_limit : (name : List ℕ) (test : Bool) → bytes_eq name (codes "time-limit") ≡ test → not test ≡ true
    → name ≡ codes "time-limit" → ⊥
not_limit name true is other same = cc
not_limit name false is other same =
    true≢false (sym ((bytes_eq-Decides name (codes "time-limit")).1 same) ∙ is)

-- A member of which nothing is asked may hold any tree.
pub plain_holds : (name : List ℕ) (tree : Data) → is_plain name ≡ true → MayHold name tree
plain_holds name tree is = record {
  told = no_default (default_of name) tree
      (and_left (is_none (default_of name)) (not (bytes_eq name (codes "time-limit"))) is);
  spans = λ same. absurd (not_limit name (bytes_eq name (codes "time-limit")) refl
      (and_right (is_none (default_of name)) (not (bytes_eq name (codes "time-limit"))) is) same);
}

-- ---- names that have a default

-- A member may hold what is not its default, if it is no span of time.
pub told_holds : (name : List ℕ) (tree : Data) → bytes_eq name (codes "time-limit") ≡ false
    → (default_of name ≡ Some tree → ⊥) → MayHold name tree
told_holds name tree apart told = record {
  told = told;
  spans = λ same. absurd (not_limit name false apart refl same);
}

-- A member may hold another word than its default.
pub other_word : (name default word : List ℕ) → bytes_eq name (codes "time-limit") ≡ false
    → default_of name ≡ Some (string default) → bytes_eq default word ≡ false → MayHold name (string word)
other_word name default word apart is other = told_holds name (string word) apart (λ same.
    let texts : string default ≡ string word = cc in
    let alike : default ≡ word = cc in
    true≢false (sym ((bytes_eq-Decides default word).1 alike) ∙ other))

-- A member may hold another number than its default.
pub other_number : (name : List ℕ) (default n : ℕ) → bytes_eq name (codes "time-limit") ≡ false
    → default_of name ≡ Some (number (unsigned default)) → (n == default) ≡ false
    → MayHold name (number (unsigned n))
other_number name default n apart is other = told_holds name (number (unsigned n)) apart (λ same.
    let alike : default ≡ n = cc in
    true≢false (sym (eq_self default) ∙ ap (λ m. m == default) alike ∙ other))

-- A flag that is left out where it holds may be held where it does not.
pub other_flag : (name : List ℕ) (flag : Bool) → bytes_eq name (codes "time-limit") ≡ false
    → default_of name ≡ Some (boolean true) → flag ≡ false → MayHold name (boolean flag)
other_flag name flag apart is other = told_holds name (boolean flag) apart (λ same.
    let alike : true ≡ flag = cc in
    true≢false (alike ∙ other))

-- A time limit may be held as spans are printed.
pub limit_holds : (span : ℕ) → MayHold (codes "time-limit") (string (span_text span))
limit_holds span = record { told = λ same. cc; spans = λ _. (span, refl) }

-- ---- a member put in

-- A name that comes behind another comes before none that this one comes before.
turned : (k l : List ℕ) → slice_cmp nat_cmp k l ≡ Greater → slice_cmp nat_cmp l k ≡ Less
turned k l is = rw (nat_list_cmp_total.antisymm l k, is) refl

before_at : (o : Ordering) (name k l : List ℕ) (d e : Data) (found : Members) → slice_cmp nat_cmp name k ≡ Less
    → slice_cmp nat_cmp name l ≡ Less
    → ComesBefore name (match_ordering o (member k d (member l e found)) (member l d found) (member l e (put k d found)))
before_at Less name k l d e found is before = is
before_at Equal name k l d e found is before = before
before_at Greater name k l d e found is before = before

-- A name before another and before the members is before these with the other put in.
before_put : (name k : List ℕ) (d : Data) (found : Members) → slice_cmp nat_cmp name k ≡ Less
    → ComesBefore name found → ComesBefore name (put k d found)
before_put name k d no_members is before = is
before_put name k d (member l e found) is before =
    before_at (slice_cmp nat_cmp k l) name k l d e found is before

hold_at : (o : Ordering) (k l : List ℕ) (d e : Data) (found : Members) → slice_cmp nat_cmp k l ≡ o
    → MayHold k d → IsCanonical d → HoldCanonical (member l e found) → HoldCanonical (put k d found)
    → HoldCanonical (match_ordering o (member k d (member l e found)) (member l d found) (member l e (put k d found)))
hold_at Less k l d e found order may is are later = (order, (may, (is, are)))
hold_at Equal k l d e found order may is are later =
    (are.0, (subst (λ name. MayHold name d) (exact_bytes k l order) may, (is, are.1.1.1)))
hold_at Greater k l d e found order may is are later =
    (before_put l k d found (turned k l order) are.0, (are.1.0, (are.1.1.0, later)))

hold_put : (k : List ℕ) (d : Data) (found : Members) → MayHold k d → IsCanonical d → HoldCanonical found
    → HoldCanonical (put k d found)
hold_put k d no_members may is are = (tt, (may, (is, tt)))
hold_put k d (member l e found) may is are =
    hold_at (slice_cmp nat_cmp k l) k l d e found refl may is are (hold_put k d found may is are.1.1.1)

-- ---- rows

-- What stands at the name, if anything does, is canonical and may be held there.
abbrev pub HoldsCanonical : List ℕ → Option Data → Type 0
HoldsCanonical name None = Unit {0}
HoldsCanonical name (Some tree) = MayHold name tree × IsCanonical tree

-- So does what stands at each name of the rows.
abbrev pub RowsHold : List Row → Type 0
RowsHold [] = Unit {0}
RowsHold (row ∷ rows) = HoldsCanonical row.0 row.1 × RowsHold rows

hold_put_if : (name : List ℕ) (tree : Option Data) (found : Members) → HoldsCanonical name tree
    → HoldCanonical found → HoldCanonical (put_if name tree found)
hold_put_if name None found holds are = are
hold_put_if name (Some tree) found holds are = hold_put name tree found holds.0 holds.1 are

hold_into : (rows : List Row) (found : Members) → RowsHold rows → HoldCanonical found
    → HoldCanonical (members_into found rows)
hold_into [] found hold are = are
hold_into (row ∷ rows) found hold are =
    hold_into rows (put_if row.0 row.1 found) hold.1 (hold_put_if row.0 row.1 found hold.0 are)

-- An object of rows that hold what they may is canonical.
pub object_canonical : (rows : List Row) → RowsHold rows → IsCanonical (object_of rows)
object_canonical rows hold = hold_into rows no_members hold tt

-- Rows and more rows hold what each of the two holds.
pub rows_hold : (rows more : List Row) → RowsHold rows → RowsHold more → RowsHold (rows ++ more)
rows_hold [] more hold are = are
rows_hold (row ∷ rows) more hold are = (hold.0, rows_hold rows more hold.1 are)

-- ---- values

-- The tree of a value that may be absent may be held, where that of each value may.
pub given_holds : {A : Type 0} (name : List ℕ) (print : A → Data) (x : Option A)
    → ((y : A) → x ≡ Some y → MayHold name (print y) × IsCanonical (print y))
    → HoldsCanonical name (option_map print x)
given_holds name print None law = tt
given_holds name print (Some x) law = law x refl

-- The trees of values are canonical, where that of each is.
pub each_canonical : {A : Type 0} (form : A → Bool) (print : A → Data)
    → ((x : A) → form x ≡ true → IsCanonical (print x))
    → (xs : List A) → list_all form xs ≡ true → EachCanonical (items_of (map print xs))
each_canonical form print law [] is = tt
each_canonical form print law (x ∷ xs) is = (
  law x (and_left (form x) (list_all form xs) is),
  each_canonical form print law xs (and_right (form x) (list_all form xs) is),
)
