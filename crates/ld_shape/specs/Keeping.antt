-- What is read keeps to a form.
use Rattle.std.specs.Prelude.{◌≡◌, Option, Some, None, Bool, true, false, ◌&&◌, List, [], ◌∷◌, false}
use Rattle.std.proofs.Common.{refl}
use Rattle.ld_base.specs.Maybe.{◌>>=◌, provided}
use Rattle.ld_shape.specs.Reading.{option_both, option_after, option_mapped, at_part}

-- What is there has the form.
abbrev pub Keeps : {A : Type 0} → (A → Bool) → Option A → Type 0
Keeps form None = Unit {0}
Keeps form (Some x) = form x ≡ true

-- Whatever there is has a form that asks for nothing.
abbrev pub anything : {A : Type 0} → A → Bool
anything _ = true

-- The value passes the test, where there is one.
abbrev pub if_given : {A : Type 0} → (A → Bool) → Option A → Bool
if_given form None = true
if_given form (Some x) = form x

-- There is a value, and it passes the test.
abbrev pub is_given : {A : Type 0} → (A → Bool) → Option A → Bool
is_given form None = false
is_given form (Some x) = form x

-- The list has no element.
abbrev pub is_empty : {A : Type 0} → List A → Bool
is_empty [] = true
is_empty (_ ∷ _) = false

-- The value, where it passes the test.
abbrev pub tested : {A : Type 0} → (A → Bool) → Option A → Option A
tested form o = o >>= λ x. provided (form x) x

-- ---- what the steps of a reading keep

-- Whatever is there has the form that asks for nothing.
pub anything_keeps : {A : Type 0} (o : Option A) → Keeps anything o
anything_keeps None = tt
anything_keeps (Some x) = refl

provided_keeps : {A : Type 0} (form : A → Bool) (x : A) (test : Bool) → form x ≡ test
    → Keeps form (provided test x)
provided_keeps form x true is = is
provided_keeps form x false is = tt

-- What passes a test has that test as its form.
pub tested_keeps : {A : Type 0} (form : A → Bool) (o : Option A) → Keeps form (tested form o)
tested_keeps form None = tt
tested_keeps form (Some x) = provided_keeps form x (form x) refl

-- In a pair of two values that have their forms, the first and the second have them.
pub both_keep : {A B : Type 0} (form : A → Bool) (next_form : B → Bool) (x : Option A) (y : Option B)
    → Keeps form x → Keeps next_form y → Keeps (λ p. form p.0 && next_form p.1) (option_both x y)
both_keep form next_form None y is are = tt
both_keep form next_form (Some x) None is are = tt
both_keep form next_form (Some x) (Some y) is are = rw is are

-- What is found behind another thing keeps its form.
pub after_keeps : {A B : Type 0} (form : B → Bool) (before : Option A) (y : Option B) → Keeps form y
    → Keeps form (option_after before y)
after_keeps form None y is = tt
after_keeps form (Some _) y is = is

-- What is made of a value has the other form, where each value of the one form is made into one of it.
pub mapped_keeps : {A B : Type 0} (form : A → Bool) (wider : B → Bool) (f : A → B)
    → ((x : A) → form x ≡ true → wider (f x) ≡ true)
    → (o : Option A) → Keeps form o → Keeps wider (option_mapped f o)
mapped_keeps form wider f step None is = tt
mapped_keeps form wider f step (Some x) is = step x is

-- What has a form has any wider form, which all values of that form have.
pub wider_keeps : {A : Type 0} (form wider : A → Bool) → ((x : A) → form x ≡ true → wider x ≡ true)
    → (o : Option A) → Keeps form o → Keeps wider o
wider_keeps form wider step None is = tt
wider_keeps form wider step (Some x) is = step x is

-- What is read from a part, or stands for an absent one, has the form where both of these do.
pub part_keeps : {P A : Type 0} (form : A → Bool) (absent : Option A) (there : P → Option A)
    → Keeps form absent → ((part : P) → Keeps form (there part)) → (part : Option P)
    → Keeps form (at_part absent there part)
part_keeps form absent there is are None = is
part_keeps form absent there is are (Some part) = are part
