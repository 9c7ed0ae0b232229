-- What holds of a value that may be told.
use Rattle.std.proofs.Common.{◌≡◌, Option, Some, None, IfSome, Result, Ok, Err, OnOk, option_map, refl, ap, sym, ◌∙◌, subst}

pub told : {A : Type 0} (o : Option A) (P : A → Type 0) → IfSome o P → (x : A) → o ≡ Some x → P x
told None P holds x is = absurd (cc is)
told (Some y) P holds x is = let same : y ≡ x = cc is in subst P same holds

pub where_told : {A : Type 0} (o : Option A) (P : A → Type 0) → ((x : A) → o ≡ Some x → P x) → IfSome o P
where_told None P holds = tt
where_told (Some x) P holds = holds x refl

-- what follows for each value
pub told_more : {A : Type 0} (o : Option A) (P Q : A → Type 0) → IfSome o P → ((x : A) → P x → Q x) → IfSome o Q
told_more None P Q holds more = tt
told_more (Some x) P Q holds more = more x holds

-- what holds of the same value, told of another
pub told_same : {A : Type 0} (o n : Option A) (P : A → Type 0) → n ≡ o → IfSome o P → IfSome n P
told_same o n P is holds = subst (λ m. IfSome m P) (sym is) holds

-- and of what is made of it
pub told_made : {A : Type 0} (o n : Option A) (f : A → A) (P Q : A → Type 0) → n ≡ option_map f o → IfSome o P → ((x : A) → P x → Q (f x)) → IfSome n Q
told_made None n f P Q is holds more = subst (λ m. IfSome m Q) (sym is) tt
told_made (Some x) n f P Q is holds more = subst (λ m. IfSome m Q) (sym is) (more x holds)

-- what is told of what is made of it
pub map_made : {A B : Type 0} (o n : Option A) (f : A → A) (P : A → Type 0) (g h : A → B) → n ≡ option_map f o → IfSome o P → ((x : A) → P x → g (f x) ≡ h x) → option_map g n ≡ option_map h o
map_made None n f P g h is holds same = ap (option_map g) is
map_made (Some x) n f P g h is holds same = ap (option_map g) is ∙ ap Some (same x holds)

pub on_ok : {T E : Type 0} (r : Result T E) (P Q : Type 0) → OnOk r P → (P → Q) → OnOk r Q
on_ok (Ok x) P Q holds more = more holds
on_ok (Err e) P Q holds more = tt

-- two facts about one value
pub told_both : {A : Type 0} (o : Option A) (P Q R : A → Type 0) → IfSome o P → IfSome o Q → ((x : A) → P x → Q x → R x) → IfSome o R
told_both None P Q R one other both = tt
told_both (Some x) P Q R one other both = both x one other

-- made twice
pub made_twice : {A : Type 0} (o m n : Option A) (f g h : A → A) (P : A → Type 0) → m ≡ option_map f o → n ≡ option_map g m → IfSome o P → ((x : A) → P x → g (f x) ≡ h x) → n ≡ option_map h o
made_twice None m n f g h P first second holds same = second ∙ ap (option_map g) first
made_twice (Some x) m n f g h P first second holds same = second ∙ ap (option_map g) first ∙ ap Some (same x holds)

-- and three
pub told_three : {A : Type 0} (o : Option A) (P Q R S : A → Type 0) → IfSome o P → IfSome o Q → IfSome o R → ((x : A) → P x → Q x → R x → S x) → IfSome o S
told_three None P Q R S one two three all = tt
told_three (Some x) P Q R S one two three all = all x one two three

-- made by another name
pub made_as : {A : Type 0} (o n : Option A) (f h : A → A) (P : A → Type 0) → n ≡ option_map f o → IfSome o P → ((x : A) → P x → f x ≡ h x) → n ≡ option_map h o
made_as None n f h P is holds same = is
made_as (Some x) n f h P is holds same = is ∙ ap Some (same x holds)

-- and left as it is
pub left_as : {A : Type 0} (o n : Option A) (h : A → A) (P : A → Type 0) → n ≡ o → IfSome o P → ((x : A) → P x → x ≡ h x) → n ≡ option_map h o
left_as None n h P is holds same = is
left_as (Some x) n h P is holds same = is ∙ ap Some (same x holds)
