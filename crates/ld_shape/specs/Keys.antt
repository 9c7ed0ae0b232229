-- What a value tells of the part that it was read from.
use Rattle.std.specs.Prelude.{Option, Some, None}
use Rattle.std.specs.Option.{unwrap_or}
use Rattle.std.proofs.Common.{refl}
use Rattle.ld_shape.specs.Reading.{option_both, option_after, option_mapped}
use Rattle.ld_shape.specs.Shapes.{HasKey}

-- A value is its own key.
pub own_key : {A : Type 0} (o : Option A) → HasKey (λ x. Some x) o o
own_key None = tt
own_key (Some x) = refl

-- The same, where nothing else comes of no value at all.
pub value_or_key : {A : Type 0} (otherwise : A) (o : Option A) → HasKey (λ x. x) (unwrap_or o otherwise) o
value_or_key otherwise None = tt
value_or_key otherwise (Some x) = refl

-- The key of the first of two is that of both.
pub first_key : {A B K : Type 0} (key : A → K) (k : K) (x : Option A) (y : Option B) → HasKey key k x
    → HasKey (λ p. key p.0) k (option_both x y)
first_key key k None y is = tt
first_key key k (Some x) None is = tt
first_key key k (Some x) (Some y) is = is

-- The key of the second of two is that of both.
pub next_key : {A B K : Type 0} (key : B → K) (k : K) (x : Option A) (y : Option B) → HasKey key k y
    → HasKey (λ p. key p.1) k (option_both x y)
next_key key k None y is = tt
next_key key k (Some x) None is = tt
next_key key k (Some x) (Some y) is = is

-- The key of what an object is made of is that of the object.
pub made_key : {A B C K : Type 0} (key : B → K) (k : K) (make : A → B) (before : Option C) (o : Option A)
    → HasKey (λ x. key (make x)) k o → HasKey key k (option_after before (option_mapped make o))
made_key key k make None o is = tt
made_key key k make (Some _) None is = tt
made_key key k make (Some _) (Some x) is = is
