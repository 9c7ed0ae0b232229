-- The persons of a run, and which roles they hold.
use Rattle.std.specs.Prelude.{ℕ, zero, suc, List, [], ◌∷◌, Option, Bool, false, nat_eq, slice_get, if◌then◌else◌}
use Rattle.std.specs.Str.{bytes_eq}
use Rattle.ld_model.specs.Counting.{number_where}
use Rattle.ld_expr.specs.Lookup.{is_some_and}

-- A person of a run, and the set of the numbers of the roles that the person holds.
pub record PersonState : Type 0 where
  pub name : List ℕ
  pub holds : ℕ → Bool

-- The persons in the order of enrolment.
abbrev pub Persons : Type 0
Persons = List PersonState

-- The number of the person of this name, if there is one: the place in the order of enrolment.
abbrev pub person_number : Persons → List ℕ → Option ℕ
person_number persons name = number_where (λ person. bytes_eq name person.name) persons

-- A person of this name who holds no role.
abbrev pub newcomer : List ℕ → PersonState
newcomer name = record { name = name; holds = λ _. false }

-- The person, who holds the role or does not from now on.
abbrev pub with_role : ℕ → Bool → PersonState → PersonState
with_role role held person = record {
  name = person.name;
  holds = λ other. if nat_eq other role then held else person.holds other;
}

-- The list with the element of this number changed.
abbrev pub changed_at : {A : Type 0} → (A → A) → ℕ → List A → List A
changed_at change n [] = []
changed_at change zero (x ∷ xs) = change x ∷ xs
changed_at change (suc n) (x ∷ xs) = x ∷ changed_at change n xs

-- The person of this number holds this very role.
abbrev pub holds_role : Persons → ℕ → ℕ → Bool
holds_role persons role p = is_some_and (λ person. person.holds role) (slice_get persons p)
