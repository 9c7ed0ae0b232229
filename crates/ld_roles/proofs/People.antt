-- What a person holds, and who the persons are, after a change.
use Rattle.std.proofs.Common.{◌≡◌, ℕ, zero, suc, ◌+◌, ◌-◌, ◌<◌, ◌≤◌, List, [], ◌∷◌, length, set, replicate, get_or, Bool, true, false, cond, if◌then◌else◌, nat_eq, Option, Some, None, option_map, slice_get, refl, sym, ap, ◌∙◌, arith, take}
use Rattle.std.proofs.lemmas.List.{get_or-set_same, get_or-set_other, set-set, set-get_or}
use Rattle.std.proofs.lemmas.Bool.{eqb-true, eqb-false}
use Rattle.std.proofs.lemmas.List.Sums.{count_by_more_yes, count_by_more_no, sum_by-cons}
use Rattle.std.proofs.lemmas.Option.{slice_get_within, get_or_from_slice_get, slice_get-get_or, slice_get-map}
use Rattle.std.specs.Int.{from_bool}
use Rattle.std.specs.List.{count_by}
use Rattle.ld_roles.specs.Kept.{PersonRow, held_in, person_of, persons_of}
use Rattle.ld_roles.specs.Persons.{PersonState, Persons, changed_at, holds_role, newcomer, with_role}
use Rattle.ld_roles.specs.Membership.{dropped, is_member_among, is_member_by, member_count}
use Rattle.ld_roles.specs.RoleBounds.{RoleBounds}
use Rattle.ld_expr.specs.Lookup.{is_some_and}
use Rattle.ld_roles.specs.Seats.{new_row, with_held}

none_held : (n other : ℕ) → get_or (replicate n false) other false ≡ false
none_held zero other = refl
none_held (suc n) zero = refl
none_held (suc n) (suc other) = none_held n other

-- Who is new holds no role.
pub person_new : (roles : List RoleBounds) (name : List ℕ) → person_of (new_row roles name) ≡ newcomer name
person_new roles name = (λ i. record { name = name; holds = λ other. none_held (length roles) other i })

held_set : (held : List Bool) (role other : ℕ) (b : Bool) → role < length held → get_or (set held role b) other false ≡ (if nat_eq other role then b else get_or held other false)
held_set held role other b within = by (nat_eq other role) refl
  where
    by : (same : Bool) → nat_eq other role ≡ same → get_or (set held role b) other false ≡ (if nat_eq other role then b else get_or held other false)
    by true same =
        let is : other ≡ role = eqb-true other role same in
        rw (same, is) (get_or-set_same held role b false within)
    by false same = rw same (get_or-set_other held role other b false (eqb-false other role same))

person_held : (row : PersonRow) (role : ℕ) (b : Bool) → role < length row.held → person_of (with_held role b row) ≡ with_role role b (person_of row)
person_held row role b within = (λ i. record { name = row.name; holds = λ other. held_set row.held role other b within i })

-- The persons, once a role is held or not.
pub persons_changed : (rows : List PersonRow) (p role : ℕ) (b : Bool) (row : PersonRow) → slice_get rows p ≡ Some row → role < length row.held → persons_of (changed_at (with_held role b) p rows) ≡ changed_at (with_role role b) p (persons_of rows)
persons_changed [] p role b row there within = refl
persons_changed (first ∷ rows) zero role b row there within =
    let same : first ≡ row = cc in
    ap (λ person. person ∷ persons_of rows) (person_held first role b (rw same within))
persons_changed (first ∷ rows) (suc p) role b row there within =
    ap (λ persons. person_of first ∷ persons) (persons_changed rows p role b row there within)

row_back : (row : PersonRow) (role : ℕ) (b c : Bool) → held_in row.held role ≡ b → with_held role b (with_held role c row) ≡ row
row_back row role b c was =
    ap (λ held. record { name = row.name; held = held }) (set-set row.held role c b ∙ ap (λ each. set row.held role each) (sym was) ∙ set-get_or row.held role false)

-- A change that is rolled back.
pub changed_back : (rows : List PersonRow) (p role : ℕ) (b c : Bool) → p < length rows → holds_role (persons_of rows) role p ≡ b → changed_at (with_held role b) p (changed_at (with_held role c) p rows) ≡ rows
changed_back [] p role b c within was = refl
changed_back (row ∷ rows) zero role b c within was = ap (λ first. first ∷ rows) (row_back row role b c was)
changed_back (row ∷ rows) (suc p) role b c within was = ap (λ rest. row ∷ rest) (changed_back rows p role b c (omega arith) was)

pub length-changed_at : {A : Type 0} (change : A → A) (p : ℕ) (xs : List A) → length (changed_at change p xs) ≡ length xs
length-changed_at change p [] = refl
length-changed_at change zero (x ∷ xs) = refl
length-changed_at change (suc p) (x ∷ xs) = ap suc (length-changed_at change p xs)

-- ---- how many

-- One more.
pub count_more : {A : Type 0} (test : A → Bool) (xs : List A) (i : ℕ) (x : A) → slice_get xs i ≡ Some x → count_by test (take (i + 1) xs) ≡ count_by test (take i xs) + cond (test x) 1 0
count_more {A} test xs i x there = by (test x) refl
  where
    within : i < length xs
    within = slice_get_within xs i x there

    is : get_or xs i x ≡ x
    is = get_or_from_slice_get xs i x x there

    by : (passes : Bool) → test x ≡ passes → count_by test (take (i + 1) xs) ≡ count_by test (take i xs) + cond (test x) 1 0
    by true passes = rw passes (count_by_more_yes test xs i x within (ap test is ∙ passes))
    by false passes = rw passes (count_by_more_no test xs i x within (ap test is ∙ passes) ∙ omega arith)

-- Where one is changed, the count changes by that one.
pub count_changed : {A : Type 0} (test : A → Bool) (change : A → A) (p : ℕ) (xs : List A) (x : A) → slice_get xs p ≡ Some x → count_by test (changed_at change p xs) + cond (test x) 1 0 ≡ count_by test xs + cond (test (change x)) 1 0
count_changed test change p [] x there = cc
count_changed test change zero (y ∷ xs) x there =
    let same : y ≡ x = cc in
    let old = sum_by-cons (λ each. cond (test each) 1 0) x xs in
    let new = sum_by-cons (λ each. cond (test each) 1 0) (change x) xs in
    rw (same, old, new) (omega arith)
count_changed test change (suc p) (y ∷ xs) x there =
    let rest = count_changed test change p xs x there in
    let old = sum_by-cons (λ each. cond (test each) 1 0) y xs in
    let new = sum_by-cons (λ each. cond (test each) 1 0) y (changed_at change p xs) in
    rw (old, new) (omega arith)

-- Who is counted is one of the count.
pub count_some : {A : Type 0} (test : A → Bool) (p : ℕ) (xs : List A) (x : A) → slice_get xs p ≡ Some x → cond (test x) 1 0 ≤ count_by test xs
count_some test p [] x there = cc
count_some test zero (y ∷ xs) x there =
    let same : y ≡ x = cc in
    let all = sum_by-cons (λ each. cond (test each) 1 0) x xs in
    rw (same, all) (omega arith)
count_some test (suc p) (y ∷ xs) x there =
    let rest = count_some test p xs x there in
    let all = sum_by-cons (λ each. cond (test each) 1 0) y xs in
    rw all (omega arith)

-- One person more, who is a member or not.
pub counted_member : (roles : List RoleBounds) (persons : Persons) (role p : ℕ) → p < length persons → count_by (λ person. is_member_by roles person role) (take (p + 1) persons) ≡ count_by (λ person. is_member_by roles person role) (take p persons) + cond (is_member_among roles persons role p) 1 0
counted_member roles persons role p within =
    let person = get_or persons p (newcomer []) in
    let found : slice_get persons p ≡ Some person = slice_get-get_or persons p (newcomer []) within in
    count_more (λ each. is_member_by roles each role) persons p person found
    ∙ ap (λ is. count_by (λ each. is_member_by roles each role) (take p persons) + cond is 1 0) (sym (ap (λ each. is_some_and (λ one. is_member_by roles one role) each) found))

-- Once the person has dropped a role: the others, and the person if still a member.
pub counted_dropped : (roles : List RoleBounds) (persons : Persons) (role which p : ℕ) (is stays : Bool) (person : PersonState) → slice_get persons p ≡ Some person → is ≡ is_member_among roles persons role p → stays ≡ is_member_by roles (with_role which false person) role → (cond is 1 0 ≤ member_count roles persons role) × (member_count roles persons role - cond is 1 0 + cond stays 1 0 ≡ member_count roles (dropped persons which p) role)
counted_dropped roles persons role which p is stays person there was later =
    let test : PersonState → Bool = λ each. is_member_by roles each role in
    let now : is ≡ test person = was ∙ ap (λ each. is_some_and test each) there in
    let some : cond is 1 0 ≤ count_by test persons = rw now (count_some test p persons person there) in
    let change = count_changed test (with_role which false) p persons person there in
    let moved : count_by test (dropped persons which p) + cond is 1 0 ≡ count_by test persons + cond stays 1 0 = rw (now, later) change in
    (some, omega (arith, some, moved))

pub as_number : (b : Bool) → from_bool b ≡ cond b 1 0
as_number true = refl
as_number false = refl

-- Whose roles are held.
pub held_by : (rows : List PersonRow) (p : ℕ) (held : List Bool) → Some held ≡ option_map (λ row. row.held) (slice_get rows p) → (person : PersonState) × (slice_get (persons_of rows) p ≡ Some person) × (person.holds ≡ held_in held)
held_by rows p held is = by (slice_get rows p) refl
  where
    by : (found : Option PersonRow) → slice_get rows p ≡ found → (person : PersonState) × (slice_get (persons_of rows) p ≡ Some person) × (person.holds ≡ held_in held)
    by None found = let no : Some held ≡ None = is ∙ ap (option_map (λ row. row.held)) found in cc
    by (Some row) found =
        let there : slice_get (persons_of rows) p ≡ Some (person_of row) = slice_get-map person_of rows p ∙ ap (option_map person_of) found in
        let some : Some held ≡ Some row.held = is ∙ ap (option_map (λ row. row.held)) found in
        let same : row.held ≡ held = cc in
        (person_of row, there, ap held_in same)
