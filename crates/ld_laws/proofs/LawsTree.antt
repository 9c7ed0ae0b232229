-- What a person's tree says of activities: which are done is what the person's own marks say, and what is open is
-- the person's and not done.
use Rattle.std.proofs.Common.{◌≡◌, refl, sym, ap, ◌∙◌, ℕ, List, [], ◌∷◌, Bool, true, false, ◌&&◌, ◌||◌, codes, Contains, flat_map, slice_get, Some, inl, inr}
use Rattle.std.specs.List.{list_any}
use Rattle.std.specs.Str.{bytes_eq}
use Rattle.std.proofs.lemmas.Bool.{or_cases}
use Rattle.std.proofs.lemmas.Slice.Eq.{bytes_eq-Decides}
use Rattle.ld_model.specs.declared.method.Act.{Act}
use Rattle.ld_model.specs.declared.method.Play.{Play}
use Rattle.ld_model.specs.declared.method.RolePart.{RolePart}
use Rattle.ld_model.specs.declared.unit.Unit.{Unit}
use Rattle.ld_names.specs.Names.{names_of}
use Rattle.ld_expr.specs.Done.{is_done}
use Rattle.ld_expr.specs.Lookup.{is_some_and}
use Rattle.ld_expr.specs.Membership.{is_member_of}
use Rattle.ld_expr.specs.Owners.{of_person}
use Rattle.ld_expr.specs.Seen.{Seen}
use Rattle.ld_rules.specs.Reach.{reaches, role_parts_of, is_mine}
use Rattle.ld_state.proofs.Elements.{IsIn, in_flat_map, in_from_contains, different}
use Rattle.ld_rules.proofs.Reaching.{any_of, stands_below_means}
use Rattle.ld_tree.specs.Lines.{TreeLine, same_words}
use Rattle.ld_tree.specs.Tree.{status_by, status_word, tells_open, is_open, tree_lines}
use Rattle.ld_laws.specs.LineWords.{is_activity_word, IsTheirs, IsTheirActivity}
use Rattle.ld_laws.proofs.EachLine.{TellsActivities, TellsOthers, each_in, each_line}

-- A line of an activity, by its words.
record SpeaksOf (id state : List ℕ) (line : TreeLine) : Type 0 where
  word : List ℕ
  begins : is_activity_word word ≡ true
  words : line.words ≡ word ∷ id ∷ state ∷ []

-- What is true of each line of an activity.
abbrev OfActivities : (List ℕ → List ℕ → Type 0) → TreeLine → Type 0
OfActivities Q line = (id state : List ℕ) → SpeaksOf id state line → Q id state

silent : (Q : List ℕ → List ℕ → Type 0) → TellsOthers (OfActivities Q)
silent Q line word rest other words id state speaks =
    let same : word ≡ speaks.word = by words speaks.words in
    different (sym speaks.begins ∙ sym (ap is_activity_word same) ∙ other)
  where
    by : {w v : List ℕ} {ws vs : List (List ℕ)} → line.words ≡ w ∷ ws → line.words ≡ v ∷ vs → w ≡ v
    by one two = cc

-- ---- what is done

word_tells : (is_it flag : Bool) → bytes_eq (status_word (status_by is_it flag)) (codes "done") ≡ is_it
word_tells true flag = refl
word_tells false true = refl
word_tells false false = refl

abbrev TellsDone : Unit → Seen → ℕ → List ℕ → List ℕ → Type 0
TellsDone unit seen p id state = bytes_eq state (codes "done") ≡ is_done unit seen (of_person p) id

tells_done : (unit : Unit) (seen : Seen) (p : ℕ) → TellsActivities unit seen p (OfActivities (TellsDone unit seen p))
tells_done unit seen p depth flag name activity named theirs id state speaks =
    let word = status_word (status_by (is_done unit seen (of_person p) activity.identifier) flag) in
    let same_id : activity.identifier ≡ id = by speaks.words in
    let same_state : word ≡ state = by_state speaks.words in
    ap (λ text. bytes_eq text (codes "done")) (sym same_state) ∙ word_tells (is_done unit seen (of_person p) activity.identifier) flag ∙ ap (is_done unit seen (of_person p)) same_id
  where
    by : {w v x y s t : List ℕ} → w ∷ x ∷ s ∷ [] ≡ v ∷ y ∷ t ∷ [] → x ≡ y
    by one = cc

    by_state : {w v x y s t : List ℕ} → w ∷ x ∷ s ∷ [] ≡ v ∷ y ∷ t ∷ [] → s ≡ t
    by_state one = cc

-- Each line of a person's tree that speaks of an activity, `activity ID STATE` or `support ID STATE`, says `done`
-- exactly where the person's own mark says that the activity is.
pub tree_tells_done : (unit : Unit) (seen : Seen) (p : ℕ) (line : TreeLine) (word id state : List ℕ) → Contains (tree_lines unit seen p) line
    → is_activity_word word ≡ true → line.words ≡ word ∷ id ∷ state ∷ []
    → bytes_eq state (codes "done") ≡ is_done unit seen (of_person p) id
tree_tells_done unit seen p line word id state there begins words =
    each_in (OfActivities (TellsDone unit seen p)) (tree_lines unit seen p) line
    (each_line unit seen p (OfActivities (TellsDone unit seen p)) (tells_done unit seen p) (silent (TellsDone unit seen p)))
    (in_from_contains (tree_lines unit seen p) line there) id state (record { word = word; begins = begins; words = words })

-- ---- what is open

abbrev TellsTheirs : Unit → Seen → ℕ → List ℕ → List ℕ → Type 0
TellsTheirs unit seen p id state = IsTheirActivity unit seen p id

tells_theirs : (unit : Unit) (seen : Seen) (p : ℕ) → TellsActivities unit seen p (OfActivities (TellsTheirs unit seen p))
tells_theirs unit seen p depth flag name activity named theirs id state speaks = record {
  name = name;
  activity = activity;
  named = named;
  identified = by speaks.words;
  theirs = theirs;
}
  where
    by : {w v x y s t : List ℕ} → w ∷ x ∷ s ∷ [] ≡ v ∷ y ∷ t ∷ [] → x ≡ y
    by one = cc

same_texts : (a b : List (List ℕ)) → same_words a b ≡ true → a ≡ b
same_texts [] [] same = refl
same_texts [] (y ∷ ys) same = different (sym same)
same_texts (x ∷ xs) [] same = different (sym same)
same_texts (x ∷ xs) (y ∷ ys) same =
    let parts = both_true (bytes_eq x y) (same_words xs ys) same in
    λ i. (bytes_eq-Decides x y).0 parts.0 i ∷ same_texts xs ys parts.1 i
  where
    both_true : (b c : Bool) → (b && c) ≡ true → (b ≡ true) × (c ≡ true)
    both_true true c is = (refl, is)
    both_true false c is = different (sym is)

opens_line : (id : List ℕ) (line : TreeLine) → tells_open id line ≡ true → SpeaksOf id (codes "open") line
opens_line id line tells = elim (or_cases (same_words line.words (codes "activity" ∷ id ∷ codes "open" ∷ [])) (same_words line.words (codes "support" ∷ id ∷ codes "open" ∷ [])) tells) [
  | inl one ↦ record { word = codes "activity"; begins = refl; words = same_texts line.words (codes "activity" ∷ id ∷ codes "open" ∷ []) one }
  | inr other ↦ record { word = codes "support"; begins = refl; words = same_texts line.words (codes "support" ∷ id ∷ codes "open" ∷ []) other }
]

-- The line that says that it is open.
open_line : (unit : Unit) (seen : Seen) (p thing : ℕ) (id : List ℕ) → slice_get (names_of unit).things thing ≡ Some id → is_open unit seen p thing ≡ true → (line : TreeLine) × Contains (tree_lines unit seen p) line × (tells_open id line ≡ true)
unfolding is_open
open_line unit seen p thing id named is =
    any_of (tells_open id) (tree_lines unit seen p)
    (ap (is_some_and (λ one. list_any (tells_open one) (tree_lines unit seen p))) (sym named) ∙ is)

-- What is open for a person is not done for the person.
pub open_is_not_done : (unit : Unit) (seen : Seen) (p thing : ℕ) (id : List ℕ) → slice_get (names_of unit).things thing ≡ Some id → is_open unit seen p thing ≡ true → is_done unit seen (of_person p) id ≡ false
open_is_not_done unit seen p thing id named is =
    let found = open_line unit seen p thing id named is in
    let speaks = opens_line id found.0 found.2 in
    sym (tree_tells_done unit seen p found.0 speaks.word id (codes "open") found.1 speaks.begins speaks.words)

-- It is the person's, by a role-part of an opened act, of whose role the person is a member.
pub open_is_theirs : (unit : Unit) (seen : Seen) (p thing : ℕ) (id : List ℕ) → slice_get (names_of unit).things thing ≡ Some id → is_open unit seen p thing ≡ true → IsTheirActivity unit seen p id
open_is_theirs unit seen p thing id named is =
    let found = open_line unit seen p thing id named is in
    each_in (OfActivities (TellsTheirs unit seen p)) (tree_lines unit seen p) found.0
    (each_line unit seen p (OfActivities (TellsTheirs unit seen p)) (tells_theirs unit seen p) (silent (TellsTheirs unit seen p)))
    (in_from_contains (tree_lines unit seen p) found.0 found.1) id (codes "open") (opens_line id found.0 found.2)

any_in : {A : Type 0} (test : A → Bool) (xs : List A) (x : A) → IsIn xs x → test x ≡ true → list_any test xs ≡ true
any_in test [] x there passes = absurd there
any_in test (y ∷ ys) x (inl is) passes = ap (λ b. b || list_any test ys) (ap test is ∙ passes)
any_in test (y ∷ ys) x (inr there) passes = ap (λ b. test y || b) (any_in test ys x there passes) ∙ last (test y)
  where
    last : (b : Bool) → (b || true) ≡ true
    last true = refl
    last false = refl

-- What is theirs is the person's in the words of rules.
pub theirs_is_mine : (unit : Unit) (seen : Seen) (p : ℕ) (name : List ℕ) → IsTheirs unit seen p name → is_mine unit seen name p ≡ true
theirs_is_mine unit seen p name theirs =
    any_in (λ (part : RolePart). reaches unit part name && is_member_of unit seen part.role p) (role_parts_of unit) theirs.part
    (in_flat_map (λ (play : Play). flat_map (λ (act : Act). act.role_parts) play.acts) unit.method.plays theirs.play theirs.part
    (in_from_contains unit.method.plays theirs.play theirs.in_unit)
    (in_flat_map (λ (act : Act). act.role_parts) theirs.play.acts theirs.act theirs.part
    (in_from_contains theirs.play.acts theirs.act theirs.in_play)
    (in_from_contains theirs.act.role_parts theirs.part theirs.in_act)))
    (ap (λ b. b && is_member_of unit seen theirs.part.role p) ((stands_below_means unit name theirs.part.target).1 theirs.below) ∙ theirs.member)
