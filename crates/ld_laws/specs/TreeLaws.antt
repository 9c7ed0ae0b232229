-- What a person's tree tells, and of what it does not tell.
use Rattle.std.specs.Prelude.{◌≡◌, ℕ, List, [], ◌∷◌, Some, true, false, codes, slice_get, Contains}
use Rattle.std.specs.Str.{bytes_eq}
use Rattle.ld_model.specs.declared.unit.Unit.{Unit}
use Rattle.ld_names.specs.Names.{names_of}
use Rattle.ld_expr.specs.Done.{is_done}
use Rattle.ld_expr.specs.Membership.{is_member_of}
use Rattle.ld_expr.specs.Owners.{of_person}
use Rattle.ld_expr.specs.Seen.{Seen}
use Rattle.ld_rules.specs.Reach.{is_mine}
use Rattle.ld_tree.specs.Lines.{TreeLine}
use Rattle.ld_tree.specs.Tree.{is_act_opened, is_open, is_visible, tree_lines}
use Rattle.ld_laws.specs.LineWords.{IsTheirActivity, IsTheirs, is_activity_word}

-- Each line of a person's tree that speaks of an activity, `activity ID STATE` or `support ID STATE`, says `done`
-- exactly where the activity is done for the person.
abbrev pub TreeTellsDone : Type 0
TreeTellsDone =
    (unit : Unit) (seen : Seen) (p : ℕ) (line : TreeLine) (word id state : List ℕ)
    → Contains (tree_lines unit seen p) line → is_activity_word word ≡ true → line.words ≡ word ∷ id ∷ state ∷ []
    → bytes_eq state (codes "done") ≡ is_done unit seen (of_person p) id

-- What is open for a person is not done for the person.
abbrev pub OpenIsNotDone : Type 0
OpenIsNotDone =
    (unit : Unit) (seen : Seen) (p thing : ℕ) (id : List ℕ) → slice_get (names_of unit).things thing ≡ Some id
    → is_open unit seen p thing ≡ true → is_done unit seen (of_person p) id ≡ false

-- What is open for a person is the person's, by a role-part of an opened act, of whose role the person is a member.
abbrev pub OpenIsTheirs : Type 0
OpenIsTheirs =
    (unit : Unit) (seen : Seen) (p thing : ℕ) (id : List ℕ) → slice_get (names_of unit).things thing ≡ Some id
    → is_open unit seen p thing ≡ true → IsTheirActivity unit seen p id

-- What is the person's so is the person's in the words of rules.
abbrev pub TheirsIsMine : Type 0
TheirsIsMine =
    (unit : Unit) (seen : Seen) (p : ℕ) (name : List ℕ) → IsTheirs unit seen p name → is_mine unit seen name p ≡ true

-- ---- whose tree it is

-- The person is shown the same in both: what is visible and what is done for the person, which acts are opened, and
-- of which roles the person is a member.
pub record ShowsSame (unit : Unit) (a b : Seen) (p : ℕ) : Type 0 where
  pub visible : (id : List ℕ) → is_visible unit a p id ≡ is_visible unit b p id
  pub completed : (id : List ℕ) → is_done unit a (of_person p) id ≡ is_done unit b (of_person p) id
  pub entered : (id : List ℕ) → is_act_opened unit a id ≡ is_act_opened unit b id
  pub member : (role : List ℕ) → is_member_of unit a role p ≡ is_member_of unit b role p

-- A person's tree tells of nothing else, and so of nothing that is another person's alone: where the person is shown
-- the same, the tree is the same, and the same is open.
abbrev pub TreeIsThePersons : Type 0
TreeIsThePersons =
    (unit : Unit) (a b : Seen) (p : ℕ) → ShowsSame unit a b p
    → (tree_lines unit a p ≡ tree_lines unit b p)
    × ((thing : ℕ) → is_open unit a p thing ≡ is_open unit b p thing)
