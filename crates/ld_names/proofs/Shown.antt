-- Each thing of a unit that can be shown and hidden says whether it is visible at first.
use Rattle.std.proofs.Common.{◌≡◌, ◌∙◌, refl, sym, subst, ℕ, List, [], ◌∷◌, get_or, slice_get, Some, true, false, is_some, All}
use Rattle.std.proofs.lemmas.List.Elements.{All-nil, All-cons, All-append, All-get_or}
use Rattle.std.proofs.lemmas.Option.{slice_get_within, slice_get-get_or}
use Rattle.ld_model.specs.declared.unit.Unit.{Unit}
use Rattle.ld_walk.specs.declared.kind.Kind.TheVariants as kind
use Rattle.ld_walk.specs.Kinds.{has_visibility}
use Rattle.ld_walk.specs.Parts.{What, Declares, Part}
use Rattle.ld_parts.specs.Listing.{parts_of}
use Rattle.ld_parts.proofs.EachPart.{Each, HoldsOfAll, is_declared, first_of, rest_of, each_part}
use Rattle.ld_names.specs.Things.{Entry, thing_in, things_in, things_of}

-- The thing says whether it is visible at first, if it can be shown and hidden.
abbrev SaysShown : Entry → Type 0
SaysShown entry = has_visibility (kind.Thing entry.place) ≡ true → is_some entry.visible ≡ true

-- The same of each thing that is declared at a place.
abbrev AllSay : What → Type 0
AllSay what = All SaysShown (thing_in what)

all_say : HoldsOfAll AllSay
all_say = record {
  things = record {
    other = other;
    shown = λ place id visible is. All-cons SaysShown _ [] (λ _. refl) (All-nil SaysShown);
    unshown = λ place id hidden. All-cons SaysShown _ [] (λ shown. cc) (All-nil SaysShown);
  };
  whole = λ id. All-nil SaysShown;
  role = λ id. All-nil SaysShown;
  property = λ id. All-nil SaysShown;
}
  where
    other : (what : What) → is_declared what ≡ false → AllSay what
    other (Declares _ _ _) plain = cc
    other _ plain = All-nil SaysShown

all_among : (parts : List Part) → Each AllSay parts → All SaysShown (things_in parts)
all_among [] each = All-nil SaysShown
all_among (part ∷ parts) each =
    All-append SaysShown (thing_in part.what) (things_in parts) (first_of AllSay each) (all_among parts (rest_of AllSay each))

-- The thing of this number says whether it is visible at first, if it can be shown and hidden.
pub thing_shown : (unit : Unit) (n : ℕ) (entry : Entry) → slice_get (things_of unit) n ≡ Some entry
    → has_visibility (kind.Thing entry.place) ≡ true → is_some entry.visible ≡ true
thing_shown unit n entry at =
    let below = slice_get_within (things_of unit) n entry at in
    let same : Some (get_or (things_of unit) n entry) ≡ Some entry = sym (slice_get-get_or (things_of unit) n entry below) ∙ at in
    let is : get_or (things_of unit) n entry ≡ entry = cc in
    subst SaysShown is
    (All-get_or SaysShown (things_of unit) n entry below (all_among (parts_of unit) (each_part AllSay all_say unit)))
