-- What the program's parts stand for.
use Rattle.std.specs.Prelude.{List}
use Rattle.ld_walk.specs.declared.part.Typed.{Typed as CodeTyped}
use Rattle.ld_walk.specs.declared.part.Typed.TheVariants.{Declared as DeclaredIn, ValueOf as ValueOfIn, OfRun as OfRunIn, Changed as ChangedIn, Tested as TestedIn}
use Rattle.ld_walk.specs.declared.part.What.{What as CodeWhat}
use Rattle.ld_walk.specs.declared.part.What.TheVariants.{Declares as DeclaresIn, Refers as RefersIn, Lists as ListsIn, Shares as SharesIn, Completes as CompletesIn, Follows as FollowsIn, Judges as JudgesIn, Leaf as LeafIn, LeftOut as LeftOutIn, Types as TypesIn, Other as OtherIn}
use Rattle.ld_walk.specs.declared.part.PartRow.{PartRow}
use Rattle.ld_walk.specs.PlaceRows.{place_at}
use Rattle.ld_walk.specs.Places.{At}
use Rattle.ld_walk.specs.Parts.{Part, Typed, Declared, ValueOf, OfRun, Changed, Tested, What, Declares, Refers, Lists, Shares, Completes, Follows, Judges, Leaf, LeftOut, Types, Other}

-- What is to have the right types, as the program's value tells it.
abbrev pub typed_of : CodeTyped → Typed
typed_of (DeclaredIn property) = Declared property.now
typed_of (ValueOfIn property text) = ValueOf property.now text.now
typed_of (OfRunIn property) = OfRun property.now
typed_of (ChangedIn by_run property value) = Changed by_run property.now value.now
typed_of (TestedIn test) = Tested test.now

-- What stands at a place, as the program's value tells it.
abbrev pub what_of : CodeWhat → What
what_of (DeclaresIn kind id visible) = Declares kind id.now visible
what_of (RefersIn wanted id) = Refers wanted id.now
what_of (ListsIn wanted ids) = Lists wanted ids.now
what_of (SharesIn uri) = Shares uri.now
what_of (CompletesIn kind) = Completes kind
what_of (FollowsIn completes) = Follows completes
what_of (JudgesIn condition) = Judges condition
what_of (LeafIn of_members) = Leaf of_members
what_of LeftOutIn = LeftOut
what_of (TypesIn typed) = Types (typed_of typed)
what_of OtherIn = Other

-- The part that a row stands for, among these places.
abbrev pub part_by : List At → PartRow → Part
part_by places row = record { at = place_at places row.at; level = row.level; what = what_of row.what }
