-- How the properties of a unit that have a uri are declared in the store.
use Rattle.std.specs.Prelude.{ℕ, ◌+◌, ◌-◌, List, [], ◌∷◌, flat_map, slice_get, Option, Some, None, is_some, nat_eq, if◌then◌else◌}
use Rattle.std.specs.Option.{option_map_or}
use Rattle.ld_model.specs.declared.property.Property.{Property}
use Rattle.ld_globals.specs.Declarations.{Declaration}
use Rattle.ld_sharing.specs.StoreView.{declaration_by}

-- The uri with the declaration, if there is a uri.
abbrev pub pairs_with : Option (List ℕ) → Declaration → List (List ℕ × Declaration)
pairs_with None declaration = []
pairs_with (Some uri) declaration = (uri, declaration) ∷ []

-- Each uri of the properties, with how it is declared.
abbrev pub pairs_by : List Property → List (List ℕ × Declaration)
pairs_by properties = flat_map (λ property. pairs_with property.uri (declaration_by property)) properties

-- The number of the property that has the uri of this place among all uris, where the first property has this
-- number.
abbrev pub uri_property_number : ℕ → ℕ → List Property → ℕ
uri_property_number n place [] = n
uri_property_number n place (property ∷ properties) =
    if is_some property.uri
    then (if nat_eq place 0 then n else uri_property_number (n + 1) (place - 1) properties)
    else uri_property_number (n + 1) place properties

-- The uri of the property of this number, if there is one, with how it is declared.
abbrev pub pairs_at : List Property → ℕ → List (List ℕ × Declaration)
pairs_at properties n =
    option_map_or (λ property. pairs_with property.uri (declaration_by property)) (slice_get properties n) []
