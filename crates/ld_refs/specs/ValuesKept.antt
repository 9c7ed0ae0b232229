-- That the values of a property are those of its texts, and none is lost on the way.
use Rattle.std.specs.Prelude.{◌≡◌, IfSome, is_some, length}
use Rattle.ld_model.specs.declared.property.Property.{Property}
use Rattle.ld_model.specs.declared.property.Restrictions.{Restrictions as RestrictionTexts}
use Rattle.ld_model.specs.Properties.{initial_of, limits_by}
use Rattle.ld_value.specs.Values.{Restrictions}

-- There is a bound where there is a text of one, and there are as many listed values as listed texts.
pub record KeepsLimits (limits : Restrictions) (texts : RestrictionTexts) : Type 0 where
  pub least : is_some limits.least ≡ is_some texts.min_inclusive
  pub most : is_some limits.most ≡ is_some texts.max_inclusive
  pub listed : length limits.one_of ≡ length texts.enumeration

-- The property begins with a value where there is a text of one, and where it has restrictions these
-- keep their bounds and their listed values.
pub record KeepsValues (property : Property) : Type 0 where
  pub initial : is_some (initial_of property) ≡ is_some property.initial
  pub limits : IfSome property.restrictions (KeepsLimits (limits_by property property.restrictions))
