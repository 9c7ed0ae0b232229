use Rattle.std.specs.Prelude.{Bool, List}

-- a row of lamps and the marks of their sites
pub record Row : Type 0 where
  pub lit : List Bool
  pub marks : List Bool
