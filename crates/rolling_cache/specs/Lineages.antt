-- What is noted of the generations before one.
use Rattle.std.specs.Prelude.{List, [], ◌∷◌}
use Rattle.rolling_cache.specs.Eras.{Era, era_of}
use Rattle.rolling_cache.specs.declared.lineage.Origin.{Origin}
use Rattle.rolling_cache.specs.declared.lineage.Origin.TheVariants.{First, HandedOn}

abbrev pub eras_of : Origin → List Era
eras_of First = []
eras_of (HandedOn before told carried) = era_of told.value carried.value ∷ before.value
