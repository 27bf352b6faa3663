-- Where there is no column, no value is named for it.
use Rattle.std.proofs.Common.{◌≡◌, List, [], ◌∷◌, None, refl}
use Rattle.sr_base.specs.declared.value.Value.{Value as Cell}
use Rattle.sr_book.specs.Entries.{Name}
use Rattle.sr_database_history.specs.Fitting.{fitted_in}

pub nothing_fits : (values : List (Name × Cell)) → None ≡ fitted_in values None
nothing_fits [] = refl
nothing_fits (v ∷ values) = refl
