-- The two databases.
-- Here is what no contract of the program says by itself.
use Rattle.std.specs.Prelude.{ℕ, List, [], ◌∷◌, codes}
use Rattle.sr_book.specs.Entries.{Name}
use Rattle.test_lives.specs.declared.place.Place.{Place}
use Rattle.test_lives.specs.declared.place.Place.TheVariants.{Above, Below}

-- the name of its publisher
abbrev pub name_at : Place → Name
name_at Above = codes "cons"
name_at Below = codes "r1"

abbrev pub both_names : List Name
both_names = name_at Above ∷ name_at Below ∷ []
