-- What is done with two databases, one after the other.
-- Here is what no contract of the program says by itself.
use Rattle.std.specs.Prelude.{List, [], ◌∷◌, ◌++◌}
use Rattle.std.specs.List.{flat_map}
use Rattle.test_lives.specs.declared.deeds.Deed.{Deed}
use Rattle.test_lives.specs.declared.deeds.Deed.TheVariants.{Run, Stopped, Crash, Lose, Repeat, Hold, Release}
use Rattle.test_lives.specs.declared.place.Place.{Place}
use Rattle.test_lives.specs.declared.place.Place.TheVariants.{Above, Below}

-- whose run it is, where it is one
abbrev pub places_of : Deed → List Place
places_of (Run place words script) = place ∷ []
places_of (Stopped place words script calls) = place ∷ []
places_of (Crash place pick) = []
places_of (Lose to name) = []
places_of (Repeat to name as_name) = []
places_of (Hold to name) = []
places_of Release = []

-- whose runs these are, in order
abbrev pub places_in : List Deed → List Place
places_in deeds = flat_map places_of deeds

-- until the first row has come
abbrev pub beginning_runs : List Place
beginning_runs = Above ∷ Below ∷ Above ∷ Above ∷ Above ∷ Below ∷ Above ∷ []

-- until the second update has clashed
abbrev pub conflict_runs : List Place
conflict_runs = Below ∷ Above ∷ Below ∷ Above ∷ Below ∷ Above ∷ Below ∷ Below ∷ Above ∷ Below ∷ []

-- until the row has left its partition
abbrev pub leaving_runs : List Place
leaving_runs = Above ∷ Above ∷ Below ∷ []

-- until the lost file is made good
abbrev pub loss_runs : List Place
loss_runs = Above ∷ Above ∷ Above ∷ Above ∷ Below ∷ Above ∷ Below ∷ Below ∷ Below ∷ []

-- until the second table is there
abbrev pub paper_runs : List Place
paper_runs = Above ∷ Below ∷ []

-- until the transaction in two files is taken
abbrev pub fragment_runs : List Place
fragment_runs = Above ∷ Below ∷ Below ∷ Below ∷ []

-- whose runs the life has, in order; between the last two the second table is filled
abbrev pub whose_runs : List Place
whose_runs = beginning_runs ++ conflict_runs ++ leaving_runs ++ loss_runs ++ paper_runs ++ (Above ∷ []) ++ fragment_runs
