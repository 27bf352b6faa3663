-- What lies in place where there is one of it, and in a list where there is not.
use Rattle.std.specs.Prelude.{List, [], ◌∷◌}
use Rattle.sr_query.specs.declared.rank.Held.{Held as Ranks}
use Rattle.sr_query.specs.declared.rank.Held.TheVariants.{One, Two, Many}
use Rattle.sr_query.specs.declared.rank.Rank.{Rank}

-- the ranks of a row, as it holds them
abbrev pub held_ranks : Ranks → List Rank
held_ranks (One rank) = rank ∷ []
held_ranks (Two pair) = pair
held_ranks (Many ranks) = ranks
