-- What is made ready of a statement, column after column.
use Rattle.std.proofs.lemmas.List.{append-nil, append_assoc, map-append}

-- one more column
pub ruleset one_more = (map-append, append_assoc, append-nil)
