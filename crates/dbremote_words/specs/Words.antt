-- What a command finds in words.
use Rattle.std.specs.Prelude.{List, [], ◌∷◌, Option, Some, None}
use Rattle.clap.specs.Words.{App, Row, Text, Kinds, fault_of, matches_of}

-- what was found, unless there is a fault
abbrev pub unless : Kinds → List Row → Option (List Row)
unless [] rows = Some rows
unless (fault ∷ faults) rows = None

-- what clap finds for each argument of a command in words, of which the first is the command's own; none where it refuses them
unfoldable pub found : App → List Text → Option (List Row)
found command words = unless (fault_of command words) (matches_of command words)
