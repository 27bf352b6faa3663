-- What a command finds in words.
-- Here is what no contract of the program says by itself.
use Rattle.std.specs.Prelude.{List, Bool, true, false}
use Rattle.clap.specs.Words.{App, Row, found_of, is_simple_and_free, rows_of}
use Rattle.clap.specs.declared.error.kind.ErrorKind.{ErrorKind}
use Rattle.clap.specs.declared.error.kind.ErrorKind.TheVariants.{OutOfMemory}
use Rattle.clap.specs.declared.parser.matches.ArgMatches.{ArgMatches}

-- what was found for each argument
abbrev pub rows_in : ArgMatches → List Row
rows_in matches = rows_of (found_of matches)

-- a command of which clap says in every case what it makes of words
unfoldable pub is_known : App → Bool
is_known command = is_simple_and_free command

-- the parse failed for want of memory
abbrev pub is_for_memory : ErrorKind → Bool
is_for_memory OutOfMemory = true
is_for_memory _ = false
