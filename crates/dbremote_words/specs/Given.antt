-- What the words give for one argument, where it may be that.
use Rattle.std.specs.Prelude.{ℕ, Bool, false, List, length, ◌&&◌, nat_le, codes, if◌then◌else◌, Option, Some, None}
use Rattle.std.specs.Option.{option_and_then, option_map_or}
use Rattle.std.specs.Str.{bytes_eq}
use Rattle.clap.specs.Words.{Row, Text, first_of}
use Rattle.sr_base.specs.Names.{is_name, lowered}
use Rattle.sr_mail_cut.specs.Cuts.{least_message, most_message}
use Rattle.dbremote_words.specs.Numbers.{number_within}

-- a flag is given: clap reads `true` for it
abbrev pub is_set : Text → List Row → Bool
is_set id rows = option_map_or (λ text. bytes_eq text (codes "true")) (first_of id rows) false

-- the name of a database's files, or of a folder: 1 to 255 bytes
abbrev pub is_place : Text → Bool
is_place name = nat_le 1 (length name) && nat_le (length name) 255

abbrev pub place : Text → Option Text
place name = if is_place name then Some name else None

abbrev pub given_place : Text → List Row → Option Text
given_place id rows = option_and_then place (first_of id rows)

-- a user is kept in lower case
abbrev pub user : Text → Option Text
user name = if is_name name then Some (lowered name) else None

abbrev pub given_user : List Row → Option Text
given_user rows = option_and_then user (first_of (codes "USER") rows)

-- the length of a message file, 50,000 bytes where none is given
abbrev pub length_or_usual : Option Text → Option ℕ
length_or_usual None = Some 50000
length_or_usual (Some number) = number_within least_message most_message number

abbrev pub given_length : List Row → Option ℕ
given_length rows = length_or_usual (first_of (codes "N") rows)

-- the seed of a demonstration, a number of 64 bits
abbrev pub given_seed : List Row → Option ℕ
given_seed rows = option_and_then (number_within 0 18446744073709551615) (first_of (codes "SEED") rows)

-- how many statements a demonstration has
abbrev pub given_count : List Row → Option ℕ
given_count rows = option_and_then (number_within 0 100000) (first_of (codes "COUNT") rows)
