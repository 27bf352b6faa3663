-- What is hashed of a key.
use Rattle.std.specs.Prelude.{ℕ, List, [], ◌∷◌, ◌++◌}
use Rattle.std.specs.Hash as fed
use Rattle.sr_base.specs.declared.value.Value.{Value as Cell}
use Rattle.sr_base.specs.declared.value.Value.TheVariants.{Null, Int, Big, Str, Date}
use Rattle.sr_survey_places.specs.Inner.Keys.{rank_of, name_of}
use Rattle.sr_survey_places.specs.declared.key.Key.{Key}
use Rattle.sr_survey_places.specs.declared.key.Key.TheVariants.{Whole, Part, To, Text, From, Each}

-- what is hashed of a value: a number, or the bytes of a text
abbrev pub value_input : Cell → List (List ℕ)
value_input Null = []
value_input (Int n) = fed.i32 n
value_input (Big n) = fed.i64 n
value_input (Str bytes) = bytes ∷ []
value_input (Date day) = fed.i32 day

-- what is hashed of a key: its name, and its value or else its kind
abbrev pub key_input : Key → List (List ℕ)
key_input (Whole p) = p ∷ fed.u8 0
key_input (Part p v) = p ∷ value_input v
key_input (To u) = u ∷ fed.u8 2
key_input (Text u) = u ∷ fed.u8 3
key_input (From u) = u ∷ fed.u8 4
key_input Each = fed.u8 5
