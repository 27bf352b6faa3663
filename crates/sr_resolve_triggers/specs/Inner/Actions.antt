-- What the actions of a trigger do.
-- Here is what no contract of the program says by itself.
use Rattle.std.specs.Prelude.{List, ◌++◌, Option}
use Rattle.std.specs.Option.{option_map}

-- items that are there already before others, where those are there
abbrev pub after_items : {A : Type 0} → List A → Option (List A) → Option (List A)
after_items items others = option_map (λ xs. items ++ xs) others
