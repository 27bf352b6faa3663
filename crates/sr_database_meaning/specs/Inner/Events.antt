-- What a call did to the world, one thing after the other: entries that it committed, messages that it put.
-- Here is what no contract of the program says by itself.
use Rattle.std.specs.Prelude.{List, [], ◌∷◌}
use Rattle.sr_site.specs.Happenings.{Happening, attached, wrote, cut_to, synced, listed, fetched, sent, removed, handed_over}

-- these changed no file, put nothing, attached nothing, and are calls
abbrev pub AreQuiet : List Happening → Type 0
AreQuiet [] = Unit {0}
AreQuiet (attached name folder done ∷ before) = ⊥
AreQuiet (wrote file place bytes done after ∷ before) = ⊥
AreQuiet (cut_to file to done after ∷ before) = ⊥
AreQuiet (synced file done after ∷ before) = ⊥
AreQuiet (listed address folder listing ∷ before) = AreQuiet before
AreQuiet (fetched address name limit found ∷ before) = AreQuiet before
AreQuiet (sent address name bytes done ∷ before) = ⊥
AreQuiet (removed address name done ∷ before) = AreQuiet before
AreQuiet (handed_over folders noted ∷ before) = ⊥
