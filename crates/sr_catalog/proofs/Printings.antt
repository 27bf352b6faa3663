-- Texts printed one list after the other.
use Rattle.std.proofs.Common.{append_assoc}
use Rattle.std.proofs.lemmas.List.{map-append}

pub ruleset joined = (map-append, append_assoc)
