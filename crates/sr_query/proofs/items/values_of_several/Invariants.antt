use Rattle.std.proofs.Common.{◌≡◌, map, drop}
use Rattle.sr_exec_dml.specs.Inner.Edits.{prefixed}
use Rattle.sr_exec_dml.specs.Sequences.{each}
use Rattle.sr_eval.specs.Inner.Bounds.{values_of}
use Rattle.sr_eval.specs.Inner.Resolving.{resolution_of}
use Rattle.sr_query.specs.Inner.Preparing.{value_by}
use Rattle.sr_query.specs.Inner.Walks.{bounds_of}
use Rattle.sr_query.proofs.items.values_of_several.Given as goal

abbrev pub invariant-parts : goal.invariant-parts
invariant-parts l = prefixed l.values.items (each (λ r. value_by r (values_of (bounds_of l.combination))) (map resolution_of (drop l.part-index l.parts)))
    ≡ each (λ r. value_by r (values_of (bounds_of l.combination))) (map resolution_of l.parts)
