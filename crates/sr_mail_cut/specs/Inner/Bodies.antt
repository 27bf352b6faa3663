-- Bodies: transactions one after the other, with rising offsets.
-- Here is what no contract of the program says by itself.
use Rattle.std.specs.Prelude.{Bool, true, Option, Some, None, nat_lt}
use Rattle.sr_base.specs.declared.offset.Offset.{Offset}

-- whether an offset lies past the one before it, if there is one
abbrev pub lies_past : Offset → Option Offset → Bool
lies_past offset None = true
lies_past offset (Some before) = nat_lt before.0 offset.0
