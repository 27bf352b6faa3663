use Rattle.std.proofs.Common.{◌≡◌, ◌++◌, length, take}
use Rattle.std.specs.Int.{w32, to_be_bytes}
use Rattle.std.specs.List.{flat_map, AllByRecursion}
use Rattle.sr_base.proofs.field_lists.write_items.Given as goal

-- The items so far are spelled, and each of them had a spelling.
abbrev pub invariant-loop-item : goal.invariant-loop-item
invariant-loop-item g l =
    (l.out.items ≡ l.fn.out.items ++ to_be_bytes w32 (length l.items) ++ flat_map g.T.Field.spelling (take l.item-index l.items))
    × AllByRecursion g.T.Field.fits (take l.item-index l.items)
