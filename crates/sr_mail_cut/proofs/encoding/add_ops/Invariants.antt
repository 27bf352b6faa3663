use Rattle.std.proofs.Common.{◌≡◌, ◌++◌, length, take}
use Rattle.std.specs.Int.{w32, to_be_bytes}
use Rattle.std.specs.List.{flat_map}
use Rattle.sr_logform.specs.Ops.{op_spelling}
use Rattle.sr_mail_cut.proofs.encoding.add_ops.Given as goal

abbrev pub invariant-loop-op : goal.invariant-loop-op
invariant-loop-op l = record {
  room : l.encoded.room ≡ l.fn.encoded.room;
  bytes : l.encoded.bytes ≡ l.fn.encoded.bytes ++ to_be_bytes w32 (length l.ops) ++ flat_map op_spelling (take l.op-index l.ops);
}
