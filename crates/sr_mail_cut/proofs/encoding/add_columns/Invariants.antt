use Rattle.std.proofs.Common.{◌≡◌, ◌++◌, length, take}
use Rattle.std.specs.Int.{w32, to_be_bytes}
use Rattle.std.specs.List.{flat_map}
use Rattle.sr_logform.specs.Ops.{column_spelling}
use Rattle.sr_mail_cut.proofs.encoding.add_columns.Given as goal

abbrev pub invariant-loop-column : goal.invariant-loop-column
invariant-loop-column l = record {
  room : l.encoded.room ≡ l.fn.encoded.room;
  bytes : l.encoded.bytes ≡ l.fn.encoded.bytes ++ to_be_bytes w32 (length l.columns) ++ flat_map column_spelling (take l.column-index l.columns);
}
