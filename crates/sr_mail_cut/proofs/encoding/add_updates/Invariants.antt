use Rattle.std.proofs.Common.{◌≡◌, ◌++◌, length, take}
use Rattle.std.specs.Int.{w32, to_be_bytes}
use Rattle.std.specs.List.{flat_map}
use Rattle.sr_logform.specs.Ops.{update_spelling}
use Rattle.sr_mail_cut.proofs.encoding.add_updates.Given as goal

abbrev pub invariant-loop-update : goal.invariant-loop-update
invariant-loop-update l = record {
  room : l.encoded.room ≡ l.fn.encoded.room;
  bytes : l.encoded.bytes ≡ l.fn.encoded.bytes ++ to_be_bytes w32 (length l.updates) ++ flat_map update_spelling (take l.update-index l.updates);
}
