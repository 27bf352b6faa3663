use Rattle.std.proofs.Common.{◌≡◌, ◌<◌, ◌++◌, length}
use Rattle.sr_mail_cut.specs.Inner.Encodings.{parted, IsParted}
use Rattle.sr_mail_cut.proofs.encoded.pour.Given as goal

abbrev pub invariant-fragments : goal.invariant-fragments
invariant-fragments l = record {
  parts : IsParted l.room l.full.items l.left.items;
  bytes : parted l.full.items l.left.items ++ l.rest ≡ parted l.fn.full.items l.fn.left.items ++ l.bytes;
  filled : 0 < length l.rest → length l.left.items ≡ l.room;
}

abbrev pub decreases-fragments : goal.decreases-fragments
decreases-fragments l = length l.rest
