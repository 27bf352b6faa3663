use Rattle.std.proofs.Common.{◌≤◌, length}
use Rattle.std.specs.List.{flat_map}
use Rattle.sr_base.specs.Fields.{bytes_spelling}
use Rattle.sr_snapshot.proofs.Puts.{Putting}
use Rattle.sr_snapshot.specs.Parts.{longest}
use Rattle.sr_snapshot.proofs.putting.put_texts.Given as goal

abbrev pub invariant-texts : goal.invariant-texts
invariant-texts g l = record {
  putting : Putting l.file (flat_map bytes_spelling l.texts) (flat_map bytes_spelling l.left) (g.S.Held.seen l.fn.site) (g.S.Held.seen l.site) l.fn.out.buffer.items l.out.buffer.items l.out.place;
  short : length (flat_map bytes_spelling l.left) ≤ longest;
}

abbrev pub decreases-texts : goal.decreases-texts
decreases-texts g l = length l.left
