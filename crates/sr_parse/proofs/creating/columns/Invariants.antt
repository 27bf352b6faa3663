use Rattle.std.proofs.Common.{◌≤◌, length}
use Rattle.sr_parse.proofs.Keyings.{Columns-on}
use Rattle.sr_parse.proofs.creating.columns.Given as goal

abbrev pub invariant-more : goal.invariant-more
invariant-more l = record {
  reads : Columns-on l.fn.reader l.reader l.columns.items l.key.items;
  less : length l.reader ≤ length l.fn.reader;
}

abbrev pub decreases-more : goal.decreases-more
decreases-more l = length l.reader
