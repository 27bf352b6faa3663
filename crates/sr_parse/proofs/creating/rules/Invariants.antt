use Rattle.std.proofs.Common.{◌≡◌, ◌≤◌, length, true}
use Rattle.sr_parse.proofs.Rulings.{Rules-on}
use Rattle.sr_parse.proofs.creating.rules.Given as goal

abbrev pub invariant-more : goal.invariant-more
invariant-more l = record {
  reads : Rules-on l.fn.reader l.reader l.not_null l.null l.primary;
  single : l.primary ≡ true → l.may_be_key ≡ true;
  less : length l.reader ≤ length l.fn.reader;
}

abbrev pub decreases-more : goal.decreases-more
decreases-more l = length l.reader
