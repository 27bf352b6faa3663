use Rattle.std.proofs.Common.{◌+◌, ◌*◌, ◌≤◌, length}
use Rattle.sr_parse_grammar.specs.Inner.Going.{Stop, action_starts}
use Rattle.sr_parse_reader.proofs.Loops.{Filed}
use Rattle.sr_parse.proofs.Acted.{Ended}
use Rattle.sr_parse.proofs.acting.+acting.Given as goal

abbrev pub decreases-actions : goal.decreases-actions
decreases-actions l = 2 * l.ifs + 1

abbrev pub decreases-action : goal.decreases-action
decreases-action l = 2 * l.ifs

abbrev pub invariant-actions-more : goal.invariant-actions-more
invariant-actions-more l = record {
  reads : Filed (Ended l.ifs) (Stop action_starts) l.fn.reader l.reader l.actions.items;
  less : length l.reader ≤ length l.fn.reader;
}

abbrev pub decreases-actions-more : goal.decreases-actions-more
decreases-actions-more l = length l.reader
