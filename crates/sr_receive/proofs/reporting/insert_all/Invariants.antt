use Rattle.std.proofs.Common.{◌≡◌, ◌+◌, ◌≤◌, length}
use Rattle.std.specs.Prelude.{vec_capacity, vec_len}
use Rattle.std.specs.Vec.Iter.{into_iter_items, into_iter_len}
use Rattle.sr_receive.proofs.Inserting.{IsInserting}
use Rattle.sr_receive.proofs.reporting.insert_all.Given as goal

-- the reports before those that are left are put after those of ops
abbrev pub invariant-reports : goal.invariant-reports
invariant-reports l = record {
  inserting : IsInserting l.at l.fn.reports.items l.fn.made.items (into_iter_items l.report-iterator) l.next l.reports.items;
  size : into_iter_len l.report-iterator ≡ length (into_iter_items l.report-iterator);
  room : vec_len l.reports + length (into_iter_items l.report-iterator) ≤ vec_capacity l.reports;
}
