-- What is reported of a transaction that was taken.
-- Here is what no contract of the program says by itself.
use Rattle.std.specs.Prelude.{List, []}
use Rattle.sr_book.specs.Entries.{Name}
use Rattle.sr_logform.specs.declared.entry.Entry.{Entry}
use Rattle.sr_logform.specs.declared.entry.Entry.TheVariants.{Own, From, Ddl, Sync, Pass, Note}
use Rattle.sr_receive_gather.specs.declared.report.Report.{Report}
use Rattle.sr_receive.specs.Reports.{outcome_reports}

-- what is reported of an entry
abbrev pub entry_reports : Name → Entry → List Report
entry_reports user (Own changes) = []
entry_reports user (From other at ops) = outcome_reports user at 1 ops
entry_reports user (Ddl text) = []
entry_reports user (Sync other tables) = []
entry_reports user (Pass users only text changes) = []
entry_reports user (Note other what) = []
