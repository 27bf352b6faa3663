use Rattle.std.proofs.Common.{◌-◌}
use Rattle.sr_survey_brief.proofs.Briefs.{Briefly}
use Rattle.sr_survey_brief.proofs.reading.so_many_in_brief.Given as goal

abbrev pub invariant-loop : goal.invariant-loop
invariant-loop l = Briefly l.count l.bytes l.items.items l.rest (l.count - l.counter)
