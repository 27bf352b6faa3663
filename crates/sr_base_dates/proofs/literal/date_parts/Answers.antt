use Rattle.std.proofs.Common.{arith, ap, ◌∙◌, pos, ◌+ℤ◌, unsigned_abs}
use Rattle.jiff_core.proofs.SignedLemmas.{signed_arith}
use Rattle.sr_base_dates.specs.Calendar.{date_at}
use Rattle.sr_base_dates.proofs.DateTexts.{year_of_count, parts_of_count}
use Rattle.sr_base_dates.proofs.literal.date_parts.Goals as goal

pub overflow_cast-result : goal.overflow_cast-result
overflow_cast-result c = let h = year_of_count c.from_days_since_min-date.result c.days.result c.days.ensures.range c.from_days_since_min-date.ensures in (omega (arith, signed_arith), omega arith)

pub returns : goal.returns
returns c = record {
  date = parts_of_count c.from_days_since_min-date.result c.days.result c.days.ensures.range c.from_days_since_min-date.ensures ∙ ap (λ n. date_at (unsigned_abs (n +ℤ pos 719162))) c.days.ensures.days;
}
