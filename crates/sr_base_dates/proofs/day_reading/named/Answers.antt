use Rattle.std.proofs.Common.{sym, ◌∙◌}
use Rattle.sr_base_dates.proofs.DateTexts.{named_parts}
use Rattle.sr_base_dates.proofs.day_reading.named.Goals as goal

pub returns : goal.returns
returns c = record {
  day = c.calendar_day.ensures.day ∙ sym (named_parts c.args.bytes.now _ _ _ _ c.in-len10.len_at_least c.in-len10.len_below c.in_ok-century.ensures.number c.in_ok-year.ensures.number c.in_ok-month.ensures.number c.in_ok-day.ensures.number c.if-dash-ne45.false c.if-later_dash-ne45.false);
}
