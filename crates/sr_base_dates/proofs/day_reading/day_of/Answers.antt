use Rattle.std.proofs.Common.{◌∙◌}
use Rattle.sr_base_dates.proofs.DateTexts.{only_day}
use Rattle.sr_base_dates.proofs.day_reading.day_of.Goals as goal

pub returns-clause-only : goal.returns-clause-only
returns-clause-only c = λ day is text. c.named.ensures.day ∙ only_day c.args.bytes.now day is text
