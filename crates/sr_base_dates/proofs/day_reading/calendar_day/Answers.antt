use Rattle.std.proofs.Common.{◌∙◌, arith, FitsSigned, w32}
use Rattle.std.proofs.lemmas.Int.{to_z-of_z}
use Rattle.jiff_core.proofs.SignedLemmas.{signed_arith}
use Rattle.sr_base_dates.proofs.DateTexts.{day_of_date}
use Rattle.sr_base_dates.proofs.day_reading.calendar_day.Goals as goal

pub returns : goal.returns
returns c =
    let n = c.to_unix_epoch_day.result in
    let bound = c.to_unix_epoch_day.ensures.bound in
    let fits : FitsSigned w32 n = omega (arith, signed_arith) in
    let number = to_z-of_z w32 n fits ∙ c.to_unix_epoch_day.ensures.value in
    record { day = day_of_date c.args.year c.args.month c.args.day c.in-Ok.date _ _ c.if-year-lt1.false c.requires.year c.requires.month c.requires.day c.in-Ok.ensures.value number c.new-2.ensures.day }
