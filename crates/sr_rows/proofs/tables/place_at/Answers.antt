use Rattle.std.proofs.Common.{sym, ap, ◌∙◌}
use Rattle.std.specs.Option.{option_copied}
use Rattle.sr_rows.proofs.Gathering.{get-held, get-gone}
use Rattle.sr_rows.proofs.tables.place_at.Goals as goal

pub returns-in_err-held : goal.returns-in_err-held
returns-in_err-held c = record { place = ap option_copied c.from_residual.ensures ∙ sym (get-gone c.args.tables.now.entries c.args.table.now c.args.key.now c.in_err-held.ensures.value) }

pub returns : goal.returns
returns c = record { place = c.get-2.ensures.place ∙ sym (get-held c.args.tables.now.entries c.args.table.now c.in_ok-held.held.now c.args.key.now c.in_ok-held.ensures.value) }
