use Rattle.std.proofs.Common.{rules}
use Rattle.sr_resolve.proofs.setting.update_at.Goals as goal

pub update-requires : goal.update-requires
update-requires c = record { taken = record { above = c.args.above; stored_fits = search rules; fit = c.requires.fit; nulls = search rules } }
