use Rattle.std.proofs.Common.{◌≡◌}
use Rattle.sr_database.specs.Views.{View}
use Rattle.sr_database.proofs.Pending.{sound_seen}
use Rattle.sr_database.proofs.Values.{sound_holds}
use Rattle.sr_database.proofs.database.Database.catalog.Goals as goal

pub returns-clause-holds : goal.returns-clause-holds
returns-clause-holds c =
    let inside : View = record { catalog = c.self.inside.catalog; base_catalog = c.self.inside.base_catalog; rows = c.self.inside.rows; pending = c.self.inside.pending.items; books = c.self.inside.books; log = c.self.inside.log } in
    let view_is : inside ≡ c.args.self.now = c.self.view_is in
    sound_holds c.args.self.now (sound_seen inside c.args.self.now view_is c.requires.usable c.self.invariant)
