use Rattle.std.proofs.Common.{◌≡◌, [], subst}
use Rattle.sr_database.specs.Advances.{Advances}
use Rattle.sr_database.specs.Views.{View}
use Rattle.sr_database.proofs.Pending.{behind, back_advanced, back_sound}
use Rattle.sr_database.proofs.database.Database.rollback.Goals as goal

pub invariant_of-self : goal.invariant_of-self
invariant_of-self c usable =
    back_sound c.self.inside.catalog c.self.inside.base_catalog c.self.inside.rows c.undo.new.self c.self.inside.pending.items c.self.inside.books c.self.inside.log c.clear.new.self.items
    c.undo.ensures.rows c.undo.ensures.marked c.undo.ensures.trail c.clear.ensures.items (c.self.invariant usable)

pub returns-clause-value : goal.returns-clause-value
returns-clause-value c =
    let inside : View = record { catalog = c.self.inside.catalog; base_catalog = c.self.inside.base_catalog; rows = c.self.inside.rows; pending = c.self.inside.pending.items; books = c.self.inside.books; log = c.self.inside.log } in
    let view_is : inside ≡ c.args.self.now = c.self.view_is in
    let new : View = behind c.self.inside.catalog c.self.inside.base_catalog c.self.inside.rows c.undo.new.self c.self.inside.pending.items c.self.inside.books c.self.inside.log c.clear.new.self.items in
    subst (λ (v : View). Advances v new []) view_is
    (back_advanced c.self.inside.catalog c.self.inside.base_catalog c.self.inside.rows c.undo.new.self c.self.inside.pending.items c.self.inside.books c.self.inside.log c.clear.new.self.items
    c.undo.ensures.rows c.undo.ensures.marked c.undo.ensures.trail c.clear.ensures.items)
