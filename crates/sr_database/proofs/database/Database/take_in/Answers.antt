use Rattle.std.proofs.Common.{◌≡◌, [], ◌++◌, List, sym, ap, subst, ◌∙◌}
use Rattle.sr_exec_dml.specs.Applying.{applied}
use Rattle.sr_exec_dml.specs.FittingChanges.{ChangesFit}
use Rattle.sr_logform.specs.declared.change.Change.{Change}
use Rattle.sr_database.specs.Advances.{Advances}
use Rattle.sr_database.specs.Views.{View}
use Rattle.sr_database.proofs.Pending.{behind, some_there, put_advanced, put_sound}
use Rattle.sr_database.proofs.database.Database.take_in.Goals as goal

pub invariant_of-self-2 : goal.invariant_of-self-2
invariant_of-self-2 c usable =
    let inside : View = record { catalog = c.self.inside.catalog; base_catalog = c.self.inside.base_catalog; rows = c.self.inside.rows; pending = c.self.inside.pending.items; books = c.self.inside.books; log = c.self.inside.log } in
    let view_is : inside ≡ c.args.self.now = c.self.view_is in
    let changes = c.args.changes.list in
    let list : c.into_vec.result.items ≡ changes = c.into_vec.ensures.items in
    put_sound c.self.inside.catalog c.self.inside.base_catalog c.self.inside.rows c.put_in.new.rows c.self.inside.pending.items c.self.inside.books c.self.inside.log changes c.put_in.new.pending.items
    (some_there changes c.as_slice.result.now c.is_empty.result c.as_slice.ensures.items c.is_empty.ensures c.if-is_empty.false) c.requires.short
    (subst (λ (v : View). ChangesFit v.catalog v.rows.rows changes) (sym view_is) c.requires.fit)
    (c.in_ok-put_in.ensures.rows ∙ ap (λ (l : List Change). applied c.self.inside.catalog l c.self.inside.rows.rows) list) c.in_ok-put_in.ensures.marked
    (c.in_ok-put_in.ensures.pending ∙ ap (λ (l : List Change). c.self.inside.pending.items ++ l) list) (c.self.invariant usable)

pub returns-clause-value : goal.returns-clause-value
returns-clause-value c =
    let inside : View = record { catalog = c.self.inside.catalog; base_catalog = c.self.inside.base_catalog; rows = c.self.inside.rows; pending = c.self.inside.pending.items; books = c.self.inside.books; log = c.self.inside.log } in
    let view_is : inside ≡ c.args.self.now = c.self.view_is in
    let changes = c.args.changes.list in
    let list : c.into_vec.result.items ≡ changes = c.into_vec.ensures.items in
    let new : View = behind c.self.inside.catalog c.self.inside.base_catalog c.self.inside.rows c.put_in.new.rows c.self.inside.pending.items c.self.inside.books c.self.inside.log c.put_in.new.pending.items in
    subst (λ (v : View). Advances v new []) view_is
    (put_advanced c.self.inside.catalog c.self.inside.base_catalog c.self.inside.rows c.put_in.new.rows c.self.inside.pending.items c.self.inside.books c.self.inside.log changes c.put_in.new.pending.items
    (some_there changes c.as_slice.result.now c.is_empty.result c.as_slice.ensures.items c.is_empty.ensures c.if-is_empty.false) c.requires.short
    (subst (λ (v : View). ChangesFit v.catalog v.rows.rows changes) (sym view_is) c.requires.fit)
    (c.in_ok-put_in.ensures.rows ∙ ap (λ (l : List Change). applied c.self.inside.catalog l c.self.inside.rows.rows) list) c.in_ok-put_in.ensures.marked
    (c.in_ok-put_in.ensures.pending ∙ ap (λ (l : List Change). c.self.inside.pending.items ++ l) list))
