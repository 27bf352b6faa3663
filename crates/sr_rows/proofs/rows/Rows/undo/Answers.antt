use Rattle.std.proofs.Common.{sym, ap, subst, ◌∙◌}
use Rattle.sr_rows.specs.Inner.Gathered.{gathered, filled}
use Rattle.sr_rows.specs.Inner.Undoing.{undone, Undoable}
use Rattle.sr_rows.proofs.Keeping.{undone-snoc, Undoable-before}
use Rattle.sr_rows.proofs.rows.Rows.undo.Goals as goal

pub take_back-requires : goal.take_back-requires
take_back-requires c =
    let m = gathered c.loop-change.self-inside.tables.entries in
    record { there = (Undoable-before c.pop.new.self.items c.in-Some.change m (subst (λ us. Undoable us m) c.in-Some.ensures.items c.loop-change.invariant.undoable)).1 }

pub loop-change-preserved : goal.loop-change-preserved
loop-change-preserved c =
    let m = gathered c.loop-change.self-inside.tables.entries in
    let us = c.pop.new.self.items in
    record {
      undoable = subst (Undoable us) (sym c.take_back.ensures.back) (Undoable-before us c.in-Some.change m (subst (λ vs. Undoable vs m) c.in-Some.ensures.items c.loop-change.invariant.undoable)).0;
      marked = ap (λ n. filled (undone us n)) c.take_back.ensures.back ∙ sym (ap filled (undone-snoc us c.in-Some.change m)) ∙ ap (λ vs. filled (undone vs m)) (sym c.in-Some.ensures.items) ∙ c.loop-change.invariant.marked;
    }
