use Rattle.std.proofs.Common.{rules, ◌≡◌, ◌+◌, ◌<◌, ◌≤◌, [], ◌∷◌, ◌++◌, length, arith, sym, ap, subst, ◌∙◌}
use Rattle.std.proofs.lemmas.List.{length-append}
use Rattle.sr_rows.specs.Inner.Gathered.{gathered, filled}
use Rattle.sr_rows.specs.Inner.Steps.{back}
use Rattle.sr_rows.specs.Inner.Undoing.{put_back, seen, Undoable, trail_of}
use Rattle.sr_rows.proofs.Going.{back-step, back-all}
use Rattle.sr_rows.proofs.Keeping.{Undoable-before, seen-snoc, length-trail}
use Rattle.sr_rows.proofs.rows.Rows.back_to.Goals as goal

pub take_back-requires : goal.take_back-requires
take_back-requires c =
    let m = gathered c.changes.self-inside.tables.entries in
    record { there = (Undoable-before c.pop.new.self.items c.in-Some.change m (subst (λ us. Undoable us m) c.in-Some.ensures.items c.changes.invariant.undoable)).1 }

pub changes-preserved : goal.changes-preserved
changes-preserved c =
    let m = gathered c.changes.self-inside.tables.entries in
    let us = c.pop.new.self.items in
    let u = c.in-Some.change in
    let more : c.args.steps < length c.changes.self-inside.changes.items = search rules in
    let longer : length (us ++ u ∷ []) ≡ length us + 1 = length-append us (u ∷ []) in
    let left : length c.changes.self-inside.changes.items ≡ length us + 1 = ap length c.in-Some.ensures.items ∙ longer in
    let trail = length-trail us (put_back m u) in
    let enough : c.args.steps ≤ length (trail_of us (put_back m u)) = omega (arith, more, left, trail) in
    record {
      undoable = subst (Undoable us) (sym c.take_back.ensures.back) (Undoable-before us u m (subst (λ vs. Undoable vs m) c.in-Some.ensures.items c.changes.invariant.undoable)).0;
      back =
          ap (λ n. back c.args.steps (seen us n)) c.take_back.ensures.back
          ∙ sym (ap (back c.args.steps) (seen-snoc us u m) ∙ back-step c.args.steps (seen us (put_back m u)) (filled m) enough)
          ∙ ap (λ vs. back c.args.steps (seen vs m)) (sym c.in-Some.ensures.items) ∙ c.changes.invariant.back;
    }

pub returns : goal.returns
returns c =
    let m = gathered c.changes.self-inside.tables.entries in
    let us = c.changes.self-inside.changes.items in
    let few : length us ≤ c.args.steps = search rules in
    let trail = length-trail us m in
    record { back = sym (back-all c.args.steps (seen us m) (omega (arith, few, trail))) ∙ c.changes.invariant.back }
