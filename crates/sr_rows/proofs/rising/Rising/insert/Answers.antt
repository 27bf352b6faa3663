use Rattle.std.proofs.Common.{◌≡◌, IfOk, OnOk, length, sym, ap, subst, ◌∙◌}
use Rattle.std.specs.FinMap as map
use Rattle.sr_rows.specs.Inner.Searches.{InOrder}
use Rattle.sr_rows.proofs.Searching.{get_placed, get_missed, order_placed, map_placed, order_grown, map_grown}
use Rattle.sr_rows.proofs.rising.Rising.insert.Goals as goal
use Rattle.sr_rows.proofs.rising.Rising.insert.Goals.{in-Ok-push, in-Err-push}

pub invariant_of-self : goal.invariant_of-self
invariant_of-self c =
    order_placed c.as_slice.result.now c.self.inside.places.items c.as_slice.ensures.value c.self.invariant c.args.self.now c.self.view_is c.args.key
    c.in-Ok.at c.args.place c.put_at.new.places.items c.in-Ok.ensures.ends c.put_at.ensures.set

pub returns-in-Ok-clause-before : goal.returns-in-Ok-clause-before
returns-in-Ok-clause-before c =
    sym (get_placed c.as_slice.result.now c.self.inside.places.items c.as_slice.ensures.value c.self.invariant c.args.self.now c.self.view_is c.args.key
    c.in-Ok.at c.put_at.result c.in-Ok.ensures.ends c.put_at.ensures.before)

pub returns-in-Ok-clause-ok : goal.returns-in-Ok-clause-ok
returns-in-Ok-clause-ok c =
    map_placed c.as_slice.result.now c.self.inside.places.items c.as_slice.ensures.value c.self.invariant c.args.self.now c.self.view_is c.args.key
    c.in-Ok.at c.args.place c.put_at.new.places.items c.in-Ok.ensures.ends c.put_at.ensures.set

pub invariant_of-self-then-at-len : goal.invariant_of-self-then-at-len
invariant_of-self-then-at-len c =
    elim c.match-push.branch [
      | in-Ok-push w ↦
          order_grown c.as_slice.result.now c.self.inside.places.items c.as_slice.ensures.value c.self.invariant c.args.self.now c.self.view_is c.args.key
          c.in-Err.at c.args.place c.push.new.places.items c.in-Err.ensures.ends
          (c.if-at-len.true ∙ c.len.ensures ∙ sym c.as_slice.ensures.len ∙ ap length c.as_slice.ensures.value) w.in-Ok-push.ensures.ok
      | in-Err-push w ↦ subst InOrder (sym w.in-Err-push.ensures.err) c.self.invariant
    ]

pub returns-after-push-clause-before : goal.returns-after-push-clause-before
returns-after-push-clause-before c =
    let missed = sym (get_missed c.as_slice.result.now c.self.inside.places.items c.as_slice.ensures.value c.self.invariant c.args.self.now c.self.view_is c.args.key c.in-Err.at c.in-Err.ensures.ends) in
    elim c.match-push.branch [
      | in-Ok-push w ↦ subst (λ r. IfOk r (λ before. before ≡ map.get c.args.self.now c.args.key)) (sym w.result-is) missed
      | in-Err-push w ↦ subst (λ r. IfOk r (λ before. before ≡ map.get c.args.self.now c.args.key)) (sym w.result-is) tt
    ]

pub returns-after-push-clause-ok : goal.returns-after-push-clause-ok
returns-after-push-clause-ok c =
    elim c.match-push.branch [
      | in-Ok-push w ↦
          subst (λ r. OnOk r (map.from_entries c.push.new.places.items ≡ map.insert c.args.self.now c.args.key c.args.place)) (sym w.result-is)
          (map_grown c.as_slice.result.now c.self.inside.places.items c.as_slice.ensures.value c.self.invariant c.args.self.now c.self.view_is c.args.key c.in-Err.at c.args.place c.push.new.places.items c.in-Err.ensures.ends w.in-Ok-push.ensures.ok)
      | in-Err-push w ↦ subst (λ r. OnOk r (map.from_entries c.push.new.places.items ≡ map.insert c.args.self.now c.args.key c.args.place)) (sym w.result-is) tt
    ]
