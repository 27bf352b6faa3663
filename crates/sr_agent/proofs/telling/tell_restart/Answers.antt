use Rattle.std.proofs.Common.{ℕ, List, sym, subst}
use Rattle.std.proofs.lemmas.List.{append-nil}
use Rattle.sr_agent.specs.Inner.Steps.{Told, ToldInPart}
use Rattle.sr_agent.specs.Lines.{line_text, restarted}
use Rattle.sr_agent.proofs.Additions.{part_held, told_held, whatever}
use Rattle.sr_agent.proofs.telling.tell_restart.Goals as goal

pub returns-in_err-tell-clause-failed : goal.returns-in_err-tell-clause-failed
returns-in_err-tell-clause-failed g c =
    let said = line_text (restarted c.args.base.0) in
    whatever _ c.from_residual-in_err-tell.result
    (subst (λ (t : List ℕ). ToldInPart t (g.O.Sink.seen c.args.sink.now) (g.O.Sink.seen c.tell.new.sink)) (sym (append-nil said))
    (part_held said _ _ _ _ _ c.in_ok-add_restart.ensures.added c.new-held.ensures.items
    (subst (λ (t : List ℕ). ToldInPart t (g.O.Sink.seen c.add_restart.new.sink) (g.O.Sink.seen c.tell.new.sink)) c.as_slice.ensures.value c.in_err-tell.ensures.failed)))

pub returns-clause-told : goal.returns-clause-told
returns-clause-told g c =
    let said = line_text (restarted c.args.base.0) in
    subst (λ (t : List ℕ). Told t (g.O.Sink.seen c.args.sink.now) (g.O.Sink.seen c.tell.new.sink)) (sym (append-nil said))
    (told_held said _ _ _ _ _ c.in_ok-add_restart.ensures.added c.new-held.ensures.items
    (subst (λ (t : List ℕ). Told t (g.O.Sink.seen c.add_restart.new.sink) (g.O.Sink.seen c.tell.new.sink)) c.as_slice.ensures.value c.in_ok-tell.ensures.told))
