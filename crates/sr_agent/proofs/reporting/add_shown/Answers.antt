use Rattle.std.proofs.Common.{ℕ, List, [], ◌∷◌, ap}
use Rattle.sr_agent.specs.Lines.{shown, shown_byte}
use Rattle.sr_agent.proofs.Additions.{cut_short, one_more, whatever}
use Rattle.sr_agent.proofs.reporting.add_shown.Goals as goal

pub returns-in_err-add_byte-clause-failed : goal.returns-in_err-add_byte-clause-failed
returns-in_err-add_byte-clause-failed g c =
    whatever _ c.from_residual.result
    (cut_short (shown c.args.name.now) (shown c.bytes.left.now) (shown_byte c.in-Some.byte.now ∷ []) (shown c.in-Some.rest.now) _ _ _ _ _ c.bytes.invariant (ap (λ (l : List ℕ). shown l) c.in-Some.ensures.cases.0)
    c.in_err-add_byte.ensures.failed)

pub bytes-preserved : goal.bytes-preserved
bytes-preserved g c =
    one_more (shown c.args.name.now) (shown c.bytes.left.now) (shown_byte c.in-Some.byte.now ∷ []) (shown c.in-Some.rest.now) _ _ _ _ _ _ c.bytes.invariant (ap (λ (l : List ℕ). shown l) c.in-Some.ensures.cases.0)
    c.in_ok-add_byte.ensures.added
