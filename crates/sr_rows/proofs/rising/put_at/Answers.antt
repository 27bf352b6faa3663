use Rattle.std.proofs.Common.{set, ap, ◌∙◌}
use Rattle.sr_rows.proofs.rising.put_at.Goals as goal

pub returns-in-Some-clause-set : goal.returns-in-Some-clause-set
returns-in-Some-clause-set c = λ key h.
    ap (λ e. set c.args.places.now.items c.args.at e) (c.put.ensures.after ∙ (λ j. ((ap (λ e. e.0) c.in-Some.ensures.value ∙ h c.in-Some.held.now) j, c.args.place)))
