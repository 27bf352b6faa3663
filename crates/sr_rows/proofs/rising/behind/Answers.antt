use Rattle.std.proofs.Common.{ap, drop, ◌∙◌}
use Rattle.sr_rows.proofs.Searching.{behind_at, behind_gap}
use Rattle.sr_rows.proofs.rising.behind.Goals as goal
use Rattle.sr_rows.proofs.rising.behind.Goals.{in-Ok, in-Err}

pub returns : goal.returns
returns c =
    let es = c.args.places.now in
    let k = c.args.key.now in
    record {
      behind = c.split_at.ensures.back ∙ (elim c.match-search.branch [
        | in-Ok w ↦ ap (λ n. drop n es) w.from-is ∙ behind_at es w.in-Ok.at k c.requires.order w.in-Ok.ensures.ends
        | in-Err w ↦ ap (λ n. drop n es) w.from-is ∙ behind_gap es w.in-Err.at k w.in-Err.ensures.ends
      ]);
    }
