use Rattle.std.proofs.Common.{◌∷◌, [], ◌∙◌}
use Rattle.sr_base.specs.Values.{offset_from}
use Rattle.sr_database_fold.specs.Inner.Readings.{state_in}
use Rattle.sr_database_history.specs.Recorded.{taken}
use Rattle.sr_world_entries.proofs.Judgements.{ok_map, one_comes, one_fits}
use Rattle.sr_world_entries.proofs.judging.take_on.Goals as goal

pub takes_effect-outcome-requires-clause-fits : goal.takes_effect-outcome-requires-clause-fits
takes_effect-outcome-requires-clause-fits c =
    let s = state_in c.args.catalog.now c.args.rows.now in
    let f = c.requires.fits in
    (taken c.args.user.now (offset_from 0) (f.0 ∷ []), one_fits s c.args.user.now c.args.pair.now f.0 c.in_ok-entry.entry c.requires.known f.1 f.2 f.3 c.in_ok-entry.ensures.entry)

pub returns-clause-after : goal.returns-clause-after
returns-clause-after c d same meant fits =
    let s = state_in c.args.catalog.now c.args.rows.now in
    let r = taken c.args.user.now (offset_from 0) (d ∷ []) in
    ok_map c.takes_effect-outcome.result
    (λ after. after r (one_fits s c.args.user.now c.args.pair.now d c.in_ok-entry.entry c.requires.known same meant fits c.in_ok-entry.ensures.entry) ∙ one_comes s c.args.user.now d)
    c.takes_effect-outcome.ensures.effect
