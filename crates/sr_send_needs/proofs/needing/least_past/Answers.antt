use Rattle.sr_send_needs.proofs.Followed.{database_on, read_on, search_behind, told_then}
use Rattle.sr_send_needs.proofs.Walks.{start_on}
use Rattle.sr_send_needs.proofs.needing.least_past.Goals as goal

pub least_of-outcome-requires-clause-start : goal.least_of-outcome-requires-clause-start
least_of-outcome-requires-clause-start g c = start_on c.args.db.now c.args.start (g.S.Held.seen c.args.site.now) (g.S.Held.seen c.survey_for.new.site) c.survey_for.ensures.read c.requires.start

pub returns-clause-least : goal.returns-clause-least
returns-clause-least g c = λ told publisher es database.
    let first = g.S.Held.seen c.args.site.now in
    let before = g.S.Held.seen c.survey_for.new.site in
    c.least_of-outcome.ensures.least (told_then first before c.survey_for.ensures.read told) publisher es (database_on c.args.db.now publisher es first before c.survey_for.ensures.read told database)

pub returns-clause-read : goal.returns-clause-read
returns-clause-read g c = read_on (g.S.Held.seen c.args.site.now) (g.S.Held.seen c.survey_for.new.site) (g.S.Held.seen c.least_of-outcome.new.site) c.survey_for.ensures.read c.least_of-outcome.ensures.read

pub returns-clause-cause : goal.returns-clause-cause
returns-clause-cause g c =
    search_behind c.args.db.now (g.S.Held.seen c.args.site.now) (g.S.Held.seen c.survey_for.new.site) (g.S.Held.seen c.least_of-outcome.new.site) c.least_of-outcome.result c.survey_for.ensures.read c.in_ok-survey.ensures.steady c.least_of-outcome.ensures.cause
