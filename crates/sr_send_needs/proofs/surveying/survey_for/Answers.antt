use Rattle.sr_send_needs.proofs.Takings.{begun_there}
use Rattle.sr_send_needs.proofs.surveying.survey_for.Goals as goal

pub read_whole-requires-clause-surveyed : goal.read_whole-requires-clause-surveyed
read_whole-requires-clause-surveyed g c = begun_there c.args.db.now c.args.start c.in-Some.survey (g.S.Held.seen c.args.site.now) c.requires.start c.in-Some.ensures.begins
