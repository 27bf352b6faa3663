use Rattle.std.proofs.Common.{refl}
use Rattle.sr_survey_brief.proofs.Past.{null_past, int_past, big_past, str_past, date_past}
use Rattle.sr_survey_brief.proofs.passing.past_tagged.Goals as goal

pub returns-in-0 : goal.returns-in-0
returns-in-0 c = record { past = null_past c.args.tag c.args.rest.now c.args.rest.now c.in-0.is refl }

pub returns-in_ok-left-in-1 : goal.returns-in_ok-left-in-1
returns-in_ok-left-in-1 c = record { past = int_past c.args.tag c.args.rest.now c.in_ok-left-in-1.left.now c.in-1.is c.in_ok-left-in-1.ensures.behind }

pub returns-in_ok-left-in-2 : goal.returns-in_ok-left-in-2
returns-in_ok-left-in-2 c = record { past = big_past c.args.tag c.args.rest.now c.in_ok-left-in-2.left.now c.in-2.is c.in_ok-left-in-2.ensures.behind }

pub returns-in_ok-left-in-3 : goal.returns-in_ok-left-in-3
returns-in_ok-left-in-3 c = record { past = str_past c.args.tag c.args.rest.now c.in_ok-left-in-3.left.now c.in-3.is c.in_ok-left-in-3.ensures.past }

pub returns-in_ok-left-in-4 : goal.returns-in_ok-left-in-4
returns-in_ok-left-in-4 c = record { past = date_past c.args.tag c.args.rest.now c.in_ok-left-in-4.left.now c.in-4.is c.in_ok-left-in-4.ensures.behind }
