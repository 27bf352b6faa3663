use Rattle.std.proofs.Common.{◌<◌, ◌≤◌, Option, subst}
use Rattle.std.specs.Prelude.{IfSome}
use Rattle.sr_base.specs.declared.offset.Offset.{Offset}
use Rattle.sr_database.specs.Inner.Entries.{IsBriefAfter}
use Rattle.sr_logform.specs.declared.entry.Entry.{Entry}
use Rattle.sr_send.proofs.Known.{given_up_whole, took_all, took_next}
use Rattle.sr_send.proofs.Posts.{posted_none, same_counts}
use Rattle.sr_send.proofs.surveying.take_next.Goals as goal

pub returns-then-is_given_up-clause-whole : goal.returns-then-is_given_up-clause-whole
returns-then-is_given_up-clause-whole g c = λ none. given_up_whole c.args.db.now c.args.survey.now (g.S.Held.seen c.args.site.now) (c.is_given_up.ensures.given_up c.if-is_given_up.true)

pub returns-then-is_given_up-clause-posted : goal.returns-then-is_given_up-clause-posted
returns-then-is_given_up-clause-posted g c = posted_none (g.S.Held.seen c.args.site.now)

pub returns-then-is_given_up-clause-steady : goal.returns-then-is_given_up-clause-steady
returns-then-is_given_up-clause-steady g c = same_counts (g.S.Held.seen c.args.site.now)

pub returns-in-None-clause-whole : goal.returns-in-None-clause-whole
returns-in-None-clause-whole g c = λ none.
    took_all c.args.db.now c.args.survey.now c.args.at (g.S.Held.seen c.args.site.now) (g.S.Held.seen c.brief_from.new.site) c.requires.surveyed c.brief_from.ensures.posted
    (λ told publisher done left database at from_base. subst (λ (found : Option (Offset × Entry)). IsBriefAfter done left found) c.in-None.is (c.in_ok-brief_from.ensures.brief told publisher done left database at from_base))

pub returns-in-Some-clause-surveyed : goal.returns-in-Some-clause-surveyed
returns-in-Some-clause-surveyed g c =
    took_next c.args.db.now c.args.survey.now c.take.new.self c.args.at c.in-Some.end c.in-Some.entry (g.S.Held.seen c.args.site.now) (g.S.Held.seen c.brief_from.new.site) c.requires.surveyed c.brief_from.ensures.posted
    (λ told publisher done left database at from_base. subst (λ (found : Option (Offset × Entry)). IsBriefAfter done left found) c.in-Some.is (c.in_ok-brief_from.ensures.brief told publisher done left database at from_base))
    c.take.ensures.taken

pub returns-in-Some-clause-within : goal.returns-in-Some-clause-within
returns-in-Some-clause-within g c = subst (λ (found : Option (Offset × Entry)). IfSome found (λ x. (c.args.at.0 < x.0.0) × (x.0.0 ≤ c.args.db.now.log.end))) c.in-Some.is c.in_ok-brief_from.ensures.within
