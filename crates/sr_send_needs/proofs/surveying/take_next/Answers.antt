use Rattle.std.proofs.Common.{◌<◌, ◌≤◌, Option, refl, subst}
use Rattle.std.specs.Prelude.{IfSome}
use Rattle.sr_base.specs.declared.offset.Offset.{Offset}
use Rattle.sr_database.specs.Inner.Entries.{IsBriefAfter}
use Rattle.sr_database_files.specs.Inner.Openings.{ReadAlone}
use Rattle.sr_logform.specs.declared.entry.Entry.{Entry}
use Rattle.sr_send.proofs.Known.{given_up_whole, took_all, took_next}
use Rattle.sr_send_needs.specs.Inner.Reading.{SearchCause}
use Rattle.sr_send_needs.proofs.Followed.{as_posted, if_fault, read_none, search_of}
use Rattle.sr_send_needs.proofs.Takings.{taken_to}
use Rattle.sr_send_needs.proofs.surveying.take_next.Goals as goal

pub returns-then-is_given_up-clause-whole : goal.returns-then-is_given_up-clause-whole
returns-then-is_given_up-clause-whole g c = λ none. given_up_whole c.args.db.now c.args.survey.now (g.S.Held.seen c.args.site.now) (c.is_given_up.ensures.given_up c.if-is_given_up.true)

pub returns-then-is_given_up-clause-read : goal.returns-then-is_given_up-clause-read
returns-then-is_given_up-clause-read g c = read_none (g.S.Held.seen c.args.site.now)

pub returns-in_err-brief_read-clause-cause : goal.returns-in_err-brief_read-clause-cause
returns-in_err-brief_read-clause-cause g c =
    let before = g.S.Held.seen c.args.site.now in
    let now = g.S.Held.seen c.brief_read.new.site in
    if_fault (SearchCause c.args.db.now before now) c.in_err-brief_read.field-0.0 c.from_residual.result c.from_residual.ensures.1
    (search_of c.args.db.now c.args.at before before now c.in_err-brief_read.field-0.0 (read_none before) refl
    (taken_to c.args.db.now c.args.survey.now c.args.at before c.requires.surveyed (c.is_given_up.ensures.kept c.if-is_given_up.false)) c.in_err-brief_read.ensures.cause)

pub returns-in-None-clause-whole : goal.returns-in-None-clause-whole
returns-in-None-clause-whole g c = λ none.
    let before = g.S.Held.seen c.args.site.now in
    let now = g.S.Held.seen c.brief_read.new.site in
    let read : ReadAlone before now = record { stays = c.brief_read.ensures.stays; files = c.brief_read.ensures.files; happened = c.brief_read.ensures.happened } in
    took_all c.args.db.now c.args.survey.now c.args.at before now c.requires.surveyed (as_posted before now read)
    (λ told publisher done left database at from_base. subst (λ (found : Option (Offset × Entry)). IsBriefAfter done left found) c.in-None.is (c.in_ok-brief_read.ensures.brief told publisher done left database at))

pub returns-in-Some-clause-surveyed : goal.returns-in-Some-clause-surveyed
returns-in-Some-clause-surveyed g c =
    let before = g.S.Held.seen c.args.site.now in
    let now = g.S.Held.seen c.brief_read.new.site in
    let read : ReadAlone before now = record { stays = c.brief_read.ensures.stays; files = c.brief_read.ensures.files; happened = c.brief_read.ensures.happened } in
    took_next c.args.db.now c.args.survey.now c.take.new.self c.args.at c.in-Some.end c.in-Some.entry before now c.requires.surveyed (as_posted before now read)
    (λ told publisher done left database at from_base. subst (λ (found : Option (Offset × Entry)). IsBriefAfter done left found) c.in-Some.is (c.in_ok-brief_read.ensures.brief told publisher done left database at))
    c.take.ensures.taken

pub returns-in-Some-clause-within : goal.returns-in-Some-clause-within
returns-in-Some-clause-within g c = subst (λ (found : Option (Offset × Entry)). IfSome found (λ x. (c.args.at.0 < x.0.0) × (x.0.0 ≤ c.args.db.now.log.end))) c.in-Some.is c.in_ok-brief_read.ensures.within
