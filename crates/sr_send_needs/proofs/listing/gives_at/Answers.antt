use Rattle.std.proofs.Common.{Option, refl, subst}
use Rattle.sr_base.specs.declared.offset.Offset.{Offset}
use Rattle.sr_database.specs.Inner.Entries.{IsEntryAfter}
use Rattle.sr_logform.specs.declared.entry.Entry.{Entry}
use Rattle.sr_base.specs.Values.{offset_from}
use Rattle.sr_send_needs.proofs.Followed.{if_fault, read_none, search_of}
use Rattle.sr_send_needs.proofs.Looks.{found_none, found_some, place_ends}
use Rattle.sr_send_needs.specs.Inner.Reading.{SearchCause}
use Rattle.sr_send_needs.proofs.listing.gives_at.Goals as goal

pub returns-in_err-entry_read-clause-cause : goal.returns-in_err-entry_read-clause-cause
returns-in_err-entry_read-clause-cause g c =
    let v = c.args.viewer.now in
    let before = g.S.Held.seen c.args.site.now in
    let now = g.S.Held.seen c.entry_read.new.site in
    if_fault (SearchCause c.args.db.now before now) c.in_err-entry_read.field-0.0 c.from_residual.result c.from_residual.ensures.1
    (search_of c.args.db.now (offset_from c.args.place.start) before before now c.in_err-entry_read.field-0.0 (read_none before) refl
    (place_ends c.args.db.now v.survey.now v.user.now c.args.place before c.requires.there) c.in_err-entry_read.ensures.cause)

pub returns-in-None-clause-found : goal.returns-in-None-clause-found
returns-in-None-clause-found g c =
    let v = c.args.viewer.now in
    found_none c.args.db.now v.survey.now v.user.now c.args.place (g.S.Held.seen c.args.site.now) c.requires.there _
    (λ told publisher done left database at. subst (λ (found : Option (Offset × Entry)). IsEntryAfter done left found) c.in-None.is (c.in_ok-entry_read.ensures.entry told publisher done left database at))

pub returns-in-Some-clause-found : goal.returns-in-Some-clause-found
returns-in-Some-clause-found g c =
    let v = c.args.viewer.now in
    found_some c.args.db.now v.survey.now v.user.now c.args.place (g.S.Held.seen c.args.site.now) c.requires.there _ c.in-Some.entry c.gives_any-any.result
    (λ told publisher done left database at. subst (λ (found : Option (Offset × Entry)). IsEntryAfter done left found) c.in-Some.is (c.in_ok-entry_read.ensures.entry told publisher done left database at)) c.gives_any-any.ensures.any
