use Rattle.std.proofs.Common.{Option, subst}
use Rattle.sr_base.specs.declared.offset.Offset.{Offset}
use Rattle.sr_database.specs.Inner.Entries.{IsEntryAfter}
use Rattle.sr_logform.specs.declared.entry.Entry.{Entry}
use Rattle.sr_send.proofs.Told.{found_there_none, found_there_some}
use Rattle.sr_send.proofs.telling.found_at.Goals as goal

pub returns-in-None-clause-told : goal.returns-in-None-clause-told
returns-in-None-clause-told g c =
    let v = c.args.viewer.now in
    found_there_none c.args.db.now v.survey.now v.user.now c.args.place (g.S.Held.seen c.args.site.now) _ c.requires.there
    (λ told publisher done left database at from_base. subst (λ (found : Option (Offset × Entry)). IsEntryAfter done left found) c.in-None.is (c.in_ok-entry_from.ensures.entry told publisher done left database at from_base))

pub returns-in-Ok-clause-told : goal.returns-in-Ok-clause-told
returns-in-Ok-clause-told g c =
    let v = c.args.viewer.now in
    found_there_some c.args.db.now v.survey.now v.user.now c.args.place (g.S.Held.seen c.args.site.now) _ c.in-Some.entry c.in-Ok.found c.requires.there
    (λ told publisher done left database at from_base. subst (λ (found : Option (Offset × Entry)). IsEntryAfter done left found) c.in-Some.is (c.in_ok-entry_from.ensures.entry told publisher done left database at from_base))
    c.in-Ok.ensures.told
