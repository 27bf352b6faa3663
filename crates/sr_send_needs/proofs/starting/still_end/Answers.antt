use Rattle.std.proofs.Common.{ℕ, ◌++◌, Option, subst}
use Rattle.sr_base.specs.declared.offset.Offset.{Offset}
use Rattle.sr_database.specs.Inner.Entries.{IsKindAfter}
use Rattle.sr_database_files.specs.Inner.Openings.{ReadAlone}
use Rattle.sr_send.proofs.Starts.{kind_still}
use Rattle.sr_send_needs.proofs.Followed.{database_on, entry_behind, read_on, told_then}
use Rattle.sr_send_needs.proofs.starting.still_end.Goals as goal

pub returns-then-is_still_kind-clause-end : goal.returns-then-is_still_kind-clause-end
returns-then-is_still_kind-clause-end g c = λ told publisher done left database at.
    kind_still done left c.in-Some.end c.in-Some.kind
    (subst (λ (found : Option (Offset × ℕ)). IsKindAfter done left found) c.in-Some.is (c.in_ok-kind_after.ensures.kind told publisher done left database at)) (c.is_still_kind.ensures.still c.if-is_still_kind.true)

pub returns-else-is_still_kind-clause-end : goal.returns-else-is_still_kind-clause-end
returns-else-is_still_kind-clause-end g c = λ told publisher done left database at.
    let before = g.S.Held.seen c.args.site.now in
    let middle = g.S.Held.seen c.kind_after.new.site in
    let read : ReadAlone before middle = record { stays = c.kind_after.ensures.stays; files = c.kind_after.ensures.files; happened = c.kind_after.ensures.happened } in
    c.read_still.ensures.end (told_then before middle read told) publisher done left (database_on c.args.db.now publisher (done ++ left) before middle read told database) at

pub returns-else-is_still_kind-clause-read : goal.returns-else-is_still_kind-clause-read
returns-else-is_still_kind-clause-read g c =
    let before = g.S.Held.seen c.args.site.now in
    let middle = g.S.Held.seen c.kind_after.new.site in
    let read : ReadAlone before middle = record { stays = c.kind_after.ensures.stays; files = c.kind_after.ensures.files; happened = c.kind_after.ensures.happened } in
    read_on before middle (g.S.Held.seen c.read_still.new.site) read c.read_still.ensures.read

pub returns-else-is_still_kind-clause-cause : goal.returns-else-is_still_kind-clause-cause
returns-else-is_still_kind-clause-cause g c =
    let before = g.S.Held.seen c.args.site.now in
    let middle = g.S.Held.seen c.kind_after.new.site in
    let read : ReadAlone before middle = record { stays = c.kind_after.ensures.stays; files = c.kind_after.ensures.files; happened = c.kind_after.ensures.happened } in
    entry_behind c.args.db.now c.args.after before middle (g.S.Held.seen c.read_still.new.site) c.read_still.result read c.in_ok-kind_after.ensures.steady c.read_still.ensures.cause
