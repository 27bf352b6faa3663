use Rattle.std.proofs.Common.{ℕ, ◌++◌, Option, subst}
use Rattle.sr_base.specs.declared.offset.Offset.{Offset}
use Rattle.sr_database.specs.Inner.Entries.{IsKindAfter}
use Rattle.sr_send.proofs.Posts.{posted_database, told_then}
use Rattle.sr_send.proofs.Starts.{kind_still, later_next, read_on}
use Rattle.sr_send.proofs.starting.still_end.Goals as goal

pub returns-then-is_still_kind-clause-end : goal.returns-then-is_still_kind-clause-end
returns-then-is_still_kind-clause-end g c = λ told publisher done left database at.
    kind_still done left c.in-Some.end c.in-Some.kind
    (subst (λ (found : Option (Offset × ℕ)). IsKindAfter done left found) c.in-Some.is (c.in_ok-next_kind.ensures.kind told publisher done left database at)) (c.is_still_kind.ensures.still c.if-is_still_kind.true)

pub returns-else-is_still_kind-clause-end : goal.returns-else-is_still_kind-clause-end
returns-else-is_still_kind-clause-end g c = λ told publisher done left database at.
    let before = g.S.Held.seen c.args.site.now in
    let middle = g.S.Held.seen c.next_kind.new.site in
    c.read_still.ensures.end (told_then before middle c.next_kind.ensures.posted.stays told) publisher done left (posted_database c.args.db.now publisher (done ++ left) before middle _ c.next_kind.ensures.posted told database) at

pub returns-else-is_still_kind-clause-posted : goal.returns-else-is_still_kind-clause-posted
returns-else-is_still_kind-clause-posted g c =
    read_on (g.S.Held.seen c.args.site.now) (g.S.Held.seen c.next_kind.new.site) (g.S.Held.seen c.read_still.new.site) c.next_kind.ensures.posted c.read_still.ensures.posted

pub returns-else-is_still_kind-clause-cause : goal.returns-else-is_still_kind-clause-cause
returns-else-is_still_kind-clause-cause g c =
    later_next (g.S.Held.seen c.args.site.now) (g.S.Held.seen c.next_kind.new.site) (g.S.Held.seen c.read_still.new.site) c.read_still.result c.in_ok-next_kind.ensures.steady c.read_still.ensures.cause
