use Rattle.std.proofs.Common.{refl, true}
use Rattle.sr_send_needs.proofs.Followed.{read_on}
use Rattle.sr_send_needs.proofs.Walks.{end_then, start_here, walked_end}
use Rattle.sr_send_needs.proofs.starting.begin.Goals as goal

pub is_still-requires-clause-end : goal.is_still-requires-clause-end
is_still-requires-clause-end g c =
    let first = g.S.Held.seen c.args.site.now in
    let before = g.S.Held.seen c.last_end.new.site in
    end_then c.args.db.now c.in_ok-at.at first before c.in_ok-at.ensures.walked.read (walked_end c.args.db.now c.args.sent.0 c.in_ok-at.at first before c.in_ok-at.ensures.walked)

pub returns-in_err-is_still-clause-read : goal.returns-in_err-is_still-clause-read
returns-in_err-is_still-clause-read g c = read_on (g.S.Held.seen c.args.site.now) (g.S.Held.seen c.last_end.new.site) (g.S.Held.seen c.is_still.new.site) c.last_end.ensures.read c.is_still.ensures.read

pub returns-then-branch-clause-start : goal.returns-then-branch-clause-start
returns-then-branch-clause-start g c =
    start_here c.args.db.now c.args.sent.0 (record { at = c.in_ok-at.at; is_now = true }) (g.S.Held.seen c.args.site.now) (g.S.Held.seen c.last_end.new.site) refl c.in_ok-at.ensures.walked (c.in_ok-is_still.ensures.still c.if-branch.true)

pub returns-then-branch-clause-read : goal.returns-then-branch-clause-read
returns-then-branch-clause-read g c = read_on (g.S.Held.seen c.args.site.now) (g.S.Held.seen c.last_end.new.site) (g.S.Held.seen c.is_still.new.site) c.last_end.ensures.read c.is_still.ensures.read

pub returns-clause-read : goal.returns-clause-read
returns-clause-read g c = read_on (g.S.Held.seen c.args.site.now) (g.S.Held.seen c.last_end.new.site) (g.S.Held.seen c.is_still.new.site) c.last_end.ensures.read c.is_still.ensures.read
