use Rattle.std.proofs.Common.{◌<◌, ◌≤◌, arith}
use Rattle.sr_logform.specs.Limits.{longest_body}
use Rattle.sr_database_replay.proofs.Followed.{replay_fit, replay_fresh}
use Rattle.sr_database_replay.proofs.ReadRecords.{follows_none_long, follows_none, follows_one}
use Rattle.sr_database_replay.proofs.replaying.follow.Goals as goal

pub go_on-requires-clause-rows : goal.go_on-requires-clause-rows
go_on-requires-clause-rows c = let some = c.requires.replayed in replay_fit _ _ _ some.position some.beginning some.es some.is

pub go_on-requires-clause-fresh : goal.go_on-requires-clause-fresh
go_on-requires-clause-fresh c = let some = c.requires.replayed in replay_fresh _ _ _ some.position some.beginning some.es some.is

pub returns-then-count-longest_body : goal.returns-then-count-longest_body
returns-then-count-longest_body c =
    let long : longest_body c.args.entry.now < c.args.count = omega (arith, c.longest_body.ensures) in
    record { told = follows_none_long c.args.catalog.now c.args.catalog.now c.args.rows.now c.args.rows.now c.args.books.now c.args.books.now c.args.count c.args.entry.now c.requires.size long }

pub returns-then-not-may : goal.returns-then-not-may
returns-then-not-may c = record { told = follows_none c.args.catalog.now c.go_on.new.catalog c.args.rows.now c.go_on.new.rows c.args.books.now c.args.books.now c.args.count c.args.entry.now c.requires.size _ c.in_ok-may.may c.if-not-may.true c.in_ok-may.ensures.told }

pub returns : goal.returns
returns c =
    let short : c.args.count ≤ longest_body c.args.entry.now = omega (arith, c.longest_body.ensures) in
    record { told = follows_one c.args.catalog.now c.go_on.new.catalog c.args.rows.now c.go_on.new.rows c.args.books.now c.follow_books.new.books c.args.count c.args.entry.now c.requires.size c.in_ok-may.may c.if-not-may.false c.in_ok-may.ensures.told c.requires.entry short c.go_on.ensures.fresh c.in_ok-follow_books.ensures.books }
