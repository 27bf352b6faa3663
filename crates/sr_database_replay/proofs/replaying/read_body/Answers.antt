use Rattle.std.proofs.Common.{◌≡◌, ◌+◌, length, arith}
use Rattle.sr_database_files.proofs.Quiet.{read_same}
use Rattle.sr_database_replay.proofs.ReadRecords.{read_short, read_whole, short_cause, body_refused, body_read, entry_read, size_read}
use Rattle.sr_site.specs.Files.{bytes_of}
use Rattle.sr_database_replay.proofs.replaying.read_body.Goals as goal

pub returns-in_err-make_room-clause-read : goal.returns-in_err-make_room-clause-read
returns-in_err-make_room-clause-read g c = read_same _

pub returns-then-read-count-clause-cause : goal.returns-then-read-count-clause-cause
returns-then-read-count-clause-cause g c =
    short_cause c.args.log c.args.place c.args.count (g.S.Held.seen c.args.site.now) (g.S.Held.seen c.read_at.new.self) (λ told there.
    read_short (bytes_of (g.S.Held.seen c.args.site.now).files c.args.log) c.read_at.new.buffer (c.args.place + 5) (length c.split_at_mut-prefix.result.0.now) c.args.count c.in_ok-read.read (c.in_ok-read.ensures.read told) c.split_at_mut-prefix.ensures.front_len c.if-read-count.true there) c.in_ok-read.ensures.steady

pub returns-clause-entry : goal.returns-clause-entry
returns-clause-entry g c = entry_read _ _ c.entry_in.ensures.entry

pub returns-clause-size : goal.returns-clause-size
returns-clause-size g c = let long : length c.read_at.new.buffer ≡ c.args.count = omega arith in size_read _ c.args.count _ long c.entry_in.ensures.entry

pub returns-clause-body : goal.returns-clause-body
returns-clause-body g c told =
    let long : length c.read_at.new.buffer ≡ c.args.count = omega arith in
    body_read c.args.log c.args.place c.args.count (g.S.Held.seen c.args.site.now) (g.S.Held.seen c.read_at.new.self) c.read_at.new.buffer
    (λ at. read_whole _ c.read_at.new.buffer (c.args.place + 5) (length c.split_at_mut-prefix.result.0.now) c.args.count c.in_ok-read.read (c.in_ok-read.ensures.read at) c.split_at_mut-prefix.ensures.front_len c.if-read-count.false long)
    _ told c.entry_in.ensures.entry

pub returns-clause-cause : goal.returns-clause-cause
returns-clause-cause g c =
    let long : length c.read_at.new.buffer ≡ c.args.count = omega arith in
    body_refused c.args.log c.args.place c.args.count (g.S.Held.seen c.args.site.now) (g.S.Held.seen c.read_at.new.self) c.read_at.new.buffer
    (λ at. read_whole _ c.read_at.new.buffer (c.args.place + 5) (length c.split_at_mut-prefix.result.0.now) c.args.count c.in_ok-read.read (c.in_ok-read.ensures.read at) c.split_at_mut-prefix.ensures.front_len c.if-read-count.false long)
    c.in_ok-read.ensures.steady _ c.entry_in.ensures.cause
