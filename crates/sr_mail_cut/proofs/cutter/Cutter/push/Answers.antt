use Rattle.std.proofs.Common.{◌≡◌, ◌+◌, ◌<◌, ◌≤◌, length, ◌∙◌, arith}
use Rattle.sr_logform.specs.Ops.{transaction_spelling}
use Rattle.sr_mail_cut.specs.Cuts.{file_length}
use Rattle.sr_mail_cut.proofs.Giving.{pushed_joined, pushed_held, pushed_sent}
use Rattle.sr_mail_cut.proofs.cutter.Cutter.push.Goals as goal

pub returns-then-not-is_one-clause-given : goal.returns-then-not-is_one-clause-given
returns-then-not-is_one-clause-given c =
    let s = c.args.self.now in
    let encoded = c.in_ok-encoded.encoded in
    let more : encoded.room < length encoded.bytes = c.is_one.ensures.several c.if-not-is_one.true in
    let long : s.limit < file_length s.head (length encoded.bytes) = omega (arith, c.room.ensures.room, c.in_ok-encoded.ensures.room) in
    pushed_sent s c.send.new.self c.args.transaction.now encoded.bytes c.in_ok-need.need c.in_ok-send.field-0.items c.in_ok-encoded.ensures.bytes c.in_ok-need.ensures c.in_ok-send.ensures.ok c.in_ok-send.ensures.messages long

pub returns-then-fits-clause-given : goal.returns-then-fits-clause-given
returns-then-fits-clause-given c =
    let s = c.args.self.now in
    let bytes = c.into_bytes-bytes.result.items in
    let e : bytes ≡ transaction_spelling c.args.transaction.now = c.into_bytes-bytes.ensures ∙ c.in_ok-encoded.ensures.bytes in
    let short : file_length s.head (length s.body + length bytes) ≤ s.limit = omega (arith, c.fits.ensures.fits c.if-fits.true) in
    pushed_joined s c.join.new.self c.args.transaction.now bytes c.new.result.items e (rw c.as_slice.ensures.value at c.in_ok-join.ensures.ok) c.new.ensures.items short

pub returns-clause-given : goal.returns-clause-given
returns-clause-given c =
    let s = c.args.self.now in
    let bytes = c.into_bytes-bytes.result.items in
    let e : bytes ≡ transaction_spelling c.args.transaction.now = c.into_bytes-bytes.ensures ∙ c.in_ok-encoded.ensures.bytes in
    let over : s.limit < file_length s.head (length s.body + length bytes) = omega (arith, c.fits.ensures.full c.if-fits.false) in
    let one : length bytes ≤ c.in_ok-encoded.encoded.room = rw c.into_bytes-bytes.ensures (c.is_one.ensures.one c.if-not-is_one.false) in
    let short : file_length s.head (length bytes) ≤ s.limit = omega (arith, c.room.ensures.room, c.in_ok-encoded.ensures.room) in
    pushed_held s c.hold.new.self c.args.transaction.now bytes c.in_ok-hold.field-0.items e c.in_ok-hold.ensures.ok c.in_ok-hold.ensures.messages over short
