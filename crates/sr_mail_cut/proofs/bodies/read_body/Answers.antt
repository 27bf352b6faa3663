use Rattle.std.proofs.Common.{◌≡◌, ◌∷◌, [], true, sym, ap, ◌∙◌, arith}
use Rattle.sr_base.specs.Inner.Reading.{IsBytes}
use Rattle.sr_logform.proofs.Shorter.{short_transaction}
use Rattle.sr_logform.specs.Ops.{IsTransaction}
use Rattle.sr_logform.specs.Inner.Ops.{IsShortTransaction}
use Rattle.sr_mail_cut.specs.Bodies.{body_spelling, last_offset}
use Rattle.sr_mail_cut.specs.Inner.Bodies.{lies_past}
use Rattle.sr_mail_cut.proofs.Lists.{AllByRecursion-append, AllByRecursion-map}
use Rattle.sr_mail_cut.proofs.Reading.{never_breaks, never_falls, read_more, left_fewer, bytes_left, rising-more, last_offset-more, parts-more, all_read, some_left, none_left_of}
use Rattle.sr_mail_cut.proofs.bodies.read_body.Goals as goal

pub returns-in-Err-Left-clause-only : goal.returns-in-Err-Left-clause-only
returns-in-Err-Left-clause-only c = λ all is e.
    never_breaks c.transactions.transactions.items all c.args.bytes.now c.transactions.rest.now c.in-Err-Left.field-0-0 c.transactions.invariant.spelled c.transactions.invariant.parts
    (some_left c.transactions.rest.now c.is_empty.result c.is_empty.ensures c.transactions-test.true) (rw c.in-Err-Left.field-0-is at c.in-Err-Left.ensures.exact) is e

pub returns-then-not-lies_past-clause-only : goal.returns-then-not-lies_past-clause-only
returns-then-not-lies_past-clause-only c = λ all is e.
    never_falls c.transactions.transactions.items all c.args.bytes.now c.transactions.rest.now c.in-Ok.read.1.now c.in-Ok.read.0 c.transactions.invariant.spelled c.transactions.invariant.parts
    (some_left c.transactions.rest.now c.is_empty.result c.is_empty.ensures c.transactions-test.true) c.in-Ok.ensures.exact
    (ap (lies_past c.in-Ok.read.0.at) (sym c.transactions.invariant.last) ∙ sym c.lies_past.ensures ∙ c.if-not-lies_past.true) is e

pub transactions-smaller : goal.transactions-smaller
transactions-smaller c =
    let h : IsBytes c.transactions.rest.now = bytes_left c.args.bytes.now (body_spelling c.transactions.transactions.items) c.transactions.rest.now (λ i. omega (arith, c.type_inv.bytes i)) c.transactions.invariant.parts in
    left_fewer c.transactions.rest.now c.in-Ok.read.1.now c.in-Ok.read.0 (read_more c.args.bytes.now c.transactions.rest.now c.in-Ok.read.1.now c.in-Ok.read.0 h c.in-Ok.ensures.exact).0

pub transactions-preserved : goal.transactions-preserved
transactions-preserved c =
    let t = c.in-Ok.read.0 in
    let ts = c.transactions.transactions.items in
    let h : IsBytes c.transactions.rest.now = bytes_left c.args.bytes.now (body_spelling ts) c.transactions.rest.now (λ i. omega (arith, c.type_inv.bytes i)) c.transactions.invariant.parts in
    let read = read_more c.args.bytes.now c.transactions.rest.now c.in-Ok.read.1.now t h c.in-Ok.ensures.exact in
    let past : lies_past t.at (last_offset ts) ≡ true = ap (lies_past t.at) (sym c.transactions.invariant.last) ∙ sym c.lies_past.ensures ∙ c.if-not-lies_past.false in
    rw c.in_ok-push.ensures.items (record {
      spelled = AllByRecursion-append IsTransaction ts (t ∷ []) c.transactions.invariant.spelled (read.1, tt);
      rising = rising-more ts t c.transactions.invariant.rising past;
      last = last_offset-more ts t;
      parts = parts-more c.args.bytes.now ts c.transactions.rest.now c.in-Ok.read.1.now t c.transactions.invariant.parts read.0;
    })

pub returns-clause-only : goal.returns-clause-only
returns-clause-only c = λ all is e.
    all_read c.transactions.transactions.items all c.args.bytes.now c.transactions.rest.now c.transactions.invariant.spelled is c.transactions.invariant.parts e
    (none_left_of c.transactions.rest.now c.is_empty.result c.is_empty.ensures c.transactions-test.false)

pub returns-clause-short : goal.returns-clause-short
returns-clause-short c = AllByRecursion-map IsTransaction IsShortTransaction c.transactions.transactions.items short_transaction c.transactions.invariant.spelled
