use Rattle.std.proofs.Common.{◌≡◌, length, drop, map, sym, subst, arith}
use Rattle.std.proofs.lemmas.Bool.{iff_false}
use Rattle.std.proofs.lemmas.List.{take_at}
use Rattle.sr_mail.specs.Assembled.{total_of, IsAssembled}
use Rattle.sr_mail.specs.Seen.{Cover}
use Rattle.sr_mail.proofs.Looping.{assembled}
use Rattle.sr_mail.proofs.assembling.assemble.Goals as goal

pub returns-then-not-branch-clause-none : goal.returns-then-not-branch-clause-none
returns-then-not-branch-clause-none c = λ can.
    iff_false c.in_ok-have_all.ensures c.if-not-branch.true (subst (Cover (map (λ pair. pair.0) c.args.pieces.now)) (sym c.total_of-total.ensures) can.covered)

pub returns-clause-found : goal.returns-clause-found
returns-clause-found c =
    let pairs = c.args.pieces.now in
    let made = c.fill.new.bytes in
    let size : length made ≡ c.resize.new.self.len = omega (arith, c.fill.auto.bytes, c.as_mut_slice.ensures.len) in
    let whole : length made ≡ total_of pairs = omega (arith, size, c.in_ok-resize.ensures.len, c.total_of-total.ensures) in
    subst (IsAssembled pairs) (sym (take_at made (drop (length made) c.resize.new.self.items) c.resize.new.self.len size))
    (assembled pairs made (c.are_own.ensures.0 c.if-not-are_own.false) (subst (Cover (map (λ pair. pair.0) pairs)) c.total_of-total.ensures (c.in_ok-have_all.ensures.0 c.if-not-branch.false)) whole
    (λ place byte lt e. c.fill.ensures place byte (omega (arith, lt, c.fill.auto.bytes)) e))
