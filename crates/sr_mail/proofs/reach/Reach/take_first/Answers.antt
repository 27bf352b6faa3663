use Rattle.std.proofs.Common.{◌≡◌, inl, inr, refl, arith}
use Rattle.sr_mail.proofs.Following.{follows_first, elsewhere, same_start}
use Rattle.sr_mail.proofs.reach.Reach.take_first.Goals as goal

pub returns-then-self-end-clause-follows : goal.returns-then-self-end-clause-follows
returns-then-self-end-clause-follows c = λ pieces h.
    let k = c.in-Some.field-0-0 in
    let same : c.requires.start ≡ k = same_start _ _ _ _ _ _ _ c.requires.entries c.in-Some.ensures.removal in
    follows_first c.args.self.now (record { reached = c.in-Some.end; waiting = c.pop_first.new.self }) pieces k c.in-Some.end c.in-Some.ensures.value (omega (arith, c.requires.within, same)) c.in-Some.ensures.updates.1
    (λ other ne. c.in-Some.ensures.updates.2 other (elsewhere k other ne)) (omega arith) (omega arith) (inr refl) h

pub returns-else-self-end-clause-follows : goal.returns-else-self-end-clause-follows
returns-else-self-end-clause-follows c = λ pieces h.
    let k = c.in-Some.field-0-0 in
    let same : c.requires.start ≡ k = same_start _ _ _ _ _ _ _ c.requires.entries c.in-Some.ensures.removal in
    follows_first c.args.self.now (record { reached = c.args.self.now.reached; waiting = c.pop_first.new.self }) pieces k c.in-Some.end c.in-Some.ensures.value (omega (arith, c.requires.within, same)) c.in-Some.ensures.updates.1
    (λ other ne. c.in-Some.ensures.updates.2 other (elsewhere k other ne)) (omega arith) (omega arith) (inl refl) h
