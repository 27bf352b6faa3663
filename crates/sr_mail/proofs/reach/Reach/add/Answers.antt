use Rattle.std.proofs.Common.{◌+◌, ◌∷◌, [], ◌++◌, refl, arith}
use Rattle.std.proofs.lemmas.Result.{on_ok_weaker, on_err_weaker}
use Rattle.sr_mail.proofs.Following.{follows_within, follows_on, follows_waits, follows_same}
use Rattle.sr_mail.proofs.reach.Reach.add.Goals as goal

pub returns-then-end-self-clause-follows : goal.returns-then-end-self-clause-follows
returns-then-end-self-clause-follows c = λ pieces piece s l h. follows_within c.args.self.now pieces piece (omega (arith, s, l, c.if-end-self.true)) h

pub returns-then-self-start-clause-follows : goal.returns-then-self-start-clause-follows
returns-then-self-start-clause-follows c =
    on_ok_weaker c.wait.result (λ now pieces piece s l h. follows_waits c.args.self.now c.wait.new.self pieces piece c.args.start c.args.length s l now h) c.wait.ensures.ok

pub returns-then-self-start-clause-err : goal.returns-then-self-start-clause-err
returns-then-self-start-clause-err c = on_err_weaker c.wait.result (λ same pieces h. follows_same c.args.self.now c.wait.new.self pieces same h) c.wait.ensures.err

pub returns-clause-follows : goal.returns-clause-follows
returns-clause-follows c = λ pieces piece s l h.
    c.settle.ensures.follows (pieces ++ piece ∷ [])
    (follows_on c.args.self.now (record { reached = c.args.start + c.args.length; waiting = c.args.self.now.waiting }) pieces piece (omega (arith, s, c.if-self-start.false)) (omega (arith, s, l, c.if-end-self.false)) (omega (arith, s, l)) refl h)
