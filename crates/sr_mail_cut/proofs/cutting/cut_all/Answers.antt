use Rattle.std.proofs.Common.{◌≡◌, ◌+◌, List, ◌∷◌, [], ◌++◌, take, refl, sym, ap, ◌∙◌, arith, subst}
use Rattle.std.proofs.lemmas.List.{take_all}
use Rattle.std.proofs.lemmas.Result.{err_from_is_err_and}
use Rattle.sr_logform.specs.declared.op.Transaction.{Transaction}
use Rattle.sr_mail_cut.specs.Bodies.{first_long}
use Rattle.sr_mail_cut.specs.Cuts.{Cutting, HasGiven}
use Rattle.sr_mail_cut.proofs.Items.{cause_of, not_long_more}
use Rattle.sr_mail_cut.proofs.Lists.{take_item}
use Rattle.sr_mail_cut.proofs.cutting.cut_all.Goals as goal

pub loop-transaction-init : goal.loop-transaction-init
loop-transaction-init c = record {
  given = rw c.new-messages.ensures.items c.in_ok-cutter.ensures.begins;
  fits = refl;
  head = ap (λ (x : Cutting). x.head) c.in_ok-cutter.ensures.made;
  limit = ap (λ (x : Cutting). x.limit) c.in_ok-cutter.ensures.made;
}

pub returns-in_err-closed-clause-cause : goal.returns-in_err-closed-clause-cause
returns-in_err-closed-clause-cause c =
    let p = err_from_is_err_and c.from_residual-in_err-closed.result c.from_residual-in_err-closed.ensures.1 in
    rw (p.1, p.2) (cause_of c.args.transactions.now c.loop-transaction.transaction-index c.transaction-item.result c.in_err-closed.field-0.0 c.loop-transaction-test.true c.transaction-item.is c.loop-transaction.invariant.fits c.in_err-closed.ensures.cause)

pub loop-transaction-preserved : goal.loop-transaction-preserved
loop-transaction-preserved c =
    let ts = c.args.transactions.now in
    let i = c.loop-transaction.transaction-index in
    let t = c.transaction-item.result in
    let more : take (i + 1) ts ≡ take i ts ++ t ∷ [] = take_item ts i t c.loop-transaction-test.true c.transaction-item.is in
    record {
      given = rw c.in_ok-append.ensures.items (subst (λ (x : List Transaction). HasGiven c.push.new.self c.args.prev x (c.loop-transaction.messages.items ++ c.in_ok-closed.closed.items)) (sym more) (c.in_ok-closed.ensures.given c.args.prev (take i ts) c.loop-transaction.messages.items c.loop-transaction.invariant.given));
      fits = not_long_more ts i t c.loop-transaction-test.true c.transaction-item.is c.loop-transaction.invariant.fits c.in_ok-closed.ensures.fits;
      head = c.in_ok-closed.ensures.same.0 ∙ c.loop-transaction.invariant.head;
      limit = c.in_ok-closed.ensures.same.1 ∙ c.loop-transaction.invariant.limit;
    }

pub returns-clause-cut : goal.returns-clause-cut
returns-clause-cut c =
    let ts = c.args.transactions.now in
    let all : take c.loop-transaction.transaction-index ts ≡ ts = take_all c.loop-transaction.transaction-index ts (omega (arith, c.loop-transaction-test.false)) in
    let cut = c.in_ok-last.ensures.cut c.args.prev (take c.loop-transaction.transaction-index ts) c.loop-transaction.messages.items c.loop-transaction.invariant.given in
    rw (c.in_ok-append-2.ensures.items, ← c.loop-transaction.invariant.head, ← c.loop-transaction.invariant.limit) (rw all at cut)

pub returns-clause-fits : goal.returns-clause-fits
returns-clause-fits c = ap first_long (sym (take_all c.loop-transaction.transaction-index c.args.transactions.now (omega (arith, c.loop-transaction-test.false)))) ∙ c.loop-transaction.invariant.fits
