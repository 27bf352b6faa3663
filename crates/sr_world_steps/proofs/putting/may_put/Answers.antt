use Rattle.sr_world_steps.proofs.Truths.{not_backed, true_where}
use Rattle.sr_world_steps.proofs.putting.may_put.Goals as goal

pub returns-then-not-is_backed : goal.returns-then-not-is_backed
returns-then-not-is_backed c = record {
  may = not_backed c.args.at.now c.args.log.now c.args.message.now c.book_of-book.result c.end_of.result c.is_backed.result c.book_of-book.ensures.book c.end_of.ensures.end c.is_backed.ensures.backed c.if-not-is_backed.true;
}

pub returns : goal.returns
returns c = record {
  may = true_where c.args.at.now c.args.log.now c.args.message.now c.book_of-book.result c.end_of.result c.is_same.result c.in_ok-is_spelled.field-0 c.is_backed.result c.in_ok-carried.carried
      c.is_same.ensures.same c.if-not-is_same.false c.in_ok-is_spelled.ensures.spelled c.if-not-branch.false c.book_of-book.ensures.book c.end_of.ensures.end c.is_backed.ensures.backed c.if-not-is_backed.false
      c.in_ok-carried.ensures.carries;
}
