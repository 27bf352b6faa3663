use Rattle.std.proofs.Common.{◌≡◌, None, take}
use Rattle.sr_mail_cut.specs.Bodies.{first_long}
use Rattle.sr_mail_cut.specs.Cuts.{HasGiven}
use Rattle.sr_mail_cut.proofs.cutting.cut_all.Given as goal

abbrev pub invariant-loop-transaction : goal.invariant-loop-transaction
invariant-loop-transaction l = record {
  given : HasGiven l.cutter l.fn.prev (take l.transaction-index l.transactions) l.messages.items;
  fits : first_long (take l.transaction-index l.transactions) ≡ None;
  head : l.cutter.head ≡ l.head;
  limit : l.cutter.limit ≡ l.length;
}
