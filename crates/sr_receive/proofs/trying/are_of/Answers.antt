use Rattle.std.proofs.Common.{eq-eqb}
use Rattle.std.proofs.lemmas.Bool.{eqb-true}
use Rattle.sr_receive.proofs.Leading.{of_window, window_of_them}
use Rattle.sr_receive.proofs.trying.are_of.Goals as goal

pub returns-then-window-first : goal.returns-then-window-first
returns-then-window-first c =
    let w = c.args.window in
    let txs = c.args.transactions.now in
    let first = c.in-Some.first.now in
    let rest = c.in-Some.field-0-1.now in
    let last = c.in-Some-split_last.last.now in
    let prefix = c.in-Some-split_last.field-0-1.now in (
      λ yes. of_window w txs rest prefix first last c.in-Some.ensures.cases.0 c.in-Some-split_last.ensures.cases.0 c.requires.body c.if-window-first.true (eqb-true last.at.0 w.upto yes),
      λ are. eq-eqb last.at.0 w.upto (window_of_them w txs rest prefix first last c.in-Some.ensures.cases.0 c.in-Some-split_last.ensures.cases.0 are).1,
    )
