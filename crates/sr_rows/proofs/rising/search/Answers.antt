use Rattle.std.proofs.Common.{sym, ◌∙◌}
use Rattle.sr_rows.proofs.Searching.{past_last, less}
use Rattle.sr_rows.proofs.rising.search.Goals as goal

pub returns-in_default : goal.returns-in_default
returns-in_default c = record {
  ends = past_last c.args.places.now c.args.key.now c.in-Some.field-0.now c.requires.order c.in-Some.ensures.value
      (sym c.cmp.ensures ∙ less c.cmp.result (sym c.is_lt.ensures ∙ c.if-not-is_lt.false));
}
