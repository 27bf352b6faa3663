use Rattle.std.proofs.Common.{sym, ap, ◌∙◌}
use Rattle.std.specs.Cmp.{Equal-is}
use Rattle.sr_base.proofs.Exact.{exact_keys}
use Rattle.sr_rows.proofs.rising.search_from.Goals as goal

pub returns-in-Some : goal.returns-in-Some
returns-in-Some c =
    let found = c.in-Some.ensures.lookup.3 in
    let same = exact_keys c.in-Some.field-0.now.0 c.args.key.now (sym c.cmp.ensures ∙ (Equal-is c.cmp.result).0 (sym c.is_eq.ensures ∙ c.if-is_eq.true)) in
    record { ends = (found.0, λ d. ap (λ e. e.0) (sym (found.1 d)) ∙ same) }
