use Rattle.std.proofs.Common.{rules, sym, ap, ◌∙◌}
use Rattle.std.specs.FinMap as map
use Rattle.sr_rows.proofs.Gathering.{place_at-held, gathered-same}
use Rattle.sr_rows.proofs.tables.ease_removal_at.Goals as goal

pub returns : goal.returns
returns c =
    let es = c.args.tables.now.entries in
    let table = c.ease_removal.new.self in
    record { same = gathered-same es (c.get_mut.follows.lender table).entries c.args.table.now table ((c.get_mut.follows.holds table).3 (search rules)).0 (λ j. place_at-held es c.args.table.now c.in-Some.held.now c.in-Some.ensures.value j ∙ ap (λ m. map.get m j) (sym c.ease_removal.ensures.same)) }
