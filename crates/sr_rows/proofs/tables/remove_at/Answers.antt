use Rattle.std.proofs.Common.{rules}
use Rattle.std.specs.FinMap as map
use Rattle.sr_rows.specs.Inner.Gathered.{gathered}
use Rattle.sr_rows.proofs.Entries.{there_not_none}
use Rattle.sr_rows.proofs.Gathering.{get-gone, place_at-held, gathered-removed}
use Rattle.sr_rows.proofs.tables.remove_at.Goals as goal

pub returns-in_default : goal.returns-in_default
returns-in_default c = record { removed = there_not_none (map.get (gathered c.args.tables.now.entries) (c.args.table.now, c.args.key.now)) (get-gone c.args.tables.now.entries c.args.table.now c.args.key.now c.in_default.ensures.value) c.requires.there }

pub returns : goal.returns
returns c =
    let es = c.args.tables.now.entries in
    let table = c.remove.new.self in
    record { removed = gathered-removed es (c.get_mut.follows.lender table).entries c.args.table.now c.in-Some.held.now table c.args.key.now ((c.get_mut.follows.holds table).3 (search rules)).0 (place_at-held es c.args.table.now c.in-Some.held.now c.in-Some.ensures.value) c.remove.ensures.removed }
