use Rattle.std.proofs.Common.{rules, subst, IsSome, ◌∙◌}
use Rattle.std.specs.FinMap as map
use Rattle.sr_rows.specs.Inner.Gathered.{gathered}
use Rattle.sr_rows.proofs.Entries.{there_not_none}
use Rattle.sr_rows.proofs.Gathering.{get-held, get-gone, place_at-held, gathered-inserted}
use Rattle.sr_rows.proofs.tables.set_at.Goals as goal

pub returns-in_default-clause-before : goal.returns-in_default-clause-before
returns-in_default-clause-before c = there_not_none (map.get (gathered c.args.tables.now.entries) (c.args.table.now, c.args.key.now)) (get-gone c.args.tables.now.entries c.args.table.now c.args.key.now c.in_default.ensures.value) c.requires.there

pub returns-in_default-clause-set : goal.returns-in_default-clause-set
returns-in_default-clause-set c = there_not_none (map.get (gathered c.args.tables.now.entries) (c.args.table.now, c.args.key.now)) (get-gone c.args.tables.now.entries c.args.table.now c.args.key.now c.in_default.ensures.value) c.requires.there

pub set-requires : goal.set-requires
set-requires c = record { there = subst IsSome (get-held c.args.tables.now.entries c.args.table.now c.in-Some.held.now c.args.key.now c.in-Some.ensures.value) c.requires.there }

pub returns-clause-before : goal.returns-clause-before
returns-clause-before c = get-held c.args.tables.now.entries c.args.table.now c.in-Some.held.now c.args.key.now c.in-Some.ensures.value ∙ c.set.ensures.before

pub returns-clause-set : goal.returns-clause-set
returns-clause-set c =
    let es = c.args.tables.now.entries in
    let table = c.set.new.self in
    gathered-inserted es (c.get_mut.follows.lender table).entries c.args.table.now c.in-Some.held.now table c.args.key.now c.args.place ((c.get_mut.follows.holds table).3 (search rules)).0 (place_at-held es c.args.table.now c.in-Some.held.now c.in-Some.ensures.value) c.set.ensures.set
