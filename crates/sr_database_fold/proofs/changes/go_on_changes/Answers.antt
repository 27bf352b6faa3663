use Rattle.std.proofs.Common.{◌≡◌, true, rules, refl, sym, subst}
use Rattle.std.specs.List.{AllByRecursion}
use Rattle.sr_database_fold.specs.Inner.Movements.{Differs}
use Rattle.sr_database_fold.specs.Inner.Told.{ChangeTold}
use Rattle.sr_database_fold.proofs.Changing.{no_table_told, found_held, change_keeps, changes_on, changes_stuck}
use Rattle.sr_database_fold.proofs.changes.go_on_changes.Goals as goal

pub returns-in_default-table_of-clause-told : goal.returns-in_default-table_of-clause-told
returns-in_default-table_of-clause-told c =
    changes_stuck c.args.catalog.now c.args.rows.now.rows c.changes.rows.rows c.changes.rows.rows _ c.args.changes.now c.changes.left.now c.in-Some.rest.now c.in-Some.change.now _
    c.changes.invariant.more
    (no_table_told c.args.catalog.now c.changes.rows.rows c.changes.rows.rows c.in-Some.change.now (sym c.in_default-table_of.ensures.table))
    refl c.in-Some.ensures.cases.0

pub returns-then-not-branch-clause-told : goal.returns-then-not-branch-clause-told
returns-then-not-branch-clause-told c =
    changes_stuck c.args.catalog.now c.args.rows.now.rows c.changes.rows.rows _ _ c.args.changes.now c.changes.left.now c.in-Some.rest.now c.in-Some.change.now _
    c.changes.invariant.more
    (c.in_ok-go_on_change.ensures.told c.args.catalog.now c.changes.invariant.rows (sym c.in-Some-table_of.ensures.table))
    c.if-not-branch.true c.in-Some.ensures.cases.0

pub changes-preserved : goal.changes-preserved
changes-preserved c =
    let catalog = c.args.catalog.now in
    let told = c.in_ok-go_on_change.field-0 in
    let so : told ≡ true = search rules in
    let t : ChangeTold catalog c.changes.rows.rows c.in-Some.change.now c.go_on_change.new.rows.rows told =
    c.in_ok-go_on_change.ensures.told catalog c.changes.invariant.rows (sym c.in-Some-table_of.ensures.table) in
    record {
      rows = change_keeps catalog c.changes.rows.rows c.go_on_change.new.rows.rows c.in-Some.change.now told c.changes.invariant.rows so t;
      fresh = c.go_on_change.ensures.fresh;
      differ = (subst (AllByRecursion Differs) c.in-Some.ensures.cases.0 c.changes.invariant.differ).1;
      last = found_held catalog c.in-Some.change.now.table c.in-Some-table_of.table.now c.in-Some-table_of.ensures.table;
      more = changes_on catalog c.args.rows.now.rows c.changes.rows.rows c.go_on_change.new.rows.rows c.args.changes.now c.changes.left.now c.in-Some.rest.now c.in-Some.change.now told
          c.changes.invariant.more t so c.in-Some.ensures.cases.0;
    }
