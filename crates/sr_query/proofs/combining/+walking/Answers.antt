use Rattle.std.proofs.Common.{◌≡◌, ◌∷◌, ◌++◌, map, Some, rules, arith, refl, sym, ap, subst, ◌∙◌}
use Rattle.std.proofs.lemmas.Result.{err_from_is_err_and}
use Rattle.sr_eval.specs.Bounds.{IsRowOf}
use Rattle.sr_eval.specs.Inner.Bounds.{AreRows, columns_of, values_of}
use Rattle.sr_rows.specs.Walks.{Entry}
use Rattle.sr_rows.proofs.Cursors.{AreHeld, table_held}
use Rattle.sr_exec_dml.specs.Inner.Edits.{prefixed}
use Rattle.sr_query.specs.Combinations.{combinations, kept, over_each}
use Rattle.sr_query.specs.Inner.Combinations.{Keeps}
use Rattle.sr_query.specs.Inner.Equations.{equations}
use Rattle.sr_query.specs.Inner.Lookups.{equated_key}
use Rattle.sr_query.specs.Sources.{conditions_of}
use Rattle.sr_query.specs.Inner.Walks.{AreJoined, columns_left, found, seen}
use Rattle.sr_query.proofs.Combined.{columns_on, values_on, fit_on, begins_walk, goes_on, row_of_source}
use Rattle.sr_query.proofs.OtherRows.{keeps_all}
use Rattle.sr_query.proofs.combining.+walking.Goals as goal

pub walk-returns-in-Some-2-clause-kept : goal.walk-returns-in-Some-2-clause-kept
walk-returns-in-Some-2-clause-kept t c =
    let rows = c.args.rows.now.rows in
    let bounds = c.args.combination.now.items in
    let joined = c.in-Some.joined.now in
    let after = c.in-Some.after.now in
    let conditions = conditions_of c.args.prepared.now.select.now in
    let begins : c.args.left.now ≡ joined ∷ after = search rules in
    let sources = subst (AreJoined rows) begins c.requires.joined in
    let same : c.as_slice-2.result.now ≡ bounds = search rules in
    let scope = c.args.prepared.now.scope.now in
    let fixed : equated_key (values_of bounds) joined.scope (equations scope conditions) joined.table.now.key ≡ Some c.in-Some-2.key =
    ap (λ bs. equated_key (values_of bs) joined.scope (equations scope conditions) joined.table.now.key) (sym same) ∙ sym c.in_ok-key.ensures.key ∙ c.in-Some-2.is in
    keeps_all rows scope conditions bounds joined after c.in-Some-2.key sources.0 c.and_holds_where_both_hold.ensures.held fixed
    c.walk_at.result (found c.args.kept.now.items) (found c.walk_at.new.kept.items) c.args.left.now begins c.walk_at.ensures.kept

pub walk-returns-in-None-clause-kept : goal.walk-returns-in-None-clause-kept
walk-returns-in-None-clause-kept t c =
    let rows = c.args.rows.now.rows in
    let begins : c.args.left.now ≡ c.in-Some.joined.now ∷ c.in-Some.after.now = search rules in
    subst
    (λ ls. Keeps c.walk_along.result c.args.prepared.now.scope.now (conditions_of c.args.prepared.now.select.now) (found c.args.kept.now.items)
    (combinations (values_of c.args.combination.now.items) (map (seen rows) ls)) (found c.walk_along.new.kept.items))
    (sym begins) c.walk_along.ensures.kept

pub walk_at-walk_row-requires : goal.walk_at-walk_row-requires
walk_at-walk_row-requires t c = (
  omega arith,
  (
    c.requires.scope,
    (
      c.requires.fit,
      (
        row_of_source c.args.rows.now.rows c.args.joined.now c.args.key.now c.in-Some.row.now c.requires.source (sym c.in-Some.ensures.row),
        (
          c.requires.joined,
          (c.requires.prepared),
        ),
      ),
    ),
  ),
)

pub walk_along-walk_row-requires : goal.walk_along-walk_row-requires
walk_along-walk_row-requires t c = (
  omega arith,
  (
    ap (λ xs. columns_of xs ++ (c.args.joined.now.scope ++ columns_left c.args.after.now)) c.rows.invariant.same ∙ c.requires.scope,
    (
      subst AreRows (sym c.rows.invariant.same) c.requires.fit,
      (
        row_of_source c.args.rows.now.rows c.args.joined.now c.in-Some._key.now c.in-Some.row.now c.requires.source
            (subst (AreHeld c.args.rows.now.rows c.args.joined.now.table.now.name) c.in-Some.ensures.next c.rows.invariant.held).0,
        (
          c.requires.joined,
          (c.requires.prepared),
        ),
      ),
    ),
  ),
)

pub walk_along-returns-in_err-walk_row-clause-kept : goal.walk_along-returns-in_err-walk_row-clause-kept
walk_along-returns-in_err-walk_row-clause-kept t c =
    let p = err_from_is_err_and c.from_residual.result c.from_residual.ensures.1 in
    let rows = c.args.rows.now.rows in
    let bounds = c.args.combination.now.items in
    let joined = c.args.joined.now in
    let after = c.args.after.now in
    let entries = map (λ (e : Entry). e.1) c.next.new.self in
    let later = over_each (λ row. combinations (values_of bounds ++ row) (map (seen rows) after)) entries in
    λ rest. rw (p.1, p.2) (λ ne. c.rows.invariant.kept rest
    ∙ goes_on rows c.args.prepared.now.scope.now (conditions_of c.args.prepared.now.select.now) (found c.rows.kept.items) bounds c.rows.combination.items joined after
    c.rows.source c.next.new.self c.in-Some._key.now c.in-Some.row.now rest c.rows.invariant.same c.in-Some.ensures.next
    ∙ c.in_err-walk_row.ensures.kept (later ++ rest) ne)

pub walk_along-rows-init : goal.walk_along-rows-init
walk_along-rows-init t c =
    record {
      same = refl;
      kept = begins_walk c.args.rows.now.rows c.args.prepared.now.scope.now (conditions_of c.args.prepared.now.select.now) (found c.args.kept.now.items)
          (values_of c.args.combination.now.items) c.args.joined.now c.args.after.now c.walk-source.result c.walk-source.ensures.rows;
      held = subst (AreHeld c.args.rows.now.rows c.args.joined.now.table.now.name) (sym c.walk-source.ensures.rows) (table_held c.args.rows.now.rows c.args.joined.now.table.now.name);
    }

pub walk_row-walk-requires : goal.walk_row-walk-requires
walk_row-walk-requires t c = (
  omega arith,
  (
    columns_on c.args.combination.now.items _ _ (columns_left c.args.after.now) c.args.prepared.now.scope.now c.in_ok-push.ensures.ok c.requires.scope,
    (
      fit_on c.args.combination.now.items _ _ c.in_ok-push.ensures.ok c.requires.fit
          (subst (IsRowOf c.args.joined.now.scope) (sym c.values.ensures.values) c.requires.row),
      (
        c.requires.joined,
        (c.requires.prepared),
      ),
    ),
  ),
)

pub walk_row-returns-in_err-walk-clause-kept : goal.walk_row-returns-in_err-walk-clause-kept
walk_row-returns-in_err-walk-clause-kept t c =
    let p = err_from_is_err_and c.from_residual-in_err-walk.result c.from_residual-in_err-walk.ensures.1 in
    let values = values_on c.args.combination.now.items _ _ c.in_ok-push.ensures.ok
    ∙ ap (λ v. values_of c.args.combination.now.items ++ v) c.values.ensures.values in
    λ rest. rw (p.1, p.2)
    (λ ne. ap (λ vs. prefixed (found c.args.kept.now.items) (kept c.args.prepared.now.scope.now (conditions_of c.args.prepared.now.select.now)
    (combinations vs (map (seen c.args.rows.now.rows) c.args.after.now) ++ rest))) (sym values) ∙ c.in_err-walk.ensures.kept rest ne)

pub walk_row-returns-clause-kept : goal.walk_row-returns-clause-kept
walk_row-returns-clause-kept t c =
    let values = values_on c.args.combination.now.items _ _ c.in_ok-push.ensures.ok
    ∙ ap (λ v. values_of c.args.combination.now.items ++ v) c.values.ensures.values in
    λ rest. ap (λ vs. prefixed (found c.args.kept.now.items) (kept c.args.prepared.now.scope.now (conditions_of c.args.prepared.now.select.now)
    (combinations vs (map (seen c.args.rows.now.rows) c.args.after.now) ++ rest))) (sym values) ∙ c.in_ok-walk.ensures.kept rest

pub walk_along-rows-preserved : goal.walk_along-rows-preserved
walk_along-rows-preserved t c =
    let rows = c.args.rows.now.rows in
    let bounds = c.args.combination.now.items in
    let joined = c.args.joined.now in
    let after = c.args.after.now in
    let entries = map (λ (e : Entry). e.1) c.next.new.self in
    let later = over_each (λ row. combinations (values_of bounds ++ row) (map (seen rows) after)) entries in
    record {
      same = c.in_ok-walk_row.ensures.same ∙ c.rows.invariant.same;
      kept = λ rest. c.rows.invariant.kept rest
          ∙ goes_on rows c.args.prepared.now.scope.now (conditions_of c.args.prepared.now.select.now) (found c.rows.kept.items) bounds c.rows.combination.items joined after
          c.rows.source c.next.new.self c.in-Some._key.now c.in-Some.row.now rest c.rows.invariant.same c.in-Some.ensures.next
          ∙ c.in_ok-walk_row.ensures.kept (later ++ rest);
      held = (subst (AreHeld c.args.rows.now.rows c.args.joined.now.table.now.name) c.in-Some.ensures.next c.rows.invariant.held).1;
    }
