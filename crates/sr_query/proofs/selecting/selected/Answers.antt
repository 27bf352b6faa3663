use Rattle.std.proofs.Common.{◌≡◌, ◌≢◌, List, [], true, false, cond, None, Some, Result, Ok, Err, MatchResult, map, rules, sym, ap, subst, ◌∙◌}
use Rattle.sr_catalog_schema.specs.declared.fault.DmlFault.{DmlFault}
use Rattle.sr_catalog_schema.specs.declared.fault.DmlFault.TheVariants.{BadValue, Memory}
use Rattle.sr_exec_dml.specs.Sequences.{followed}
use Rattle.sr_exec_dml.specs.Statements.{in_order}
use Rattle.sr_query.specs.Checks.{is_good, unknown_in_select}
use Rattle.sr_query.specs.Combinations.{combinations, kept}
use Rattle.sr_query.specs.Rows.{listed}
use Rattle.sr_query.specs.Selecting.{bad_in_select}
use Rattle.sr_query.specs.Sources.{conditions_of}
use Rattle.sr_query.specs.Inner.Walks.{IsAlone, columns_left, seen}
use Rattle.sr_query.specs.declared.rank.Listed.{Listed}
use Rattle.sr_query.proofs.Alone.{is_alone}
use Rattle.sr_query.proofs.Whole.{by_sources}
use Rattle.sr_query.proofs.selecting.selected.Goals as goal

pub returns-in-Some : goal.returns-in-Some
returns-in-Some c =
    let scope : c.in_ok-scope.scope ≡ columns_left c.in_ok-joined.joined.items = search rules in
    let s = c.args.stmt.now in
    let whole = by_sources c.args.catalog.now c.args.rows.now.rows s c.in_ok-joined.joined.items c.in_ok-joined.joined.items c.in_ok-scope.scope
    (λ i. c.in_ok-joined.joined.items) c.in_ok-joined.ensures.answer scope in
    record {
      answer = λ ne. whole
          ∙ ap (λ u. in_order u (bad_in_select c.in_ok-scope.scope s) (followed
          (kept c.in_ok-scope.scope (conditions_of s) (combinations [] (map (seen c.args.rows.now.rows) c.in_ok-joined.joined.items)))
          (listed c.in_ok-scope.scope s.items s.order))) (sym c.in_ok-name.ensures.unknown ∙ c.in-Some.is);
    }

pub returns-then-not-branch : goal.returns-then-not-branch
returns-then-not-branch c =
    let scope : c.in_ok-scope.scope ≡ columns_left c.in_ok-joined.joined.items = search rules in
    let s = c.args.stmt.now in
    let whole = by_sources c.args.catalog.now c.args.rows.now.rows s c.in_ok-joined.joined.items c.in_ok-joined.joined.items c.in_ok-scope.scope
    (λ i. c.in_ok-joined.joined.items) c.in_ok-joined.ensures.answer scope in
    let known : unknown_in_select c.in_ok-scope.scope s ≡ None = search rules in
    let bad : is_good c.in_ok-scope.scope s ≡ false = search rules in
    let rest = followed (kept c.in_ok-scope.scope (conditions_of s) (combinations [] (map (seen c.args.rows.now.rows) c.in_ok-joined.joined.items)))
    (listed c.in_ok-scope.scope s.items s.order) in
    record {
      answer = λ ne. whole ∙ ap (λ u. in_order u (bad_in_select c.in_ok-scope.scope s) rest) known
          ∙ ap (λ b. in_order None (cond b None (Some s.source.table)) rest) bad ∙ ap (λ n. Err (BadValue n)) (sym c.in_ok-copy.ensures.equal);
    }

pub answered-requires-clause-alone : goal.answered-requires-clause-alone
answered-requires-clause-alone c =
    let same : c.as_slice-2.result.now ≡ c.in_ok-joined.joined.items = search rules in
    let good : is_good c.in_ok-scope.scope c.args.stmt.now ≡ true = search rules in
    subst (IsAlone c.args.stmt.now.items) (sym same)
    (is_alone c.args.catalog.now c.args.rows.now.rows c.args.stmt.now c.in_ok-joined.joined.items c.in_ok-scope.scope c.in_ok-joined.ensures.answer good)

pub returns : goal.returns
returns c =
    let scope : c.in_ok-scope.scope ≡ columns_left c.in_ok-joined.joined.items = search rules in
    let s = c.args.stmt.now in
    let same : c.as_slice-2.result.now ≡ c.in_ok-joined.joined.items = search rules in
    let whole = by_sources c.args.catalog.now c.args.rows.now.rows s c.in_ok-joined.joined.items c.as_slice-2.result.now c.in_ok-scope.scope same c.in_ok-joined.ensures.answer scope in
    let known : unknown_in_select c.in_ok-scope.scope s ≡ None = search rules in
    let good : is_good c.in_ok-scope.scope s ≡ true = search rules in
    let rest = followed (kept c.in_ok-scope.scope (conditions_of s) (combinations [] (map (seen c.args.rows.now.rows) c.as_slice-2.result.now)))
    (listed c.in_ok-scope.scope s.items s.order) in
    let is = whole ∙ ap (λ u. in_order u (bad_in_select c.in_ok-scope.scope s) rest) known
    ∙ ap (λ b. in_order None (cond b None (Some s.source.table)) rest) good in
    record {
      answer = subst (λ (x : Result (List Listed) DmlFault). MatchResult c.answered.result (λ rows. x ≡ Ok rows.items)
          (λ fault. fault ≢ Memory → x ≡ Err fault)) (sym is) c.answered.ensures.answer;
    }
