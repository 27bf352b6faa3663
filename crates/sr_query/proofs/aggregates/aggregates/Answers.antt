use Rattle.std.proofs.Common.{◌≡◌, ◌∷◌, [], List, Result, map, rules, arith, sym, ap, subst, ◌∙◌}
use Rattle.std.proofs.lemmas.List.{with_items_is}
use Rattle.std.proofs.lemmas.Result.{err_from_is_err_and}
use Rattle.sr_base.specs.declared.value.Value.{Value as Cell}
use Rattle.sr_catalog_schema.specs.declared.fault.DmlFault.{DmlFault}
use Rattle.sr_exec_dml.specs.Inner.Conditions.{Answers}
use Rattle.sr_query.specs.Combinations.{combinations}
use Rattle.sr_query.specs.Inner.Tallies.{each_over, started, told_of}
use Rattle.sr_query.specs.Inner.Walks.{seen}
use Rattle.sr_query.specs.Sources.{conditions_of}
use Rattle.sr_query.specs.declared.tallies.Tally.{Tally}
use Rattle.sr_query.proofs.Tallied.{begun}
use Rattle.sr_query.proofs.aggregates.aggregates.Goals as goal

pub returns-in_err-take_rows : goal.returns-in_err-take_rows
returns-in_err-take_rows c =
    let p = err_from_is_err_and c.from_residual-in_err-take_rows.result c.from_residual-in_err-take_rows.ensures.1 in
    let scope = c.args.prepared.now.scope.now in
    let same : c.as_mut_slice.result.now ≡ c.in_ok-tallies.tallies.items = search rules in
    let begins : map told_of c.as_mut_slice.result.now ≡ map (started scope) c.args.items.now = ap (map told_of) same ∙ c.in_ok-tallies.ensures.tallies in
    record {
      answer = rw (p.1, p.2) (λ ne. sym (begun scope (conditions_of c.args.prepared.now.select.now) (map told_of c.as_mut_slice.result.now) c.args.items.now
          (combinations [] (seen c.args.rows.now.rows c.args.joined.now ∷ [])) begins) ∙ c.in_err-take_rows.ensures.answer ne);
    }

pub returns : goal.returns
returns c =
    let scope = c.args.prepared.now.scope.now in
    let same : c.as_mut_slice.result.now ≡ c.in_ok-tallies.tallies.items = search rules in
    let begins : map told_of c.as_mut_slice.result.now ≡ map (started scope) c.args.items.now = ap (map told_of) same ∙ c.in_ok-tallies.ensures.tallies in
    let left : c.take_rows.new.tallies ≡ c.as_slice.result.now =
    sym (c.as_slice.ensures.value ∙ with_items_is c.in_ok-tallies.tallies c.take_rows.new.tallies (omega arith)) in
    let is = sym (begun scope (conditions_of c.args.prepared.now.select.now) (map told_of c.as_mut_slice.result.now) c.args.items.now
    (combinations [] (seen c.args.rows.now.rows c.args.joined.now ∷ [])) begins) ∙ c.in_ok-take_rows.ensures.answer
    ∙ ap (λ (ts : List Tally). each_over (map told_of ts) []) left in
    record { answer = subst (λ (x : Result (List Cell) DmlFault). Answers c.values_of.result x) (sym is) c.values_of.ensures.answer }
