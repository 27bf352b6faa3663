use Rattle.std.proofs.Common.{◌≡◌, ◌∷◌, List, map, rules, sym, ap, subst, ◌∙◌}
use Rattle.sr_ast.specs.declared.query.Join.{Join}
use Rattle.sr_exec_dml.specs.Inner.Edits.{prefixed}
use Rattle.sr_query.specs.Sources.{origins_of}
use Rattle.sr_query.specs.Inner.Walks.{AreJoined, seen}
use Rattle.sr_query.proofs.Combined.{joined_one, one_more}
use Rattle.sr_query.proofs.joining.joined_sources.Goals as goal

pub joins-preserved : goal.joins-preserved
joins-preserved c =
    let rows = c.args.rows.now.rows in
    let begins : c.joins.left.now ≡ c.in-Some.join.now ∷ c.in-Some.rest.now = search rules in
    record {
      fit = subst (AreJoined rows) (sym c.in_ok-push-2.ensures.ok) (joined_one rows c.joins.found.items _ c.joins.invariant.fit c.in_ok-joined-2.ensures.fit);
      answer = sym (one_more rows c.joins.found.items _ _ _ _ c.in_ok-push-2.ensures.ok c.in_ok-joined-2.ensures.answer)
          ∙ ap (λ (ls : List Join). prefixed (map (seen rows) c.joins.found.items) (origins_of c.args.catalog.now rows (map (λ (j : Join). j.source) ls)))
          (sym begins) ∙ c.joins.invariant.answer;
    }
