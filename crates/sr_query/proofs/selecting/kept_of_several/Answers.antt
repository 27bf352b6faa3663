use Rattle.std.proofs.Common.{[], Ok, map, ap, ◌∙◌}
use Rattle.std.proofs.lemmas.List.{append-nil}
use Rattle.std.proofs.lemmas.Result.{err_from_is_err_and}
use Rattle.sr_query.specs.Sources.{conditions_of}
use Rattle.sr_query.specs.Inner.Walks.{found, seen}
use Rattle.sr_query.proofs.Whole.{from_nothing}
use Rattle.sr_query.proofs.selecting.kept_of_several.Goals as goal

pub returns-in_err-walk : goal.returns-in_err-walk
returns-in_err-walk c =
    let p = err_from_is_err_and c.from_residual.result c.from_residual.ensures.1 in
    record {
      answer = rw (p.1, p.2) (λ ne. from_nothing c.args.prepared.now.scope.now (conditions_of c.args.prepared.now.select.now) c.new-kept.result.items c.new-combination.result.items
          (map (seen c.args.rows.now.rows) c.args.joined.now) _ c.new-kept.ensures.items c.new-combination.ensures.items (c.in_err-walk.ensures.kept [] ne));
    }

pub returns : goal.returns
returns c = record {
  answer = from_nothing c.args.prepared.now.scope.now (conditions_of c.args.prepared.now.select.now) c.new-kept.result.items c.new-combination.result.items
      (map (seen c.args.rows.now.rows) c.args.joined.now) _ c.new-kept.ensures.items c.new-combination.ensures.items (c.in_ok-walk.ensures.kept [])
      ∙ ap Ok (append-nil (found c.walk.new.kept.items));
}
