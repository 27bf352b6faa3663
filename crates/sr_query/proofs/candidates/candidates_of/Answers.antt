use Rattle.std.proofs.Common.{◌≡◌, [], List, Option, Some, map, sym, ap, ◌∙◌}
use Rattle.sr_base.specs.declared.value.Value.{Value as Cell}
use Rattle.sr_rows.specs.Walks.{Entry}
use Rattle.sr_query.specs.Combinations.{kept}
use Rattle.sr_query.specs.Inner.Candidates.{as_rows}
use Rattle.sr_query.specs.Inner.Equations.{equations}
use Rattle.sr_query.specs.Inner.Lookups.{equated_key}
use Rattle.sr_query.specs.Sources.{conditions_of}
use Rattle.sr_query.proofs.Alone.{all_left, one_left}
use Rattle.sr_query.proofs.candidates.candidates_of.Goals as goal

pub returns-in-Some : goal.returns-in-Some
returns-in-Some c =
    let rows = c.args.rows.now.rows in
    let scope = c.args.prepared.now.scope.now in
    let conditions = conditions_of c.args.prepared.now.select.now in
    let joined = c.args.joined.now in
    let fixed : equated_key [] joined.scope (equations scope conditions) joined.table.now.key ≡ Some c.in-Some.key = sym c.in_ok-key.ensures.key ∙ c.in-Some.is in
    record {
      rows = one_left rows scope conditions joined c.in-Some.key c.requires.source c.and_holds_where_both_hold.ensures.held fixed
          ∙ ap (λ (o : Option (List Cell)). kept scope conditions (as_rows o)) (sym c.get.ensures.row);
    }

pub returns-in-None : goal.returns-in-None
returns-in-None c =
    let scope = c.args.prepared.now.scope.now in
    let conditions = conditions_of c.args.prepared.now.select.now in
    record {
      rows = all_left c.args.rows.now.rows scope conditions c.args.joined.now
          ∙ ap (λ (es : List Entry). kept scope conditions (map (λ (e : Entry). e.1) es)) (sym c.walk.ensures.rows);
    }
