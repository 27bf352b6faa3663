use Rattle.std.proofs.Common.{◌≡◌, List, Ok, true, false, map, sym, ap, ◌∙◌}
use Rattle.std.proofs.lemmas.Result.{err_from_is_err_and}
use Rattle.sr_query.specs.Combinations.{meets}
use Rattle.sr_query.specs.Inner.Tallies.{tallied, told_of}
use Rattle.sr_query.specs.Sources.{conditions_of}
use Rattle.sr_query.specs.declared.tallies.Tally.{Tally}
use Rattle.sr_query.proofs.Tallied.{passed_over, refused, taken_in}
use Rattle.sr_query.proofs.aggregates.take_met.Goals as goal
use Rattle.sr_query.proofs.aggregates.take_met.Goals.{then-branch+in_ok-take_row, else-branch}

pub returns-in_err-take_row : goal.returns-in_err-take_row
returns-in_err-take_row c =
    let p = err_from_is_err_and c.from_residual-in_err-take_row.result c.from_residual-in_err-take_row.ensures.1 in
    let scope = c.args.prepared.now.scope.now in
    let conditions = conditions_of c.args.prepared.now.select.now in
    let met : meets scope conditions c.args.row.now ≡ Ok true = c.in_ok-meets.ensures.answer ∙ ap Ok c.if-branch.true in
    record {
      takes = λ rest. rw (p.1, p.2) (λ ne. refused scope conditions (map told_of c.args.tallies.now) c.args.row.now rest _ met
          (c.in_err-take_row.ensures.answer ne));
    }

pub returns : goal.returns
returns c =
    let scope = c.args.prepared.now.scope.now in
    let conditions = conditions_of c.args.prepared.now.select.now in
    let before = map told_of c.args.tallies.now in
    let row = c.args.row.now in
    record {
      takes = λ rest. elim c.if-branch.branch [
        | then-branch+in_ok-take_row w ↦
            let met : meets scope conditions row ≡ Ok true = c.in_ok-meets.ensures.answer ∙ ap Ok w.if-branch.true in
            taken_in scope conditions before row rest (map told_of w.take_row.new.tallies) met w.in_ok-take_row.ensures.answer
            ∙ ap (λ (ts : List Tally). tallied scope conditions (map told_of ts) rest) (sym w.tallies-is)
        | else-branch w ↦
            let met : meets scope conditions row ≡ Ok false = c.in_ok-meets.ensures.answer ∙ ap Ok w.if-branch.false in
            passed_over scope conditions before row rest met ∙ ap (λ (ts : List Tally). tallied scope conditions (map told_of ts) rest) (sym w.tallies-is)
      ];
    }
