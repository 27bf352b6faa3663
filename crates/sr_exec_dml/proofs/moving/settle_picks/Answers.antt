use Rattle.std.proofs.Common.{◌≡◌, length, rules, ap, ◌∙◌}
use Rattle.std.proofs.lemmas.Result.{err_from_is_err_and}
use Rattle.sr_exec_dml.specs.Sequences.{followed}
use Rattle.sr_exec_dml.specs.Statements.{counted}
use Rattle.sr_exec_dml.proofs.Effects.{moved_are}
use Rattle.sr_exec_dml.proofs.moving.settle_picks.Goals as goal

pub returns-in_err-list : goal.returns-in_err-list
returns-in_err-list c =
    let picks = c.args.picks.items in
    let p = err_from_is_err_and c.from_residual-in_err-list.result c.from_residual-in_err-list.ensures.1 in
    rw (p.1, p.2) (record {
      answer = λ sets condition is ne.
          moved_are c.args.table.now c.args.rows.now.rows sets condition picks is c.in_ok-edits.edits.entries c.in_ok-edits.ensures.ordered c.in_ok-edits.ensures.edits
          ∙ ap (λ h. followed h (counted (length picks))) (c.in_err-list.ensures.answer ne);
    })

pub returns : goal.returns
returns c =
    let picks = c.args.picks.items in
    let count : length picks ≡ c.len-count.result = search rules in
    record {
      answer = λ sets condition is.
          moved_are c.args.table.now c.args.rows.now.rows sets condition picks is c.in_ok-edits.edits.entries c.in_ok-edits.ensures.ordered c.in_ok-edits.ensures.edits
          ∙ ap (λ h. followed h (counted (length picks))) c.in_ok-list.ensures.answer ∙ ap (λ n. counted n c.in_ok-list.list) count;
    }
