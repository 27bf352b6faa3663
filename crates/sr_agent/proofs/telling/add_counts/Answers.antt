use Rattle.std.proofs.Common.{ℕ, List, [], ◌∷◌, ◌++◌}
use Rattle.std.specs.Fmt.{decimal}
use Rattle.sr_agent.proofs.Additions.{added_on, part_first, part_on, whatever}
use Rattle.sr_agent.proofs.telling.add_counts.Goals as goal

pub returns-in_err-add-clause-failed : goal.returns-in_err-add-clause-failed
returns-in_err-add-clause-failed g c =
    let one : List ℕ = c.args.words.now in
    let two = one ++ c.args.user.now in
    let three = two ++ c.args.before.now in
    let four = three ++ decimal c.args.count in
    let five = four ++ c.args.between.now in
    let six = five ++ decimal c.args.end in
    whatever _ c.from_residual.result (part_first six (10 ∷ []) c.args.held.now.items _ _ (part_first five (decimal c.args.end) c.args.held.now.items _ _ (part_first four c.args.between.now c.args.held.now.items _ _ (part_first three (decimal c.args.count) c.args.held.now.items _ _ (part_first two c.args.before.now c.args.held.now.items _ _ (part_first one c.args.user.now c.args.held.now.items _ _ (c.in_err-add.ensures.failed)))))))

pub returns-in_err-add_name-clause-failed : goal.returns-in_err-add_name-clause-failed
returns-in_err-add_name-clause-failed g c =
    let two : List ℕ = c.args.words.now ++ c.args.user.now in
    let three = two ++ c.args.before.now in
    let four = three ++ decimal c.args.count in
    let five = four ++ c.args.between.now in
    let six = five ++ decimal c.args.end in
    whatever _ c.from_residual-in_err-add_name.result (part_first six (10 ∷ []) c.args.held.now.items _ _ (part_first five (decimal c.args.end) c.args.held.now.items _ _ (part_first four c.args.between.now c.args.held.now.items _ _ (part_first three (decimal c.args.count) c.args.held.now.items _ _ (part_first two c.args.before.now c.args.held.now.items _ _ (part_on _ _ _ _ _ _ _ c.in_ok-add.ensures.added c.in_err-add_name.ensures.failed))))))

pub returns-in_err-add-2-clause-failed : goal.returns-in_err-add-2-clause-failed
returns-in_err-add-2-clause-failed g c =
    let three : List ℕ = c.args.words.now ++ c.args.user.now ++ c.args.before.now in
    let four = three ++ decimal c.args.count in
    let five = four ++ c.args.between.now in
    let six = five ++ decimal c.args.end in
    whatever _ c.from_residual-in_err-add-2.result (part_first six (10 ∷ []) c.args.held.now.items _ _ (part_first five (decimal c.args.end) c.args.held.now.items _ _ (part_first four c.args.between.now c.args.held.now.items _ _ (part_first three (decimal c.args.count) c.args.held.now.items _ _ (part_on _ _ _ _ _ _ _ (added_on _ _ _ _ _ _ _ _ c.in_ok-add.ensures.added c.in_ok-add_name.ensures.added) c.in_err-add-2.ensures.failed)))))

pub returns-in_err-add_number-clause-failed : goal.returns-in_err-add_number-clause-failed
returns-in_err-add_number-clause-failed g c =
    let four : List ℕ = c.args.words.now ++ c.args.user.now ++ c.args.before.now ++ decimal c.args.count in
    let five = four ++ c.args.between.now in
    let six = five ++ decimal c.args.end in
    whatever _ c.from_residual-in_err-add_number.result (part_first six (10 ∷ []) c.args.held.now.items _ _ (part_first five (decimal c.args.end) c.args.held.now.items _ _ (part_first four c.args.between.now c.args.held.now.items _ _ (part_on _ _ _ _ _ _ _ (added_on _ _ _ _ _ _ _ _ (added_on _ _ _ _ _ _ _ _ c.in_ok-add.ensures.added c.in_ok-add_name.ensures.added) c.in_ok-add-2.ensures.added) c.in_err-add_number.ensures.failed))))

pub returns-in_err-add-3-clause-failed : goal.returns-in_err-add-3-clause-failed
returns-in_err-add-3-clause-failed g c =
    let five : List ℕ = c.args.words.now ++ c.args.user.now ++ c.args.before.now ++ decimal c.args.count ++ c.args.between.now in
    let six = five ++ decimal c.args.end in
    whatever _ c.from_residual-in_err-add-3.result (part_first six (10 ∷ []) c.args.held.now.items _ _ (part_first five (decimal c.args.end) c.args.held.now.items _ _ (part_on _ _ _ _ _ _ _ (added_on _ _ _ _ _ _ _ _ (added_on _ _ _ _ _ _ _ _ (added_on _ _ _ _ _ _ _ _ c.in_ok-add.ensures.added c.in_ok-add_name.ensures.added) c.in_ok-add-2.ensures.added) c.in_ok-add_number.ensures.added) c.in_err-add-3.ensures.failed)))

pub returns-in_err-add_number-2-clause-failed : goal.returns-in_err-add_number-2-clause-failed
returns-in_err-add_number-2-clause-failed g c =
    let six : List ℕ = c.args.words.now ++ c.args.user.now ++ c.args.before.now ++ decimal c.args.count ++ c.args.between.now ++ decimal c.args.end in
    whatever _ c.from_residual-in_err-add_number-2.result (part_first six (10 ∷ []) c.args.held.now.items _ _ (part_on _ _ _ _ _ _ _ (added_on _ _ _ _ _ _ _ _ (added_on _ _ _ _ _ _ _ _ (added_on _ _ _ _ _ _ _ _ (added_on _ _ _ _ _ _ _ _ c.in_ok-add.ensures.added c.in_ok-add_name.ensures.added) c.in_ok-add-2.ensures.added) c.in_ok-add_number.ensures.added) c.in_ok-add-3.ensures.added) c.in_err-add_number-2.ensures.failed))

pub returns-in_err-add-4-clause-failed : goal.returns-in_err-add-4-clause-failed
returns-in_err-add-4-clause-failed g c =
    whatever _ c.from_residual-in_err-add-4.result (part_on _ _ _ _ _ _ _ (added_on _ _ _ _ _ _ _ _ (added_on _ _ _ _ _ _ _ _ (added_on _ _ _ _ _ _ _ _ (added_on _ _ _ _ _ _ _ _ (added_on _ _ _ _ _ _ _ _ c.in_ok-add.ensures.added c.in_ok-add_name.ensures.added) c.in_ok-add-2.ensures.added) c.in_ok-add_number.ensures.added) c.in_ok-add-3.ensures.added) c.in_ok-add_number-2.ensures.added) c.in_err-add-4.ensures.failed)

pub returns-clause-added : goal.returns-clause-added
returns-clause-added g c = added_on _ _ _ _ _ _ _ _ (added_on _ _ _ _ _ _ _ _ (added_on _ _ _ _ _ _ _ _ (added_on _ _ _ _ _ _ _ _ (added_on _ _ _ _ _ _ _ _ (added_on _ _ _ _ _ _ _ _ c.in_ok-add.ensures.added c.in_ok-add_name.ensures.added) c.in_ok-add-2.ensures.added) c.in_ok-add_number.ensures.added) c.in_ok-add-3.ensures.added) c.in_ok-add_number-2.ensures.added) c.in_ok-add-4.ensures.added
