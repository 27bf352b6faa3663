use Rattle.std.proofs.Common.{◌∷◌, ◌++◌, [], ap, ◌∙◌, append_assoc}
use Rattle.sr_receive_gather.specs.Greatest.{with_ask}
use Rattle.sr_receive_gather.proofs.asking.least_ask.Goals as goal

pub files-preserved : goal.files-preserved
files-preserved c =
    let file = c.in-Some.file.now in
    let before = c.in-Some.before.now in
    let behind = c.files.invariant.0 in (
      file ∷ behind,
      c.files.invariant.1 ∙ ap (λ x. x ++ behind) c.in-Some.ensures.cases.0 ∙ append_assoc before (file ∷ []) behind,
      c.with_ask-least.ensures ∙ ap (λ least. with_ask c.args.count file least) c.files.invariant.2,
    )
