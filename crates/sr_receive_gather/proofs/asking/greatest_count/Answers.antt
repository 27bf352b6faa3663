use Rattle.std.proofs.Common.{◌∷◌, ◌++◌, [], ap, ◌∙◌, append_assoc}
use Rattle.std.specs.Prelude.{max}
use Rattle.sr_receive_gather.proofs.asking.greatest_count.Goals as goal

pub files-preserved : goal.files-preserved
files-preserved c =
    let file = c.in-Some.file.now in
    let before = c.in-Some.before.now in
    let behind = c.files.invariant.0 in (
      file ∷ behind,
      c.files.invariant.1 ∙ ap (λ x. x ++ behind) c.in-Some.ensures.cases.0 ∙ append_assoc before (file ∷ []) behind,
      c.greater-greatest.ensures ∙ ap (λ n. max file.ask_count n) c.files.invariant.2,
    )
