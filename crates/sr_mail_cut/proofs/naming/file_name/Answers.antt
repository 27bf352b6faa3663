use Rattle.std.proofs.Common.{◌∷◌, ◌++◌, ◌/◌, ◌%◌, List, ℕ, map, ap, ◌∙◌, arith}
use Rattle.std.proofs.lemmas.List.{take_all}
use Rattle.sr_mail_cut.specs.Hexadecimal.{digit}
use Rattle.sr_mail_cut.proofs.Items.{all_digits}
use Rattle.sr_mail_cut.proofs.naming.file_name.Goals as goal

pub returns-in-Ok : goal.returns-in-Ok
returns-in-Ok c =
    c.in-Ok.ensures.text ∙ c.as_slice.ensures.value ∙ c.loop-place.invariant
    ∙ ap (λ (ps : List ℕ). c.args.sender.now ++ 46 ∷ map (λ place. digit (c.args.number / place % 16)) ps) (take_all c.loop-place.place-index _ (omega (arith, c.loop-place-test.false)))
    ∙ ap (λ (ds : List ℕ). c.args.sender.now ++ 46 ∷ ds) (all_digits c.args.number)
