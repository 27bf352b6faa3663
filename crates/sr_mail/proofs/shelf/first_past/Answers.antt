use Rattle.std.proofs.Common.{◌∷◌, ◌++◌, [], sym, ap, ◌∙◌, append_assoc}
use Rattle.std.proofs.lemmas.Bool.{iff_false}
use Rattle.sr_mail.specs.Inner.Shelves.{EndsPast}
use Rattle.sr_mail_cut.proofs.Lists.{AllByRecursion-append}
use Rattle.sr_mail.proofs.shelf.first_past.Goals as goal

pub windows-preserved : goal.windows-preserved
windows-preserved c =
    let g = c.in-Some.held.now in
    let h = c.windows.invariant in (
      h.0 ++ g ∷ [],
      h.1 ∙ ap (λ l. h.0 ++ l) c.in-Some.ensures.cases.0 ∙ sym (append_assoc h.0 (g ∷ []) c.in-Some.behind.now),
      AllByRecursion-append (λ x. ¬ (EndsPast c.args.offset x)) h.0 (g ∷ []) h.2 ((λ past. iff_false c.ends_past.ensures c.if-ends_past.false past), tt),
    )
