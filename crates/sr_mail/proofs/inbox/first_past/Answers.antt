use Rattle.std.proofs.Common.{rules, ◌∷◌, ◌++◌, [], sym, ap, ◌∙◌, append_assoc}
use Rattle.std.specs.List.{AllByRecursion}
use Rattle.sr_mail.specs.Inner.Shelves.{EndsPast}
use Rattle.sr_mail.proofs.Shelved.{first_on_shelf, passed_shelf}
use Rattle.sr_mail.proofs.inbox.first_past.Goals as goal

pub returns-in-Some-first_past-clause-first : goal.returns-in-Some-first_past-clause-first
returns-in-Some-first_past-clause-first c =
    let h = c.shelves.invariant in
    first_on_shelf c.args.offset c.args.shelves.now h.0 c.in-Some.shelf.now c.in-Some.behind.now c.in-Some-first_past.held.now (h.1 ∙ ap (λ l. h.0 ++ l) c.in-Some.ensures.cases.0) h.2 c.in-Some-first_past.ensures.first

pub shelves-preserved : goal.shelves-preserved
shelves-preserved c =
    let h = c.shelves.invariant in
    let none : AllByRecursion (λ g. ¬ (EndsPast c.args.offset g)) c.in-Some.shelf.now = search rules in (
      h.0 ++ c.in-Some.shelf.now ∷ [],
      h.1 ∙ ap (λ l. h.0 ++ l) c.in-Some.ensures.cases.0 ∙ sym (append_assoc h.0 (c.in-Some.shelf.now ∷ []) c.in-Some.behind.now),
      passed_shelf c.args.offset h.0 c.in-Some.shelf.now h.2 none,
    )
