-- What gives nothing.
use Rattle.std.proofs.Common.{◌≡◌, ℕ, ◌+◌, List, [], ◌∷◌, ◌++◌, refl, ap, ◌∙◌}
use Rattle.std.proofs.lemmas.List.{append-nil}
use Rattle.sr_book.specs.Entries.{Name}
use Rattle.sr_database_history.specs.Folds.{State, next, size, state_of, end_of}
use Rattle.sr_database_history.specs.Recorded.{Recorded}
use Rattle.sr_logform.specs.declared.op.Op.{Op}
use Rattle.sr_scan.specs.Given.{with_transaction, given_from, given_of}
use Rattle.sr_scan.proofs.Growing.{joined}
use Rattle.sr_survey.specs.Inner.Quiet.{GiveNothing}

none_from : (s : State) (place : ℕ) (rs : List Recorded) (user : Name) → GiveNothing s rs user → given_from s place rs user ≡ []
none_from s place [] user quiet = refl
none_from s place (r ∷ rs) user quiet =
    let end = place + (size r + 5) in
    ap (λ (ops : List Op). with_transaction end ops (given_from (next s r) end rs user)) quiet.0 ∙ none_from (next s r) end rs user quiet.1

pub passed_over : (publisher user : Name) (done more : List Recorded) → GiveNothing (state_of publisher done) more user → given_of publisher (done ++ more) user ≡ given_of publisher done user
passed_over publisher user done more quiet =
    joined publisher user done more
    ∙ ap (λ (xs : List (ℕ × List Op)). given_of publisher done user ++ xs) (none_from (state_of publisher done) (end_of done) more user quiet)
    ∙ append-nil (given_of publisher done user)
