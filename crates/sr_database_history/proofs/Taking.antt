-- What a transaction does, op by op.
use Rattle.std.proofs.Common.{◌≡◌, List, [], ◌∷◌, ◌++◌, refl}
use Rattle.sr_base.specs.declared.offset.Offset.{Offset}
use Rattle.sr_book.specs.Entries.{Name}
use Rattle.sr_database_history.specs.Recorded.{Done, taken}
use Rattle.sr_database_history.specs.Folds.{State, after_done, after_dones, next}

after_dones-more : (dones : List Done) (d : Done) (s : State) → after_dones (dones ++ d ∷ []) s ≡ after_done d (after_dones dones s)
after_dones-more [] d s = refl
after_dones-more (e ∷ dones) d s = after_dones-more dones d (after_done e s)

pub taken_more : (s : State) (user : Name) (at : Offset) (dones : List Done) (d : Done)
    → next s (taken user at (dones ++ d ∷ [])) ≡ after_done d (next s (taken user at dones))
unfolding next
taken_more s user at dones d = after_dones-more dones d s
