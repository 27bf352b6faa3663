-- The runs are runs of the world.
use Rattle.std.proofs.Common.{◌≡◌, ℕ, List, [], ◌∷◌, All, take, drop, refl, subst, arith, Contains}
use Rattle.sr_database_history.specs.Inner.Sample.{cons, r1}
use Rattle.sr_database_history.specs.Recorded.{Recorded}
use Rattle.sr_book.specs.Entries.{Name}
use Rattle.sr_logform.specs.declared.op.Op.{Op}
use Rattle.sr_world_model.specs.Steps.{HasAllFragments}
use Rattle.sr_world_model.proofs.Tests.{none_among, more_among, one_piece}
use Rattle.sr_msgform.specs.declared.message.Message.{Message}
use Rattle.sr_world_partitions.proofs.Published.{cons_lines, cons_lawful, cons_ends, cons_gives_r1, cons_gives_r2}
use Rattle.sr_world_partitions.proofs.Received.{r1_lines, r1_lawful, r2_lines, r2_lawful}
use Rattle.sr_world_partitions.specs.Inner.Moves.{given_to_r1, given_to_r2, insert_with, message_to_r1, message_to_r2, moving_names, moving_runs, moving_world, remove_row, run_of_cons, run_of_r1, run_of_r2}
use Rattle.sr_world.proofs.Allowed.{told_true, may_take}
use Rattle.sr_world.proofs.Keeping.{real_laws}
use Rattle.sr_world.proofs.Lines.{entries}
use Rattle.sr_world.specs.Inner.Sample.{r2}
use Rattle.sr_world.specs.Real.{layers, AreRunsIn, HasSpelling, LawfulHistory, MayDo}

abbrev of_cons : ℕ → List Recorded
of_cons n = entries (take n cons_lines)

abbrev of_r1 : ℕ → List Recorded
of_r1 n = entries (take n r1_lines)

abbrev of_r2 : ℕ → List Recorded
of_r2 n = entries (take n r2_lines)

-- what a lawful history gives has a spelling
spelled_given : (d user : Name) (es : List Recorded) (txs : List (ℕ × List Op)) → LawfulHistory d es → layers.given d user es ≡ txs → All HasSpelling txs
spelled_given d user es txs lawful gave = subst (λ (t : List (ℕ × List Op)). All HasSpelling t) gave (real_laws.given_fit d user es lawful)

spelled_r1 : All HasSpelling given_to_r1
spelled_r1 = spelled_given cons r1 (of_cons 11) given_to_r1 (cons_lawful 11) (cons_gives_r1 11)

spelled_r2 : All HasSpelling given_to_r2
spelled_r2 = spelled_given cons r2 (of_cons 11) given_to_r2 (cons_lawful 11) (cons_gives_r2 11)

-- cons puts both messages
putting_can : MayDo [] cons (of_cons 11) (drop 11 run_of_cons.database_steps)
putting_can =
    let put_one = told_true cons (of_cons 11) message_to_r1 given_to_r1 476 (cons_gives_r1 11) (cons_ends 11) refl refl refl refl refl refl refl refl refl refl in
    let put_two = told_true cons (of_cons 11) message_to_r2 given_to_r2 476 (cons_gives_r2 11) (cons_ends 11) refl refl refl refl refl refl refl refl refl refl in
    (put_one, (put_two, tt))

-- before that it commits
later_can : MayDo [] cons (of_cons 6) (drop 6 run_of_cons.database_steps)
later_can = ((tt, cons_lawful 7), ((tt, cons_lawful 8), ((tt, cons_lawful 9), ((tt, cons_lawful 10), ((tt, cons_lawful 11), putting_can)))))

cons_can : MayDo [] cons [] run_of_cons.database_steps
cons_can = ((tt, cons_lawful 1), ((tt, cons_lawful 2), ((tt, cons_lawful 3), ((tt, cons_lawful 4), ((tt, cons_lawful 5), ((tt, cons_lawful 6), later_can))))))

r1_can : MayDo run_of_r1.known r1 [] run_of_r1.database_steps
r1_can =
    let known : List Message = run_of_r1.known in
    let whole : HasAllFragments known cons r1 0 476 message_to_r1.fragment = one_piece known message_to_r1 (0, omega arith, refl) refl refl in
    let take_one = may_take known r1 (of_r1 2) cons 392 (insert_with 5 ∷ []) 0 476 given_to_r1 (drop 1 given_to_r1) whole spelled_r1 refl refl refl in
    let take_two = may_take known r1 (of_r1 3) cons 434 (remove_row ∷ []) 0 476 given_to_r1 (drop 2 given_to_r1) whole spelled_r1 refl refl refl in
    let take_three = may_take known r1 (of_r1 4) cons 476 (insert_with 5 ∷ []) 0 476 given_to_r1 [] whole spelled_r1 refl refl refl in
    ((tt, r1_lawful 1), ((tt, r1_lawful 2), ((take_one, r1_lawful 3), ((take_two, r1_lawful 4), ((take_three, r1_lawful 5), tt)))))

r2_can : MayDo run_of_r2.known r2 [] run_of_r2.database_steps
r2_can =
    let known : List Message = run_of_r2.known in
    let whole : HasAllFragments known cons r2 0 476 message_to_r2.fragment = one_piece known message_to_r2 (0, omega arith, refl) refl refl in
    let take_one = may_take known r2 (of_r2 2) cons 434 (insert_with 7 ∷ []) 0 476 given_to_r2 (drop 1 given_to_r2) whole spelled_r2 refl refl refl in
    let take_two = may_take known r2 (of_r2 3) cons 476 (remove_row ∷ []) 0 476 given_to_r2 [] whole spelled_r2 refl refl refl in
    ((tt, r2_lawful 1), ((tt, r2_lawful 2), ((take_one, r2_lawful 3), ((take_two, r2_lawful 4), tt))))

-- each is a run of the world that those before it leave
pub are_runs : AreRunsIn moving_world moving_runs
are_runs =
    let put : List Message = message_to_r1 ∷ message_to_r2 ∷ [] in
    let cons_named : Contains moving_names cons = (0, omega arith, refl) in
    let r1_named : Contains moving_names r1 = (1, omega arith, refl) in
    let r2_named : Contains moving_names r2 = (2, omega arith, refl) in (
      record { named = cons_named; had_been_put = none_among []; can = cons_can },
      (
        record { named = r1_named; had_been_put = more_among message_to_r1 [] put (0, omega arith, refl) (none_among put); can = r1_can },
        (
          record { named = r2_named; had_been_put = more_among message_to_r2 [] put (1, omega arith, refl) (none_among put); can = r2_can },
          tt,
        ),
      ),
    )
