-- The runs of the sample are runs of its world.
use Rattle.std.proofs.Common.{◌≡◌, ℕ, List, [], ◌∷◌, All, length, map, take, drop, refl, subst, inl, arith, Contains}
use Rattle.std.proofs.lemmas.List.Elements.{All-tail}
use Rattle.sr_database_history.specs.Inner.Sample.{cons, r1, table_t}
use Rattle.sr_database_history.specs.Recorded.{Recorded}
use Rattle.sr_ast.specs.Layout.{column_rule_pieces, create_table_pieces, stmt_pieces}
use Rattle.sr_base.specs.Values.{value_spelling}
use Rattle.sr_logform.specs.Ops.{op_spelling}
use Rattle.sr_logform.specs.declared.op.Op.{Op}
use Rattle.sr_logform.specs.declared.op.Op.TheVariants.{Clear}
use Rattle.sr_book.specs.Entries.{Name}
use Rattle.sr_world_model.specs.Steps.{Comes, HasAllFragments, HasSent}
use Rattle.sr_world_model.proofs.Tests.{none_among, more_among, one_piece}
use Rattle.sr_msgform.specs.declared.message.Message.{Message}
use Rattle.sr_world.specs.Real.{layers, HasSpelling, LawfulHistory, MayDo}
use Rattle.sr_world.specs.Real.{AreRunsIn}
use Rattle.sr_world.specs.Inner.Sample.{r2, insert, insert_slim, run_u, set, gave_insert, gave_slim, gave_statement, gave_update, gave_other, gave_back}
use Rattle.sr_world.specs.Inner.Sample.{lost, for_r2, second, ask, resent, answer, returned}
use Rattle.sr_world.specs.Inner.Sample.{first_run, run_of_r2, second_run, asking_run, resending_run, taking_run, returning_run, last_run, real_runs, real_world}
use Rattle.sr_world.proofs.Allowed.{told_true, may_take, may_note}
use Rattle.sr_world.proofs.Keeping.{real_laws}
use Rattle.sr_world.proofs.Lines.{entries}
use Rattle.sr_world.proofs.Above.{cons_lines, cons_lawful, cons_ends, cons_gives_r1, cons_gives_r2}
use Rattle.sr_world.proofs.Below.{r1_lines, r1_lawful, r1_ends, r1_gives, r2_lines, r2_lawful}

abbrev of_cons : ℕ → List Recorded
of_cons n = entries (take n cons_lines)

abbrev of_r1 : ℕ → List Recorded
of_r1 n = entries (take n r1_lines)

abbrev of_r2 : ℕ → List Recorded
of_r2 n = entries (take n r2_lines)

-- the messages in the order in which they are put
abbrev all_put : List Message
all_put = lost ∷ for_r2 ∷ second ∷ ask ∷ resent ∷ answer ∷ returned ∷ []

-- what a lawful history gives has a spelling
spelled_given : (d user : Name) (es : List Recorded) (txs : List (ℕ × List Op)) → LawfulHistory d es → layers.given d user es ≡ txs → All HasSpelling txs
spelled_given d user es txs lawful gave = subst (λ (t : List (ℕ × List Op)). All HasSpelling t) gave (real_laws.given_fit d user es lawful)

spelled_for_r2 : All HasSpelling (gave_slim ∷ gave_statement ∷ [])
spelled_for_r2 = spelled_given cons r2 (of_cons 12) (gave_slim ∷ gave_statement ∷ []) (cons_lawful 12) (cons_gives_r2 12)

spelled_two : All HasSpelling (gave_insert ∷ gave_update ∷ [])
spelled_two = spelled_given cons r1 (of_cons 15) (gave_insert ∷ gave_update ∷ []) (cons_lawful 15) (cons_gives_r1 15)

spelled_other : All HasSpelling (gave_other ∷ [])
spelled_other = spelled_given r1 cons (of_r1 9) (gave_other ∷ []) (r1_lawful 9) (r1_gives 9)

spelled_back : All HasSpelling (gave_back ∷ [])
spelled_back =
    let three = spelled_given cons r1 (of_cons 20) (gave_insert ∷ gave_update ∷ gave_back ∷ []) (cons_lawful 20) (cons_gives_r1 20) in
    All-tail HasSpelling gave_update (gave_back ∷ []) (All-tail HasSpelling gave_insert (gave_update ∷ gave_back ∷ []) three)

-- how long the bodies are
pub body_lengths : map (λ (m : Message). length m.fragment) (lost ∷ for_r2 ∷ second ∷ resent ∷ answer ∷ returned ∷ [])
    ≡ 34 ∷ 101 ∷ 43 ∷ 77 ∷ 43 ∷ 43 ∷ []
unfolding op_spelling value_spelling column_rule_pieces create_table_pieces stmt_pieces
body_lengths = refl

-- cons sends the row to r1, and to r2 what it synchronized and passed on
sending_can : MayDo [] cons (of_cons 12) (drop 12 first_run.database_steps)
sending_can =
    let put_one = told_true cons (of_cons 12) lost (gave_insert ∷ []) 510 (cons_gives_r1 12) (cons_ends 12) refl refl refl refl refl refl refl refl refl refl in
    let put_two = told_true cons (of_cons 13) for_r2 (gave_slim ∷ gave_statement ∷ []) 540 (cons_gives_r2 13) (cons_ends 13)
    refl refl refl refl refl refl refl refl refl refl in
    let one : HasAllFragments (take 1 all_put) cons r1 0 366 lost.fragment = one_piece (take 1 all_put) lost (0, omega arith, refl) refl refl in
    let two : HasAllFragments (take 2 all_put) cons r2 0 510 for_r2.fragment = one_piece (take 2 all_put) for_r2 (1, omega arith, refl) refl refl in
    let note_one = may_note (take 1 all_put) cons (of_cons 12) r1 366 0 lost.fragment (gave_insert ∷ []) (cons_gives_r1 12) one refl
    (0, omega arith, refl) refl in
    let note_two = may_note (take 2 all_put) cons (of_cons 13) r2 510 0 for_r2.fragment (gave_slim ∷ gave_statement ∷ []) (cons_gives_r2 13) two refl
    (1, omega arith, refl) refl in
    (put_one, ((note_one, cons_lawful 13), (put_two, ((note_two, cons_lawful 14), tt))))

-- before that it starts the subscription of r1, commits a row, starts that of r2, synchronizes it, and passes a statement on
starting_can : MayDo [] cons (of_cons 7) (drop 7 first_run.database_steps)
starting_can = ((tt, cons_lawful 8), ((tt, cons_lawful 9), ((tt, cons_lawful 10), ((tt, cons_lawful 11), ((tt, cons_lawful 12), sending_can)))))

-- and before that it makes its catalog
first_can : MayDo [] cons [] first_run.database_steps
first_can = (
  (tt, cons_lawful 1),
  ((tt, cons_lawful 2), ((tt, cons_lawful 3), ((tt, cons_lawful 4), ((tt, cons_lawful 5), ((tt, cons_lawful 6), ((tt, cons_lawful 7), starting_can)))))),
)

-- r2 makes its catalog, takes what was synchronized, and runs the statement
r2_can : MayDo run_of_r2.known r2 [] run_of_r2.database_steps
r2_can =
    let known : List Message = run_of_r2.known in
    let gave : List (ℕ × List Op) = gave_slim ∷ gave_statement ∷ [] in
    let whole : HasAllFragments known cons r2 0 510 for_r2.fragment = one_piece known for_r2 (0, omega arith, refl) refl refl in
    let take_one = may_take known r2 (of_r2 2) cons 434 (Clear table_t ∷ insert_slim ∷ []) 0 510 gave (gave_statement ∷ []) whole spelled_for_r2
    refl refl refl in
    let take_two = may_take known r2 (of_r2 3) cons 510 (run_u ∷ []) 0 510 gave [] whole spelled_for_r2 refl refl refl in
    ((tt, r2_lawful 1), ((tt, r2_lawful 2), ((take_one, r2_lawful 3), ((take_two, r2_lawful 4), tt))))

-- cons updates the row and sends that to r1
second_can : MayDo [] cons (of_cons 14) second_run.database_steps
second_can =
    let whole : HasAllFragments (second ∷ []) cons r1 366 612 second.fragment = one_piece (second ∷ []) second (0, omega arith, refl) refl refl in
    let put_it = told_true cons (of_cons 15) second (gave_insert ∷ gave_update ∷ []) 612 (cons_gives_r1 15) (cons_ends 15)
    refl refl refl refl refl refl refl refl refl refl in
    let note_it = may_note (second ∷ []) cons (of_cons 15) r1 612 0 second.fragment (gave_insert ∷ gave_update ∷ []) (cons_gives_r1 15) whole refl
    (1, omega arith, refl) refl in
    ((tt, cons_lawful 15), (put_it, ((note_it, cons_lawful 16), tt)))

-- r1 makes its catalog, has found the second window alone, and asks
asking_can : MayDo asking_run.known r1 [] asking_run.database_steps
asking_can =
    let came : Comes asking_run.known cons r1 = record { message = second; among = (0, omega arith, refl); sent_by = refl; sent_to = refl } in
    let put_it = told_true r1 (of_r1 6) ask [] 247 (r1_gives 6) (r1_ends 6) refl refl refl refl refl refl refl refl refl refl in
    let note_it : HasSent layers (second ∷ ask ∷ []) r1 (of_r1 6) cons 0 1 0
    = record { windows = []; chain = refl; given_there = inl refl; some_message = omega arith; confirms = refl } in (
      (tt, r1_lawful 1),
      (
        (tt, r1_lawful 2),
        (
          (tt, r1_lawful 3),
          (
            (tt, r1_lawful 4),
            (
              (tt, r1_lawful 5),
              (
                ((came, omega arith), r1_lawful 6),
                (
                  put_it,
                  ((note_it, r1_lawful 7), tt),
                ),
              ),
            ),
          ),
        ),
      ),
    )

-- cons notes the ask and sends both windows again as one
resending_can : MayDo resending_run.known cons (of_cons 16) resending_run.database_steps
resending_can =
    let all : List Message = ask ∷ resent ∷ [] in
    let came : Comes resending_run.known r1 cons = record { message = ask; among = (0, omega arith, refl); sent_by = refl; sent_to = refl } in
    let whole : HasAllFragments all cons r1 0 612 resent.fragment = one_piece all resent (1, omega arith, refl) refl refl in
    let put_it = told_true cons (of_cons 17) resent (gave_insert ∷ gave_update ∷ []) 668 (cons_gives_r1 17) (cons_ends 17)
    refl refl refl refl refl refl refl refl refl refl in
    let note_it = may_note all cons (of_cons 17) r1 612 0 resent.fragment (gave_insert ∷ gave_update ∷ []) (cons_gives_r1 17) whole refl
    (1, omega arith, refl) refl in
    (((came, refl, refl, omega arith), cons_lawful 17), (put_it, ((note_it, cons_lawful 18), tt)))

-- r1 takes the row, updates it, takes the update of cons, and answers
taking_can : MayDo taking_run.known r1 (of_r1 7) taking_run.database_steps
taking_can =
    let known : List Message = taking_run.known in
    let all : List Message = resent ∷ answer ∷ [] in
    let whole : HasAllFragments known cons r1 0 612 resent.fragment = one_piece known resent (0, omega arith, refl) refl refl in
    let own : HasAllFragments all r1 cons 0 389 answer.fragment = one_piece all answer (1, omega arith, refl) refl refl in
    let take_one = may_take known r1 (of_r1 7) cons 366 (insert ∷ []) 0 612 (gave_insert ∷ gave_update ∷ []) (gave_update ∷ []) whole spelled_two
    refl refl refl in
    let take_two = may_take known r1 (of_r1 9) cons 612 (set 5 7 ∷ []) 0 612 (gave_insert ∷ gave_update ∷ []) [] whole spelled_two refl refl refl in
    let put_it = told_true r1 (of_r1 10) answer (gave_other ∷ []) 480 (r1_gives 10) (r1_ends 10) refl refl refl refl refl refl refl refl refl refl in
    let note_it = may_note all r1 (of_r1 10) cons 389 612 answer.fragment (gave_other ∷ []) (r1_gives 10) own refl (0, omega arith, refl) refl in
    ((take_one, r1_lawful 8), ((tt, r1_lawful 9), ((take_two, r1_lawful 10), (put_it, ((note_it, r1_lawful 11), tt)))))

-- cons notes what r1 confirmed, takes what r1 committed, and sends what that gives back
returning_can : MayDo returning_run.known cons (of_cons 18) returning_run.database_steps
returning_can =
    let known : List Message = returning_run.known in
    let all : List Message = answer ∷ returned ∷ [] in
    let gave : List (ℕ × List Op) = gave_insert ∷ gave_update ∷ gave_back ∷ [] in
    let came : Comes known r1 cons = record { message = answer; among = (0, omega arith, refl); sent_by = refl; sent_to = refl } in
    let whole : HasAllFragments known r1 cons 0 389 answer.fragment = one_piece known answer (0, omega arith, refl) refl refl in
    let back : HasAllFragments all cons r1 612 801 returned.fragment = one_piece all returned (1, omega arith, refl) refl refl in
    let take_it = may_take known cons (of_cons 19) r1 389 (set 5 6 ∷ []) 0 389 (gave_other ∷ []) [] whole spelled_other refl refl refl in
    let put_it = told_true cons (of_cons 20) returned gave 801 (cons_gives_r1 20) (cons_ends 20) refl refl refl refl refl refl refl refl refl refl in
    let note_it = may_note all cons (of_cons 20) r1 801 389 returned.fragment gave (cons_gives_r1 20) back refl (2, omega arith, refl) refl in
    (((came, refl, inl (omega arith)), cons_lawful 19), ((take_it, cons_lawful 20), (put_it, ((note_it, cons_lawful 21), tt))))

-- r1 takes that
last_can : MayDo last_run.known r1 (of_r1 11) last_run.database_steps
last_can =
    let whole : HasAllFragments last_run.known cons r1 612 801 returned.fragment = one_piece last_run.known returned (0, omega arith, refl) refl refl in
    let take_it = may_take last_run.known r1 (of_r1 11) cons 801 (set 7 6 ∷ []) 612 801 (gave_back ∷ []) [] whole spelled_back refl refl refl in
    ((take_it, r1_lawful 12), tt)

-- each is a run of the world that those before it leave
pub are_runs : AreRunsIn real_world real_runs
are_runs =
    let cons_named : Contains (cons ∷ r1 ∷ r2 ∷ []) cons = (0, omega arith, refl) in
    let r1_named : Contains (cons ∷ r1 ∷ r2 ∷ []) r1 = (1, omega arith, refl) in
    let r2_named : Contains (cons ∷ r1 ∷ r2 ∷ []) r2 = (2, omega arith, refl) in
    let one_of = λ (m : Message) (n : ℕ) (there : Contains (take n all_put) m). more_among m [] (take n all_put) there (none_among (take n all_put)) in (
      record { named = cons_named; had_been_put = none_among []; can = first_can },
      (
        record { named = r2_named; had_been_put = one_of for_r2 2 (1, omega arith, refl); can = r2_can },
        (
          record { named = cons_named; had_been_put = none_among (take 2 all_put); can = second_can },
          (
            record { named = r1_named; had_been_put = one_of second 3 (2, omega arith, refl); can = asking_can },
            (
              record { named = cons_named; had_been_put = one_of ask 4 (3, omega arith, refl); can = resending_can },
              (
                record { named = r1_named; had_been_put = one_of resent 5 (4, omega arith, refl); can = taking_can },
                (
                  record { named = cons_named; had_been_put = one_of answer 6 (5, omega arith, refl); can = returning_can },
                  (record { named = r1_named; had_been_put = one_of returned 7 (6, omega arith, refl); can = last_can }, tt),
                ),
              ),
            ),
          ),
        ),
      ),
    )
