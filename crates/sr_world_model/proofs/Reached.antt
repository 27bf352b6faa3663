use Rattle.std.proofs.Common.{◌≡◌, ℕ, List, [], ◌∷◌, ◌++◌, length, refl, sym, ap, subst, ap₂, ◌∙◌, inl, inr, arith, Contains, take, true}
use Rattle.sr_book.specs.declared.note.Note.{Note}
use Rattle.sr_book.specs.declared.note.Note.TheVariants.{Confirmed, Asked, Raised}
use Rattle.sr_book.specs.Entries.{Name, from_user, noted}
use Rattle.sr_msgform.specs.declared.message.Message.{Message}
use Rattle.sr_world_model.specs.Machines.{layers_of, lawful_by}
use Rattle.sr_world_model.specs.Inner.Machines.{StepLaws, GrantLaws}
use Rattle.sr_world_model.specs.Inner.Small.{SmallHasSpelling, SmallKnows, SmallEntry, wrote, took, said, Verdict, plain, conflict, sent_of, small_sees}
use Rattle.sr_world_model.specs.Inner.Small.{small_body, small, SmallFits}
use Rattle.sr_world_model.specs.Inner.Small.{SmallHolds, cons, r1, r2}
use Rattle.sr_world_model.specs.Inner.Small.{first_run, run_of_r2, second_run, asking_run, resending_run, taking_run, returning_run, last_run}
use Rattle.sr_world_model.specs.Inner.Small.{prefix_piece, back_piece, for_r2, second_window, ask, resend, answer, return, small_runs, small_world}
use Rattle.sr_world_model.specs.Steps.{Comes, HasAllFragments, CanDoAll}
use Rattle.sr_world_model.specs.Runs.{AreWorldRuns}
use Rattle.sr_world_model.proofs.Tests.{all_judged, lawful_if, none_among, more_among, told, one_piece, two_pieces, taken_from, sent_by_windows}

-- of two joined lists that are equal, the prefixes of one length are equal, and so are the rests
same_prefixes : (a b c d : List ℕ) → length a ≡ length b → a ++ c ≡ b ++ d → (a ≡ b) × (c ≡ d)
same_prefixes [] [] c d long e = (refl, e)
same_prefixes [] (y ∷ b) c d long e = absurd (omega arith)
same_prefixes (x ∷ a) [] c d long e = absurd (omega arith)
same_prefixes (x ∷ a) (y ∷ b) c d long e =
    let head : x ≡ y = cc in
    let tail : a ++ c ≡ b ++ d = cc in
    let rest = same_prefixes a b c d (omega arith) tail in
    (ap₂ (λ z zs. z ∷ zs) head rest.0, rest.1)

-- a body is that of one list
body_once : (a b : List (ℕ × List ℕ)) → small_body a ≡ small_body b → a ≡ b
body_once [] [] e = refl
body_once [] (y ∷ b) e = absurd (cc)
body_once (x ∷ a) [] e = absurd (cc)
body_once (x ∷ a) (y ∷ b) e =
    let place : x.0 ≡ y.0 = cc in
    let long : length x.1 ≡ length y.1 = cc in
    let rest : x.1 ++ small_body a ≡ y.1 ++ small_body b = cc in
    let parts = same_prefixes x.1 y.1 (small_body a) (small_body b) long rest in
    let first : x ≡ y = λ i. (place i, parts.0 i) in
    ap₂ (λ z zs. z ∷ zs) first (body_once a b parts.1)

-- what is seen as taken was taken so, with some verdicts
seen_taken : (e : SmallEntry) (user : Name) (at : ℕ) (ops : List ℕ) → small_sees e ≡ from_user user at ops →
    (verdicts : List Verdict) × (e ≡ took user at ops verdicts)
seen_taken (wrote other x) user at ops is = absurd (cc)
seen_taken (took other place x verdicts) user at ops is =
    let same : other ≡ user = cc in
    let place' : place ≡ at = cc in
    let x' : x ≡ ops = cc in
    (verdicts, λ i. took (same i) (place' i) (x' i) verdicts)
seen_taken (said other note) user at ops is = absurd (cc)

-- what is taken so has one list of verdicts
seen_once : (d : Name) (place : ℕ) (e f : SmallEntry) (user : Name) (at : ℕ) (ops : List ℕ) → small_sees e ≡ from_user user at ops →
    small_sees f ≡ from_user user at ops → SmallFits d place e → SmallFits d place f → e ≡ f
seen_once d place e f user at ops is is' fits fits' =
    let one = seen_taken e user at ops is in
    let other = seen_taken f user at ops is' in
    let judged : SmallFits d place (took user at ops one.0) = rw one.1 at fits in
    let judged' : SmallFits d place (took user at ops other.0) = rw other.1 at fits' in
    one.1 ∙ ap (took user at ops) (judged.1 ∙ sym judged'.1) ∙ sym other.1

-- who is seen in an entry is known
known_taken : (d : Name) (place : ℕ) (e : SmallEntry) (user : Name) (at : ℕ) (ops : List ℕ) → SmallFits d place e →
    small_sees e ≡ from_user user at ops → SmallKnows d user
known_taken d place e user at ops fits is =
    let one = seen_taken e user at ops is in
    let judged : SmallFits d place (took user at ops one.0) = rw one.1 at fits in judged.0

known_noted : (d : Name) (place : ℕ) (e : SmallEntry) (user : Name) (note : Note) → SmallFits d place e →
    small_sees e ≡ noted user note → SmallKnows d user
known_noted d place (wrote other ops) user note fits is = absurd (cc)
known_noted d place (took other at ops verdicts) user note fits is = absurd (cc)
known_noted d place (said other n) user note fits is = let same : other ≡ user = cc in subst (SmallKnows d) same fits

pub small_grants : GrantLaws small SmallFits SmallKnows
small_grants = record {
  stays = λ s place e user fits known. known;
  taken_behind = known_taken;
  noted_behind = known_noted;
}

pub small_laws : StepLaws small SmallHasSpelling SmallFits SmallHolds
small_laws = record {
  at_first = λ d. tt;
  kept = λ s place e holds fits. tt;
  gives_fit = λ s place e user ops holds fits is. tt;
  encoded_once = λ a b fit fit' e. body_once a b e;
  judged_once = seen_once;
}

-- all that each database appends, in order
abbrev of_cons : List SmallEntry
of_cons = wrote r1 (1 ∷ 2 ∷ 3 ∷ []) ∷ wrote r2 (6 ∷ []) ∷ sent_of r1 15 2 0 ∷ sent_of r2 30 1 0 ∷ wrote r1 (4 ∷ []) ∷ sent_of r1 75 1 0
    ∷ said r1 (Asked 1 (record { 0 = 0 })) ∷ sent_of r1 75 1 0 ∷ said r1 (Confirmed (record { 0 = 75 }))
    ∷ took r1 75 (7 ∷ []) (conflict ∷ []) ∷ sent_of r1 150 1 75 ∷ []

abbrev of_r1 : List SmallEntry
of_r1 = said cons Raised ∷ sent_of cons 0 1 0 ∷ took cons 15 (1 ∷ 2 ∷ 3 ∷ []) (plain ∷ plain ∷ plain ∷ [])
    ∷ took cons 75 (4 ∷ []) (plain ∷ []) ∷ wrote cons (7 ∷ []) ∷ sent_of cons 75 1 75 ∷ took cons 150 (107 ∷ []) (plain ∷ []) ∷ []

-- the first of them are lawful
cons_lawful : (k : ℕ) → all_judged cons (take k of_cons) ≡ true → lawful_by small SmallFits cons (take k of_cons)
cons_lawful k is = lawful_if cons (take k of_cons) is

r1_lawful : (k : ℕ) → all_judged r1 (take k of_r1) ≡ true → lawful_by small SmallFits r1 (take k of_r1)
r1_lawful k is = lawful_if r1 (take k of_r1) is

-- the messages in the order in which they are put
abbrev all_put : List Message
all_put = prefix_piece ∷ back_piece ∷ for_r2 ∷ second_window ∷ ask ∷ resend ∷ answer ∷ return ∷ []

-- cons commits twice, and sends two fragments to r1 and a window to r2
first_can : CanDoAll (layers_of small) SmallHasSpelling (lawful_by small SmallFits) [] cons [] first_run.database_steps
first_can =
    let pieces : List Message = take 2 all_put in
    let all : List Message = take 3 all_put in
    let one : HasAllFragments pieces cons r1 0 15 (15 ∷ 3 ∷ 1 ∷ 2 ∷ 3 ∷ [])
    = two_pieces pieces prefix_piece back_piece (0, omega arith, refl) (1, omega arith, refl) refl refl refl refl refl refl refl refl in
    let two : HasAllFragments all cons r2 0 30 (30 ∷ 1 ∷ 6 ∷ []) = one_piece all for_r2 (2, omega arith, refl) refl refl in
    let note_one = sent_by_windows pieces cons (take 2 of_cons) r1 15 2 0 ((15, 15 ∷ 3 ∷ 1 ∷ 2 ∷ 3 ∷ []) ∷ []) (one, refl)
    (inr (omega arith, (0, omega arith, refl))) refl refl in
    let note_two = sent_by_windows all cons (take 3 of_cons) r2 30 1 0 ((30, 30 ∷ 1 ∷ 6 ∷ []) ∷ []) (two, refl)
    (inr (omega arith, (0, omega arith, refl))) refl refl in
    let put_prefix = told cons (take 2 of_cons) prefix_piece refl refl refl refl refl (λ two. absurd (omega arith)) refl refl refl refl in
    let put_back = told cons (take 2 of_cons) back_piece refl refl refl refl refl (λ two. absurd (omega arith)) refl refl refl refl in
    let put_two = told cons (take 3 of_cons) for_r2 refl refl refl refl refl (λ two. refl) refl refl refl refl in (
      (tt, cons_lawful 1 refl),
      (
        (tt, cons_lawful 2 refl),
        (
          put_prefix,
          (
            put_back,
            ((note_one, cons_lawful 3 refl), (put_two, ((note_two, cons_lawful 4 refl), tt))),
          ),
        ),
      ),
    )

-- r2 takes its window
r2_can : CanDoAll (layers_of small) SmallHasSpelling (lawful_by small SmallFits) run_of_r2.known r2 [] run_of_r2.database_steps
r2_can =
    let whole : HasAllFragments (for_r2 ∷ []) cons r2 0 30 (30 ∷ 1 ∷ 6 ∷ []) = one_piece (for_r2 ∷ []) for_r2 (0, omega arith, refl) refl refl in
    let take_it = taken_from (for_r2 ∷ []) r2 [] cons 30 (6 ∷ []) 0 30 ((30, 6 ∷ []) ∷ []) [] whole refl refl refl in
    ((take_it, lawful_if r2 (took cons 30 (6 ∷ []) (plain ∷ []) ∷ []) refl), tt)

-- cons sends the next window
second_can : CanDoAll (layers_of small) SmallHasSpelling (lawful_by small SmallFits) [] cons (take 4 of_cons) second_run.database_steps
second_can =
    let whole : HasAllFragments (second_window ∷ []) cons r1 15 75 (75 ∷ 1 ∷ 4 ∷ [])
    = one_piece (second_window ∷ []) second_window (0, omega arith, refl) refl refl in
    let put_it = told cons (take 5 of_cons) second_window refl refl refl refl refl (λ two. refl) refl refl refl refl in
    let note_it = sent_by_windows (second_window ∷ []) cons (take 5 of_cons) r1 75 1 0 ((75, 75 ∷ 1 ∷ 4 ∷ []) ∷ []) (whole, refl)
    (inr (omega arith, (1, omega arith, refl))) refl refl in
    ((tt, cons_lawful 5 refl), (put_it, ((note_it, cons_lawful 6 refl), tt)))

-- r1 has seen the second window alone, and asks
asking_can : CanDoAll (layers_of small) SmallHasSpelling (lawful_by small SmallFits) asking_run.known r1 [] asking_run.database_steps
asking_can =
    let came : Comes (second_window ∷ []) cons r1 = record { message = second_window; among = (0, omega arith, refl); sent_by = refl; sent_to = refl } in
    let put_it = told r1 (take 1 of_r1) ask refl refl refl refl refl (λ two. refl) refl refl refl refl in
    let note_it = sent_by_windows (second_window ∷ ask ∷ []) r1 (take 1 of_r1) cons 0 1 0 [] refl (inl refl) refl refl in
    (((came, omega arith), r1_lawful 1 refl), (put_it, ((note_it, r1_lawful 2 refl), tt)))

-- cons notes the ask and sends both windows again
resending_can : CanDoAll (layers_of small) SmallHasSpelling (lawful_by small SmallFits) resending_run.known cons (take 6 of_cons) resending_run.database_steps
resending_can =
    let came : Comes (ask ∷ []) r1 cons = record { message = ask; among = (0, omega arith, refl); sent_by = refl; sent_to = refl } in
    let whole : HasAllFragments (ask ∷ resend ∷ []) cons r1 0 75 resend.fragment = one_piece (ask ∷ resend ∷ []) resend (1, omega arith, refl) refl refl in
    let put_it = told cons (take 7 of_cons) resend refl refl refl refl refl (λ two. refl) refl refl refl refl in
    let note_it = sent_by_windows (ask ∷ resend ∷ []) cons (take 7 of_cons) r1 75 1 0 ((75, resend.fragment) ∷ []) (whole, refl)
    (inr (omega arith, (1, omega arith, refl))) refl refl in
    (((came, refl, refl, omega arith), cons_lawful 7 refl), (put_it, ((note_it, cons_lawful 8 refl), tt)))

-- r1 takes from the fragments and from the window that was sent again, crashes, commits and answers
taking_can : CanDoAll (layers_of small) SmallHasSpelling (lawful_by small SmallFits) taking_run.known r1 (take 2 of_r1) taking_run.database_steps
taking_can =
    let known : List Message = taking_run.known in
    let all : List Message = known ++ answer ∷ [] in
    let one : HasAllFragments known cons r1 0 15 (15 ∷ 3 ∷ 1 ∷ 2 ∷ 3 ∷ [])
    = two_pieces known prefix_piece back_piece (1, omega arith, refl) (2, omega arith, refl) refl refl refl refl refl refl refl refl in
    let again : HasAllFragments known cons r1 0 75 resend.fragment = one_piece known resend (3, omega arith, refl) refl refl in
    let own : HasAllFragments all r1 cons 0 75 (75 ∷ 1 ∷ 7 ∷ []) = one_piece all answer (4, omega arith, refl) refl refl in
    let take_one = taken_from known r1 (take 2 of_r1) cons 15 (1 ∷ 2 ∷ 3 ∷ []) 0 15 ((15, 1 ∷ 2 ∷ 3 ∷ []) ∷ []) [] one refl refl refl in
    let take_two = taken_from known r1 (take 3 of_r1) cons 75 (4 ∷ []) 0 75 ((15, 1 ∷ 2 ∷ 3 ∷ []) ∷ (75, 4 ∷ []) ∷ []) [] again refl refl refl in
    let put_it = told r1 (take 5 of_r1) answer refl refl refl refl refl (λ two. refl) refl refl refl refl in
    let note_it = sent_by_windows all r1 (take 5 of_r1) cons 75 1 75 ((75, 75 ∷ 1 ∷ 7 ∷ []) ∷ []) (own, refl)
    (inr (omega arith, (0, omega arith, refl))) refl refl in
    ((take_one, r1_lawful 3 refl), ((take_two, r1_lawful 4 refl), (tt, ((tt, r1_lawful 5 refl), (put_it, ((note_it, r1_lawful 6 refl), tt))))))

-- cons notes what r1 confirmed, takes what r1 committed, and gives back what the conflict gives
returning_can : CanDoAll (layers_of small) SmallHasSpelling (lawful_by small SmallFits) returning_run.known cons (take 8 of_cons) returning_run.database_steps
returning_can =
    let known : List Message = returning_run.known in
    let all : List Message = known ++ return ∷ [] in
    let came : Comes known r1 cons = record { message = answer; among = (1, omega arith, refl); sent_by = refl; sent_to = refl } in
    let whole : HasAllFragments known r1 cons 0 75 (75 ∷ 1 ∷ 7 ∷ []) = one_piece known answer (1, omega arith, refl) refl refl in
    let own : HasAllFragments all cons r1 75 150 (150 ∷ 1 ∷ 107 ∷ []) = one_piece all return (2, omega arith, refl) refl refl in
    let take_it = taken_from known cons (take 9 of_cons) r1 75 (7 ∷ []) 0 75 ((75, 7 ∷ []) ∷ []) [] whole refl refl refl in
    let put_it = told cons (take 10 of_cons) return refl refl refl refl refl (λ two. refl) refl refl refl refl in
    let note_it = sent_by_windows all cons (take 10 of_cons) r1 150 1 75 ((150, 150 ∷ 1 ∷ 107 ∷ []) ∷ []) (own, refl)
    (inr (omega arith, (2, omega arith, refl))) refl refl in
    (((came, refl, inl (omega arith)), cons_lawful 9 refl), ((take_it, cons_lawful 10 refl), (put_it, ((note_it, cons_lawful 11 refl), tt))))

-- r1 takes that
last_can : CanDoAll (layers_of small) SmallHasSpelling (lawful_by small SmallFits) last_run.known r1 (take 6 of_r1) last_run.database_steps
last_can =
    let whole : HasAllFragments (return ∷ []) cons r1 75 150 (150 ∷ 1 ∷ 107 ∷ []) = one_piece (return ∷ []) return (0, omega arith, refl) refl refl in
    let take_it = taken_from (return ∷ []) r1 (take 6 of_r1) cons 150 (107 ∷ []) 75 150 ((150, 107 ∷ []) ∷ []) [] whole refl refl refl in
    ((take_it, r1_lawful 7 refl), tt)

-- each is a run of the world that those before it leave
pub small_are_runs : AreWorldRuns (layers_of small) SmallHasSpelling (lawful_by small SmallFits) small_world small_runs
small_are_runs =
    let cons_named : Contains (cons ∷ r1 ∷ r2 ∷ []) cons = (0, omega arith, refl) in
    let r1_named : Contains (cons ∷ r1 ∷ r2 ∷ []) r1 = (1, omega arith, refl) in
    let r2_named : Contains (cons ∷ r1 ∷ r2 ∷ []) r2 = (2, omega arith, refl) in (
      record { named = cons_named; had_been_put = none_among []; can = first_can },
      (
        record { named = r2_named; had_been_put = more_among for_r2 [] (take 3 all_put) (2, omega arith, refl) (none_among (take 3 all_put)); can = r2_can },
        (
          record { named = cons_named; had_been_put = none_among (take 3 all_put); can = second_can },
          (
            record {
              named = r1_named;
              had_been_put = more_among second_window [] (take 4 all_put) (3, omega arith, refl) (none_among (take 4 all_put));
              can = asking_can;
            },
            (
              record {
                named = cons_named;
                had_been_put = more_among ask [] (take 5 all_put) (4, omega arith, refl) (none_among (take 5 all_put));
                can = resending_can;
              },
              (
                record {
                  named = r1_named;
                  had_been_put = more_among second_window (prefix_piece ∷ back_piece ∷ resend ∷ []) (take 6 all_put) (3, omega arith, refl)
                      (more_among prefix_piece (back_piece ∷ resend ∷ []) (take 6 all_put) (0, omega arith, refl)
                      (more_among back_piece (resend ∷ []) (take 6 all_put) (1, omega arith, refl)
                      (more_among resend [] (take 6 all_put) (5, omega arith, refl) (none_among (take 6 all_put)))));
                  can = taking_can;
                },
                (
                  record {
                    named = cons_named;
                    had_been_put = more_among ask (answer ∷ []) (take 7 all_put) (4, omega arith, refl)
                        (more_among answer [] (take 7 all_put) (6, omega arith, refl) (none_among (take 7 all_put)));
                    can = returning_can;
                  },
                  (
                    record {
                      named = r1_named;
                      had_been_put = more_among return [] all_put (7, omega arith, refl) (none_among all_put);
                      can = last_can;
                    },
                    tt,
                  ),
                ),
              ),
            ),
          ),
        ),
      ),
    )
