-- What acts come to.
use Rattle.std.proofs.Common.{◌≡◌, ℕ, ◌+◌, ◌≤◌, ◌<◌, ◌^◌, ◌-◌, List, [], ◌∷◌, ◌++◌, length, length-append, refl, ap, ◌∙◌, arith}
use Rattle.sr_ast.specs.declared.stmt.Stmt.{Stmt}
use Rattle.sr_book.specs.Entries.{Name}
use Rattle.sr_database.specs.Advances.{Advances}
use Rattle.sr_database.specs.Inner.Sound.{IsSound}
use Rattle.sr_database.specs.Views.{View, committed}
use Rattle.sr_database_history.specs.Folds.{State, with_changes, with_statement, after_done, after_dones, size, end_from}
use Rattle.sr_database_history.specs.Recorded.{Recorded, Done, plain, ran, conflict, clash, taken}
use Rattle.sr_database_meaning.proofs.Beginnings.{ends_within}
use Rattle.sr_catalog_script_laws.proofs.ReplayNexts.{publisher_next}
use Rattle.sr_site.specs.Happenings.{Happening, attached, wrote, cut_to, synced, listed, fetched, sent, removed, handed_over}
use Rattle.sr_database_meaning.specs.Inner.Events.{AreQuiet}
use Rattle.sr_receive.specs.Acts.{ReceiveAct, dropped, torn, begun, took, entries_of, taken_in}

-- ---- the publisher stays

statement_publisher : (s : State) (statement : Stmt) → (with_statement statement s).catalog.publisher ≡ s.catalog.publisher
unfolding with_statement
statement_publisher s statement = publisher_next s.catalog statement

pub done_publisher : (d : Done) (s : State) → (after_done d s).catalog.publisher ≡ s.catalog.publisher
done_publisher (plain op changes) s = refl
done_publisher (ran statement changes) s = statement_publisher (with_changes changes s) statement
done_publisher (conflict op inserts before after) s = refl
done_publisher (clash op why) s = refl

pub dones_publisher : (dones : List Done) (s : State) → (after_dones dones s).catalog.publisher ≡ s.catalog.publisher
dones_publisher [] s = refl
dones_publisher (d ∷ dones) s = dones_publisher dones (after_done d s) ∙ done_publisher d s

-- ---- how many transactions may be taken

taken_count : (user : Name) (acts : List ReceiveAct) → length (entries_of user acts) ≡ taken_in acts
taken_count user [] = refl
taken_count user (dropped w pairs piece found ∷ earlier) = taken_count user earlier
taken_count user (torn w pairs ∷ earlier) = taken_count user earlier
taken_count user (begun w pairs txs ∷ earlier) = taken_count user earlier
taken_count user (took t dones ∷ earlier) = length-append (entries_of user earlier) (taken user t.at dones ∷ []) ∙ ap (λ (n : ℕ). n + 1) (taken_count user earlier)

many_end : (place : ℕ) (rs : List Recorded) → place + length rs ≤ end_from place rs
many_end place [] = omega arith
many_end place (r ∷ rs) = omega (arith, many_end (place + (size r + 5)) rs)

-- fewer than a count can tell: the history ends at 2^62 at most
pub few_taken : (old new : View) (user : Name) (acts : List ReceiveAct) → IsSound old → Advances old new (entries_of user acts) → taken_in acts < 2 ^ 64 - 1
few_taken old new user acts sound on =
    let limit : old.log.end ≤ 2 ^ 62 = sound.order.limit in
    let ends : end_from old.log.end (entries_of user acts) ≤ 2 ^ 62 = ends_within (committed old) old.log.end (entries_of user acts) limit on.fit in
    omega (arith, ends, many_end old.log.end (entries_of user acts), taken_count user acts)

-- ---- calls of the mail that change no file

pub quiet_both : (more behind : List Happening) → AreQuiet more → AreQuiet behind → AreQuiet (more ++ behind)
quiet_both [] behind one two = two
quiet_both (attached name folder done ∷ more) behind one two = absurd one
quiet_both (wrote file place bytes done after ∷ more) behind one two = absurd one
quiet_both (cut_to file to done after ∷ more) behind one two = absurd one
quiet_both (synced file done after ∷ more) behind one two = absurd one
quiet_both (listed address folder listing ∷ more) behind one two = quiet_both more behind one two
quiet_both (fetched address name limit found ∷ more) behind one two = quiet_both more behind one two
quiet_both (sent address name bytes done ∷ more) behind one two = absurd one
quiet_both (removed address name done ∷ more) behind one two = quiet_both more behind one two
quiet_both (handed_over folders noted ∷ more) behind one two = absurd one
