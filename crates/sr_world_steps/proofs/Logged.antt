-- Notes in a log.
use Rattle.std.proofs.Common.{◌≡◌, ◌↔◌, ℕ, ◌+◌, Bool, true, false, List, [], ◌∷◌, Option, Some, None, IsTrue, refl, sym, ap, subst, ◌∙◌}
use Rattle.std.specs.Prelude.{IsSome}
use Rattle.sr_book.specs.Books.{new_book}
use Rattle.sr_book.specs.Entries.{Name, booked}
use Rattle.sr_book.specs.Histories.{book_from, book_of}
use Rattle.sr_book.specs.declared.book.Book.{Book}
use Rattle.sr_book.specs.declared.note.Note.{Note}
use Rattle.sr_catalog_schema.specs.Catalogs.{Lists}
use Rattle.sr_catalog_schema.specs.Members.{user_name}
use Rattle.sr_catalog_schema.specs.Names.{named}
use Rattle.sr_database_history.specs.Fitting.{FitsState, Knows}
use Rattle.sr_database_history.specs.Folds.{State, size, sees, state_of, end_from, end_of}
use Rattle.sr_database_history.specs.Recorded.{Recorded, own, taken, ddl, sync, pass, note, entry_of}
use Rattle.sr_logform.specs.declared.entry.Entry.{Entry}
use Rattle.sr_logform.specs.declared.entry.Entry.TheVariants as entries
use Rattle.sr_msgform.specs.declared.message.Message.{Message}
use Rattle.sr_rows.specs.Marks.{Marked}
use Rattle.sr_world_steps.specs.Inner.Booked.{booked_by, booked_in, end_in}
use Rattle.sr_world_entries.specs.Inner.Ends.{IsEndOf}
use Rattle.sr_world_steps.specs.Inner.Logs.{EndsOne, IsLog, logged_from}
use Rattle.sr_world_steps.specs.Inner.Noted.{MayBeNoted, NewsEnds, NoteEnds, StandsNoted, TellsKnown}
use Rattle.sr_world_steps.specs.Inner.Notes.{MayNote}
use Rattle.sr_world_steps.specs.Inner.Places.{Log}
use Rattle.sr_world_steps.specs.Inner.Standings.{StandsBehind}
use Rattle.sr_world_entries.proofs.Roomy.{has_room}

-- ---- ends

end_same : (place : ℕ) (rs : List Recorded) → end_in place (logged_from place rs) ≡ end_from place rs
end_same place [] = refl
end_same place (r ∷ rs) = end_same (place + (size r + 5)) rs

-- the last entry of a log ends where the history does
pub log_ends : (d : Name) (rs : List Recorded) (log : Log) → IsLog d rs log → end_in 0 log ≡ end_of rs
log_ends d rs log g = ap (end_in 0) (sym g.logged) ∙ end_same 0 rs

-- ---- books

booked_is : (user : Name) (book : Book) (r : Recorded) → booked_by user book (entry_of r) ≡ booked user book (sees r)
booked_is user book (own changes) = refl
booked_is user book (taken other at dones) = refl
booked_is user book (ddl statement) = refl
booked_is user book (sync other tables) = refl
booked_is user book (pass users only statement changes) = refl
booked_is user book (note other what) = refl

booked_from : (user : Name) (book : Book) (place : ℕ) (rs : List Recorded) → booked_in user book (logged_from place rs) ≡ book_from sees user book rs
booked_from user book place [] = refl
booked_from user book place (r ∷ rs) =
    ap (λ (b : Book). booked_in user b (logged_from (place + (size r + 5)) rs)) (booked_is user book r)
    ∙ booked_from user (booked user book (sees r)) (place + (size r + 5)) rs

-- the book by a log is that of the history
pub log_books : (d user : Name) (rs : List Recorded) (log : Log) → IsLog d rs log → booked_in user new_book log ≡ book_of sees user rs
log_books d user rs log g = ap (booked_in user new_book) (sym g.logged) ∙ booked_from user new_book 0 rs

-- ---- notes

pub known_behind : (d : Name) (log : Log) (catalog : Lists) (rows : Marked) (user : Name) (known : Bool) → StandsBehind d log catalog rows
    → (IsTrue known ↔ IsSome (named user_name user catalog.users)) → TellsKnown d log user known
unfolding TellsKnown
known_behind d log catalog rows user known behind h = λ rs g.
    subst (λ (s : State). IsTrue known ↔ IsSome (named user_name user s.catalog.users)) (behind.state rs g) h

none_stands : (s : State) (place : ℕ) (user : Name) (what : Note) → ¬ (Knows s user) → (r : Recorded) → ¬ (StandsNoted s place user what r)
unfolding FitsState
none_stands s place user what not r n = not (subst (FitsState s) n.is n.fits.state)

pub unknown_user : (d : Name) (log : Log) (user : Name) (what : Note) (known : Bool) → TellsKnown d log user known → known ≡ false
    → NoteEnds d log user what None
unfolding TellsKnown NoteEnds
unknown_user d log user what known h never = λ rs g.
    none_stands (state_of d rs) (end_of rs) user what (λ k. let surely : known ≡ true = (h rs g).1 k in absurd (cc))

note_at : (s : State) (place : ℕ) (user : Name) (what : Note) (end : Option ℕ) → Knows s user → IsEndOf place (entries.Note user what) end
    → EndsOne (StandsNoted s place user what) place end
unfolding size FitsState IsEndOf
note_at s place user what None knows never = λ r n. never (has_room s place r (entries.Note user what) n.fits (ap entry_of n.is))
note_at s place user what (Some end) knows room =
    (note user what, record { is = refl; fits = record { meant = tt; spelled = room.0.spelled; short = room.0.short; ends = room.0.ends; state = knows } }, room.1)

pub note_ends : (d : Name) (log : Log) (user : Name) (what : Note) (known : Bool) (place : ℕ) (entry : Entry) (end : Option ℕ)
    → TellsKnown d log user known → known ≡ true
    → place ≡ end_in 0 log → entry ≡ entries.Note user what → IsEndOf place entry end → NoteEnds d log user what end
unfolding TellsKnown NoteEnds
note_ends d log user what known place entry end h surely at is room = λ rs g.
    let here : place ≡ end_of rs = at ∙ log_ends d rs log g in
    note_at (state_of d rs) (end_of rs) user what end ((h rs g).0 surely)
    (subst (λ (p : ℕ). IsEndOf p (entries.Note user what) end) here (subst (λ (e : Entry). IsEndOf place e end) is room))

-- ---- notes by a message

pub not_news : (d : Name) (log : Log) (user : Name) (what : Note) (m : Message) (book : Book) (may : Bool) → book ≡ booked_in user new_book log
    → (IsTrue may ↔ MayNote book d user what m) → may ≡ false → NewsEnds d log user what m None
unfolding NewsEnds
not_news d log user what m book may is h never = λ rs g r b.
    let surely : may ≡ true = h.1 (subst (λ (o : Book). MayNote o d user what m) (sym (is ∙ log_books d user rs log g)) b.may) in absurd (cc)

news_at : (d : Name) (rs : List Recorded) (user : Name) (what : Note) (m : Message) (end : Option ℕ) → MayNote (book_of sees user rs) d user what m
    → EndsOne (StandsNoted (state_of d rs) (end_of rs) user what) (end_of rs) end → EndsOne (MayBeNoted d rs user what m) (end_of rs) end
news_at d rs user what m None may none = λ r b. none r b.stands
news_at d rs user what m (Some end) may one = (one.0, record { may = may; stands = one.1 }, one.2)

pub news_ends : (d : Name) (log : Log) (user : Name) (what : Note) (m : Message) (book : Book) (may : Bool) (end : Option ℕ) → book ≡ booked_in user new_book log
    → (IsTrue may ↔ MayNote book d user what m) → may ≡ true → NoteEnds d log user what end → NewsEnds d log user what m end
unfolding NoteEnds NewsEnds
news_ends d log user what m book may end is h surely one = λ rs g.
    news_at d rs user what m end (subst (λ (o : Book). MayNote o d user what m) (is ∙ log_books d user rs log g) (h.0 surely)) (one rs g)
