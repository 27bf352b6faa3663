-- What entries behind a beginning come to is a beginning.
use Rattle.std.proofs.Common.{◌≡◌, ℕ, Bool, true, false, cond, List, [], ◌∷◌, map, Option, Some, None, IsSome, bytes_eq, refl, sym, ◌∙◌, ap, subst}
use Rattle.std.specs.FinMap.{empty, get, get-empty, insert}
use Rattle.std.specs.List.{AllByRecursion}
use Rattle.std.specs.Prelude.{Result, Ok, Err, IfOk}
use Rattle.sr_base.specs.Fields.{IsName}
use Rattle.sr_base.specs.Order.{name_cmp}
use Rattle.sr_book.specs.Books.{new_book}
use Rattle.sr_book.specs.Entries.{Name}
use Rattle.sr_book.specs.Histories.{book_from}
use Rattle.sr_book.specs.declared.book.Book.{Book}
use Rattle.sr_catalog_schema.specs.Catalogs.{Lists}
use Rattle.sr_catalog_schema.specs.Members.{user_name}
use Rattle.sr_catalog_schema.specs.Names.{named}
use Rattle.sr_catalog_schema.specs.declared.user.User.{User}
use Rattle.sr_catalog_script_laws.proofs.Spelled.{script_normal}
use Rattle.sr_catalog_script_laws.specs.Scripts.{statements}
use Rattle.sr_database_files.specs.Books.{BookMap, book_in, kept_books, listed, or_new}
use Rattle.sr_database_files.specs.declared.fault.DatabaseFault.{DatabaseFault}
use Rattle.sr_database_history.proofs.Granted.{book_waits, known_from}
use Rattle.sr_database_history.proofs.Kept.{held_from}
use Rattle.sr_database_history.specs.Fitting.{Knows, stored_from}
use Rattle.sr_database_history.specs.Folds.{state_from, sees}
use Rattle.sr_database_history.specs.Inner.Laws.{Holds}
use Rattle.sr_database_history.specs.Recorded.{Recorded}
use Rattle.sr_database_meaning.proofs.Beginnings.{ends_within, publisher_from}
use Rattle.sr_rows.specs.Marks.{Marked}
use Rattle.sr_site.specs.Seen.{Seen}
use Rattle.sr_site.specs.declared.file.File.{File}
use Rattle.sr_snapshot.proofs.Histories.{book_is, new_is, texts_utf8, values_from}
use Rattle.sr_snapshot.specs.Beginnings.{Beginning, IsBeginning, IsBook}
use Rattle.sr_snapshot.specs.Inner.Beginnings.{beginning_in}
use Rattle.sr_snapshot.specs.declared.state.State.{State as Kept}
use Rattle.sr_database_replay.proofs.Booked.{book_put, kept_known, kept_still}
use Rattle.sr_database_replay.specs.Inner.Replays.{IsReplayed}
use Rattle.sr_database_replay.specs.Inner.Stops.{lines_of, HasStopped, IsStateAt}
use Rattle.sr_database_replay.specs.Stops.{beginning_from}

-- ---- the books of a beginning

-- each has eight numbers of 64 bits, where each line has
put_is : (books : BookMap) (name user : Name) (book : Book) → IsBook book → IsBook (book_in books user) → IsBook (book_in (insert books name book) user)
put_is books name user book new old = subst (λ (k : Book). IsBook k) (sym (book_put books name user book)) (by (bytes_eq user name))
  where
    by : (b : Bool) → IsBook (or_new (cond b (Some book) (get books user)))
    by true = new
    by false = old

kept_is : (lines : List (Name × Book)) (books : BookMap) (user : Name) → AllByRecursion (λ (p : Name × Book). IsBook p.1) lines → IsBook (book_in books user) → IsBook (book_in (kept_books books lines) user)
kept_is [] books user all is = is
kept_is (line ∷ lines) books user all is = kept_is lines (insert books line.0 line.1) user all.1 (put_is books line.0 user line.1 all.0 is)

listed_is : (b : Beginning) → IsBeginning b → (user : Name) → IsBook (listed b.books user)
listed_is b begins user = kept_is b.books empty user begins.numbers (subst (λ (o : Option Book). IsBook (or_new o)) (sym (get-empty name_cmp user)) new_is)

-- a user of whom there is no line has none of them
kept_others : (lines : List (Name × Book)) (users : List User) (books : BookMap) (user : Name) → map (λ (p : Name × Book). p.0) lines ≡ map user_name users → ¬ (IsSome (named user_name user users))
    → book_in (kept_books books lines) user ≡ book_in books user
kept_others [] users books user same unknown = refl
kept_others (line ∷ lines) [] books user same unknown = cc
kept_others (line ∷ lines) (u ∷ users) books user same unknown =
    let heads : line.0 ≡ u.name = cc in
    let tails : map (λ (p : Name × Book). p.0) lines ≡ map user_name users = cc in
    by heads (λ missing. kept_others lines users (insert books line.0 line.1) user tails missing) (bytes_eq user u.name) refl
  where
    by : line.0 ≡ u.name → (¬ (IsSome (named user_name user users)) → book_in (kept_books (insert books line.0 line.1) lines) user ≡ book_in (insert books line.0 line.1) user) → (b : Bool) → bytes_eq user u.name ≡ b
        → book_in (kept_books (insert books line.0 line.1) lines) user ≡ book_in books user
    by heads later true is = absurd (unknown (subst (λ (b : Bool). IsSome (cond b (Some u) (named user_name user users))) (sym is) refl))
    by heads later false is =
        later (λ some. unknown (subst (λ (b : Bool). IsSome (cond b (Some u) (named user_name user users))) (sym is) some))
        ∙ book_put books line.0 user line.1
        ∙ ap (λ (b : Bool). or_new (cond b (Some line.1) (get books user))) (ap (bytes_eq user) heads ∙ is)

listed_new : (b : Beginning) (user : Name) → IsBeginning b → ¬ (Knows b.state user) → listed b.books user ≡ new_book
listed_new b user begins unknown = kept_others b.books b.state.catalog.users empty user begins.users unknown ∙ ap or_new (get-empty name_cmp user)

-- ---- what entries behind it come to

module _ (b : Beginning) (es : List Recorded) (begins : IsBeginning b) (stored : stored_from b.state b.place es) where
  -- the book behind the entries
  abbrev behind : Name → Book
  behind user = book_from sees user (listed b.books user) es

  their_names : (users : List User) → map (λ (p : Name × Book). p.0) (map (λ (u : User). (u.name, behind u.name)) users) ≡ map user_name users
  their_names [] = refl
  their_names (u ∷ users) = ap (λ (l : List Name). u.name ∷ l) (their_names users)

  their_books : (users : List User) → AllByRecursion (λ (p : Name × Book). IsBook p.1) (map (λ (u : User). (u.name, behind u.name)) users)
  their_books [] = tt
  their_books (u ∷ users) = (book_is u.name (listed b.books u.name) b.state b.place es (listed_is b begins u.name) stored, their_books users)

  pub holds_from : Holds (state_from b.state es)
  holds_from = held_from b.state b.place es (record { rows = begins.rows; catalog = begins.catalog }) stored

  pub begins_from : IsBeginning (beginning_from b es)
  begins_from =
      record {
        place = ends_within b.state b.place es begins.place stored;
        publisher = subst (λ (n : Name). IsName n) (sym (publisher_from b.state es)) begins.publisher;
        catalog = holds_from.catalog;
        texts = texts_utf8 (statements (state_from b.state es).catalog) (script_normal (state_from b.state es).catalog holds_from.catalog);
        rows = holds_from.rows;
        values = values_from b.state b.place es begins.values stored;
        users = their_names (state_from b.state es).catalog.users;
        numbers = their_books (state_from b.state es).catalog.users;
      }

  none : (o : Option User) → o ≡ None → IsSome o → ⊥
  none None is some = cc
  none (Some u) is some = cc

  -- the book that its list has of a user is the one behind the entries; of one who is not granted it is new
  pub listed_from : (user : Name) → listed (beginning_from b es).books user ≡ behind user
  listed_from user = by (named user_name user (state_from b.state es).catalog.users) refl
    where
      by : (o : Option User) → named user_name user (state_from b.state es).catalog.users ≡ o → listed (beginning_from b es).books user ≡ behind user
      by (Some u) found = kept_known behind (state_from b.state es).catalog.users empty user u found
      by None found =
          let unknown : ¬ (Knows (state_from b.state es) user) = none (named user_name user (state_from b.state es).catalog.users) found in
          let before : listed b.books user ≡ new_book = listed_new b user begins (λ knows. unknown (known_from b.state es user knows)) in
          kept_still behind (state_from b.state es).catalog.users empty user
          (ap or_new (get-empty name_cmp user) ∙ sym (book_waits b.state b.place es user (listed b.books user) stored unknown ∙ before))

-- ---- the state of what was read

pub lists_are : (is other : Name → Book) (users : List User) → ((user : Name) → is user ≡ other user) → map {B = Name × Book} (λ (u : User). (u.name, is u.name)) users ≡ map {B = Name × Book} (λ (u : User). (u.name, other u.name)) users
lists_are is other [] are = refl
lists_are is other (u ∷ users) are = λ i. (u.name, are u.name i) ∷ lists_are is other users are i

abbrev standing : Lists → Marked → ℕ → List (Name × Book) → Beginning
standing catalog rows keep lines = record { place = keep; state = record { catalog = catalog; rows = rows.rows }; books = lines }

pub found_is : (catalog : Lists) (rows : Marked) (books : BookMap) (keep : ℕ) (lines : List (Name × Book)) → lines ≡ lines_of books catalog.users → (b : Beginning) (es : List Recorded) → IsReplayed catalog rows books keep b es
    → standing catalog rows keep lines ≡ beginning_from b es
found_is catalog rows books keep lines are b es is =
    let listing : lines ≡ map (λ (u : User). (u.name, book_from sees u.name (listed b.books u.name) es)) (state_from b.state es).catalog.users =
    are ∙ lists_are (λ (name : Name). book_in books name) (λ (name : Name). book_from sees name (listed b.books name) es) catalog.users is.books_are
    ∙ ap (λ (c : Lists). map (λ (u : User). (u.name, book_from sees u.name (listed b.books u.name) es)) c.users) is.catalog_is in
    λ i. record { place = is.position_is i; state = record { catalog = is.catalog_is i; rows = ap (λ (m : Marked). m.rows) is.rows_are i }; books = listing i }

pub state_there : (catalog : Lists) (rows : Marked) (books : BookMap) (keep : ℕ) (b : Beginning) (log : File) (seen : Seen) (result : Result Kept DatabaseFault) → HasStopped catalog rows books keep b log seen
    → IfOk result (λ found. (c : Beginning) (es : List Recorded) → IsReplayed catalog rows books keep c es → beginning_in found ≡ beginning_from c es) → IfOk result (λ found. IsStateAt b keep log seen (beginning_in found))
state_there catalog rows books keep b log seen (Ok found) has is =
    record {
      es = has.es;
      begins = has.is.begins;
      stored = has.is.stored;
      keep_is = has.is.position_is;
      found_is = is b has.es has.is;
      read = has.read;
    }
state_there catalog rows books keep b log seen (Err fault) has is = tt
