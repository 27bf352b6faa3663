-- Books that are kept, and kept again.
use Rattle.std.proofs.Common.{◌≡◌, ◌⊎◌, inl, inr, Bool, true, false, List, [], ◌∷◌, map, Option, Some, None, refl, sym, ◌∙◌, ap, subst}
use Rattle.std.specs.Prelude.{cond, if◌then◌else◌, IsSome}
use Rattle.std.specs.FinMap.{empty, get, insert, remove, get-empty, get-insert, get-remove, same_map}
use Rattle.std.specs.Ordering.{eq_by_cmp}
use Rattle.std.specs.Str.{bytes_eq}
use Rattle.std.proofs.lemmas.Map.Lookups.{exact_bytes}
use Rattle.std.proofs.lemmas.Map.Text.{is_eq-slice_cmp}
use Rattle.sr_base.specs.Order.{name_cmp}
use Rattle.sr_base.specs.Inner.Order.{name_cmp_total}
use Rattle.sr_base.specs.declared.offset.Offset.{Offset}
use Rattle.sr_book.specs.Books.{with_taken, with_note}
use Rattle.sr_book.specs.Entries.{Name}
use Rattle.sr_book.specs.declared.book.Book.{Book}
use Rattle.sr_book.specs.declared.note.Note.{Note}
use Rattle.sr_book.proofs.Folds.{name_test, same_name}
use Rattle.sr_catalog_schema.specs.Members.{user_name}
use Rattle.sr_catalog_schema.specs.Names.{named}
use Rattle.sr_catalog_schema.specs.declared.user.User.{User}
use Rattle.sr_database_files.specs.Books.{BookMap, book_in, or_new, kept_books, listed}
use Rattle.sr_database_history.specs.Fitting.{Stored}
use Rattle.sr_database_history.specs.Folds.{state_of, books_of}
use Rattle.sr_database_history.specs.Recorded.{Recorded, own, taken, ddl, sync, pass, note, entry_of}
use Rattle.sr_logform.specs.declared.change.Change.{Change}
use Rattle.sr_logform.specs.declared.entry.Entry.TheVariants as entries
use Rattle.sr_logform.specs.declared.op.Op.{Op}
use Rattle.sr_logform.specs.declared.outcome.Outcome.{Outcome}
use Rattle.sr_snapshot.specs.Beginnings.{beginning_behind}
use Rattle.sr_database_meaning.proofs.Beginnings.{unknown_book}
use Rattle.sr_database_replay.specs.Inner.Books.{with_held}
use Rattle.sr_database_replay.specs.Inner.Books.{BooksFollow}

-- what is found behind a book that was put
pub book_put : (books : BookMap) (user other : Name) (book : Book) → book_in (insert books user book) other ≡ or_new (cond (bytes_eq other user) (Some book) (get books other))
book_put books user other book = ap or_new (get-insert name_cmp_total books user book other ∙ ap (λ (b : Bool). cond b (Some book) (get books other)) (is_eq-slice_cmp other user))

-- the book of a user is one that was made of the one before
module _ (turn : Book → Book) (user : Name) where
  abbrev turned : Name → Book → Book
  turned other book = if bytes_eq other user then turn book else book

  put_follows : (books : BookMap) (other : Name) → book_in (insert books user (turn (book_in books user))) other ≡ turned other (book_in books other)
  put_follows books other = book_put books user other (turn (book_in books user)) ∙ by_name (name_test other user)
    where
      by_name : ((bytes_eq other user ≡ true) × (other ≡ user)) ⊎ (bytes_eq other user ≡ false) → or_new (cond (bytes_eq other user) (Some (turn (book_in books user))) (get books other)) ≡ turned other (book_in books other)
      by_name (inl same) =
          ap (λ (b : Bool). or_new (cond b (Some (turn (book_in books user))) (get books other))) same.0
          ∙ ap (λ (name : Name). turn (book_in books name)) (sym same.1)
          ∙ sym (ap (λ (b : Bool). if b then turn (book_in books other) else book_in books other) same.0)
      by_name (inr differs) =
          ap (λ (b : Bool). or_new (cond b (Some (turn (book_in books user))) (get books other))) differs
          ∙ sym (ap (λ (b : Bool). if b then turn (book_in books other) else book_in books other) differs)

-- a transaction that was taken
pub follow_taken : (old new : BookMap) (user : Name) (at : Offset) (ops : List (Op × Outcome)) (r : Recorded) → new ≡ insert old user (with_taken (book_in old user) at.0) → entry_of r ≡ entries.From user at ops → BooksFollow old new r
follow_taken old new user at ops (own changes) is same = cc
follow_taken old new user at ops (taken u a dones) is same =
    let names : u ≡ user = cc in
    let places : a ≡ at = cc in
    λ other.
    ap (λ (b : BookMap). book_in b other) is
    ∙ put_follows (λ book. with_taken book at.0) user old other
    ∙ ap (λ (name : Name). if bytes_eq other name then with_taken (book_in old other) at.0 else book_in old other) (sym names)
    ∙ ap (λ (o : Offset). if bytes_eq other u then with_taken (book_in old other) o.0 else book_in old other) (sym places)
follow_taken old new user at ops (ddl statement) is same = cc
follow_taken old new user at ops (sync u tables) is same = cc
follow_taken old new user at ops (pass users only statement changes) is same = cc
follow_taken old new user at ops (note u what) is same = cc

-- a note
pub follow_noted : (old new : BookMap) (user : Name) (what : Note) (r : Recorded) → new ≡ insert old user (with_note (book_in old user) what) → entry_of r ≡ entries.Note user what → BooksFollow old new r
follow_noted old new user what (own changes) is same = cc
follow_noted old new user what (taken u a dones) is same = cc
follow_noted old new user what (ddl statement) is same = cc
follow_noted old new user what (sync u tables) is same = cc
follow_noted old new user what (pass users only statement changes) is same = cc
follow_noted old new user what (note u w) is same =
    let names : u ≡ user = cc in
    let notes : w ≡ what = cc in
    λ other.
    ap (λ (b : BookMap). book_in b other) is
    ∙ put_follows (λ book. with_note book what) user old other
    ∙ ap (λ (name : Name). if bytes_eq other name then with_note (book_in old other) what else book_in old other) (sym names)
    ∙ ap (λ (n : Note). if bytes_eq other u then with_note (book_in old other) n else book_in old other) (sym notes)

-- any other entry leaves the books
pub follow_own : (old new : BookMap) (changes : List Change) (r : Recorded) → new ≡ old → entry_of r ≡ entries.Own changes → BooksFollow old new r
follow_own old new changes (own cs) is same = λ other. ap (λ (b : BookMap). book_in b other) is
follow_own old new changes (taken u a dones) is same = cc
follow_own old new changes (ddl statement) is same = cc
follow_own old new changes (sync u tables) is same = cc
follow_own old new changes (pass users only statement cs) is same = cc
follow_own old new changes (note u w) is same = cc

-- ---- back again

pub put_back : (books : BookMap) (user : Name) (book : Book) → with_held (insert books user book) user (get books user) ≡ books
put_back books user book = by_held (get books user) refl
  where
    twice : (held : Option Book) (q : Name) → get books user ≡ held → get books q ≡ cond (eq_by_cmp name_cmp q user) held (cond (eq_by_cmp name_cmp q user) (Some book) (get books q))
    twice held q is = by_test (eq_by_cmp name_cmp q user) refl
      where
        exact_key : (q : Name) → eq_by_cmp name_cmp q user ≡ true → q ≡ user
        exact_key q e = by_name (name_test q user)
          where
            by_name : ((bytes_eq q user ≡ true) × (q ≡ user)) ⊎ (bytes_eq q user ≡ false) → q ≡ user
            by_name (inl same) = same.1
            by_name (inr differs) = let both : true ≡ false = sym e ∙ is_eq-slice_cmp q user ∙ differs in cc

        by_test : (b : Bool) → eq_by_cmp name_cmp q user ≡ b → get books q ≡ cond b held (cond b (Some book) (get books q))
        by_test true e = ap (get books) (exact_key q e) ∙ is
        by_test false e = refl

    by_held : (held : Option Book) → get books user ≡ held → with_held (insert books user book) user held ≡ books
    by_held None is = same_map name_cmp_total exact_bytes (remove (insert books user book) user) books
        (λ q. get-remove name_cmp_total (insert books user book) user q ∙ ap (cond (eq_by_cmp name_cmp q user) None) (get-insert name_cmp_total books user book q) ∙ sym (twice None q is))
    by_held (Some old) is = same_map name_cmp_total exact_bytes (insert (insert books user book) user old) books
        (λ q. get-insert name_cmp_total (insert books user book) user old q ∙ ap (cond (eq_by_cmp name_cmp q user) (Some old)) (get-insert name_cmp_total books user book q) ∙ sym (twice (Some old) q is))

-- a book that was put is there
pub put_there : (books : BookMap) (user : Name) (book : Book) → IsSome (get (insert books user book) user)
put_there books user book = subst (λ (o : Option Book). IsSome o) (sym (get-insert name_cmp_total books user book user ∙ ap (λ (b : Bool). cond b (Some book) (get books user)) (is_eq-slice_cmp user user ∙ same_name user))) refl

-- ---- the books of a list

module _ (is : Name → Book) where
  abbrev lines : List User → List (Name × Book)
  lines users = map (λ (u : User). (u.name, is u.name)) users

  -- a book that is the right one stays so
  put_still : (books : BookMap) (name user : Name) → book_in books user ≡ is user → book_in (insert books name (is name)) user ≡ is user
  put_still books name user right = book_put books name user (is name) ∙ by_name (name_test user name)
    where
      by_name : ((bytes_eq user name ≡ true) × (user ≡ name)) ⊎ (bytes_eq user name ≡ false) → or_new (cond (bytes_eq user name) (Some (is name)) (get books user)) ≡ is user
      by_name (inl same) = ap (λ (b : Bool). or_new (cond b (Some (is name)) (get books user))) same.0 ∙ ap is (sym same.1)
      by_name (inr differs) = ap (λ (b : Bool). or_new (cond b (Some (is name)) (get books user))) differs ∙ right

  pub kept_still : (users : List User) (books : BookMap) (user : Name) → book_in books user ≡ is user → book_in (kept_books books (lines users)) user ≡ is user
  kept_still [] books user right = right
  kept_still (u ∷ users) books user right = kept_still users (insert books u.name (is u.name)) user (put_still books u.name user right)

  -- the book of each user in the list is that
  pub kept_known : (users : List User) (books : BookMap) (user : Name) (u : User) → named user_name user users ≡ Some u → book_in (kept_books books (lines users)) user ≡ is user
  kept_known [] books user u found = cc
  kept_known (v ∷ users) books user u found = by_name (λ there. kept_known users (insert books v.name (is v.name)) user u there) (name_test user v.name)
    where
      by_name : (named user_name user users ≡ Some u → book_in (kept_books (insert books v.name (is v.name)) (lines users)) user ≡ is user) → ((bytes_eq user v.name ≡ true) × (user ≡ v.name)) ⊎ (bytes_eq user v.name ≡ false)
          → book_in (kept_books (insert books v.name (is v.name)) (lines users)) user ≡ is user
      by_name later (inl same) =
          kept_still users (insert books v.name (is v.name)) user
          (book_put books v.name user (is v.name) ∙ ap (λ (b : Bool). or_new (cond b (Some (is v.name)) (get books user))) same.0 ∙ ap is (sym same.1))
      by_name later (inr differs) = later (sym (ap (λ (b : Bool). cond b (Some v) (named user_name user users)) differs) ∙ found)

-- the books that a history comes to are those of its users in a list; any other is new
pub listed_books : (publisher : Name) (es : List Recorded) → Stored publisher es → (user : Name) → listed (beginning_behind publisher es).books user ≡ books_of user es
listed_books publisher es stored user = by (named user_name user (state_of publisher es).catalog.users) refl
  where
    none : (o : Option User) → o ≡ None → IsSome o → ⊥
    none None is some = cc
    none (Some u) is some = cc

    by : (o : Option User) → named user_name user (state_of publisher es).catalog.users ≡ o → listed (beginning_behind publisher es).books user ≡ books_of user es
    by (Some u) found = kept_known (λ (name : Name). books_of name es) (state_of publisher es).catalog.users empty user u found
    by None found =
        kept_still (λ (name : Name). books_of name es) (state_of publisher es).catalog.users empty user
        (ap or_new (get-empty name_cmp user) ∙ sym (unknown_book publisher user es stored (none (named user_name user (state_of publisher es).catalog.users) found)))
