-- What stands behind grants.
use Rattle.std.proofs.Common.{◌≡◌, ◌+◌, ◌++◌, Bool, true, false, ℕ, List, [], ◌∷◌, Option, Some, None, IsSome, bytes_eq, refl, sym, ap, subst, ◌∙◌, if◌then◌else◌}
use Rattle.sr_ast.specs.declared.stmt.Stmt.{Stmt}
use Rattle.sr_ast.specs.declared.stmt.Stmt.TheVariants as stmt
use Rattle.sr_book.specs.Books.{new_book, with_taken, with_note}
use Rattle.sr_book.specs.declared.book.Book.{Book}
use Rattle.sr_book.specs.Entries.{Name, booked}
use Rattle.sr_book.specs.Histories.{book_from}
use Rattle.sr_book.proofs.Folds.{book_from-append}
use Rattle.sr_catalog_change.specs.Changes.{next as catalog_after}
use Rattle.sr_catalog_ddl.specs.Users.{user_of}
use Rattle.sr_exec_where.proofs.Fixed.{same_name}
use Rattle.sr_logform.specs.declared.change.Change.{Change}
use Rattle.sr_catalog_schema.specs.Catalogs.{Lists}
use Rattle.sr_catalog_schema.specs.Members.{user_name}
use Rattle.sr_catalog_schema.specs.Names.{named}
use Rattle.sr_catalog_schema.specs.declared.user.User.{User}
use Rattle.sr_database_history.specs.Recorded.{Done, plain, ran, conflict, clash, Recorded, own, taken, ddl, sync, pass, note}
use Rattle.sr_database_history.specs.Folds.{State, fresh, with_changes, with_statement, after_done, after_dones, after_pass, next, state_from, state_of, size, sees, books_of}
use Rattle.sr_database_history.specs.Fitting.{Knows, FitsState, stored_from, Stored}
use Rattle.sr_database_history.proofs.Tables.{find_first}

-- ---- who is granted stays so

found_still : (name : Name) (users more : List User) (o : Option User) → named user_name name users ≡ o → IsSome o
    → IsSome (named user_name name (users ++ more))
found_still name users more None e some = cc
found_still name users more (Some u) e some = subst IsSome (sym (find_first (λ u. bytes_eq name u.name) users more u e)) refl

still_named : (c : Lists) (s : Stmt) (name : Name) → IsSome (named user_name name c.users) → IsSome (named user_name name (catalog_after c s).users)
unfolding catalog_after
still_named c (stmt.GrantRemote g) name some = found_still name c.users (user_of false g ∷ []) (named user_name name c.users) refl some
still_named c (stmt.GrantConsolidate g) name some = found_still name c.users (user_of true g ∷ []) (named user_name name c.users) refl some
still_named c s name some = some

statement_knows : (s : State) (statement : Stmt) (user : Name) → Knows s user → Knows (with_statement statement s) user
unfolding with_statement
statement_knows s statement user knows = still_named s.catalog statement user knows

done_knows : (d : Done) (s : State) (user : Name) → Knows s user → Knows (after_done d s) user
done_knows (plain op changes) s user knows = knows
done_knows (ran statement changes) s user knows = statement_knows (with_changes changes s) statement user knows
done_knows (conflict op inserts before after) s user knows = knows
done_knows (clash op why) s user knows = knows

dones_know : (dones : List Done) (s : State) (user : Name) → Knows s user → Knows (after_dones dones s) user
dones_know [] s user knows = knows
dones_know (d ∷ dones) s user knows = dones_know dones (after_done d s) user (done_knows d s user knows)

pass_knows : (only : Bool) (statement : Stmt) (changes : List Change) (s : State) (user : Name) → Knows s user
    → Knows (after_pass only statement changes s) user
pass_knows true statement changes s user knows = knows
pass_knows false statement changes s user knows = statement_knows (with_changes changes s) statement user knows

pub stays_known : (s : State) (r : Recorded) (user : Name) → Knows s user → Knows (next s r) user
unfolding next
stays_known s (own changes) user knows = knows
stays_known s (taken other at dones) user knows = dones_know dones s user knows
stays_known s (ddl statement) user knows = statement_knows s statement user knows
stays_known s (sync other tables) user knows = knows
stays_known s (pass users only statement changes) user knows = pass_knows only statement changes s user knows
stays_known s (note other what) user knows = knows

pub known_from : (s : State) (rs : List Recorded) (user : Name) → Knows s user → Knows (state_from s rs) user
known_from s [] user knows = knows
known_from s (r ∷ rs) user knows = known_from (next s r) rs user (stays_known s r user knows)

-- ---- a book begins at its user's grant

-- nothing is booked of a user who is not granted
unbooked : (s : State) (user other : Name) (book changed : Book) → ¬ (Knows s user) → Knows s other → (if bytes_eq user other then changed else book) ≡ book
unbooked s user other book changed unknown knows = go (bytes_eq user other) refl where
  go : (b : Bool) → bytes_eq user other ≡ b → (if b then changed else book) ≡ book
  go true e = absurd (unknown (subst (λ (name : Name). Knows s name) (sym (same_name user other e)) knows))
  go false e = refl

books_not : (s : State) (r : Recorded) (user : Name) (book : Book) → FitsState s r → ¬ (Knows s user) → booked user book (sees r) ≡ book
unfolding FitsState
books_not s (own changes) user book fits unknown = refl
books_not s (taken other at dones) user book fits unknown = unbooked s user other book (with_taken book at.0) unknown fits.0
books_not s (ddl statement) user book fits unknown = refl
books_not s (sync other tables) user book fits unknown = refl
books_not s (pass users only statement changes) user book fits unknown = refl
books_not s (note other what) user book fits unknown = unbooked s user other book (with_note book what) unknown fits

pub book_waits : (s : State) (place : ℕ) (rs : List Recorded) (user : Name) (book : Book) → stored_from s place rs → ¬ (Knows (state_from s rs) user)
    → book_from sees user book rs ≡ book
book_waits s place [] user book stored unknown = refl
book_waits s place (r ∷ rs) user book stored unknown =
    ap (λ (b : Book). book_from sees user b rs)
    (books_not s r user book stored.0.state (λ knows. unknown (known_from (next s r) rs user (stays_known s r user knows))))
    ∙ book_waits (next s r) (place + (size r + 5)) rs user book stored.1 unknown

pub books_begin : (publisher user : Name) (rs more : List Recorded) → Stored publisher rs → ¬ (Knows (state_of publisher rs) user)
    → books_of user (rs ++ more) ≡ books_of user more
books_begin publisher user rs more stored unknown =
    book_from-append sees user new_book rs more
    ∙ ap (λ (b : Book). book_from sees user b more) (book_waits (fresh publisher) 0 rs user new_book stored unknown)
