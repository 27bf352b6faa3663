-- What goes on behind a beginning, and what a beginning tells of the histories that come to it.
use Rattle.std.proofs.Common.{◌≡◌, ℕ, ◌+◌, ◌≤◌, ◌^◌, Bool, true, false, cond, List, [], ◌∷◌, ◌++◌, map, Option, Some, None, IsSome, bytes_eq, refl, sym, ◌∙◌, ap, subst, arith}
use Rattle.std.proofs.lemmas.List.{append-nil}
use Rattle.sr_ast.specs.declared.stmt.Stmt.{Stmt}
use Rattle.sr_book.specs.Books.{new_book}
use Rattle.sr_book.specs.Entries.{Name}
use Rattle.sr_book.specs.declared.book.Book.{Book}
use Rattle.sr_catalog_schema.specs.Members.{user_name}
use Rattle.sr_catalog_schema.specs.Names.{named}
use Rattle.sr_catalog_schema.specs.declared.user.User.{User}
use Rattle.sr_catalog_script_laws.proofs.ReplayNexts.{publisher_next}
use Rattle.sr_database_history.specs.Fitting.{Knows, Stored, stored_from}
use Rattle.sr_database_history.specs.Folds.{State, fresh, with_changes, with_statement, after_done, after_dones, after_pass, next, state_from, state_of, size, end_from, end_of, books_of}
use Rattle.sr_database_history.specs.Recorded.{Done, plain, ran, conflict, clash}
use Rattle.sr_database_history.specs.Recorded.{Recorded, own, taken, ddl, sync, pass, note}
use Rattle.sr_database_history.proofs.Granted.{books_begin}
use Rattle.sr_exec_where.proofs.Fixed.{same_name}
use Rattle.sr_logform.specs.declared.change.Change.{Change}
use Rattle.sr_snapshot.specs.Beginnings.{Beginning, beginning_behind}

-- ---- the publisher stays

statement_keeps : (s : State) (statement : Stmt) → (with_statement statement s).catalog.publisher ≡ s.catalog.publisher
unfolding with_statement
statement_keeps s statement = publisher_next s.catalog statement

done_keeps : (d : Done) (s : State) → (after_done d s).catalog.publisher ≡ s.catalog.publisher
done_keeps (plain op changes) s = refl
done_keeps (ran statement changes) s = statement_keeps (with_changes changes s) statement
done_keeps (conflict op inserts before after) s = refl
done_keeps (clash op why) s = refl

dones_keep : (dones : List Done) (s : State) → (after_dones dones s).catalog.publisher ≡ s.catalog.publisher
dones_keep [] s = refl
dones_keep (d ∷ dones) s = dones_keep dones (after_done d s) ∙ done_keeps d s

pass_keeps : (only : Bool) (statement : Stmt) (changes : List Change) (s : State) → (after_pass only statement changes s).catalog.publisher ≡ s.catalog.publisher
pass_keeps true statement changes s = refl
pass_keeps false statement changes s = statement_keeps (with_changes changes s) statement

next_keeps : (s : State) (r : Recorded) → (next s r).catalog.publisher ≡ s.catalog.publisher
unfolding next
next_keeps s (own changes) = refl
next_keeps s (taken user at dones) = dones_keep dones s
next_keeps s (ddl statement) = statement_keeps s statement
next_keeps s (sync user tables) = refl
next_keeps s (pass users only statement changes) = pass_keeps only statement changes s
next_keeps s (note user what) = refl

pub publisher_from : (s : State) (rs : List Recorded) → (state_from s rs).catalog.publisher ≡ s.catalog.publisher
publisher_from s [] = refl
publisher_from s (r ∷ rs) = publisher_from (next s r) rs ∙ next_keeps s r

-- ---- the last offset

pub ends_within : (s : State) (place : ℕ) (rs : List Recorded) → place ≤ 2 ^ 62 → stored_from s place rs → end_from place rs ≤ 2 ^ 62
ends_within s place [] within stored = within
ends_within s place (r ∷ rs) within stored = let ends : place + (size r + 5) ≤ 2 ^ 62 = stored.0.ends in ends_within (next s r) (place + (size r + 5)) rs ends stored.1

-- ---- histories that come to one beginning

pub one_publisher : (publisher other : Name) (done dones : List Recorded) → beginning_behind publisher done ≡ beginning_behind other dones → publisher ≡ other
one_publisher publisher other done dones same =
    sym (publisher_from (fresh publisher) done) ∙ ap (λ (b : Beginning). b.state.catalog.publisher) same ∙ publisher_from (fresh other) dones

-- the book of a user who is not granted
pub unknown_book : (publisher user : Name) (es : List Recorded) → Stored publisher es → ¬ (Knows (state_of publisher es) user) → books_of user es ≡ new_book
unknown_book publisher user es stored unknown = ap (books_of user) (sym (append-nil es)) ∙ books_begin publisher user es [] stored unknown

abbrev pub books_for : List Recorded → List User → List (Name × Book)
books_for es users = map (λ (u : User). (u.name, books_of u.name es)) users

known_book : (es fs : List Recorded) (users : List User) (user : Name) (u : User) → books_for es users ≡ books_for fs users → named user_name user users ≡ Some u → books_of user es ≡ books_of user fs
known_book es fs [] user u same found = cc
known_book es fs (v ∷ users) user u same found =
    let all : (v.name, books_of v.name es) ∷ books_for es users ≡ (v.name, books_of v.name fs) ∷ books_for fs users = same in
    let pairs : (v.name, books_of v.name es) ≡ (v.name, books_of v.name fs) = cc in
    let heads : books_of v.name es ≡ books_of v.name fs = ap (λ (p : Name × Book). p.1) pairs in
    let tails : books_for es users ≡ books_for fs users = cc in
    by heads (λ there. known_book es fs users user u tails there) (bytes_eq user v.name) refl found
  where
    by : books_of v.name es ≡ books_of v.name fs → (named user_name user users ≡ Some u → books_of user es ≡ books_of user fs) → (b : Bool) → bytes_eq user v.name ≡ b → cond b (Some v) (named user_name user users) ≡ Some u
        → books_of user es ≡ books_of user fs
    by heads later true is there = subst (λ (name : Name). books_of name es ≡ books_of name fs) (sym (same_name user v.name is)) heads
    by heads later false is there = later there

-- a user is granted in both, or in none
pub same_books : (publisher : Name) (done dones : List Recorded) → Stored publisher done → Stored publisher dones → beginning_behind publisher done ≡ beginning_behind publisher dones → (user : Name) → books_of user done ≡ books_of user dones
same_books publisher done dones stored stored' same user = by (named user_name user (state_of publisher done).catalog.users) refl
  where
    states : state_of publisher done ≡ state_of publisher dones
    states = ap (λ (b : Beginning). b.state) same

    lists : books_for done (state_of publisher done).catalog.users ≡ books_for dones (state_of publisher done).catalog.users
    lists = ap (λ (b : Beginning). b.books) same ∙ ap (λ (s : State). books_for dones s.catalog.users) (sym states)

    none : (o : Option User) → o ≡ None → IsSome o → ⊥
    none None is some = cc
    none (Some u) is some = cc

    by : (o : Option User) → named user_name user (state_of publisher done).catalog.users ≡ o → books_of user done ≡ books_of user dones
    by (Some u) is = known_book done dones (state_of publisher done).catalog.users user u lists is
    by None is =
        unknown_book publisher user done stored (none (named user_name user (state_of publisher done).catalog.users) is)
        ∙ sym (unknown_book publisher user dones stored' (none (named user_name user (state_of publisher dones).catalog.users) (ap (λ (s : State). named user_name user s.catalog.users) (sym states) ∙ is)))
