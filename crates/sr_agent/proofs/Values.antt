-- What a database's value comes to, as its history has it, and what of it stays so.
use Rattle.std.proofs.Common.{◌≡◌, ◌≤◌, Bool, true, false, List, [], ◌∷◌, bytes_eq, refl, sym, ap, subst, ◌∙◌, arith, if◌then◌else◌}
use Rattle.std.specs.Prelude.{max, nat_lt}
use Rattle.sr_ast.specs.declared.stmt.Stmt.{Stmt}
use Rattle.sr_book.specs.Books.{with_note, with_taken}
use Rattle.sr_book.specs.Entries.{Name, Sight, booked, from_user, local, noted}
use Rattle.sr_book.specs.Histories.{book_from}
use Rattle.sr_book.specs.declared.book.Book.{Book}
use Rattle.sr_book.specs.declared.note.Note.{Note}
use Rattle.sr_book.specs.declared.note.Note.TheVariants.{Confirmed, Asked, Raised, Sent}
use Rattle.sr_database.specs.Databases.{IsOf}
use Rattle.sr_database.specs.Advances.{Advances}
use Rattle.sr_database.specs.Views.{View, committed}
use Rattle.sr_database.proofs.Commits.{committed_is}
use Rattle.sr_database_files.specs.Books.{book_in}
use Rattle.sr_database_history.specs.Fitting.{Knows}
use Rattle.sr_database_history.specs.Folds.{State, after_done, after_dones, after_pass, fresh, next, sees, state_from, state_of, with_changes, with_statement}
use Rattle.sr_database_history.specs.Recorded.{Done}
use Rattle.sr_database_history.specs.Recorded.{Recorded, own, taken, ddl, sync, pass, note}
use Rattle.sr_database_history.proofs.Granted.{known_from}
use Rattle.sr_logform.specs.declared.change.Change.{Change}
use Rattle.sr_logform.specs.declared.op.Op.{Op}
use Rattle.sr_receive.specs.Acts.{PassState}
use Rattle.sr_receive.specs.Passes.{first_of}
use Rattle.sr_receive.proofs.Acted.{done_publisher}
use Rattle.sr_catalog_script_laws.proofs.ReplayNexts.{publisher_next}
use Rattle.sr_catalog_schema.specs.Catalogs.{Lists}
use Rattle.sr_agent.specs.Inner.Steps.{IsUser, KeepsPartners}
use Rattle.sr_agent.specs.PartnerPasses.{beginning}

-- ---- the state and the book

-- where a partner's pass begins
pub beginning_is : (view : View) (publisher : Name) (es : List Recorded) (user : Name) → IsOf view publisher es → first_of view (book_in view.books user) [] ≡ beginning publisher es user
beginning_is view publisher es user is =
    let by_state : State → PassState = λ s. record { state = s; received = (book_in view.books user).log_received; dropped_windows = []; left = [] } in
    let by_book : Book → PassState = λ b. record { state = state_of publisher es; received = b.log_received; dropped_windows = []; left = [] } in
    ap by_state (committed_is view publisher es is) ∙ ap by_book (is.books user)

-- ---- the publisher

statement_keeps : (s : State) (statement : Stmt) → (with_statement statement s).catalog.publisher ≡ s.catalog.publisher
unfolding with_statement
statement_keeps s statement = publisher_next s.catalog statement

dones_keep : (dones : List Done) (s : State) → (after_dones dones s).catalog.publisher ≡ s.catalog.publisher
dones_keep [] s = refl
dones_keep (d ∷ dones) s = dones_keep dones (after_done d s) ∙ done_publisher d s

pass_keeps : (only : Bool) (statement : Stmt) (changes : List Change) (s : State) → (after_pass only statement changes s).catalog.publisher ≡ s.catalog.publisher
pass_keeps true statement changes s = refl
pass_keeps false statement changes s = statement_keeps (with_changes changes s) statement

next_keeps : (s : State) (r : Recorded) → (next s r).catalog.publisher ≡ s.catalog.publisher
unfolding next
next_keeps s (own changes) = refl
next_keeps s (taken user at dones) = dones_keep dones s
next_keeps s (ddl statement) = statement_keeps s statement
next_keeps s (sync user tables) = refl
next_keeps s (pass users only statement changes) = pass_keeps only statement changes s
next_keeps s (note user what) = refl

all_keep : (s : State) (rs : List Recorded) → (state_from s rs).catalog.publisher ≡ s.catalog.publisher
all_keep s [] = refl
all_keep s (r ∷ rs) = all_keep (next s r) rs ∙ next_keeps s r

pub publisher_is : (view : View) (publisher : Name) (es : List Recorded) → IsOf view publisher es → view.catalog.publisher ≡ publisher
publisher_is view publisher es is = ap (λ (c : Lists). c.publisher) is.catalog ∙ all_keep (fresh publisher) es

-- ---- what passes ask of partners

asked_note : (b : Bool) (book changed : Book) → changed.rereceive_count ≡ book.rereceive_count → 1 ≤ book.rereceive_count → 1 ≤ (if b then changed else book).rereceive_count
asked_note true book changed same one = omega (arith, same, one)
asked_note false book changed same one = one

raised_note : (book : Book) (n : Note) → 1 ≤ book.rereceive_count → 1 ≤ (with_note book n).rereceive_count
raised_note book (Confirmed place) one = one
raised_note book (Asked count place) one =
    asked_note (nat_lt book.resend_count count) book (record book { log_sent = max book.confirm_sent place.0; resend_count = count }) refl one
raised_note book Raised one = omega (arith, one)
raised_note book (Sent end messages confirm) one = one

raised_where : (b : Bool) (book changed : Book) → 1 ≤ book.rereceive_count → 1 ≤ changed.rereceive_count → 1 ≤ (if b then changed else book).rereceive_count
raised_where true book changed one other = other
raised_where false book changed one other = one

raised_booked : (user : Name) (book : Book) (s : Sight (List Op)) → 1 ≤ book.rereceive_count → 1 ≤ (booked user book s).rereceive_count
raised_booked user book local one = one
raised_booked user book (from_user other place ops) one = raised_where (bytes_eq user other) book (with_taken book place) one one
raised_booked user book (noted other n) one = raised_where (bytes_eq user other) book (with_note book n) one (raised_note book n one)

raised_from : (user : Name) (book : Book) (rs : List Recorded) → 1 ≤ book.rereceive_count → 1 ≤ (book_from sees user book rs).rereceive_count
raised_from user book [] one = one
raised_from user book (r ∷ rs) one = raised_from user (booked user book (sees r)) rs (raised_booked user book (sees r) one)

known_along : (old new : View) (added : List Recorded) (user : Name) → Advances old new added → IsUser old user → IsUser new user
known_along old new added user on is_user =
    let later : Knows (state_from (committed old) added) user = known_from (committed old) added user is_user in
    subst (λ (s : State). Knows s user) (sym on.state) later

raised_along : (old new : View) (added : List Recorded) (user : Name) → Advances old new added → 1 ≤ (book_in old.books user).rereceive_count → 1 ≤ (book_in new.books user).rereceive_count
raised_along old new added user on one = subst (λ (b : Book). 1 ≤ b.rereceive_count) (sym (on.books user)) (raised_from user (book_in old.books user) added one)

pub keeps_partners : (old new : View) (added : List Recorded) → Advances old new added → KeepsPartners old new
keeps_partners old new added on = record {
  users = λ user user_is. known_along old new added user on user_is;
  asks = λ p may. record {
    user = known_along old new added p.user on may.user;
    raised = λ ask. raised_along old new added p.user on (may.raised ask);
  };
}

pub keeps_twice : (a b c : View) → KeepsPartners a b → KeepsPartners b c → KeepsPartners a c
keeps_twice a b c one two = record { users = λ user is. two.users user (one.users user is); asks = λ p may. two.asks p (one.asks p may) }

pub keeps_same : (a : View) → KeepsPartners a a
keeps_same a = record { users = λ user is. is; asks = λ p may. may }
