-- What a database may take of a user, by the logs of both.
use Rattle.std.proofs.Common.{◌≡◌, ◌↔◌, ℕ, Bool, true, false, List, [], ◌∷◌, Option, Some, None, IsTrue, refl, sym, ap, subst, ◌∙◌}
use Rattle.std.specs.List.{AllByRecursion}
use Rattle.sr_book.specs.Books.{new_book}
use Rattle.sr_book.specs.Entries.{Name}
use Rattle.sr_book.specs.Histories.{book_of}
use Rattle.sr_book.specs.declared.book.Book.{Book}
use Rattle.sr_catalog_schema.specs.Catalogs.{Lists}
use Rattle.sr_database_fold.specs.Inner.Readings.{state_in}
use Rattle.sr_database_history.specs.Folds.{State, sees, state_of, end_of}
use Rattle.sr_database_history.specs.Recorded.{Recorded}
use Rattle.sr_logform.specs.Inner.Ops.{IsShortTransaction}
use Rattle.sr_logform.specs.declared.entry.Entry.{Entry}
use Rattle.sr_logform.specs.declared.op.Transaction.{Transaction}
use Rattle.sr_msgform.specs.declared.message.Message.{Message}
use Rattle.sr_rows.specs.Marks.{Marked}
use Rattle.sr_scan.specs.Given.{given_of}
use Rattle.sr_world_entries.specs.Inner.Taking.{EndsWith, MayTake, TakeEndsIn}
use Rattle.sr_world_steps.specs.Inner.Booked.{booked_in, end_in}
use Rattle.sr_world_steps.specs.Inner.Logs.{IsLog}
use Rattle.sr_world_steps.specs.Inner.Past.{SomePast}
use Rattle.sr_world_steps.specs.Inner.Places.{Log}
use Rattle.sr_world_steps.specs.Inner.Scanned.{AreGiven, in_window}
use Rattle.sr_world_steps.specs.Inner.Standings.{StandsBehind}
use Rattle.sr_world_steps.specs.Inner.Taking.{FirstEnds, TakeEnds, TakesFirst, TransactionEnds}
use Rattle.sr_world_steps.proofs.Logged.{log_books, log_ends}

-- ---- one transaction

pub transaction_ends : (d : Name) (log : Log) (catalog : Lists) (rows : Marked) (place : ℕ) (user : Name) (t : Transaction) (found : Option (ℕ × Entry))
    → StandsBehind d log catalog rows → place ≡ end_in 0 log → TakeEndsIn (state_in catalog rows) place user t found → TransactionEnds d log user t found
unfolding TransactionEnds
transaction_ends d log catalog rows place user t found behind at one = λ rs g.
    let here : place ≡ end_of rs = at ∙ log_ends d rs log g in
    subst (λ (k : ℕ). TakeEndsIn (state_of d rs) k user t found) here (subst (λ (s : State). TakeEndsIn s place user t found) (behind.state rs g) one)

-- ---- the first of some

pub no_first : (d : Name) (log : Log) (user : Name) (ts : List Transaction) → ts ≡ [] → FirstEnds d log user ts None
no_first d log user [] none = refl
no_first d log user (t ∷ ts) none = absurd (cc)

pub first_short : (ts rest : List Transaction) (t : Transaction) → AllByRecursion IsShortTransaction ts → ts ≡ t ∷ rest → IsShortTransaction t
first_short [] rest t all split = absurd (cc)
first_short (x ∷ ts) rest t all split = let same : x ≡ t = cc in subst IsShortTransaction same all.0

pub some_first : (d : Name) (log : Log) (user : Name) (ts rest : List Transaction) (t : Transaction) (found : Option (ℕ × Entry)) → ts ≡ t ∷ rest
    → TransactionEnds d log user t found → FirstEnds d log user ts found
some_first d log user [] rest t found split one = absurd (cc)
some_first d log user (x ∷ ts) rest t found split one = let same : x ≡ t = cc in subst (λ (y : Transaction). TransactionEnds d log user y found) (sym same) one

-- ---- what may be taken

pub not_past : (messages : List Message) (d : Name) (log : Log) (user : Name) (theirs : Log) (book : Book) (past : Bool) → book ≡ booked_in user new_book log
    → (IsTrue past ↔ SomePast messages messages user d book.log_received) → past ≡ false → TakeEnds messages d log user theirs None
unfolding TakeEnds
not_past messages d log user theirs book past is h never = λ rs us g k r takes.
    let same : book ≡ book_of sees user rs = is ∙ log_books d user rs log g in
    let surely : past ≡ true = h.1 (subst (λ (b : Book). SomePast messages messages user d b.log_received) (sym same) takes.past) in
    absurd (cc)

-- of the first one, that is what may be taken
takes_it : (messages : List Message) (d : Name) (rs : List Recorded) (user : Name) (us : List Recorded) (t : Transaction) (rest : List Transaction)
    (found : Option (ℕ × Entry)) → SomePast messages messages user d (book_of sees user rs).log_received
    → in_window (book_of sees user rs).log_received (end_of us) (given_of user us d) ≡ t ∷ rest
    → EndsWith (MayTake (state_of d rs) (end_of rs) user t) (end_of rs) found → EndsWith (TakesFirst messages d rs user us) (end_of rs) found
takes_it messages d rs user us t rest None past is none = λ r takes.
    let both : t ∷ rest ≡ takes.transaction ∷ takes.rest = sym is ∙ takes.first in
    let same : t ≡ takes.transaction = cc in
    none r (subst (λ (x : Transaction). MayTake (state_of d rs) (end_of rs) user x r) (sym same) takes.may)
takes_it messages d rs user us t rest (Some found) past is one =
    (one.0, record { past = past; transaction = t; rest = rest; first = is; may = one.1 }, one.2, one.3)

takes_first : (messages : List Message) (d : Name) (rs : List Recorded) (log : Log) (user : Name) (us : List Recorded) (given : List Transaction)
    (found : Option (ℕ × Entry)) → IsLog d rs log → SomePast messages messages user d (book_of sees user rs).log_received
    → in_window (book_of sees user rs).log_received (end_of us) (given_of user us d) ≡ given → FirstEnds d log user given found
    → EndsWith (TakesFirst messages d rs user us) (end_of rs) found
unfolding TransactionEnds TakeEndsIn
takes_first messages d rs log user us [] found g past is none =
    subst (EndsWith (TakesFirst messages d rs user us) (end_of rs)) (sym none) (λ r takes.
    let never : [] ≡ takes.transaction ∷ takes.rest = sym is ∙ takes.first in absurd (cc))
takes_first messages d rs log user us (t ∷ ts) found g past is one = takes_it messages d rs user us t ts found past is (one rs g)

pub take_ends : (messages : List Message) (d : Name) (log : Log) (user : Name) (theirs : Log) (book : Book) (past : Bool) (given : List Transaction)
    (found : Option (ℕ × Entry)) → book ≡ booked_in user new_book log → (IsTrue past ↔ SomePast messages messages user d book.log_received) → past ≡ true
    → AreGiven user d book.log_received (end_in 0 theirs) theirs given → FirstEnds d log user given found → TakeEnds messages d log user theirs found
unfolding TakeEnds AreGiven
take_ends messages d log user theirs book past given found is h surely are first = λ rs us g k.
    let same : book ≡ book_of sees user rs = is ∙ log_books d user rs log g in
    let some : SomePast messages messages user d (book_of sees user rs).log_received =
    subst (λ (b : Book). SomePast messages messages user d b.log_received) same (h.0 surely) in
    let these : in_window (book_of sees user rs).log_received (end_of us) (given_of user us d) ≡ given =
    ap (λ (b : Book). in_window b.log_received (end_of us) (given_of user us d)) (sym same)
    ∙ ap (λ (n : ℕ). in_window book.log_received n (given_of user us d)) (sym (log_ends user us theirs k))
    ∙ sym (are us k) in
    takes_first messages d rs log user us given found g some these first
