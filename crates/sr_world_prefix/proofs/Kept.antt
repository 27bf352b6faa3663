-- What partners need of a log is kept as entries are added, and all that is to be sent to a user lies in it.
use Rattle.std.proofs.Common.{◌≡◌, ℕ, ◌≤◌, List, [], ◌∷◌, ◌++◌, sym, subst, arith}
use Rattle.std.specs.Prelude.{min}
use Rattle.std.specs.List.{AllByRecursion}
use Rattle.sr_agent.proofs.Based.{one_base}
use Rattle.sr_book.specs.Entries.{Name}
use Rattle.sr_book.specs.declared.note.Note.{Note}
use Rattle.sr_book.specs.declared.note.Note.TheVariants.{Confirmed, Asked, Raised, Sent}
use Rattle.sr_database_history.specs.Fitting.{Stored}
use Rattle.sr_database_history.specs.Folds.{books_of, end_of}
use Rattle.sr_database_history.specs.Recorded.{Recorded, own, taken, ddl, sync, pass, note}
use Rattle.sr_database_meaning.specs.Bases.{HasBase}
use Rattle.sr_database_meaning.specs.Standing.{StandsAs, StandsFor}
use Rattle.sr_logform.specs.declared.op.Op.{Op}
use Rattle.sr_scan.specs.Given.{given_of}
use Rattle.sr_send.specs.Passes.{waiting}
use Rattle.sr_send.specs.Unsent.{unsent}
use Rattle.sr_send_needs.specs.Needs.{IsKept, KeepsNeeds, least_need}
use Rattle.sr_send_needs.specs.Inner.Needs.{SendsOn, KeepsUnsent}
use Rattle.sr_send_needs.proofs.Keeping.{least_keeps, needs_more, unsent_all, unsent_more}
use Rattle.sr_send_needs.proofs.Places.{least_to_end}
use Rattle.sr_site.specs.Files.{Files}
use Rattle.sr_world.specs.Real.{layers}
use Rattle.sr_world_model.specs.Worlds.{IsInOrder}
use Rattle.sr_world_prefix.specs.Kept.{StandsKeeping}
use Rattle.sr_world_prefix.proofs.InOrder.{local_in_order, step_in_order}
use Rattle.sr_world_prefix.proofs.Steps.{GoesWith, IsOwnStep, IsRunStep, ends_later}

-- ---- a log that begins within a history

-- it does, where files stand for that
pub stands_within : (publisher : Name) (es : List Recorded) (base : ℕ) (files : Files) → StandsFor publisher es base files → base ≤ end_of es
stands_within publisher es base files s =
    let later = ends_later s.done s.left in
    subst (λ (rs : List Recorded). base ≤ end_of rs) (sym s.parts) (omega (arith, s.base_is, later))

within_more : (base : ℕ) (es : List Recorded) (r : Recorded) → base ≤ end_of es → base ≤ end_of (es ++ r ∷ [])
within_more base es r within = omega (arith, within, ends_later es (r ∷ []))

-- of files that stand for a history and whose log has this base
pub stands_at : (publisher : Name) (es : List Recorded) (base : ℕ) (files : Files) → HasBase base files → StandsAs publisher es files → StandsFor publisher es base files
stands_at publisher es base files has s = subst (λ (n : ℕ). StandsFor publisher es n files) (one_base publisher es base s.base files s.stands has) s.stands

-- ---- it keeps what was not sent to a user, or not confirmed by him

pub record KeepsSent (publisher : Name) (base : ℕ) (es : List Recorded) : Type 0 where
  pub within : base ≤ end_of es
  pub keeps : KeepsUnsent publisher es base

note_sends_on : (es : List Recorded) (whose : Name) (what : Note) → GoesWith es whose what → SendsOn es (note whose what)
note_sends_on es whose (Confirmed place) goes = tt
note_sends_on es whose (Asked count place) goes = tt
note_sends_on es whose Raised goes = tt
note_sends_on es whose (Sent end count confirm) goes = goes.0

-- no entry of a run notes less as sent than was
run_sends_on : (publisher : Name) (es : List Recorded) (r : Recorded) → IsRunStep publisher es r → SendsOn es r
run_sends_on publisher es (own changes) is = tt
run_sends_on publisher es (taken whose at dones) is = tt
run_sends_on publisher es (ddl statement) is = tt
run_sends_on publisher es (sync whose tables) is = tt
run_sends_on publisher es (pass users only statement changes) is = tt
run_sends_on publisher es (note whose what) is = note_sends_on es whose what is

pub sent_more : (publisher : Name) (base : ℕ) (es : List Recorded) (r : Recorded) → KeepsSent publisher base es → IsRunStep publisher es r → KeepsSent publisher base (es ++ r ∷ [])
sent_more publisher base es r keeps is = record {
  within = within_more base es r keeps.within;
  keeps = unsent_more publisher es r base keeps.within keeps.keeps (run_sends_on publisher es r is);
}

-- so all that is to be sent to a user lies in the log
pub same_waiting : (publisher : Name) (base : ℕ) (es : List Recorded) (user : Name) → KeepsSent publisher base es
    → waiting base publisher es user (books_of user es) ≡ unsent publisher es user (books_of user es).log_sent
same_waiting publisher base es user keeps = unsent_all publisher es base user keeps.keeps

-- ---- it keeps what partners need, and the books are in order

pub record IsKeeping (publisher : Name) (base : ℕ) (es : List Recorded) : Type 0 where
  pub within : base ≤ end_of es
  pub needs : KeepsNeeds publisher es base
  pub books : (user : Name) → IsInOrder layers user es

with_books : (publisher : Name) (base : ℕ) (es : List Recorded) (r : Recorded) → IsKeeping publisher base es → ((user : Name) → IsInOrder layers user (es ++ r ∷ [])) → IsKeeping publisher base (es ++ r ∷ [])
with_books publisher base es r keeping books = record {
  within = within_more base es r keeping.within;
  needs = needs_more publisher es r base keeping.within keeping.needs (λ user. (books user).confirmed_sent);
  books = books;
}

pub keeping_more : (publisher : Name) (base : ℕ) (es : List Recorded) (r : Recorded) → IsKeeping publisher base es → IsRunStep publisher es r → IsKeeping publisher base (es ++ r ∷ [])
keeping_more publisher base es r keeping is = with_books publisher base es r keeping (λ user. step_in_order user es (keeping.books user) publisher r is)

pub keeping_own : (publisher : Name) (base : ℕ) (es : List Recorded) (r : Recorded) → IsKeeping publisher base es → IsOwnStep publisher es r → IsKeeping publisher base (es ++ r ∷ [])
keeping_own publisher base es r keeping is = with_books publisher base es r keeping (λ user. local_in_order user es (keeping.books user) r is.0)

-- of a history for which files stand
pub stands_keeping : (publisher : Name) (es : List Recorded) (files : Files) (stands : StandsKeeping publisher es files) → ((user : Name) → IsInOrder layers user es) → IsKeeping publisher stands.base es
stands_keeping publisher es files stands books = record { within = stands_within publisher es stands.base files stands.stands; needs = stands.needs; books = books }

pub as_it_stands : (publisher : Name) (es : List Recorded) (files : Files) → StandsKeeping publisher es files → StandsAs publisher es files
as_it_stands publisher es files s = record { base = s.base; stands = s.stands }

-- ---- what is needed was not sent, or not confirmed

needed_on : (base c d : ℕ) (txs : List (ℕ × List Op)) → c ≤ d → AllByRecursion (IsKept base c) txs → AllByRecursion (IsKept base d) txs
needed_on base c d [] le all = tt
needed_on base c d (tx ∷ txs) le all = (λ past. all.0 (omega (arith, le, past)), needed_on base c d txs le all.1)

pub needs_unsent : (publisher : Name) (es : List Recorded) (base : ℕ) → KeepsNeeds publisher es base → KeepsUnsent publisher es base
needs_unsent publisher es base keeps user =
    needed_on base (books_of user es).confirm_sent (min (books_of user es).confirm_sent (books_of user es).log_sent) (given_of publisher es user) (omega (arith, keeps.ordered user)) (keeps.needed user)

pub keeping_sent : (publisher : Name) (base : ℕ) (es : List Recorded) → IsKeeping publisher base es → KeepsSent publisher base es
keeping_sent publisher base es keeping = record { within = keeping.within; keeps = needs_unsent publisher es base keeping.needs }

-- ---- a log that begins where the least need lies

pub keeping_moved : (publisher : Name) (base : ℕ) (es : List Recorded) → Stored publisher es → IsKeeping publisher base es → IsKeeping publisher (least_need publisher es base) es
keeping_moved publisher base es stored keeping = record { within = least_to_end publisher es base; needs = least_keeps publisher es base stored keeping.needs; books = keeping.books }

-- of any history, in whose books no more is confirmed than was sent
pub record KeepsAny (publisher : Name) (base : ℕ) (es : List Recorded) : Type 0 where
  pub within : base ≤ end_of es
  pub needs : KeepsNeeds publisher es base

pub any_sent : (publisher : Name) (base : ℕ) (es : List Recorded) → KeepsAny publisher base es → KeepsSent publisher base es
any_sent publisher base es any = record { within = any.within; keeps = needs_unsent publisher es base any.needs }

pub any_moved : (publisher : Name) (base : ℕ) (es : List Recorded) → Stored publisher es → KeepsAny publisher base es → KeepsAny publisher (least_need publisher es base) es
any_moved publisher base es stored any = record { within = least_to_end publisher es base; needs = least_keeps publisher es base stored any.needs }
