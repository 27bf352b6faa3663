-- Notes that a run makes: they go with the history before them.
use Rattle.std.proofs.Common.{◌≡◌, ℕ, ◌+◌, ◌<◌, ◌≤◌, List, [], ◌∷◌, ◌++◌, map, Option, Some, None, refl, ap, inl, inr, arith, append-nil, ltb-true}
use Rattle.std.specs.Prelude.{⊤, Bool, true, false, if◌then◌else◌, max, nat_lt, ◌||◌}
use Rattle.std.specs.List.{AllByRecursion}
use Rattle.sr_base.specs.Values.{offset_from}
use Rattle.sr_base.specs.declared.offset.Offset.{Offset}
use Rattle.sr_book.specs.Entries.{Name}
use Rattle.sr_book.specs.declared.book.Book.{Book}
use Rattle.sr_book.specs.declared.note.Note.{Note}
use Rattle.sr_book.specs.declared.note.Note.TheVariants.{Confirmed, Raised}
use Rattle.sr_book.proofs.Folds.{name_test}
use Rattle.sr_mail_cut.specs.Bodies.{RisesPast, last_at}
use Rattle.sr_mail_cut.proofs.Rising.{le-last}
use Rattle.sr_receive_gather.specs.Bags.{filed_of}
use Rattle.sr_receive_gather.specs.Greatest.{ask_at, asks, confirm_in, confirms, count_in, has_gap, least_ask, lesser, raises}
use Rattle.sr_receive_gather.specs.MessageFiles.{FetchedFile, gone, junk, stranger, message_file, IsFetchedFile, message_files_from}
use Rattle.sr_receive_gather.specs.declared.bag.Filed.{Filed}
use Rattle.sr_database_history.specs.Folds.{State, books_of, end_from, end_of, fresh, next, size}
use Rattle.sr_database_history.specs.Recorded.{Recorded}
use Rattle.sr_database_history.proofs.Joined.{le-end_from}
use Rattle.sr_logform.specs.declared.op.Op.{Op}
use Rattle.sr_logform.specs.declared.op.Transaction.{Transaction}
use Rattle.sr_world_model.proofs.Offsets.{le_or_lt, not_past_test, past_test}
use Rattle.sr_receive.specs.Passes.{first_notes, note_entries}
use Rattle.sr_scan.specs.Given.{given_from, given_of, gives, with_transaction}
use Rattle.sr_catalog_schema.specs.Catalogs.{Lists}
use Rattle.sr_send.specs.PutFiles.{sent_note}
use Rattle.sr_send.specs.Passes.{sent_end}
use Rattle.sr_send.specs.Unsent.{as_transaction, past}
use Rattle.sr_send.proofs.Truths.{unsent_rises}
use Rattle.sr_world_prefix.proofs.Along.{Steps, steps_more}
use Rattle.sr_world_prefix.proofs.Came.{greatest_within}
use Rattle.sr_world_prefix.proofs.Steps.{GoesWith, IsRunStep, book_noted, ends_later}

-- ---- message files confirm and ask for what lies within the log

abbrev pub IsHere : ℕ → Filed → Type 0
IsHere bound f = (f.confirm.0 ≤ bound) × (f.ask_offset.0 ≤ bound)

pub letters_here : (catalog : Lists) (bound : ℕ) (user : Name) (fetched_files : List FetchedFile) → AllByRecursion (IsFetchedFile catalog bound) fetched_files → AllByRecursion (IsHere bound) (map filed_of (message_files_from user fetched_files))
letters_here catalog bound user [] are = tt
letters_here catalog bound user (gone name ∷ fetched_files) are = letters_here catalog bound user fetched_files are.1
letters_here catalog bound user (junk name bytes ∷ fetched_files) are = letters_here catalog bound user fetched_files are.1
letters_here catalog bound user (stranger name m ∷ fetched_files) are = letters_here catalog bound user fetched_files are.1
letters_here catalog bound user (message_file name m ∷ fetched_files) are = elim (name_test user m.from) [
  | inl t ↦ rw t.0 ((are.0.1.confirm, are.0.1.ask), letters_here catalog bound user fetched_files are.1)
  | inr t ↦ rw t (letters_here catalog bound user fetched_files are.1)
]

here_more : (bound more : ℕ) (files : List Filed) → bound ≤ more → AllByRecursion (IsHere bound) files → AllByRecursion (IsHere more) files
here_more bound more [] later here = tt
here_more bound more (f ∷ files) later here = ((omega (arith, later, here.0.0), omega (arith, later, here.0.1)), here_more bound more files later here.1)

-- which goes on
pub here_later : (es more : List Recorded) (files : List Filed) → AllByRecursion (IsHere (end_of es)) files → AllByRecursion (IsHere (end_of (es ++ more))) files
here_later es more files here = here_more (end_of es) (end_of (es ++ more)) files (ends_later es more) here

each_confirm : (bound : ℕ) (files : List Filed) → AllByRecursion (IsHere bound) files → AllByRecursion (λ f. f.confirm.0 ≤ bound) files
each_confirm bound [] here = tt
each_confirm bound (f ∷ files) here = (here.0.0, each_confirm bound files here.1)

-- an offset is no greater than this one, where there is one
abbrev IsAtMost : ℕ → Option ℕ → Type 0
IsAtMost bound None = ⊤
IsAtMost bound (Some place) = place ≤ bound

lesser_within : (bound place : ℕ) (least : Option ℕ) → place ≤ bound → lesser place least ≤ bound
lesser_within bound place None one = one
lesser_within bound place (Some other) one = omega (arith, one)

with_within : (bound : ℕ) (b : Bool) (place : ℕ) (least : Option ℕ) → place ≤ bound → IsAtMost bound least → IsAtMost bound (if b then Some (lesser place least) else least)
with_within bound true place least one all = lesser_within bound place least one
with_within bound false place least one all = all

least_within : (bound count : ℕ) (files : List Filed) → AllByRecursion (IsHere bound) files → IsAtMost bound (least_ask count files)
least_within bound count [] here = tt
least_within bound count (f ∷ files) here = with_within bound _ f.ask_offset.0 (least_ask count files) here.0.1 (least_within bound count files here.1)

module _ (publisher : Name) where
  -- ---- the notes that come before the windows

  pub one_step : (es : List Recorded) (whose : Name) (b : Bool) (what : Note) → GoesWith es whose what → Steps (IsRunStep publisher) es (note_entries whose (if b then what ∷ [] else []))
  one_step es whose true what goes = (goes, tt)
  one_step es whose false what goes = tt

  ask_steps : (es : List Recorded) (whose : Name) (count : ℕ) (least : Option ℕ) → IsAtMost (end_of es) least → (books_of whose es).resend_count < count
      → Steps (IsRunStep publisher) es (note_entries whose (ask_at count least))
  ask_steps es whose count None within new = tt
  ask_steps es whose count (Some place) within new = ((within, new), tt)

  ask_where : (es : List Recorded) (whose : Name) (b : Bool) (count : ℕ) (least : Option ℕ) → nat_lt (books_of whose es).resend_count count ≡ b → IsAtMost (end_of es) least
      → Steps (IsRunStep publisher) es (note_entries whose (if b then ask_at count least else []))
  ask_where es whose true count least is within = ask_steps es whose count least within (ltb-true (books_of whose es).resend_count count is)
  ask_where es whose false count least is within = tt

  -- a confirm leaves the count of the asks
  pub confirmed_count : (es : List Recorded) (whose : Name) (b : Bool) (place : Offset)
      → (books_of whose (es ++ note_entries whose (if b then Confirmed place ∷ [] else []))).resend_count ≡ (books_of whose es).resend_count
  confirmed_count es whose true place = ap (λ (k : Book). k.resend_count) (book_noted es whose (Confirmed place))
  confirmed_count es whose false place = ap (λ (rs : List Recorded). (books_of whose rs).resend_count) (append-nil es)

  within_later : (bound more : ℕ) (least : Option ℕ) → bound ≤ more → IsAtMost bound least → IsAtMost more least
  within_later bound more None later within = tt
  within_later bound more (Some place) later within = omega (arith, later, within)

  pub first_steps : (es : List Recorded) (whose : Name) (bound : ℕ) (files : List Filed) → bound ≤ end_of es → AllByRecursion (IsHere bound) files
      → Steps (IsRunStep publisher) es (first_notes whose (books_of whose es) files)
  first_steps es whose bound files stands here =
      let book : Book = books_of whose es in
      let raises_some : Bool = nat_lt book.confirm_sent (confirm_in files) || nat_lt book.log_sent (confirm_in files) in
      let confirmed : List Recorded = note_entries whose (confirms book files) in
      let there : List Recorded = es ++ confirmed in
      let place : confirm_in files ≤ bound = greatest_within bound files (each_confirm bound files here) in
      let one : Steps (IsRunStep publisher) es confirmed = one_step es whose raises_some (Confirmed (offset_from (confirm_in files))) (omega (arith, place, stands)) in
      let same : (books_of whose there).resend_count ≡ book.resend_count = confirmed_count es whose raises_some (offset_from (confirm_in files)) in
      let within : IsAtMost (end_of there) (least_ask (count_in files) files)
      = within_later bound (end_of there) (least_ask (count_in files) files) (omega (arith, stands, ends_later es confirmed)) (least_within bound (count_in files) files here) in
      steps_more (IsRunStep publisher) es confirmed (note_entries whose (asks book files)) one
      (ask_where there whose (nat_lt book.resend_count (count_in files)) (count_in files) (least_ask (count_in files) files) (ap (λ (n : ℕ). nat_lt n (count_in files)) same) within)

  -- ---- the note behind them

  pub raised_steps : (es : List Recorded) (whose : Name) (received : ℕ) (files : List Filed) → Steps (IsRunStep publisher) es (note_entries whose (raises received files))
  raised_steps es whose received files = one_step es whose (has_gap received files) Raised tt

  -- ---- the note of what was sent

  -- what is given lies within the history
  abbrev Within : ℕ → List (ℕ × List Op) → Type 0
  Within bound txs = AllByRecursion (λ tx. tx.0 ≤ bound) txs

  first_within : (bound end : ℕ) (ops : List Op) (rest : List (ℕ × List Op)) → end ≤ bound → Within bound rest → Within bound (with_transaction end ops rest)
  first_within bound end [] rest one all = all
  first_within bound end (op ∷ ops) rest one all = (one, all)

  given_within : (s : State) (place : ℕ) (rs : List Recorded) (user : Name) → Within (end_from place rs) (given_from s place rs user)
  given_within s place [] user = tt
  given_within s place (r ∷ rs) user =
      let end : ℕ = place + (size r + 5) in
      first_within (end_from end rs) end (gives s r user) (given_from (next s r) end rs user) (le-end_from end rs) (given_within (next s r) end rs user)

  last_within : (bound sent : ℕ) (first : Offset) (txs : List (ℕ × List Op)) → first.0 ≤ bound → Within bound txs → (last_at first (past sent txs)).0 ≤ bound
  last_within bound sent first [] one all = one
  last_within bound sent first (tx ∷ txs) one all = elim (le_or_lt tx.0 sent) [
    | inl seen ↦ rw (not_past_test sent tx.0 seen) (last_within bound sent first txs one all.1)
    | inr ahead ↦ rw (past_test sent tx.0 ahead) (last_within bound sent (as_transaction tx).at txs all.0 all.1)
  ]

  within_more : (bound more : ℕ) (txs : List (ℕ × List Op)) → bound ≤ more → Within bound txs → Within more txs
  within_more bound more [] later all = tt
  within_more bound more (tx ∷ txs) later all = (omega (arith, later, all.0), within_more bound more txs later all.1)

  -- of what rises past one offset the first lies past an earlier one
  lower : (low n : ℕ) (ts : List Transaction) → n ≤ low → RisesPast low ts → RisesPast n ts
  lower low n [] before rises = tt
  lower low n (t ∷ ts) before rises = (omega (arith, before, rises.0), rises.1)

  pub sent_step : (base : ℕ) (es : List Recorded) (whose : Name) (count : ℕ) → IsRunStep publisher es (sent_note whose (books_of whose es) (sent_end base publisher es whose (books_of whose es)) count)
  sent_step base es whose count =
      let sent : ℕ = (books_of whose es).log_sent in
      let from : ℕ = max base sent in
      let bound : ℕ = max sent (end_of es) in
      let all : Within bound (given_of publisher es whose) = within_more (end_of es) bound (given_of publisher es whose) (omega arith) (given_within (fresh publisher) 0 es whose) in (
        le-last (offset_from sent) (past from (given_of publisher es whose)) (lower from sent (past from (given_of publisher es whose)) (omega arith) (unsent_rises publisher whose es from)),
        last_within bound from (offset_from sent) (given_of publisher es whose) (omega arith) all,
        refl,
      )
