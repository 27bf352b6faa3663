-- What a partner's pass leaves undone: nothing.
use Rattle.std.proofs.Common.{◌≡◌, ℕ, ◌≤◌, ◌<◌, Bool, true, false, ◌||◌, nat_lt, ◌==◌, max, List, [], ◌∷◌, ◌++◌, map, Option, Some, None, refl, sym, ap, subst, ◌∙◌, inl, inr, arith, le_refl, le_trans, bytes_eq}
use Rattle.std.specs.Prelude.{IsTrue, if◌then◌else◌}
use Rattle.std.specs.List.{AllByRecursion}
use Rattle.std.proofs.lemmas.Bool.{cases_lt, lt-ltb}
use Rattle.sr_agent.specs.Runs.{Run, IsRun, Receives, IsReceiving, fetched_files_of}
use Rattle.sr_agent.specs.PartnerPasses.{PartnerPass, IsPartnerPass, ArePartnerPasses, after_partner_passes, beginning, ending, files_of, message_files_of}
use Rattle.sr_agent.specs.declared.options.Options.{Options}
use Rattle.sr_base.specs.Values.{offset_from}
use Rattle.sr_book.proofs.Folds.{ask_test, book_from-append, resend_from, same_name}
use Rattle.sr_book.specs.Books.{new_book, with_note, with_taken}
use Rattle.sr_book.specs.Entries.{Name, Sight, local, from_user, noted, booked}
use Rattle.sr_book.specs.Histories.{book_from}
use Rattle.sr_book.specs.declared.book.Book.{Book}
use Rattle.sr_book.specs.declared.note.Note.{Note}
use Rattle.sr_book.specs.declared.note.Note.TheVariants.{Confirmed, Asked, Raised, Sent}
use Rattle.sr_database_history.specs.Folds.{books_of, sees}
use Rattle.sr_database_history.specs.Recorded.{Recorded, note, taken}
use Rattle.sr_logform.specs.declared.op.Op.{Op}
use Rattle.sr_mail.specs.Reaching.{IsFar}
use Rattle.sr_receive.proofs.Reaching.{far_taken}
use Rattle.sr_receive.specs.Acts.{ReceiveAct, PassState, begun, dropped, entries_of, stand_of, took, torn}
use Rattle.sr_receive_gather.specs.Bags.{filed_of}
use Rattle.sr_receive_gather.specs.Greatest.{ask_at, asks, confirm_in, confirms, count_in, least_ask, lesser, raises}
use Rattle.sr_receive_gather.specs.MessageFiles.{FetchedFile, MessageFile}
use Rattle.sr_receive.specs.Passes.{note_entries}
use Rattle.sr_receive_gather.specs.Windows.{IsWholeOf}
use Rattle.sr_receive_gather.specs.declared.bag.Filed.{Filed}
use Rattle.dbremote_command.specs.CaughtUp.{AreCaughtUp, IsCaughtUp, IsNoted, book_behind}

-- ---- a user's book after his own entries

own_note : (user : Name) (book : Book) (n : Note) → booked user book (sees (note user n)) ≡ with_note book n
own_note user book n = ap (λ (b : Bool). if b then with_note book n else book) (same_name user)

own_taken : (user : Name) (book : Book) (place : ℕ) (ops : List Op) → booked user book (from_user user place ops) ≡ with_taken book place
own_taken user book place ops = ap (λ (b : Bool). if b then with_taken book place else book) (same_name user)

-- ---- what was received

note_received : (book : Book) (n : Note) → (with_note book n).log_received ≡ book.log_received
note_received book (Confirmed place) = refl
note_received book (Asked count place) = elim (ask_test book.resend_count count) [ inl t ↦ rw t.0 refl | inr t ↦ rw t.0 refl ]
note_received book Raised = refl
note_received book (Sent end messages confirm) = refl

notes_received : (user : Name) (book : Book) (notes : List Note) → (book_from sees user book (note_entries user notes)).log_received ≡ book.log_received
notes_received user book [] = refl
notes_received user book (n ∷ notes) =
    notes_received user (booked user book (sees (note user n))) notes ∙ ap (λ (b : Book). b.log_received) (own_note user book n) ∙ note_received book n

acts_received : (user : Name) (book : Book) (first : PassState) (acts : List ReceiveAct) → book.log_received ≡ first.received → (book_from sees user book (entries_of user acts)).log_received ≡ (stand_of first acts).received
acts_received user book first [] is = is
acts_received user book first (dropped w pairs piece found ∷ earlier) is = acts_received user book first earlier is
acts_received user book first (torn w pairs ∷ earlier) is = acts_received user book first earlier is
acts_received user book first (begun w pairs txs ∷ earlier) is = acts_received user book first earlier is
acts_received user book first (took t dones ∷ earlier) is =
    ap (λ (b : Book). b.log_received) (book_from-append sees user book (entries_of user earlier) (taken user t.at dones ∷ []))
    ∙ ap (λ (b : Bool). (if b then with_taken (book_from sees user book (entries_of user earlier)) t.at.0 else book_from sees user book (entries_of user earlier)).log_received) (same_name user)

-- ---- what was confirmed

note_confirm : (book : Book) (n : Note) → book.confirm_sent ≤ (with_note book n).confirm_sent
note_confirm book (Confirmed place) = omega arith
note_confirm book (Asked count place) = elim (ask_test book.resend_count count) [ inl t ↦ rw t.0 (le_refl book.confirm_sent) | inr t ↦ rw t.0 (le_refl book.confirm_sent) ]
note_confirm book Raised = le_refl book.confirm_sent
note_confirm book (Sent end messages confirm) = le_refl book.confirm_sent

either_confirm : (test : Bool) (book changed : Book) → book.confirm_sent ≤ changed.confirm_sent → book.confirm_sent ≤ (if test then changed else book).confirm_sent
either_confirm true book changed le = le
either_confirm false book changed le = le_refl book.confirm_sent

booked_confirm : (user : Name) (book : Book) (s : Sight (List Op)) → book.confirm_sent ≤ (booked user book s).confirm_sent
booked_confirm user book local = le_refl book.confirm_sent
booked_confirm user book (from_user other place ops) = either_confirm (bytes_eq user other) book (with_taken book place) (le_refl book.confirm_sent)
booked_confirm user book (noted other n) = either_confirm (bytes_eq user other) book (with_note book n) (note_confirm book n)

confirm_from : (user : Name) (book : Book) (rs : List Recorded) → book.confirm_sent ≤ (book_from sees user book rs).confirm_sent
confirm_from user book [] = le_refl book.confirm_sent
confirm_from user book (r ∷ rs) = le_trans (booked_confirm user book (sees r)) (confirm_from user (booked user book (sees r)) rs)

not_less : (known n : ℕ) → nat_lt known n ≡ false → n ≤ known
not_less known n e = elim (cases_lt known n) [
  | inl less ↦ let never : true ≡ false = sym (lt-ltb known n less) ∙ e in absurd cc
  | inr le ↦ le
]

neither : (a b : Bool) → (a || b) ≡ false → a ≡ false
neither true b e = e
neither false b e = refl

confirm_by : (user : Name) (book : Book) (n : ℕ) (test : Bool) → test ≡ (nat_lt book.confirm_sent n || nat_lt book.log_sent n)
    → n ≤ (book_from sees user book (note_entries user (if test then Confirmed (offset_from n) ∷ [] else []))).confirm_sent
confirm_by user book n true e = subst (λ (b : Book). n ≤ b.confirm_sent) (sym (own_note user book (Confirmed (offset_from n)))) (omega arith)
confirm_by user book n false e = not_less book.confirm_sent n (neither (nat_lt book.confirm_sent n) (nat_lt book.log_sent n) (sym e))

confirmed : (user : Name) (book : Book) (files : List Filed) → confirm_in files ≤ (book_from sees user book (note_entries user (confirms book files))).confirm_sent
confirmed user book files = confirm_by user book (confirm_in files) (nat_lt book.confirm_sent (confirm_in files) || nat_lt book.log_sent (confirm_in files)) refl

-- ---- what was asked

resend_stays : (user : Name) (book : Book) (rs : List Recorded) → book.resend_count ≤ (book_from sees user book rs).resend_count
resend_stays user book rs = (resend_from sees user book rs 0 (omega arith)).1

ask_noted : (user : Name) (book : Book) (count place : ℕ) → count ≤ (book_from sees user book (note user (Asked count (offset_from place)) ∷ [])).resend_count
ask_noted user book count place = subst (λ (b : Book). count ≤ b.resend_count) (sym (own_note user book (Asked count (offset_from place)))) (elim (ask_test book.resend_count count) [
  | inl t ↦ rw t.0 (le_refl count)
  | inr t ↦ rw t.0 t.1
])

-- where no ask has the greatest count there is none
one_less : (n m count : ℕ) → max n m ≡ count → (n == count) ≡ false → m ≡ count
one_less n m count is other = grind arith

one_ask : (count place : ℕ) (f : Filed) (files : List Filed) (least : Option ℕ) (test : Bool) → (f.ask_count == count) ≡ test → (if test then Some place else least) ≡ None
    → (least ≡ None → count_in files ≡ count → count ≡ 0) → max f.ask_count (count_in files) ≡ count → count ≡ 0
one_ask count place f files least true e gone behind is = absurd cc
one_ask count place f files least false e gone behind is = behind gone (one_less f.ask_count (count_in files) count is e)

none_asks : (count : ℕ) (files : List Filed) → least_ask count files ≡ None → count_in files ≡ count → count ≡ 0
none_asks count [] none is = sym is
none_asks count (f ∷ files) none is =
    one_ask count (lesser f.ask_offset.0 (least_ask count files)) f files (least_ask count files) (f.ask_count == count) refl none (none_asks count files) is

ask_found : (user : Name) (book : Book) (known count : ℕ) (files : List Filed) (least : Option ℕ) → known < count → count_in files ≡ count → least_ask count files ≡ least
    → count ≤ (book_from sees user book (note_entries user (ask_at count least))).resend_count
ask_found user book known count files None more is none = absurd (omega (arith, more, none_asks count files none is))
ask_found user book known count files (Some place) more is found = ask_noted user book count place

less_is : (n m : ℕ) → nat_lt n m ≡ true → n < m
less_is n m e = elim (cases_lt n m) [
  | inl less ↦ less
  | inr le ↦ grind arith
]

ask_by : (user : Name) (known later : Book) (files : List Filed) (test : Bool) → test ≡ nat_lt known.resend_count (count_in files) → known.resend_count ≤ later.resend_count
    → count_in files ≤ (book_from sees user later (note_entries user (if test then ask_at (count_in files) (least_ask (count_in files) files) else []))).resend_count
ask_by user known later files true e on =
    ask_found user later known.resend_count (count_in files) files (least_ask (count_in files) files) (less_is known.resend_count (count_in files) (sym e)) refl refl
ask_by user known later files false e on = le_trans (not_less known.resend_count (count_in files) (sym e)) on

asked : (user : Name) (known later : Book) (files : List Filed) → known.resend_count ≤ later.resend_count → count_in files ≤ (book_from sees user later (note_entries user (asks known files))).resend_count
asked user known later files on = ask_by user known later files (nat_lt known.resend_count (count_in files)) refl on

-- ---- a partner's pass

-- the book after four lists of entries
behind_all : (user : Name) (es a b c d : List Recorded) → books_of user (es ++ ((a ++ b) ++ (c ++ d)))
    ≡ book_from sees user (book_from sees user (book_from sees user (book_from sees user (books_of user es) a) b) c) d
behind_all user es a b c d =
    let start = books_of user es in
    book_from-append sees user new_book es ((a ++ b) ++ (c ++ d)) ∙ book_from-append sees user start (a ++ b) (c ++ d)
    ∙ ap (λ (x : Book). book_from sees user x (c ++ d)) (book_from-append sees user start a b) ∙ book_from-append sees user (book_from sees user (book_from sees user start a) b) c d

-- what message files say is noted where the greatest of it is
all_noted : (book : Book) (message_files : List MessageFile) → confirm_in (map filed_of message_files) ≤ book.confirm_sent → count_in (map filed_of message_files) ≤ book.resend_count → AllByRecursion (IsNoted book) message_files
all_noted book [] confirm ask = tt
all_noted book (l ∷ message_files) confirm ask =
    (record { confirm = omega (arith, confirm); ask = omega (arith, ask) }, all_noted book message_files (omega (arith, confirm)) (omega (arith, ask)))

caught_up : (publisher : Name) (es : List Recorded) (fetched_files : List FetchedFile) (t : PartnerPass) → IsPartnerPass publisher es fetched_files t → IsCaughtUp publisher es fetched_files t
caught_up publisher es fetched_files t is =
    let user = t.user in
    let files = files_of fetched_files t in
    let start = books_of user es in
    let confirming = note_entries user (confirms start files) in
    let asking = note_entries user (asks start files) in
    let taking = entries_of user t.acts in
    let raising = note_entries user (raises (ending publisher es t).received files) in
    let one = book_from sees user start confirming in
    let two = book_from sees user one asking in
    let three = book_from sees user two taking in
    let all : book_behind publisher es fetched_files t ≡ book_from sees user three raising = behind_all user es confirming asking taking raising in
    let received : (book_from sees user three raising).log_received ≡ (ending publisher es t).received =
    notes_received user three (raises (ending publisher es t).received files)
    ∙ acts_received user two (beginning publisher es user) t.acts (notes_received user one (asks start files) ∙ notes_received user start (confirms start files)) in
    let confirm : confirm_in files ≤ (book_from sees user three raising).confirm_sent =
    le_trans (confirmed user start files) (le_trans (confirm_from user one asking) (le_trans (confirm_from user two taking) (confirm_from user three raising))) in
    let ask : count_in files ≤ (book_from sees user three raising).resend_count =
    le_trans (asked user start one files (resend_stays user start confirming)) (le_trans (resend_stays user two taking) (resend_stays user three raising)) in
    record {
      far = subst (λ (n : ℕ). IsFar (IsWholeOf (message_files_of fetched_files t) (ending publisher es t).dropped_windows) start.log_received n) (sym (ap (λ (b : Book). b.log_received) all ∙ received))
          (far_taken publisher user (message_files_of fetched_files t) (beginning publisher es user) t.acts refl is.are is.rest);
      noted = subst (λ (b : Book). AllByRecursion (IsNoted b) (message_files_of fetched_files t)) (sym all) (all_noted (book_from sees user three raising) (message_files_of fetched_files t) confirm ask);
    }

-- ---- a run

partner_passes_caught_up : (publisher : Name) (es : List Recorded) (fetched_files : List FetchedFile) (partner_passes : List PartnerPass) → ArePartnerPasses publisher es fetched_files partner_passes → AreCaughtUp publisher es fetched_files partner_passes
partner_passes_caught_up publisher es fetched_files [] are = tt
partner_passes_caught_up publisher es fetched_files (t ∷ earlier) are = (partner_passes_caught_up publisher es fetched_files earlier are.0, caught_up publisher (after_partner_passes publisher es fetched_files earlier) fetched_files t are.1)

receiving_caught_up : (publisher : Name) (es : List Recorded) (users : List Name) (run : Run) → IsReceiving publisher es run users → AreCaughtUp publisher es (fetched_files_of run.gathered) run.partner_passes
receiving_caught_up publisher es users run is =
    subst (λ (cs : List FetchedFile). AreCaughtUp publisher es cs run.partner_passes) (sym (ap fetched_files_of is.gathered_is)) (partner_passes_caught_up publisher es is.gathering.fetched_files run.partner_passes is.are)

pub all_caught_up : (publisher : Name) (es : List Recorded) (options : Options) (run : Run) → IsRun publisher es options run → IsTrue options.receive → AreCaughtUp publisher es (fetched_files_of run.gathered) run.partner_passes
all_caught_up publisher es options run is receives =
    let done : Receives true publisher es run = subst (λ (b : Bool). Receives b publisher es run) receives is.receives in
    receiving_caught_up publisher es _ run done
