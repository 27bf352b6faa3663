-- What came of fetches that gave nothing forged: messages of the partner that are true.
use Rattle.std.proofs.Common.{◌≡◌, ℕ, ◌≤◌, List, [], ◌∷◌, map, Option, Some, None, refl, sym, subst, ◌∙◌, inl, inr, arith}
use Rattle.std.specs.Prelude.{⊤, Bool, true, false, if◌then◌else◌, nat_lt, ◌||◌}
use Rattle.std.specs.List.{AllByRecursion}
use Rattle.sr_book.specs.Entries.{Name}
use Rattle.sr_book.specs.Histories.{taken_end}
use Rattle.sr_book.specs.declared.book.Book.{Book}
use Rattle.sr_book.specs.declared.note.Note.{Note}
use Rattle.sr_book.specs.declared.note.Note.TheVariants.{Confirmed, Raised}
use Rattle.sr_book.proofs.Folds.{name_test}
use Rattle.sr_base.specs.Values.{offset_from}
use Rattle.sr_database_history.specs.Folds.{sees}
use Rattle.sr_database_history.specs.Recorded.{Recorded}
use Rattle.sr_receive.specs.Acts.{ReceiveAct, PassState, AreActs, mail_after}
use Rattle.sr_receive_gather.specs.Bags.{filed_of}
use Rattle.sr_receive_gather.specs.Gathers.{fetches}
use Rattle.sr_receive_gather.specs.Greatest.{ask_at, asks, confirm_in, confirms, count_in, has_gap, least_ask, raises}
use Rattle.sr_receive_gather.specs.MessageFiles.{FetchedFile, gone, junk, stranger, message_file, IsFetchedFile, MessageFile, fetch_of, message_files_from}
use Rattle.sr_receive_gather.specs.declared.bag.Filed.{Filed}
use Rattle.sr_catalog_schema.specs.Catalogs.{Lists}
use Rattle.sr_site.specs.Happenings.{Happening}
use Rattle.sr_world_prefix.specs.Forging.{CameUnforged}
use Rattle.sr_world_prefix.specs.Truths.{IsTrueInPart}
use Rattle.sr_world_prefix.proofs.Bodies.{IsTruePair}
use Rattle.sr_world_prefix.proofs.Fetched.{so_of_acts, so_of_fetched_files}
use Rattle.sr_world_prefix.proofs.Leading.{IsTrueAct}
use Rattle.sr_world_prefix.proofs.Taking.{ConfirmsWithin}

module _ (publisher user : Name) (us : List Recorded) where
  abbrev pub Unforged : Happening → Type 0
  Unforged step = CameUnforged publisher user us step

  -- ---- second fetches

  pub acts_true : (whose : Name) (message_files : List MessageFile) (first : PassState) (acts : List ReceiveAct) (before : List Happening) → AreActs publisher whose message_files first acts
      → AllByRecursion Unforged (mail_after publisher acts before) → AllByRecursion (IsTrueAct publisher user us) acts × AllByRecursion Unforged before
  acts_true whose message_files first acts before are all =
      so_of_acts Unforged (IsTruePair publisher user us) publisher whose
      (λ pair still unforged. λ (from : pair.1.from ≡ user). unforged pair.1 still.0 refl from still.1.to) message_files first acts before are all

  -- ---- first fetches

  -- a message file that the user sent is true
  abbrev pub IsTrueCame : FetchedFile → Type 0
  IsTrueCame (gone name) = ⊤
  IsTrueCame (junk name bytes) = ⊤
  IsTrueCame (stranger name m) = ⊤
  IsTrueCame (message_file name m) = m.from ≡ user → IsTrueInPart user us m

  one_came : (catalog : Lists) (end : ℕ) (came : FetchedFile) → catalog.publisher ≡ publisher → IsFetchedFile catalog end came → Unforged (fetch_of publisher came) → IsTrueCame came
  one_came catalog end (gone name) own is unforged = tt
  one_came catalog end (junk name bytes) own is unforged = tt
  one_came catalog end (stranger name m) own is unforged = tt
  one_came catalog end (message_file name m) own is unforged = λ (from : m.from ≡ user). unforged m is.0 refl from (is.1.to ∙ own)

  pub all_came : (catalog : Lists) (end : ℕ) (fetched_files : List FetchedFile) (before : List Happening) → catalog.publisher ≡ publisher → AllByRecursion (IsFetchedFile catalog end) fetched_files
      → AllByRecursion Unforged (fetches publisher fetched_files before) → AllByRecursion IsTrueCame fetched_files × AllByRecursion Unforged before
  all_came catalog end fetched_files before own are all = so_of_fetched_files Unforged IsTrueCame publisher catalog end (λ came. one_came catalog end came own) fetched_files before are all

  -- a message file confirms no more than the user took
  abbrev pub IsWithin : Filed → Type 0
  IsWithin f = f.confirm.0 ≤ taken_end sees publisher us

  pub message_files_within : (catalog : Lists) (end : ℕ) (fetched_files : List FetchedFile) → catalog.publisher ≡ publisher → AllByRecursion (IsFetchedFile catalog end) fetched_files → AllByRecursion IsTrueCame fetched_files
      → AllByRecursion IsWithin (map filed_of (message_files_from user fetched_files))
  message_files_within catalog end [] own are hold = tt
  message_files_within catalog end (gone name ∷ fetched_files) own are hold = message_files_within catalog end fetched_files own are.1 hold.1
  message_files_within catalog end (junk name bytes ∷ fetched_files) own are hold = message_files_within catalog end fetched_files own are.1 hold.1
  message_files_within catalog end (stranger name m ∷ fetched_files) own are hold = message_files_within catalog end fetched_files own are.1 hold.1
  message_files_within catalog end (message_file name m ∷ fetched_files) own are hold = elim (name_test user m.from) [
    | inl t ↦
        let is : IsTrueInPart user us m = hold.0 (sym t.1) in
        let within : m.confirm.0 ≤ taken_end sees publisher us = subst (λ (n : Name). m.confirm.0 ≤ taken_end sees n us) (are.0.1.to ∙ own) is.confirms in
        rw t.0 (within, message_files_within catalog end fetched_files own are.1 hold.1)
    | inr t ↦ rw t (message_files_within catalog end fetched_files own are.1 hold.1)
  ]

-- ---- the notes that are made of message files

pub greatest_within : (bound : ℕ) (files : List Filed) → AllByRecursion (λ f. f.confirm.0 ≤ bound) files → confirm_in files ≤ bound
greatest_within bound [] within = omega arith
greatest_within bound (f ∷ files) within = omega (arith, within.0, greatest_within bound files within.1)

one_note : (bound : ℕ) (b : Bool) (what : Note) → ConfirmsWithin bound what → AllByRecursion (ConfirmsWithin bound) (if b then what ∷ [] else [])
one_note bound true what within = (within, tt)
one_note bound false what within = tt

pub confirms_within : (bound : ℕ) (book : Book) (files : List Filed) → AllByRecursion (λ f. f.confirm.0 ≤ bound) files → AllByRecursion (ConfirmsWithin bound) (confirms book files)
confirms_within bound book files within =
    one_note bound (nat_lt book.confirm_sent (confirm_in files) || nat_lt book.log_sent (confirm_in files)) (Confirmed (offset_from (confirm_in files))) (greatest_within bound files within)

ask_within : (bound count : ℕ) (least : Option ℕ) → AllByRecursion (ConfirmsWithin bound) (ask_at count least)
ask_within bound count None = tt
ask_within bound count (Some place) = (tt, tt)

ask_where : (bound : ℕ) (b : Bool) (count : ℕ) (least : Option ℕ) → AllByRecursion (ConfirmsWithin bound) (if b then ask_at count least else [])
ask_where bound true count least = ask_within bound count least
ask_where bound false count least = tt

pub asks_within : (bound : ℕ) (book : Book) (files : List Filed) → AllByRecursion (ConfirmsWithin bound) (asks book files)
asks_within bound book files = ask_where bound (nat_lt book.resend_count (count_in files)) (count_in files) (least_ask (count_in files) files)

pub raises_within : (bound received : ℕ) (files : List Filed) → AllByRecursion (ConfirmsWithin bound) (raises received files)
raises_within bound received files = one_note bound (has_gap received files) Raised tt
