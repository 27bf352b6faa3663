-- Message files that are known, and the notes that may be made of them.
use Rattle.std.proofs.Common.{◌≡◌, ℕ, ◌<◌, ◌⊎◌, Bool, true, false, List, [], ◌∷◌, ◌++◌, map, Option, Some, None, Contains, refl, sym, ap, subst, ◌∙◌, inl, inr, arith, ltb-true}
use Rattle.std.specs.Prelude.{⊤, if◌then◌else◌, nat_lt, max, min, ◌||◌, ◌==◌}
use Rattle.std.specs.List.{AllByRecursion}
use Rattle.sr_base.specs.Values.{offset_from}
use Rattle.sr_book.specs.Entries.{Name}
use Rattle.sr_book.specs.Histories.{taken_end}
use Rattle.sr_book.specs.declared.book.Book.{Book}
use Rattle.sr_book.specs.declared.note.Note.TheVariants.{Confirmed, Raised}
use Rattle.sr_book.proofs.Folds.{book_received, name_test}
use Rattle.sr_database_history.specs.Folds.{books_of, sees}
use Rattle.sr_database_history.specs.Recorded.{Recorded}
use Rattle.sr_world_model.specs.Steps.{Comes}
use Rattle.sr_msgform.specs.declared.message.Message.{Message}
use Rattle.sr_receive.specs.Passes.{first_notes, note_entries}
use Rattle.sr_receive_gather.specs.Bags.{filed_of}
use Rattle.sr_receive_gather.specs.Gathers.{fetches}
use Rattle.sr_receive_gather.specs.Greatest.{ask_at, asks, confirm_in, confirms, count_in, greatest, has_gap, least_ask, lesser, raises, upto_in}
use Rattle.sr_receive_gather.specs.MessageFiles.{FetchedFile, gone, junk, stranger, message_file, IsFetchedFile, MessageFile, fetch_of, message_files_from}
use Rattle.sr_receive_gather.specs.declared.bag.Filed.{Filed}
use Rattle.sr_catalog_schema.specs.Catalogs.{Lists}
use Rattle.sr_site.specs.Happenings.{Happening}
use Rattle.sr_world_runs.specs.Worlds.{CameKnown}
use Rattle.sr_world_prefix.proofs.Along.{Steps, steps_more}
use Rattle.sr_world_runs.proofs.DatabaseSteps.{CanStep}
use Rattle.sr_world_prefix.proofs.Fetched.{so_of_fetched_files}
use Rattle.sr_world_prefix.proofs.Noting.{confirmed_count}

larger : (a b : ℕ) → (max a b ≡ a) ⊎ (max a b ≡ b)
larger a b = grind arith

lesser_one : (a b : ℕ) → (min a b ≡ a) ⊎ (min a b ≡ b)
lesser_one a b = grind arith

same_count : (a b : ℕ) → (a == b) ≡ true → a ≡ b
same_count a b e = grind arith

some_is : (x y : ℕ) → (Some x) ≡ (Some y) → x ≡ y
some_is x y e = cc

module _ (messages : List Message) (publisher : Name) where
  -- a message file is one of these messages, from the user to this database
  pub record IsKnownLetter (user : Name) (l : MessageFile) : Type 0 where
    pub among : Contains messages l.1
    pub sent_by : l.1.from ≡ user
    pub sent_to : l.1.to ≡ publisher

  abbrev pub AreKnown : Name → List MessageFile → Type 0
  AreKnown user message_files = AllByRecursion (IsKnownLetter user) message_files

  -- ---- which message files are known

  -- a message file is one of these messages
  abbrev pub IsKnownCame : FetchedFile → Type 0
  IsKnownCame (gone name) = ⊤
  IsKnownCame (junk name bytes) = ⊤
  IsKnownCame (stranger name m) = ⊤
  IsKnownCame (message_file name m) = Contains messages m

  one_came : (catalog : Lists) (end : ℕ) (came : FetchedFile) → catalog.publisher ≡ publisher → IsFetchedFile catalog end came → CameKnown messages publisher (fetch_of publisher came) → IsKnownCame came
  one_came catalog end (gone name) own is known = tt
  one_came catalog end (junk name bytes) own is known = tt
  one_came catalog end (stranger name m) own is known = tt
  one_came catalog end (message_file name m) own is known = known m is.0 refl (is.1.to ∙ own)

  of_user : (catalog : Lists) (end : ℕ) (user : Name) (fetched_files : List FetchedFile) → catalog.publisher ≡ publisher → AllByRecursion (IsFetchedFile catalog end) fetched_files → AllByRecursion IsKnownCame fetched_files
      → AreKnown user (message_files_from user fetched_files)
  of_user catalog end user [] own are known = tt
  of_user catalog end user (gone name ∷ fetched_files) own are known = of_user catalog end user fetched_files own are.1 known.1
  of_user catalog end user (junk name bytes ∷ fetched_files) own are known = of_user catalog end user fetched_files own are.1 known.1
  of_user catalog end user (stranger name m ∷ fetched_files) own are known = of_user catalog end user fetched_files own are.1 known.1
  of_user catalog end user (message_file name m ∷ fetched_files) own are known = elim (name_test user m.from) [
    | inl t ↦ rw t.0 (record { among = known.0; sent_by = sym t.1; sent_to = are.0.1.to ∙ own }, of_user catalog end user fetched_files own are.1 known.1)
    | inr t ↦ rw t (of_user catalog end user fetched_files own are.1 known.1)
  ]

  pub message_files_known : (catalog : Lists) (end : ℕ) (fetched_files : List FetchedFile) (before : List Happening) → catalog.publisher ≡ publisher → AllByRecursion (IsFetchedFile catalog end) fetched_files
      → AllByRecursion (CameKnown messages publisher) (fetches publisher fetched_files before) → (user : Name) → AreKnown user (message_files_from user fetched_files)
  message_files_known catalog end fetched_files before own are all user =
      of_user catalog end user fetched_files own are (so_of_fetched_files (CameKnown messages publisher) IsKnownCame publisher catalog end (λ came. one_came catalog end came own) fetched_files before are all).0

  -- ---- the message file that a note is made of

  module _ (user : Name) where
    abbrev comes_as : (l : MessageFile) → IsKnownLetter user l → Comes messages user publisher
    comes_as l known = record { message = l.1; among = known.among; sent_by = known.sent_by; sent_to = known.sent_to }

    -- a known message file of which this is so
    record Found (of : MessageFile → Type 0) : Type 0 where
      one : MessageFile
      known : IsKnownLetter user one
      is : of one

    -- the greatest of a number is that of some message file, where it is greater than another
    greatest_of : (f : Filed → ℕ) (message_files : List MessageFile) (n : ℕ) → AreKnown user message_files → n < greatest f (map filed_of message_files)
        → Found (λ l. f (filed_of l) ≡ greatest f (map filed_of message_files))
    greatest_of f [] n known less = absurd (omega (arith, less))
    greatest_of f (l ∷ message_files) n known less = elim (larger (f (filed_of l)) (greatest f (map filed_of message_files))) [
      | inl first ↦ record { one = l; known = known.0; is = sym first }
      | inr later ↦
          let less' : n < greatest f (map filed_of message_files) = subst (λ (k : ℕ). n < k) later less in
          let found = greatest_of f message_files n known.1 less' in
          record { one = found.one; known = found.known; is = found.is ∙ sym later }
    ]

    -- the least offset of asks of a count is that of one of them
    abbrev AsksAt : ℕ → ℕ → MessageFile → Type 0
    AsksAt count place l = (l.1.ask_count ≡ count) × (l.1.ask_offset.0 ≡ place)

    least_here : (count : ℕ) (l : MessageFile) (b : Bool) (least : Option ℕ) (place : ℕ) → IsKnownLetter user l → (l.1.ask_count == count) ≡ b
        → ((other : ℕ) → least ≡ Some other → Found (AsksAt count other)) → (if b then Some (lesser l.1.ask_offset.0 least) else least) ≡ Some place → Found (AsksAt count place)
    least_here count l true None place known is behind e = record { one = l; known = known; is = (same_count l.1.ask_count count is, some_is l.1.ask_offset.0 place e) }
    least_here count l true (Some other) place known is behind e = elim (lesser_one l.1.ask_offset.0 other) [
      | inl first ↦ record { one = l; known = known; is = (same_count l.1.ask_count count is, sym first ∙ some_is (min l.1.ask_offset.0 other) place e) }
      | inr later ↦ subst (λ (n : ℕ). Found (AsksAt count n)) (sym later ∙ some_is (min l.1.ask_offset.0 other) place e) (behind other refl)
    ]
    least_here count l false least place known is behind e = behind place e

    least_of : (count : ℕ) (message_files : List MessageFile) (place : ℕ) → AreKnown user message_files → least_ask count (map filed_of message_files) ≡ Some place → Found (AsksAt count place)
    least_of count [] place known e = absurd cc
    least_of count (l ∷ message_files) place known e =
        least_here count l (l.1.ask_count == count) (least_ask count (map filed_of message_files)) place known.0 refl (λ other is. least_of count message_files other known.1 is) e

    -- ---- notes

    abbrev Can : List Recorded → List Recorded → Type 0
    Can es rs = Steps (CanStep messages publisher) es rs

    confirm_where : (es : List Recorded) (message_files : List MessageFile) (b c : Bool) → AreKnown user message_files → nat_lt (books_of user es).confirm_sent (confirm_in (map filed_of message_files)) ≡ b
        → nat_lt (books_of user es).log_sent (confirm_in (map filed_of message_files)) ≡ c
        → Can es (note_entries user (if b || c then Confirmed (offset_from (confirm_in (map filed_of message_files))) ∷ [] else []))
    confirm_where es message_files true c known past_confirmed past_sent =
        let less : (books_of user es).confirm_sent < confirm_in (map filed_of message_files) = ltb-true (books_of user es).confirm_sent (confirm_in (map filed_of message_files)) past_confirmed in
        let found = greatest_of (λ f. f.confirm.0) message_files (books_of user es).confirm_sent known less in
        ((comes_as found.one found.known, ap offset_from found.is, inl less), tt)
    confirm_where es message_files false true known past_confirmed past_sent =
        let less : (books_of user es).log_sent < confirm_in (map filed_of message_files) = ltb-true (books_of user es).log_sent (confirm_in (map filed_of message_files)) past_sent in
        let found = greatest_of (λ f. f.confirm.0) message_files (books_of user es).log_sent known less in
        ((comes_as found.one found.known, ap offset_from found.is, inr less), tt)
    confirm_where es message_files false false known past_confirmed past_sent = tt

    ask_found : (es : List Recorded) (message_files : List MessageFile) (count : ℕ) (least : Option ℕ) → AreKnown user message_files → least_ask count (map filed_of message_files) ≡ least
        → (books_of user es).resend_count < count → Can es (note_entries user (ask_at count least))
    ask_found es message_files count None known is new = tt
    ask_found es message_files count (Some place) known is new =
        let found = least_of count message_files place known is in
        ((comes_as found.one found.known, found.is.0, ap offset_from found.is.1, new), tt)

    ask_where : (es : List Recorded) (message_files : List MessageFile) (b : Bool) (count : ℕ) → AreKnown user message_files → nat_lt (books_of user es).resend_count count ≡ b
        → Can es (note_entries user (if b then ask_at count (least_ask count (map filed_of message_files)) else []))
    ask_where es message_files true count known is = ask_found es message_files count (least_ask count (map filed_of message_files)) known refl (ltb-true (books_of user es).resend_count count is)
    ask_where es message_files false count known is = tt

    -- the notes that come before the windows
    pub first_can : (es : List Recorded) (message_files : List MessageFile) → AreKnown user message_files → Can es (first_notes user (books_of user es) (map filed_of message_files))
    first_can es message_files known =
        let files : List Filed = map filed_of message_files in
        let book : Book = books_of user es in
        let confirmed : List Recorded = note_entries user (confirms book files) in
        let there : List Recorded = es ++ confirmed in
        let raises_some : Bool = nat_lt book.confirm_sent (confirm_in files) || nat_lt book.log_sent (confirm_in files) in
        let same : (books_of user there).resend_count ≡ book.resend_count = confirmed_count publisher es user raises_some (offset_from (confirm_in files)) in
        steps_more (CanStep messages publisher) es confirmed (note_entries user (asks book files))
        (confirm_where es message_files (nat_lt book.confirm_sent (confirm_in files)) (nat_lt book.log_sent (confirm_in files)) known refl refl)
        (ask_where there message_files (nat_lt book.resend_count (count_in files)) (count_in files) known (ap (λ (n : ℕ). nat_lt n (count_in files)) same))

    raise_where : (es : List Recorded) (message_files : List MessageFile) (b : Bool) → AreKnown user message_files → nat_lt (taken_end sees user es) (upto_in (map filed_of message_files)) ≡ b
        → Can es (note_entries user (if b then Raised ∷ [] else []))
    raise_where es message_files true known is =
        let less : taken_end sees user es < upto_in (map filed_of message_files) = ltb-true (taken_end sees user es) (upto_in (map filed_of message_files)) is in
        let found = greatest_of (λ f. f.upto.0) message_files (taken_end sees user es) known less in
        ((comes_as found.one found.known, subst (λ (n : ℕ). taken_end sees user es < n) (sym found.is) less), tt)
    raise_where es message_files false known is = tt

    -- the note after them
    pub raised_can : (es : List Recorded) (message_files : List MessageFile) (received : ℕ) → AreKnown user message_files → received ≡ (books_of user es).log_received
        → Can es (note_entries user (raises received (map filed_of message_files)))
    raised_can es message_files received known is =
        raise_where es message_files (has_gap received (map filed_of message_files)) known
        (ap (λ (n : ℕ). nat_lt n (upto_in (map filed_of message_files))) (sym (is ∙ book_received sees user es)))
