-- The greatest of what message files say, and the notes that follow from them.
use Rattle.std.specs.Prelude.{ℕ, Bool, ◌||◌, ◌==◌, nat_lt, min, max, List, [], ◌∷◌, Option, Some, None, if◌then◌else◌}
use Rattle.sr_base.specs.Values.{offset_from}
use Rattle.sr_book.specs.declared.book.Book.{Book}
use Rattle.sr_book.specs.declared.note.Note.{Note}
use Rattle.sr_book.specs.declared.note.Note.TheVariants.{Confirmed, Asked, Raised}
use Rattle.sr_receive_gather.specs.declared.bag.Filed.{Filed}

-- the greatest of a number of each, 0 where there is none
abbrev pub greatest : {A : Type 0} → (A → ℕ) → List A → ℕ
greatest f [] = 0
greatest f (x ∷ xs) = max (f x) (greatest f xs)

-- the greatest offset of this log that message files confirm
abbrev pub confirm_in : List Filed → ℕ
confirm_in files = greatest (λ f. f.confirm.0) files

-- the greatest count of their asks
abbrev pub count_in : List Filed → ℕ
count_in files = greatest (λ f. f.ask_count) files

-- the greatest end of a window of theirs
abbrev pub upto_in : List Filed → ℕ
upto_in files = greatest (λ f. f.upto.0) files

-- the lesser of an offset and another one, where there is one
abbrev pub lesser : ℕ → Option ℕ → ℕ
lesser place None = place
lesser place (Some other) = min place other

-- with the ask of a message file, where it has this count
abbrev pub with_ask : ℕ → Filed → Option ℕ → Option ℕ
with_ask count f least = if f.ask_count == count then Some (lesser f.ask_offset.0 least) else least

-- the least offset that asks of this count name
abbrev pub least_ask : ℕ → List Filed → Option ℕ
least_ask count [] = None
least_ask count (f ∷ files) = with_ask count f (least_ask count files)

-- ---- notes

-- the note of the greatest confirm, where it raises what was confirmed or what was sent
abbrev pub confirms : Book → List Filed → List Note
confirms book files = if nat_lt book.confirm_sent (confirm_in files) || nat_lt book.log_sent (confirm_in files) then Confirmed (offset_from (confirm_in files)) ∷ [] else []

abbrev pub ask_at : ℕ → Option ℕ → List Note
ask_at count None = []
ask_at count (Some place) = Asked count (offset_from place) ∷ []

-- the note of the ask of the greatest count, with the least offset of several such, where the count is greater than the last that was noted
abbrev pub asks : Book → List Filed → List Note
asks book files = if nat_lt book.resend_count (count_in files) then ask_at (count_in files) (least_ask (count_in files) files) else []

-- whether a window of a message file, whole or not, ends past what was received
abbrev pub has_gap : ℕ → List Filed → Bool
has_gap received files = nat_lt received (upto_in files)

-- the note that is made then
abbrev pub raises : ℕ → List Filed → List Note
raises received files = if has_gap received files then Raised ∷ [] else []
