-- Reading a field from the front of bytes, as a function on lists: numbers, texts, lists, days and values.
use Rattle.std.specs.Prelude.{ℕ, List, Result, Ok, Err, zero, suc, nat_lt, ◌==◌, ℤ, [], ◌∷◌, length, take, drop, if◌then◌else◌, Bool, not, ◌&&◌, pos, negsuc, int_lt}
use Rattle.std.specs.Int.{Width, w32, byte_len, from_be_bytes, cast_signed, w64}
use Rattle.std.specs.Str.{is_utf8}
use Rattle.sr_base.specs.declared.value.Value.{Value}
use Rattle.sr_base.specs.declared.value.Value.TheVariants.{Null, Int, Big, Str, Date}

-- the value and the bytes after it, or how many bytes are left from the first byte of the field that breaks
abbrev pub Read : Type 0 → Type 0
Read A = Result (A × List ℕ) ℕ

-- the next field, where this one did not break
infixl 10 ◌>>=◌
abbrev pub ◌>>=◌ : {A B : Type 0} → Result A ℕ → (A → Result B ℕ) → Result B ℕ
(Ok x) >>= f = f x
(Err left) >>= f = Err left

-- a number of so many bytes, the greatest first
abbrev pub number_at : Width → List ℕ → Read ℕ
number_at w bytes = if nat_lt (length bytes) (byte_len w) then Err (length bytes) else Ok (from_be_bytes w (take (byte_len w) bytes), drop (byte_len w) bytes)

-- the same, in two's complement
unfoldable pub signed_at : Width → List ℕ → Read ℤ
signed_at w bytes = do
  bits ← number_at w bytes
  Ok (cast_signed w bits.0, bits.1)

-- so many items, one behind the other
unfoldable pub items_at : {A : Type 0} → (List ℕ → Read A) → ℕ → List ℕ → Read (List A)
items_at item zero bytes = Ok ([], bytes)
items_at item (suc count) bytes = do
  first ← item bytes
  others ← items_at item count first.1
  Ok (first.0 ∷ others.0, others.1)

-- the count of the items, a u32, and the items
unfoldable pub list_at : {A : Type 0} → (List ℕ → Read A) → List ℕ → Read (List A)
list_at item bytes = do
  count ← number_at w32 bytes
  items_at item count.0 count.1

-- the size of a text in bytes, a u32, and the text in UTF-8
unfoldable pub text_at : List ℕ → Read (List ℕ)
text_at bytes = do
  size ← number_at w32 bytes
  if nat_lt (length size.1) size.0 then Err (length bytes) else (if is_utf8 (take size.0 size.1) then Ok (take size.0 size.1, drop size.0 size.1) else Err (length size.1))

-- ---- a value that is another one under a name of its own

abbrev pub mapped_at : {A B : Type 0} → (A → B) → (List ℕ → Read A) → List ℕ → Read B
mapped_at to item bytes = do
  value ← item bytes
  Ok (to value.0, value.1)

-- ---- tags: a byte says what follows; a byte that is no tag breaks

-- behind this tag stands an item; another byte is left to what follows in the table
abbrev pub tag_at : {A : Type 0} → ℕ → (List ℕ → Read A) → (List ℕ → Read A) → List ℕ → Read A
tag_at tag item other [] = Err 0
tag_at tag item other (byte ∷ rest) = if byte == tag then item rest else other (byte ∷ rest)

-- nothing stands behind the tag
abbrev pub just_at : {A : Type 0} → A → List ℕ → Read A
just_at value bytes = Ok (value, bytes)

-- no tag is left
abbrev pub untagged_at : {A : Type 0} → List ℕ → Read A
untagged_at bytes = Err (length bytes)

-- ---- days: an i32, from -719162 to 2932896; another number breaks

abbrev pub is_day : ℤ → Bool
is_day days = not (int_lt days (negsuc 719161)) && not (int_lt (pos 2932896) days)

unfoldable pub day_at : List ℕ → Read ℤ
day_at bytes = do
  days ← signed_at w32 bytes
  if is_day days.0 then Ok days else Err (length bytes)

-- a value: its tag, and a number, a text or a day
unfoldable pub value_at : List ℕ → Read Value
value_at =
    tag_at 0 (just_at Null)
    (tag_at 1 (mapped_at Int (signed_at w32))
    (tag_at 2 (mapped_at Big (signed_at w64))
    (tag_at 3 (mapped_at Str text_at)
    (tag_at 4 (mapped_at Date day_at) untagged_at))))
