-- The order of values: by their class, and within it by number or by bytes.
use Rattle.std.specs.Prelude.{ℕ, nat_eq, nat_lt, ◌&&◌, if◌then◌else◌, ℤ, pos, List, [], Option, Some, None}
use Rattle.std.specs.declared.cmp.Ordering.{Ordering}
use Rattle.std.specs.Ordering.{nat_cmp, int_cmp, on, then_cmp}
use Rattle.std.specs.Cmp.Lexicographic.{slice_cmp}
use Rattle.sr_base.specs.declared.value.Value.{Value}
use Rattle.sr_base.specs.declared.value.Value.TheVariants.{Null, Int, Big, Str, Date}

-- the rank of a value's class: NULL, number, text, date
abbrev pub class_rank : Value → ℕ
class_rank Null = 0
class_rank (Int n) = 1
class_rank (Big n) = 1
class_rank (Str bytes) = 2
class_rank (Date day) = 3

-- the number that a value is, a date by its day; 0 for what is none
abbrev pub number_of : Value → ℤ
number_of Null = pos 0
number_of (Int n) = n
number_of (Big n) = n
number_of (Str bytes) = pos 0
number_of (Date day) = day

-- the bytes of a text; none for what is no text
abbrev pub bytes_of : Value → List ℕ
bytes_of Null = []
bytes_of (Int n) = []
bytes_of (Big n) = []
bytes_of (Str bytes) = bytes
bytes_of (Date day) = []

-- an INTEGER is before the BIGINT of its number
abbrev pub width_of : Value → ℕ
width_of Null = 0
width_of (Int n) = 0
width_of (Big n) = 1
width_of (Str bytes) = 0
width_of (Date day) = 0

-- numbers as numbers, dates by day, texts by bytes
abbrev pub worth_cmp : Value → Value → Ordering
worth_cmp = then_cmp (on number_of int_cmp) (on bytes_of (slice_cmp nat_cmp))

-- how two values of one class compare; NULL compares with nothing
abbrev pub compared : Value → Value → Option Ordering
compared a b = if nat_lt 0 (class_rank a) && nat_eq (class_rank a) (class_rank b) then Some (worth_cmp a b) else None

-- the order of values: by class, then by worth, then the INTEGER first
abbrev pub value_cmp : Value → Value → Ordering
value_cmp = then_cmp (on class_rank nat_cmp) (then_cmp worth_cmp (on width_of nat_cmp))

-- the order of names, by their bytes
abbrev pub name_cmp : List ℕ → List ℕ → Ordering
name_cmp = slice_cmp nat_cmp

-- the order of keys: value by value, a prefix first
abbrev pub key_cmp : List Value → List Value → Ordering
key_cmp = slice_cmp value_cmp
