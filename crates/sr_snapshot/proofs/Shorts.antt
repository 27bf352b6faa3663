-- What has a short spelling is short in each part.
use Rattle.std.proofs.Common.{◌≤◌, ◌<◌, ◌^◌, ℕ, List, [], ◌∷◌, ◌++◌, length, length-append, arith}
use Rattle.std.specs.Int.{w32, to_be_bytes}
use Rattle.std.specs.List.{flat_map, AllByRecursion}
use Rattle.sr_base.specs.Fields.{bytes_spelling, IsListOf}
use Rattle.sr_base.specs.Values.{value_spelling, row_spelling, IsShort}
use Rattle.sr_base.specs.declared.value.Value.{Value}
use Rattle.sr_base.specs.declared.value.Value.TheVariants.{Null, Int, Big, Str, Date}
use Rattle.sr_snapshot.specs.Parts.{longest}

pub text_short : (text : List ℕ) → length (bytes_spelling text) ≤ longest → length text < 2 ^ 32
text_short text le = omega (arith, le, length-append (to_be_bytes w32 (length text)) text)

value_short : (value : Value) → length (value_spelling value) ≤ longest → IsShort value
unfolding value_spelling
value_short Null le = tt
value_short (Int n) le = tt
value_short (Big n) le = tt
value_short (Str text) le = text_short text (omega (arith, le))
value_short (Date days) le = tt

pub value_some : (value : Value) → 1 ≤ length (value_spelling value)
unfolding value_spelling
value_some Null = omega arith
value_some (Int n) = omega arith
value_some (Big n) = omega arith
value_some (Str text) = omega arith
value_some (Date days) = omega arith

values_short : (values : List Value) → length (flat_map value_spelling values) ≤ longest → (length values ≤ length (flat_map value_spelling values)) × AllByRecursion IsShort values
values_short [] le = (omega arith, tt)
values_short (v ∷ values) le =
    let parts = length-append (value_spelling v) (flat_map value_spelling values) in
    let rest = values_short values (omega (arith, le, parts)) in
    (omega (arith, parts, value_some v, rest.0), (value_short v (omega (arith, le, parts)), rest.1))

pub row_short : (row : List Value) → length (row_spelling row) ≤ longest → IsListOf IsShort row
row_short row le =
    let parts = length-append (to_be_bytes w32 (length row)) (flat_map value_spelling row) in
    let short = values_short row (omega (arith, le, parts)) in
    (omega (arith, short.0, le, parts), short.1)

-- a part of what is short
pub first_short : (bytes more : List ℕ) → length (bytes ++ more) ≤ longest → length bytes ≤ longest
first_short bytes more le = omega (arith, le, length-append bytes more)

pub later_short : (bytes more : List ℕ) → length (bytes ++ more) ≤ longest → length more ≤ longest
later_short bytes more le = omega (arith, le, length-append bytes more)

-- of the parts of a snapshot
pub parts_short : (fixed a b c d e : List ℕ) → length (fixed ++ (a ++ (b ++ (c ++ (d ++ e))))) ≤ longest → (length c ≤ longest) × (length d ≤ longest)
parts_short fixed a b c d e le =
    let p0 = length-append fixed (a ++ (b ++ (c ++ (d ++ e)))) in
    let p1 = length-append a (b ++ (c ++ (d ++ e))) in
    let p2 = length-append b (c ++ (d ++ e)) in
    let p3 = length-append c (d ++ e) in
    let p4 = length-append d e in
    (omega (arith, le, p0, p1, p2, p3), omega (arith, le, p0, p1, p2, p3, p4))

pub ruleset shorts = (text_short, row_short, first_short, later_short)
