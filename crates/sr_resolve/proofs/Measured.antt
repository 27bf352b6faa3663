-- How long lists are as bytes.
use Rattle.std.proofs.Common.{◌≡◌, ℕ, ◌+◌, List, ◌∷◌, ◌++◌, length, refl, ap, ◌∙◌, arith}
use Rattle.std.proofs.lemmas.List.{length-append}
use Rattle.std.proofs.lemmas.List.Concat.{flat_map-cons}
use Rattle.std.specs.Int.{w32, to_be_bytes}
use Rattle.std.specs.List.{flat_map}
use Rattle.sr_base.specs.Fields.{list_spelling, bytes_spelling, option_spelling}
use Rattle.sr_base.specs.Values.{row_spelling, value_spelling}
use Rattle.sr_base.specs.declared.value.Value.{Value}
use Rattle.sr_base.specs.declared.value.Value.TheVariants.{Null, Int, Big, Str, Date}
use Rattle.sr_logform.specs.Outcomes.{change_spelling}
use Rattle.sr_logform.specs.declared.change.Change.{Change}

-- the bytes of items, one item after the other
abbrev pub items_length : {A : Type 0} → (A → List ℕ) → List A → ℕ
items_length item items = length (flat_map item items)

pub items_more : {A : Type 0} (item : A → List ℕ) (x : A) (xs : List A) → items_length item (x ∷ xs) ≡ length (item x) + items_length item xs
items_more item x xs = ap length (flat_map-cons item x xs) ∙ length-append (item x) (flat_map item xs)

pub list_long : {A : Type 0} (item : A → List ℕ) (xs : List A) → length (list_spelling item xs) ≡ 4 + items_length item xs
list_long item xs = length-append (to_be_bytes w32 (length xs)) (flat_map item xs)

pub bytes_long : (bytes : List ℕ) → length (bytes_spelling bytes) ≡ 4 + length bytes
bytes_long bytes = length-append (to_be_bytes w32 (length bytes)) bytes

-- a value is so long
abbrev pub value_length : Value → ℕ
value_length Null = 1
value_length (Int number) = 5
value_length (Big number) = 9
value_length (Str text) = 5 + length text
value_length (Date days) = 5

pub value_long : (v : Value) → length (value_spelling v) ≡ value_length v
unfolding value_spelling
value_long Null = refl
value_long (Int number) = refl
value_long (Big number) = refl
value_long (Str text) = omega (arith, bytes_long text)
value_long (Date days) = refl

pub change_long : (c : Change) → length (change_spelling c)
    ≡ 1 + length c.table + length (option_spelling row_spelling c.before) + length (option_spelling row_spelling c.after)
change_long c =
    let whole = length-append (c.table ++ option_spelling row_spelling c.before) (option_spelling row_spelling c.after) in
    let prefix = length-append c.table (option_spelling row_spelling c.before) in
    omega (arith, whole, prefix)

pub ruleset measures = (items_more, list_long, value_long, change_long)
