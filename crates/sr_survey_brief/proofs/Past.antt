-- What follows fields that are passed over.
use Rattle.std.proofs.Common.{◌≡◌, ℕ, suc, ◌-◌, ◌+◌, ◌^◌, ◌≤◌, ◌<◌, List, [], ◌∷◌, ◌++◌, length, drop, Ok, refl, sym, ap, subst, ◌∙◌, append_assoc, arith}
use Rattle.std.specs.Int.{Width, w32, w64, byte_len, to_be_bytes}
use Rattle.std.specs.List.{flat_map, AllByRecursion}
use Rattle.std.proofs.lemmas.List.{drop_at}
use Rattle.sr_base.specs.declared.value.Value.{Value}
use Rattle.sr_base.specs.declared.value.Value.TheVariants.{Null, Int, Big, Str, Date}
use Rattle.sr_base.specs.Fields.{name_spelling, IsName, bytes_spelling, IsText, list_spelling, IsListOf, signed_spelling}
use Rattle.sr_base.specs.Inner.NumberLaws.{ok_is}
use Rattle.sr_base.specs.Reading.{Read}
use Rattle.sr_base.specs.Inner.Reading.{IsFormat}
use Rattle.sr_base.specs.Values.{value_spelling, IsValue}
use Rattle.sr_logform.specs.Ops.{column_spelling}
use Rattle.sr_survey_brief.specs.Inner.Passing.{IsPast, IsColumn}

-- what a reader answers is what is spelled
pub read_there : {A : Type 0} {reading : List ℕ → Read A} {spelling : A → List ℕ} {fits : A → Type 0} → IsFormat reading spelling fits → (bytes : List ℕ) (x : A) (left : List ℕ) → reading bytes ≡ Ok (x, left)
    → (value : A) (rest : List ℕ) → fits value → bytes ≡ spelling value ++ rest → (x ≡ value) × (left ≡ rest)
read_there {A} {reading} {spelling} {fits} format bytes x left read value rest h e =
    let both = ok_is (x, left) (value, rest) (sym read ∙ ap reading e ∙ format.again value rest h) in
    (ap (λ (p : A × List ℕ). p.0) both, ap (λ (p : A × List ℕ). p.1) both)

pub first_is : (a b : ℕ) (xs ys : List ℕ) → a ∷ xs ≡ b ∷ ys → a ≡ b
first_is a b xs ys e = cc

pub rest_is : (a b : ℕ) (xs ys : List ℕ) → a ∷ xs ≡ b ∷ ys → xs ≡ ys
rest_is a b xs ys e = cc

-- what follows a field of this length
drop_field : (n : ℕ) (field rest bytes left : List ℕ) → length field ≡ n → bytes ≡ field ++ rest → left ≡ drop n bytes → left ≡ rest
drop_field n field rest bytes left size e is = is ∙ ap (drop n) e ∙ drop_at field rest n size

pub name_past : (bytes rest left : List ℕ) (size : ℕ) → bytes ≡ size ∷ rest → left ≡ drop size rest → IsPast IsName name_spelling bytes left
name_past bytes rest left size is behind name more h e =
    let same = sym is ∙ e in
    drop_field size name more rest left (sym (first_is size (length name) rest (name ++ more) same)) (rest_is size (length name) rest (name ++ more) same) behind

pub text_past : (bytes rest left : List ℕ) (size : ℕ) → ((value : ℕ) (more : List ℕ) → value < 2 ^ 32 → bytes ≡ to_be_bytes w32 value ++ more → (size ≡ value) × (rest ≡ more)) → left ≡ drop size rest → IsPast IsText bytes_spelling bytes left
text_past bytes rest left size read behind text more h e =
    let r = read (length text) (text ++ more) h.short (e ∙ append_assoc (to_be_bytes w32 (length text)) text more) in
    drop_field size text more rest left (sym r.0) r.1 behind

pub null_past : (tag : ℕ) (rest left : List ℕ) → tag ≡ 0 → left ≡ rest → IsPast IsValue value_spelling (tag ∷ rest) left
unfolding value_spelling
null_past tag rest left at is Null more h e = is ∙ rest_is tag 0 rest more e
null_past tag rest left at is (Int number) more h e = absurd (omega (arith, sym at ∙ first_is tag 1 rest (signed_spelling w32 number ++ more) e))
null_past tag rest left at is (Big number) more h e = absurd (omega (arith, sym at ∙ first_is tag 2 rest (signed_spelling w64 number ++ more) e))
null_past tag rest left at is (Str text) more h e = absurd (omega (arith, sym at ∙ first_is tag 3 rest (bytes_spelling text ++ more) e))
null_past tag rest left at is (Date days) more h e = absurd (omega (arith, sym at ∙ first_is tag 4 rest (signed_spelling w32 days ++ more) e))

pub int_past : (tag : ℕ) (rest left : List ℕ) → tag ≡ 1 → left ≡ drop 4 rest → IsPast IsValue value_spelling (tag ∷ rest) left
unfolding value_spelling
int_past tag rest left at is Null more h e = absurd (omega (arith, sym at ∙ first_is tag 0 rest more e))
int_past tag rest left at is (Int number) more h e = drop_field 4 (signed_spelling w32 number) more rest left refl (rest_is tag 1 rest (signed_spelling w32 number ++ more) e) is
int_past tag rest left at is (Big number) more h e = absurd (omega (arith, sym at ∙ first_is tag 2 rest (signed_spelling w64 number ++ more) e))
int_past tag rest left at is (Str text) more h e = absurd (omega (arith, sym at ∙ first_is tag 3 rest (bytes_spelling text ++ more) e))
int_past tag rest left at is (Date days) more h e = absurd (omega (arith, sym at ∙ first_is tag 4 rest (signed_spelling w32 days ++ more) e))

pub big_past : (tag : ℕ) (rest left : List ℕ) → tag ≡ 2 → left ≡ drop 8 rest → IsPast IsValue value_spelling (tag ∷ rest) left
unfolding value_spelling
big_past tag rest left at is Null more h e = absurd (omega (arith, sym at ∙ first_is tag 0 rest more e))
big_past tag rest left at is (Int number) more h e = absurd (omega (arith, sym at ∙ first_is tag 1 rest (signed_spelling w32 number ++ more) e))
big_past tag rest left at is (Big number) more h e = drop_field 8 (signed_spelling w64 number) more rest left refl (rest_is tag 2 rest (signed_spelling w64 number ++ more) e) is
big_past tag rest left at is (Str text) more h e = absurd (omega (arith, sym at ∙ first_is tag 3 rest (bytes_spelling text ++ more) e))
big_past tag rest left at is (Date days) more h e = absurd (omega (arith, sym at ∙ first_is tag 4 rest (signed_spelling w32 days ++ more) e))

pub str_past : (tag : ℕ) (rest left : List ℕ) → tag ≡ 3 → IsPast IsText bytes_spelling rest left → IsPast IsValue value_spelling (tag ∷ rest) left
unfolding value_spelling IsValue
str_past tag rest left at is Null more h e = absurd (omega (arith, sym at ∙ first_is tag 0 rest more e))
str_past tag rest left at is (Int number) more h e = absurd (omega (arith, sym at ∙ first_is tag 1 rest (signed_spelling w32 number ++ more) e))
str_past tag rest left at is (Big number) more h e = absurd (omega (arith, sym at ∙ first_is tag 2 rest (signed_spelling w64 number ++ more) e))
str_past tag rest left at is (Str text) more h e = is text more h (rest_is tag 3 rest (bytes_spelling text ++ more) e)
str_past tag rest left at is (Date days) more h e = absurd (omega (arith, sym at ∙ first_is tag 4 rest (signed_spelling w32 days ++ more) e))

pub date_past : (tag : ℕ) (rest left : List ℕ) → tag ≡ 4 → left ≡ drop 4 rest → IsPast IsValue value_spelling (tag ∷ rest) left
unfolding value_spelling
date_past tag rest left at is Null more h e = absurd (omega (arith, sym at ∙ first_is tag 0 rest more e))
date_past tag rest left at is (Int number) more h e = absurd (omega (arith, sym at ∙ first_is tag 1 rest (signed_spelling w32 number ++ more) e))
date_past tag rest left at is (Big number) more h e = absurd (omega (arith, sym at ∙ first_is tag 2 rest (signed_spelling w64 number ++ more) e))
date_past tag rest left at is (Str text) more h e = absurd (omega (arith, sym at ∙ first_is tag 3 rest (bytes_spelling text ++ more) e))
date_past tag rest left at is (Date days) more h e = drop_field 4 (signed_spelling w32 days) more rest left refl (rest_is tag 4 rest (signed_spelling w32 days ++ more) e) is

pub column_past : (bytes rest left : List ℕ) → IsPast IsName name_spelling bytes rest → IsPast IsValue value_spelling rest left → IsPast IsColumn column_spelling bytes left
column_past bytes rest left name value column more h e =
    value column.1 more h.1 (name column.0 (value_spelling column.1 ++ more) h.0 (e ∙ append_assoc (name_spelling column.0) (value_spelling column.1) more))

-- ---- so many fields, one after the other

pub record AreLeft {A : Type 0} (fits : A → Type 0) (spelling : A → List ℕ) (here rest : List ℕ) (many : ℕ) : Type 0 where
  pub more : List A
  pub here_is : here ≡ flat_map spelling more ++ rest
  pub fit : AllByRecursion fits more
  pub size : length more ≡ many

-- of so many fields at the front of bytes so many are left here
abbrev pub Passes : {A : Type 0} → (A → Type 0) → (A → List ℕ) → ℕ → List ℕ → List ℕ → ℕ → Type 0
Passes fits spelling count bytes here many = (xs : List _) (rest : List ℕ) → length xs ≡ count → AllByRecursion fits xs → bytes ≡ flat_map spelling xs ++ rest → AreLeft fits spelling here rest many

pub passes_none : {A : Type 0} (fits : A → Type 0) (spelling : A → List ℕ) (count : ℕ) (bytes : List ℕ) → Passes fits spelling count bytes bytes (count - 0)
passes_none fits spelling count bytes xs rest size fit e = record { more = xs; here_is = e; fit = fit; size = size ∙ omega arith }

one_less : {A : Type 0} (fits : A → Type 0) (spelling : A → List ℕ) (here after rest : List ℕ) (many : ℕ) → IsPast fits spelling here after → (xs : List A) → here ≡ flat_map spelling xs ++ rest → AllByRecursion fits xs → length xs ≡ suc many
    → AreLeft fits spelling after rest many
one_less fits spelling here after rest many past [] e fit size = absurd (omega (arith, size))
one_less fits spelling here after rest many past (x ∷ xs) e fit size = record {
  more = xs;
  here_is = past x (flat_map spelling xs ++ rest) fit.0 (e ∙ append_assoc (spelling x) (flat_map spelling xs) rest);
  fit = fit.1;
  size = omega (arith, size);
}

pub passes_one : {A : Type 0} (fits : A → Type 0) (spelling : A → List ℕ) (count i : ℕ) (bytes here after : List ℕ) → i < count → IsPast fits spelling here after → Passes fits spelling count bytes here (count - i) → Passes fits spelling count bytes after (count - (i + 1))
passes_one fits spelling count i bytes here after lt past so_far xs rest size fit e =
    let l = so_far xs rest size fit e in
    one_less fits spelling here after rest (count - (i + 1)) past l.more l.here_is l.fit (l.size ∙ omega arith)

no_more : {A : Type 0} (spelling : A → List ℕ) (here rest : List ℕ) (xs : List A) → here ≡ flat_map spelling xs ++ rest → length xs ≡ 0 → here ≡ rest
no_more spelling here rest [] e size = e
no_more spelling here rest (x ∷ xs) e size = absurd (omega (arith, size))

pub passes_all : {A : Type 0} (fits : A → Type 0) (spelling : A → List ℕ) (count i : ℕ) (bytes here : List ℕ) → count ≤ i → Passes fits spelling count bytes here (count - i)
    → (xs : List A) (rest : List ℕ) → length xs ≡ count → AllByRecursion fits xs → bytes ≡ flat_map spelling xs ++ rest → here ≡ rest
passes_all fits spelling count i bytes here le so_far xs rest size fit e =
    let l = so_far xs rest size fit e in
    no_more spelling here rest l.more l.here_is (l.size ∙ omega arith)

pub columns_past : (bytes here left : List ℕ) (count : ℕ) → ((value : ℕ) (more : List ℕ) → value < 2 ^ 32 → bytes ≡ to_be_bytes w32 value ++ more → (count ≡ value) × (here ≡ more))
    → ((xs : List (List ℕ × Value)) (rest : List ℕ) → length xs ≡ count → AllByRecursion IsColumn xs → here ≡ flat_map column_spelling xs ++ rest → left ≡ rest) → IsPast (IsListOf IsColumn) (list_spelling column_spelling) bytes left
columns_past bytes here left count read past columns rest h e =
    let r = read (length columns) (flat_map column_spelling columns ++ rest) h.0 (e ∙ append_assoc (to_be_bytes w32 (length columns)) (flat_map column_spelling columns) rest) in
    past columns rest (sym r.0) h.1 r.1
