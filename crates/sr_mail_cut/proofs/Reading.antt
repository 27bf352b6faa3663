-- Bodies that are read.
use Rattle.std.proofs.Common.{◌≡◌, ℕ, ◌<◌, Bool, true, false, ◌==◌, Some, List, [], ◌∷◌, ◌++◌, length, Result, Ok, Err, refl, sym, ap, ◌∙◌, arith, append_assoc, subst}
use Rattle.std.specs.List.{AllByRecursion}
use Rattle.std.proofs.lemmas.Bool.{ltb-true, lt-ltb}
use Rattle.std.proofs.lemmas.List.{length-append, append-nil, nil_from_length, drop_at}
use Rattle.sr_base.specs.declared.offset.Offset.{Offset}
use Rattle.sr_base.specs.Inner.NumberLaws.{IsBytes-drop}
use Rattle.sr_base.specs.Inner.Reading.{IsBytes}
use Rattle.sr_logform.specs.declared.op.Transaction.{Transaction}
use Rattle.sr_logform.specs.Inner.OpLaws.{transaction_format}
use Rattle.sr_logform.specs.Ops.{transaction_spelling, IsTransaction}
use Rattle.sr_logform.specs.Inner.Ops.{transaction_at}
use Rattle.sr_mail_cut.specs.Bodies.{body_spelling, AreRising, last_at, last_offset, IsBody}
use Rattle.sr_mail_cut.specs.Inner.Bodies.{lies_past}
use Rattle.sr_mail_cut.proofs.Parting.{body-append, body_begins, body-filled, long_enough}
use Rattle.sr_mail_cut.proofs.Lists.{AllByRecursion-back}
use Rattle.sr_mail_cut.proofs.Rising.{RisesPast-more, RisesPast-last, last-is}

pub rising-more : (ts : List Transaction) (t : Transaction) → AreRising ts → lies_past t.at (last_offset ts) ≡ true → AreRising (ts ++ t ∷ [])
rising-more [] t rises past = tt
rising-more (x ∷ xs) t rises past = RisesPast-more x.at xs t rises (ltb-true (last_at x.at xs).0 t.at.0 past)

pub rising-past : (ts more : List Transaction) (t : Transaction) → AreRising (ts ++ t ∷ more) → lies_past t.at (last_offset ts) ≡ true
rising-past [] more t rises = refl
rising-past (x ∷ xs) more t rises = lt-ltb (last_at x.at xs).0 t.at.0 (RisesPast-last x.at xs more t rises)

pub last_offset-more : (ts : List Transaction) (t : Transaction) → Some t.at ≡ last_offset (ts ++ t ∷ [])
last_offset-more [] t = refl
last_offset-more (x ∷ xs) t = ap (λ (o : Offset). Some o) (sym (last-is x.at x.at t xs))

-- what is left after one transaction more
pub parts-more : (bytes : List ℕ) (ts : List Transaction) (rest after : List ℕ) (t : Transaction) → bytes ≡ body_spelling ts ++ rest → rest ≡ transaction_spelling t ++ after → bytes ≡ body_spelling (ts ++ t ∷ []) ++ after
parts-more bytes ts rest after t e f =
    e ∙ ap (λ (b : List ℕ). body_spelling ts ++ b) f ∙ sym (append_assoc (body_spelling ts) (transaction_spelling t) after)
    ∙ ap (λ (b : List ℕ). b ++ after) (ap (λ (b : List ℕ). body_spelling ts ++ b) (sym (append-nil (transaction_spelling t))) ∙ sym (body-append ts (t ∷ [])))

next_in : (ts all : List Transaction) (rest : List ℕ) (more : List Transaction) → all ≡ ts ++ more → rest ≡ body_spelling more → AllByRecursion IsTransaction all → 0 < length rest →
    (t : Transaction) × (behind : List Transaction) × (all ≡ ts ++ t ∷ behind) × (transaction_at rest ≡ Ok (t, body_spelling behind))
next_in ts all rest [] e f h some = absurd (let size = ap length f in omega (arith, size))
next_in ts all rest (t ∷ more) e f h some =
    let each : AllByRecursion IsTransaction (ts ++ t ∷ more) = subst (AllByRecursion IsTransaction) e h in
    let own = AllByRecursion-back IsTransaction ts (t ∷ more) each in
    (t, more, e, ap transaction_at f ∙ transaction_format.again t (body_spelling more) own.0)

none_left : (more : List Transaction) (rest : List ℕ) → rest ≡ body_spelling more → length rest ≡ 0 → length more ≡ 0
none_left [] rest e none = refl
none_left (t ∷ ts) rest e none = absurd (let size = ap length e in omega (arith, size, body-filled t ts))

-- bytes that begin with transactions and are a body: what is left begins with the next one, and reads as it
pub next_of : (ts all : List Transaction) (bytes rest : List ℕ) → AllByRecursion IsTransaction ts → IsBody all → bytes ≡ body_spelling ts ++ rest → bytes ≡ body_spelling all → 0 < length rest →
    (t : Transaction) × (more : List Transaction) × (all ≡ ts ++ t ∷ more) × (transaction_at rest ≡ Ok (t, body_spelling more))
next_of ts all bytes rest h is e f some =
    let begun = body_begins ts all rest h is.each (sym e ∙ f) in
    next_in ts all rest begun.0 begun.1 begun.2 is.each some

-- nothing is left where they are all
pub all_read : (ts all : List Transaction) (bytes rest : List ℕ) → AllByRecursion IsTransaction ts → IsBody all → bytes ≡ body_spelling ts ++ rest → bytes ≡ body_spelling all → length rest ≡ 0 → ts ≡ all
all_read ts all bytes rest h is e f none =
    let begun = body_begins ts all rest h is.each (sym e ∙ f) in
    let no_more : length begun.0 ≡ 0 = none_left begun.0 rest begun.2 none in
    sym (begun.1 ∙ ap (λ (more : List Transaction). ts ++ more) (nil_from_length begun.0 no_more) ∙ append-nil ts)

-- ---- what a reader meets

abbrev ok : Transaction × List ℕ → Result (Transaction × List ℕ) ℕ
ok x = Ok x

pair_is : (t u : Transaction) (a b : List ℕ) → ok (t, a) ≡ ok (u, b) → (t ≡ u) × (a ≡ b)
pair_is t u a b e = let same : (t, a) ≡ (u, b) = cc in (ap (λ (x : Transaction × List ℕ). x.0) same, ap (λ (x : Transaction × List ℕ). x.1) same)

abbrev err : ℕ → Result (Transaction × List ℕ) ℕ
err x = Err x

never : (x : Transaction × List ℕ) (left : ℕ) → ok x ≡ err left → ⊥
never x left e = absurd cc

apart : (b : Bool) → b ≡ false → b ≡ true → ⊥
apart b e f = let g : false ≡ true = sym e ∙ f in absurd cc

read_is : (t u : Transaction) (a b : List ℕ) → transaction_at a ≡ Ok (t, b) → (rest : List ℕ) → transaction_at a ≡ Ok (u, rest) → (t ≡ u) × (b ≡ rest)
read_is t u a b e rest f = let both : ok (t, b) ≡ ok (u, rest) = sym e ∙ f in pair_is t u b rest both

-- reading does not break in a body
pub never_breaks : (ts all : List Transaction) (bytes rest : List ℕ) (left : ℕ) → AllByRecursion IsTransaction ts → bytes ≡ body_spelling ts ++ rest → 0 < length rest → transaction_at rest ≡ Err left → IsBody all → bytes ≡ body_spelling all → ⊥
never_breaks ts all bytes rest left h e some broken is f =
    let next = next_of ts all bytes rest h is e f some in
    never (next.0, body_spelling next.1) left (sym next.3 ∙ broken)

-- nor is there a transaction in it that does not go on
pub never_falls : (ts all : List Transaction) (bytes rest after : List ℕ) (t : Transaction) → AllByRecursion IsTransaction ts → bytes ≡ body_spelling ts ++ rest → 0 < length rest → transaction_at rest ≡ Ok (t, after) → lies_past t.at (last_offset ts) ≡ false → IsBody all → bytes ≡ body_spelling all → ⊥
never_falls ts all bytes rest after t h e some read falls is f =
    let next = next_of ts all bytes rest h is e f some in
    let same : next.0 ≡ t = (read_is next.0 t rest (body_spelling next.1) next.3 after read).0 in
    let rising : AreRising (ts ++ next.0 ∷ next.1) = subst AreRising next.2 is.rising in
    let past : lies_past t.at (last_offset ts) ≡ true = subst (λ (u : Transaction). lies_past u.at (last_offset ts) ≡ true) same (rising-past ts next.1 next.0 rising) in
    apart (lies_past t.at (last_offset ts)) falls past

-- one transaction more
pub read_more : (bytes rest after : List ℕ) (t : Transaction) → IsBytes rest → transaction_at rest ≡ Ok (t, after) → (rest ≡ transaction_spelling t ++ after) × IsTransaction t
read_more bytes rest after t h e = let took = transaction_format.takes rest t after h e in (took.0.parts, took.1)

pub left_fewer : (rest after : List ℕ) (t : Transaction) → rest ≡ transaction_spelling t ++ after → length after < length rest
left_fewer rest after t e = omega (arith, ap length e, length-append (transaction_spelling t) after, long_enough t)

-- what is left of bytes is bytes
pub bytes_left : (bytes prefix rest : List ℕ) → IsBytes bytes → bytes ≡ prefix ++ rest → IsBytes rest
bytes_left bytes prefix rest h e = subst IsBytes (drop_at prefix rest (length prefix) refl) (IsBytes-drop (length prefix) (prefix ++ rest) (subst IsBytes e h))

-- what the test of an end tells
pub some_left : (rest : List ℕ) (b : Bool) → b ≡ (length rest == 0) → b ≡ false → 0 < length rest
some_left [] b e f = absurd (let g : true ≡ false = sym e ∙ f in cc)
some_left (x ∷ rest) b e f = omega arith

pub none_left_of : (rest : List ℕ) (b : Bool) → b ≡ (length rest == 0) → b ≡ true → length rest ≡ 0
none_left_of [] b e f = refl
none_left_of (x ∷ rest) b e f = let no : (length (x ∷ rest) == 0) ≡ false = grind arith in absurd (let g : true ≡ false = sym f ∙ e ∙ no in cc)
