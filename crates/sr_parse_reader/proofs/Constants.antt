-- Readers of literals, of what stands behind IS, and of columns.
use Rattle.std.proofs.Common.{◌≡◌, ℕ, ℤ, List, [], ◌∷◌, Option, Some, Result, Ok, Err, refl, sym, subst, ap, ◌∙◌, codes, inl, inr}
use lib.Utf8.{encode}
use Rattle.sr_base_dates.specs.Calendar.{day_named}
use Rattle.sr_base.specs.declared.value.Value.{Value}
use Rattle.sr_base.specs.declared.value.Value.TheVariants as value
use Rattle.sr_ast.specs.declared.operator.Unary.{Unary}
use Rattle.sr_ast.specs.declared.operator.Unary.TheVariants as one
use Rattle.sr_ast.specs.Terms.{Term}
use Rattle.sr_ast.specs.Terms.Term.{column}
use Rattle.sr_ast.specs.declared.keyword.Keyword.TheVariants as key
use Rattle.sr_parse_grammar.specs.declared.symbol.Symbol.{Symbol}
use Rattle.sr_parse_grammar.specs.declared.symbol.Symbol.TheVariants as symbol
use Rattle.sr_parse_reader.specs.declared.reader.Broken.{Broken}
use Rattle.sr_parse_reader.specs.declared.reader.Broken.TheVariants.{Refused}
use Rattle.sr_parse_grammar.specs.Symbols.{Symbols, first, word, IsWord, IsTextAt}
use Rattle.sr_parse_grammar.specs.Inner.Symbols.{behind}
use Rattle.sr_parse_grammar.specs.Literals.{IsLiteral, IsSingle, IsDateText, literal_meant, number_value}
use Rattle.sr_parse_grammar.specs.Expressions.{IsNullTest}
use Rattle.sr_parse_reader.specs.Inner.Reading.{Reading, Alike, Anywhere}
use Rattle.sr_parse_reader.specs.Inner.Productions.{Word, Named, Reference}
use Rattle.sr_parse_grammar.proofs.Expressing.{literal_once}
use Rattle.sr_parse_reader.proofs.Nexts.{date_next}
use Rattle.sr_parse_reader.proofs.Parts.{Seq, Sample, Casts}
use Rattle.sr_parse_reader.proofs.Starts.{standing, one_read, none_read, lacks, meant_text}

-- a reading from the same place
pub stayed : {A : Type 0} {X : Symbols → A → Symbols → Type 0} {P : Symbols → Type 0} {before start here : Symbols} {r : Result A Broken} → start ≡ before → Reading X P start here r → Reading X P before here r
stayed {X = X} {P = P} {here = here} {r = r} e h = subst (λ b. Reading X P b here r) e h

-- ---- dates

pub date_sample : Sample IsDateText
unfolding encode
date_sample = record {
  more = symbol.Text (codes "2000-01-01") ∷ [];
  meant = (meant_text (codes "2000-01-01") (codes "2000-01-01", (refl, refl)), tt);
  value = value.Date _;
  spells = λ after. record { text = codes "2000-01-01"; day = _; stands = refl; named = refl; means = refl };
}

date_once : {text : List ℕ} {v : Value} {there : Symbols} {day : ℤ} → day_named text ≡ Some day → v ≡ value.Date day → (w : Value) (rest : Symbols) → IsDateText (symbol.Text text ∷ there) w rest → (v ≡ w) × (there ≡ rest)
date_once {text = text} {day = day} n e w rest h =
    let stands = h.stands in
    let same : h.text ≡ text = cc in
    let named : day_named text ≡ Some h.day = subst (λ t. day_named t ≡ Some h.day) same h.named in
    let means = h.means in (cc, cc)

pub date_read : {before here : Symbols} {v : Value} → IsDateText before v here → Reading IsDateText Anywhere before here (Ok v)
date_read {v = v} h = one_read IsDateText Anywhere (symbol.Text h.text) h.stands
    (λ after. record { text = h.text; day = h.day; stands = refl; named = h.named; means = h.means })
    (λ there w rest k. date_once {there = there} h.named h.means w rest k)

pub date_missed : {before here : Symbols} → here ≡ before → ((v : Value) (rest : Symbols) → IsDateText before v rest → ⊥) → Reading IsDateText Anywhere before here (Err Refused)
date_missed {before = before} e absent = none_read IsDateText Anywhere e date_sample
    (λ there alike y rest h p. absent y (behind before) (record { text = h.text; day = h.day; stands = standing before (alike ∙ ap first h.stands); named = h.named; means = h.means }))

-- ---- literals

-- a literal of one symbol
pub single_read : {before here : Symbols} {v : Value} (s : Symbol) → literal_meant s ≡ Some v → before ≡ s ∷ here → Reading IsLiteral Anywhere before here (Ok v)
single_read {v = v} s m e = one_read IsLiteral Anywhere s e (λ after. inl (record { written = s; stands = refl; means = m }))
    (λ there w rest k. literal_once (s ∷ there) v there w rest (inl (record { written = s; stands = refl; means = m })) k)

-- a number that is next
pub number_read : {before here : Symbols} {v : Value} (n : ℤ) → first before ≡ Some (symbol.Number n) → here ≡ behind before → v ≡ number_value n → Reading IsLiteral Anywhere before here (Ok v)
number_read {before = before} n at e is = single_read (symbol.Number n) (ap Some (sym is)) (standing before at ∙ ap (λ l. symbol.Number n ∷ l) (sym e))

-- DATE and the text of a date
pub date_behind : {before next : Symbols} → IsWord before key.Date next → Casts (Seq (Word key.Date) IsDateText) IsLiteral Anywhere Anywhere (λ p. p.1) before
date_behind {next = next} w = record {
  to = λ b x a h. inr (record { next = h.0; date = h.1; text = h.2 });
  back = λ b y a alike h q.
      let at = standing b (sym alike ∙ ap first w) in ((tt, y), (behind b, at, date_next b (behind b) y a h at), tt, refl);
}

-- a text is the literal that is left
text_behind : (before b : Symbols) (y : Value) (a : Symbols) → ((n : ℤ) → first before ≡ Some (symbol.Number n) → ⊥) → ((rest : Symbols) → IsWord before key.Null rest → ⊥) → ((rest : Symbols) → IsWord before key.Date rest → ⊥) → Alike before b
    → IsSingle b y a → (t : List ℕ) × IsTextAt b t a × (value.Str t ≡ y)
text_behind before b y a number null date alike h = text_meant h.written h.stands h.means
  where
    text_meant : (s : Symbol) → b ≡ s ∷ a → literal_meant s ≡ Some y → (t : List ℕ) × IsTextAt b t a × (value.Str t ≡ y)
    text_meant (symbol.Text t) e m = (t, e, cc)
    text_meant (symbol.Number n) e m = absurd (number n (alike ∙ ap first e))
    text_meant (symbol.Keyword key.Null) e m = absurd (lacks alike null e)
    text_meant s e m = absurd (cc)

pub text_left : {before : Symbols} → ((n : ℤ) → first before ≡ Some (symbol.Number n) → ⊥) → ((rest : Symbols) → IsWord before key.Null rest → ⊥) → ((rest : Symbols) → IsWord before key.Date rest → ⊥)
    → Casts IsTextAt IsLiteral Anywhere Anywhere value.Str before
text_left {before = before} number null date = record {
  to = λ b x a h. inl (record { written = symbol.Text x; stands = h; means = refl });
  back = λ b y a alike h q. at b y a alike h;
}
  where
    at : (b : Symbols) (y : Value) (a : Symbols) → Alike before b → IsLiteral b y a → (t : List ℕ) × IsTextAt b t a × Anywhere a × (value.Str t ≡ y)
    at b y a alike (inl h) = let t = text_behind before b y a number null date alike h in (t.0, t.1, tt, t.2)
    at b y a alike (inr h) = absurd (lacks alike date h.date)

-- ---- behind IS

denial_back : (b : Symbols) (y : Unary) (a : Symbols) (next : Symbols) → b ≡ word key.Not ∷ next → IsNullTest b y a → (x : Unit {0} × Unit {0}) × Seq (Word key.Not) (Word key.Null) b x a × Anywhere a × (one.IsNotNull ≡ y)
denial_back b one.IsNull a next e h = absurd (cc)
denial_back b one.IsNotNull a next e h = ((tt, tt), (word key.Null ∷ a, h, refl), tt, refl)
denial_back b one.Not a next e h = absurd h
denial_back b one.Negate a next e h = absurd h

-- NOT NULL, where NOT is next
pub denied_test : {before next : Symbols} → IsWord before key.Not next → Casts (Seq (Word key.Not) (Word key.Null)) IsNullTest Anywhere Anywhere (λ p. one.IsNotNull) before
denied_test {next = next} w = record {
  to = λ b x a h. h.1 ∙ ap (λ l. word key.Not ∷ l) h.2;
  back = λ b y a alike h q. denial_back b y a (behind b) (standing b (sym alike ∙ ap first w)) h;
}

plain_back : (before b : Symbols) (y : Unary) (a : Symbols) → ((rest : Symbols) → IsWord before key.Not rest → ⊥) → Alike before b → IsNullTest b y a → (x : Unit {0}) × Word key.Null b x a × Anywhere a × (one.IsNull ≡ y)
plain_back before b one.IsNull a absent alike h = (tt, h, tt, refl)
plain_back before b one.IsNotNull a absent alike h = absurd (lacks alike absent h)
plain_back before b one.Not a absent alike h = absurd h
plain_back before b one.Negate a absent alike h = absurd h

-- NULL, where it is not
pub plain_test : {before : Symbols} → ((rest : Symbols) → IsWord before key.Not rest → ⊥) → Casts (Word key.Null) IsNullTest Anywhere Anywhere (λ x. one.IsNull) before
plain_test {before = before} absent = record {
  to = λ b x a h. h;
  back = λ b y a alike h q. plain_back before b y a absent alike h;
}

-- ---- columns

abbrev pub column_of : Option (List ℕ) × List ℕ → Term
column_of r = column r.0 r.1

pub column_to : (b : Symbols) (r : Option (List ℕ) × List ℕ) (a : Symbols) → Reference b r a → Named b (column_of r) a
column_to b r a h = (r.0, r.1, h, refl)

pub column_back : (b : Symbols) (t : Term) (a : Symbols) → Named b t a → (r : Option (List ℕ) × List ℕ) × Reference b r a × (column_of r ≡ t)
column_back b t a (table, name, h, e) = ((table, name), h, sym e)
