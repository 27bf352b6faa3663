-- Readers of one symbol.
use Rattle.std.proofs.Common.{arith, pos, inl, ◌≡◌, ℕ, List, [], ◌∷◌, Some, Ok, Err, refl, sym, ap, ◌∙◌, true}
use Rattle.sr_base.specs.declared.value.Value.TheVariants.{Int}
use Rattle.sr_ast.specs.declared.expr.Expr.TheVariants.{Literal}
use Rattle.sr_parse_grammar.specs.Expressions.{IsExpr}
use Rattle.sr_parse_grammar.specs.Expressions.Reads.{loose, single}
use Rattle.sr_parse_grammar.specs.declared.symbol.Symbol.TheVariants as symbol
use Rattle.sr_lex.specs.declared.token.TokenKind.TheVariants as token
use Rattle.sr_lex.specs.Tokens.{is_sign}
use Rattle.sr_parse_grammar.specs.declared.symbol.Sign.TheVariants as mark
use Rattle.sr_ast.specs.declared.keyword.Keyword.{Keyword}
use Rattle.sr_parse_grammar.specs.declared.symbol.Sign.{Sign}
use Rattle.sr_parse_grammar.specs.declared.symbol.Symbol.{Symbol}
use Rattle.sr_parse_reader.specs.declared.reader.Broken.TheVariants.{Refused}
use Rattle.sr_parse_grammar.specs.Symbols.{Symbols, first, word, sign, IsName, IsWord, IsSign, IsTextAt}
use Rattle.sr_parse_grammar.specs.Inner.Symbols.{behind}
use Rattle.sr_parse_grammar.specs.Meanings.{sign_text}
use Rattle.sr_parse_grammar.specs.Inner.Meant.{IsMeant}
use Rattle.sr_parse_reader.specs.Inner.Reading.{Alike, Reading, Anywhere}
use Rattle.sr_parse_reader.specs.Inner.Productions.{Word, Mark}
use Rattle.sr_parse_reader.specs.Inner.Reading.Reading.{read, refused}
use Rattle.sr_parse_grammar.proofs.Steps.{IsName-once}
pub use Rattle.sr_parse_grammar.proofs.Parts.{meant_word, meant_text, name_sample, text_sample}
use Rattle.sr_parse_reader.proofs.Parts.{Sample}

is_mark : (s : Sign) → is_sign (sign_text s) [] ≡ true
is_mark mark.Open = refl
is_mark _ = refl

pub meant_sign : (s : Sign) → IsMeant (sign s)
meant_sign s = (sign_text s, token.Sign, is_mark s, refl)

-- the number 1
pub meant_one : IsMeant (symbol.Number (pos 1))
meant_one = (49 ∷ [], token.Number (pos 1), (refl, refl, omega arith, refl), refl)

-- the symbol that is next stands there
pub standing : (here : Symbols) {s : Symbol} → first here ≡ Some s → here ≡ s ∷ behind here
standing [] e = absurd (cc)
standing (t ∷ here) e = ap (λ x. x ∷ here) (cc)

-- one symbol is read
pub one_read : {A : Type 0} (X : Symbols → A → Symbols → Type 0) (P : Symbols → Type 0) {before here : Symbols} {x : A} (s : Symbol) → before ≡ s ∷ here → ((after : Symbols) → X (s ∷ after) x after)
    → ((there : Symbols) (y : A) (rest : Symbols) → X (s ∷ there) y rest → (x ≡ y) × (there ≡ rest)) → Reading X P before here (Ok x)
one_read X P s e spells only = read (record {
  taken = s ∷ [];
  parts = e;
  spells = spells;
  only = λ there alike y rest h p. only there y rest h;
})

-- nothing was taken, and nothing begins so
pub none_read : {A : Type 0} (X : Symbols → A → Symbols → Type 0) (P : Symbols → Type 0) {before here : Symbols} → here ≡ before → Sample X
    → ((there : Symbols) → Alike before there → (y : A) (rest : Symbols) → X there y rest → P rest → ⊥) → Reading X P before here (Err Refused)
none_read X P e sample none = refused (record {
  taken = [];
  parts = sym e;
  goes = sample;
  none = λ there alike y rest h p. none there (ap first (sym e) ∙ alike) y rest h p;
})

-- nothing was taken, and nothing else begins so
pub nothing_read : {A : Type 0} (X : Symbols → A → Symbols → Type 0) (P : Symbols → Type 0) {before here : Symbols} (x : A) → here ≡ before → ((after : Symbols) → X after x after)
    → ((there : Symbols) → Alike before there → (y : A) (rest : Symbols) → X there y rest → P rest → (x ≡ y) × (there ≡ rest)) → Reading X P before here (Ok x)
nothing_read X P x e spells only = read (record {
  taken = [];
  parts = sym e;
  spells = spells;
  only = λ there alike y rest h p. only there (ap first (sym e) ∙ alike) y rest h p;
})

-- what does not begin with a symbol, does not where it looks alike
pub lacks : {before there next : Symbols} {s : Symbol} → Alike before there → ((rest : Symbols) → before ≡ s ∷ rest → ⊥) → there ≡ s ∷ next → ⊥
lacks {before = before} alike absent h = absent (behind before) (standing before (alike ∙ ap first h))

pub word_read : {k : Keyword} {before here : Symbols} → IsWord before k here → Reading (Word k) Anywhere before here (Ok tt)
word_read {k = k} w = one_read (Word k) Anywhere (word k) w (λ after. refl) (λ there y rest h. (refl, cc))

pub word_sample : (k : Keyword) → Sample (Word k)
word_sample k = record { more = word k ∷ []; meant = (meant_word k, tt); value = tt; spells = λ after. refl }

pub word_missed : {k : Keyword} {before here : Symbols} → here ≡ before → ((rest : Symbols) → IsWord before k rest → ⊥) → Reading (Word k) Anywhere before here (Err Refused)
word_missed {k = k} e absent = none_read (Word k) Anywhere e (word_sample k) (λ there alike y rest h p. lacks alike absent h)

pub sign_read : {k : Sign} {before here : Symbols} → IsSign before k here → Reading (Mark k) Anywhere before here (Ok tt)
sign_read {k = k} w = one_read (Mark k) Anywhere (sign k) w (λ after. refl) (λ there y rest h. (refl, cc))

pub sign_sample : (k : Sign) → Sample (Mark k)
sign_sample k = record { more = sign k ∷ []; meant = (meant_sign k, tt); value = tt; spells = λ after. refl }

pub sign_missed : {k : Sign} {before here : Symbols} → here ≡ before → ((rest : Symbols) → IsSign before k rest → ⊥) → Reading (Mark k) Anywhere before here (Err Refused)
sign_missed {k = k} e absent = none_read (Mark k) Anywhere e (sign_sample k) (λ there alike y rest h p. lacks alike absent h)

-- ---- names and texts

pub name_read : {before here : Symbols} {x : List ℕ} → IsName before x here → Reading IsName Anywhere before here (Ok x)
name_read {x = x} h = one_read IsName Anywhere h.word h.stands (λ after. record { word = h.word; stands = refl; means = h.means })
    (λ there y rest k. IsName-once refl (record { word = h.word; stands = refl; means = h.means }) k)

pub name_missed : {before here : Symbols} → here ≡ before → ((x : List ℕ) (rest : Symbols) → IsName before x rest → ⊥) → Reading IsName Anywhere before here (Err Refused)
name_missed {before = before} e absent = none_read IsName Anywhere e name_sample
    (λ there alike y rest h p. absent y (behind before) (record { word = h.word; stands = standing before (alike ∙ ap first h.stands); means = h.means }))

pub text_read : {before here : Symbols} {x : List ℕ} → IsTextAt before x here → Reading IsTextAt Anywhere before here (Ok x)
text_read {x = x} h = one_read IsTextAt Anywhere (symbol.Text x) h (λ after. refl) (λ there y rest k. (cc, cc))

pub text_missed : {before here : Symbols} → here ≡ before → ((x : List ℕ) (rest : Symbols) → IsTextAt before x rest → ⊥) → Reading IsTextAt Anywhere before here (Err Refused)
text_missed e absent = none_read IsTextAt Anywhere e text_sample (λ there alike y rest h p. lacks alike (absent y) h)

-- ---- expressions

-- the number 1 is an expression
pub expr_sample : Sample IsExpr
expr_sample = record {
  more = symbol.Number (pos 1) ∷ [];
  meant = (meant_one, tt);
  value = Literal (Int (pos 1));
  spells = λ after. record {
    reads = loose (loose (loose (loose (loose (loose (loose (single (inl (record { written = symbol.Number (pos 1); stands = refl; means = refl })))))))));
    shallow = omega arith;
  };
}
