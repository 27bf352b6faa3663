-- What the symbols of a text spell is in normal form: names, literals and lists.
use Rattle.std.proofs.Common.{◌≡◌, ℕ, zero, suc, ◌^◌, ◌<◌, Bool, true, false, List, [], ◌∷◌, ◌++◌, Some, refl, sym, ap, ◌∙◌, subst, inl, inr, ℤ, pos, neg_ℤ, if◌then◌else◌, IsTrue, IsUtf8, FitsSigned, arith}
use Rattle.std.specs.Int.{w64}
use Rattle.std.specs.Bool.{⊤}
use Rattle.std.specs.List.{AllByRecursion}
use Rattle.sr_base.specs.declared.value.Value.{Value}
use Rattle.sr_base.specs.declared.value.Value.TheVariants as value
use Rattle.sr_base.specs.Fitting.{is_int}
use Rattle.sr_base.specs.Names.{is_lower_name, is_name}
use Rattle.sr_base.proofs.NameCase.{is_lower_name-lowered}
use Rattle.sr_base_dates.proofs.DateTexts.{day_named-text}
use Rattle.sr_lex.specs.declared.token.Token.{Token}
use Rattle.sr_lex.specs.declared.token.TokenKind.{TokenKind}
use Rattle.sr_lex.specs.declared.token.TokenKind.TheVariants as token
use Rattle.sr_lex.specs.Tokens.{IsToken, Takes, number}
use Rattle.sr_ast.specs.declared.keyword.Keyword.{Keyword}
use Rattle.sr_ast.specs.declared.keyword.Keyword.TheVariants as key
use Rattle.sr_parse_grammar.specs.declared.symbol.Symbol.{Symbol}
use Rattle.sr_parse_grammar.specs.declared.symbol.Symbol.TheVariants as symbol
use Rattle.sr_parse_grammar.specs.Symbols.{Symbols, IsName, name_meant}
use Rattle.sr_parse_grammar.specs.Meanings.{IsWordSymbol, IsSignSymbol, IsSymbolOf, AreSymbols}
use Rattle.sr_parse_grammar.specs.Literals.{number_value, literal_meant, negative_meant, IsLiteral, IsNegative}
use Rattle.sr_parse_grammar.specs.Listing.{Listed, Row, IsNames}
use Rattle.sr_parse_grammar.specs.Listing.Listed.{one, more}
use Rattle.sr_parse_grammar.specs.Listing.Row.{none, then as and_then}
use Rattle.sr_parse_grammar.specs.Catalog.{IsSigned}
use Rattle.sr_ast.specs.Normal.{IsPlain, IsSomeOf, IsNormalValue}
use Rattle.sr_ast.specs.Keywords.{named, lower, spelling, IsKeyword}
use Rattle.sr_parse_grammar.proofs.Spellings.{keyword_once}
use Rattle.sr_parse_grammar.proofs.Naming.{name-lower}
use Rattle.sr_parse_grammar.proofs.Listed.{all_of}

-- ---- symbols

-- a symbol that a token is
abbrev pub IsSound : Symbol → Type 0
IsSound (symbol.Name n) = IsPlain n
IsSound (symbol.Number n) = (m : ℕ) × (n ≡ pos m) × (m < 2 ^ 63)
IsSound (symbol.Text t) = IsUtf8 t
IsSound s = ⊤

abbrev pub AreSound : Symbols → Type 0
AreSound symbols = AllByRecursion IsSound symbols

-- a production gives values with a property, and leaves such symbols
abbrev pub Gives : {A : Type 0} → (Symbols → A → Symbols → Type 0) → (A → Type 0) → Type 0
Gives {A = A} X P = (before after : Symbols) (x : A) → X before x after → AreSound before → P x × AreSound after

pub past : {before after : Symbols} {s : Symbol} → before ≡ s ∷ after → AreSound before → IsSound s × AreSound after
past e h = subst AreSound e h

pub moved : {before after : Symbols} → before ≡ after → AreSound before → AreSound after
moved e h = subst AreSound e h

-- a word in lower case that is no key word
word_plain : (word : List ℕ) → ((k : Keyword) → IsKeyword word k → ⊥) → IsTrue (is_name word) → IsPlain (lower word)
word_plain word free is =
    let low : is_lower_name (lower word) ≡ true = is_lower_name-lowered word ∙ is in
    record { written = low; free = λ k e. absurd (free k (sym (name-lower (lower word) low) ∙ e)) }

word_sound : (word : List ℕ) (s : Symbol) → IsWordSymbol word s → IsSound s
word_sound word (symbol.Name n) h = subst IsPlain (sym h.2) (word_plain word h.0 h.1)
word_sound word (symbol.Number n) h = absurd h
word_sound word (symbol.Text t) h = absurd h
word_sound word _ h = tt

sign_sound : (word : List ℕ) (s : Symbol) → IsSignSymbol word s → IsSound s
sign_sound word (symbol.Name n) h = absurd h
sign_sound word (symbol.Number n) h = absurd h
sign_sound word (symbol.Text t) h = absurd h
sign_sound word _ h = tt

token_sound : (kind : TokenKind) (word rest bytes : List ℕ) (s : Symbol) → IsToken kind word rest → IsSymbolOf bytes kind s → IsSound s
token_sound token.Word word rest bytes s t h = word_sound bytes s h
token_sound (token.Number n) word rest bytes s t h = subst IsSound (sym h) (number word, t.1, t.2)
token_sound token.TopNumber word rest bytes s t h = subst IsSound (sym h) tt
token_sound (token.Str x) word rest bytes s t h = subst IsSound (sym h) t.1
token_sound token.Sign word rest bytes s t h = sign_sound bytes s h

pub tokens_sound : (text : List ℕ) (at : ℕ) (bytes : List ℕ) (tokens : List Token) (symbols : Symbols) → Takes at bytes tokens [] → AreSymbols text tokens symbols → AreSound symbols
tokens_sound text at bytes [] [] t h = tt
tokens_sound text at bytes [] (s ∷ symbols) t h = absurd h
tokens_sound text at bytes (k ∷ tokens) [] t h = absurd h
tokens_sound text at bytes (k ∷ tokens) (s ∷ symbols) (after, taken, left) h =
    (token_sound k.kind taken.word after h.0.bytes s taken.is h.0.means, tokens_sound text k.end after tokens symbols left h.1)

-- ---- names

some_same : {A : Type 0} (x y : A) → Some x ≡ Some y → x ≡ y
some_same x y e = cc

named_spelling : (k : Keyword) (name : List ℕ) → named k ≡ Some name → lower (spelling k) ≡ name
named_spelling key.Create name e = absurd cc
named_spelling _ name e = cc

spelling_lower : (k : Keyword) → is_lower_name (lower (spelling k)) ≡ true
spelling_lower key.Create = refl
spelling_lower _ = refl

-- a key word that is a name too is so as it is spelled, and no other key word
keyword_plain : (k : Keyword) (name : List ℕ) → named k ≡ Some name → IsPlain name
keyword_plain k name e =
    let spelled = named_spelling k name e in
    let low : is_lower_name name ≡ true = ap is_lower_name (sym spelled) ∙ spelling_lower k in
    record {
      written = low;
      free = λ j is. subst (λ (i : Keyword). named i ≡ Some name) (keyword_once name k j (name-lower name low ∙ sym spelled) is) e;
    }

name_plain : (s : Symbol) (name : List ℕ) → name_meant s ≡ Some name → IsSound s → IsPlain name
name_plain (symbol.Name n) name e h = subst IsPlain (some_same n name e) h
name_plain (symbol.Keyword k) name e h = keyword_plain k name e
name_plain _ name e h = absurd cc

pub name_gives : Gives IsName IsPlain
name_gives before after name x h = let p = past x.stands h in (name_plain x.word name x.means p.0, p.1)

-- ---- literals

number_normal : (b : Bool) (n : ℤ) → is_int n ≡ b → FitsSigned w64 n → IsNormalValue (if b then value.Int n else value.Big n)
number_normal true n e h = e
number_normal false n e h = (e, h)

value_normal : (n : ℤ) → FitsSigned w64 n → IsNormalValue (number_value n)
value_normal n h = number_normal (is_int n) n refl h

same_value : (v w : Value) → Some v ≡ Some w → IsNormalValue v → IsNormalValue w
same_value v w e h = subst IsNormalValue (some_same v w e) h

keyword_literal : (k : Keyword) (v : Value) → literal_meant (symbol.Keyword k) ≡ Some v → IsNormalValue v
keyword_literal key.Null v e = same_value value.Null v e tt
keyword_literal _ v e = absurd cc

literal_normal : (s : Symbol) (v : Value) → literal_meant s ≡ Some v → IsSound s → IsNormalValue v
literal_normal (symbol.Number n) v e (m, is, small) =
    same_value (number_value n) v e (subst (λ (z : ℤ). IsNormalValue (number_value z)) (sym is) (value_normal (pos m) (record { sfits = small })))
literal_normal (symbol.Text t) v e h = same_value (value.Str t) v e h
literal_normal (symbol.Keyword k) v e h = keyword_literal k v e
literal_normal _ v e h = absurd cc

negative_number : (m : ℕ) → m < 2 ^ 63 → FitsSigned w64 (neg_ℤ (pos m))
negative_number zero h = record { sfits = h }
negative_number (suc m) h = record { sfits = omega (arith, h) }

negative_normal : (s : Symbol) (v : Value) → negative_meant s ≡ Some v → IsSound s → IsNormalValue v
negative_normal (symbol.Number n) v e (m, is, small) =
    let meant : negative_meant (symbol.Number (pos m)) ≡ Some v = ap (λ z. negative_meant (symbol.Number z)) (sym is) ∙ e in
    same_value (number_value (neg_ℤ (pos m))) v meant (value_normal (neg_ℤ (pos m)) (negative_number m small))
negative_normal symbol.TopNumber v e h = same_value (value.Big (neg_ℤ (pos (2 ^ 63)))) v e (refl, record { sfits = omega arith })
negative_normal _ v e h = absurd cc

pub literal_gives : Gives IsLiteral IsNormalValue
literal_gives before after v (inl x) h = let p = past x.stands h in (literal_normal x.written v x.means p.0, p.1)
literal_gives before after v (inr x) h =
    let d = past x.date h in
    let t = past x.text.stands d.1 in
    (subst IsNormalValue (sym x.text.means) (day_named-text x.text.text x.text.day x.text.named).0, t.1)

pub negative_gives : Gives IsNegative IsNormalValue
negative_gives before after v x h = let p = past x.stands h in (negative_normal x.number v x.means p.0, p.1)

pub signed_gives : Gives IsSigned IsNormalValue
signed_gives before after v (inl x) h = literal_gives before after v x h
signed_gives before after v (inr (next, s, x)) h = negative_gives next after v x (past s h).1

-- ---- lists

module _ {A : Type 0} (P : A → Type 0) where
  pub all_push : (xs : List A) (x : A) → AllByRecursion P xs → P x → AllByRecursion P (xs ++ x ∷ [])
  all_push [] x h p = (p, tt)
  all_push (y ∷ xs) x h p = (h.0, all_push xs x h.1 p)

  pub some_push : (xs : List A) (x : A) → IsSomeOf P xs → P x → IsSomeOf P (xs ++ x ∷ [])
  some_push [] x h p = absurd h
  some_push (y ∷ xs) x h p = (h.0, all_push xs x h.1 p)

module _ {A : Type 0} (X : Symbols → A → Symbols → Type 0) (P : A → Type 0) (gives : Gives X P) where
  listed_from : {before after : Symbols} {xs : List A} → Listed X before xs after → AreSound before → IsSomeOf P xs × AreSound after
  listed_from {before = b} {after = a} (one {x = x} i) h = let p = gives b a x i h in ((p.0, tt), p.1)
  listed_from {after = a} (more {next = n} {xs = xs} {x = x} l c i) h =
      let prefix = listed_from l h in
      let p = gives n a x i (past c prefix.1).1 in
      (some_push P xs x prefix.0 p.0, p.1)

  pub listed_gives : Gives (Listed X) (IsSomeOf P)
  listed_gives before after xs l h = listed_from l h

  row_from : {before after : Symbols} {xs : List A} → Row X before xs after → AreSound before → AllByRecursion P xs × AreSound after
  row_from none h = (tt, h)
  row_from {after = a} (and_then {middle = m} {xs = xs} {x = x} l i) h =
      let prefix = row_from l h in
      let p = gives m a x i prefix.1 in
      (all_push P xs x prefix.0 p.0, p.1)

  pub row_gives : Gives (Row X) (AllByRecursion P)
  row_gives before after xs l h = row_from l h

pub names_gives : Gives IsNames (AllByRecursion IsPlain)
names_gives before after names (inl (e, b)) h = (subst (AllByRecursion IsPlain) (sym e) tt, moved b h)
names_gives before after names (inr x) h =
    let o = past x.opened h in
    let l = listed_gives IsName IsPlain name_gives x.inside x.close names x.listed o.1 in
    (all_of IsPlain names l.0, (past x.closed l.1).1)
