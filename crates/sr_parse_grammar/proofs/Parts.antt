-- Productions by their parts: what is proved of each part is proved of the whole.
use Rattle.std.proofs.Common.{◌≡◌, ℕ, Bool, true, List, [], ◌∷◌, ◌++◌, Some, None, refl, sym, subst, ap, ◌∙◌, append_assoc, codes, IsUtf8}
use Rattle.sr_lex.specs.declared.token.TokenKind.TheVariants as token
use Rattle.sr_lex.specs.Tokens.{quoted}
use Rattle.sr_ast.specs.declared.keyword.Keyword.{Keyword}
use Rattle.sr_ast.specs.declared.keyword.Keyword.TheVariants as key
use Rattle.sr_ast.specs.Keywords.{spelling}
use Rattle.sr_ast.specs.Normal.{IsPlain, IsNoneOr}
use Rattle.sr_ast.specs.Pages.{Piece, word, led}
use Rattle.sr_ast.specs.Printing.{name_pieces}
use Rattle.sr_ast.specs.Layout.{text_pieces}
use Rattle.sr_parse_grammar.specs.declared.symbol.Symbol.{Symbol}
use Rattle.sr_parse_grammar.specs.declared.symbol.Symbol.TheVariants as symbol
use Rattle.sr_parse_grammar.specs.Symbols.{Symbols, IsName, IsTextAt, word as key_symbol}
use Rattle.sr_parse_grammar.specs.Inner.Meant.{IsMeant, AreMeant, GoesOn}
use Rattle.sr_parse_grammar.specs.Parts.{IsBehind, Of, Seq}
use Rattle.sr_parse_grammar.specs.Writing.{IsLed}
use Rattle.sr_parse_grammar.specs.Inner.Going.{Stop}
use Rattle.sr_parse_grammar.proofs.Steps.{Once, Stop-begins, onward}
use Rattle.sr_parse_grammar.proofs.Lists.{Any, name_once}
use Rattle.sr_parse_grammar.proofs.Saying.{Says, Spelt, regrouped, word_says, phrase_says, spelling-is_word}
use Rattle.sr_parse_grammar.proofs.Naming.{name_spelt}
use Rattle.sr_parse_grammar.proofs.Signed.{text_lexeme}
use Rattle.sr_parse_grammar.proofs.Rowed.{led_spelt}
use Rattle.sr_parse_grammar.proofs.Sound.{Gives, past, name_gives}
use Rattle.sr_parse_grammar.proofs.Settled.{led_gives}

-- ---- symbols that spell a production

-- a production from another place that is the same
pub from : {A : Type 0} (X : Symbols → A → Symbols → Type 0) {before here rest : Symbols} {x : A} → before ≡ here → X before x rest → X here x rest
from X {rest = rest} {x = x} e h = subst (λ (b : Symbols). X b x rest) e h

pub four : (a b c d : Symbols) → (a ++ b) ++ (c ++ d) ≡ (a ++ (b ++ c)) ++ d
four a b c d = sym (append_assoc (a ++ b) c d) ∙ ap (λ (l : Symbols). l ++ d) (append_assoc a b c)

pub meant_both : (xs ys : Symbols) → AreMeant xs → AreMeant ys → AreMeant (xs ++ ys)
meant_both [] ys h k = k
meant_both (x ∷ xs) ys h k = (h.0, meant_both xs ys h.1 k)

pub meant_word : (k : Keyword) → IsMeant (key_symbol k)
meant_word k = (spelling k, token.Word, (spelling-is_word k, refl), refl)

pub meant_text : (t : List ℕ) → IsUtf8 t → IsMeant (symbol.Text t)
meant_text t u = (quoted t, token.Str t, (refl, u, refl), refl)

-- some symbols spell it
abbrev pub Sample : {A : Type 0} → (Symbols → A → Symbols → Type 0) → Type 0
Sample X = GoesOn X []

pub goes_first : {A B : Type 0} (X : Symbols → A → Symbols → Type 0) (Y : Symbols → B → Symbols → Type 0) (taken : Symbols) → GoesOn X taken → Sample Y → GoesOn (Seq X Y) taken
goes_first X Y taken g s = record {
  more = g.more ++ s.more;
  meant = meant_both g.more s.more g.meant s.meant;
  value = (g.value, s.value);
  spells = λ after. (s.more ++ after, from X (four taken g.more s.more after) (g.spells (s.more ++ after)), s.spells after);
}

-- a part is left out
pub led_sample : {A : Type 0} (k : Keyword) (X : Symbols → A → Symbols → Type 0) → Sample (IsLed k X)
led_sample k X = record { more = []; meant = tt; value = None; spells = λ after. refl }

-- `old` is a name too
pub name_sample : Sample IsName
name_sample = record { more = key_symbol key.Old ∷ []; meant = (meant_word key.Old, tt); value = codes "old"; spells = λ after. record { word = key_symbol key.Old; stands = refl; means = refl } }

pub text_sample : Sample IsTextAt
text_sample = record { more = symbol.Text [] ∷ []; meant = (meant_text [] ([], (refl, refl)), tt); value = []; spells = λ after. refl }

-- ---- what every production owes

-- Where it ends with the property, symbols spell one value at most; a value in normal form is spelled by its print; what is spelled is in normal form; and
-- some symbols spell one.
pub record Proper {A : Type 0} (X : Symbols → A → Symbols → Type 0) (P : Symbols → Type 0) (N : A → Type 0) (pieces : A → List Piece) : Type 0 where
  pub once : Once X P
  pub spelt : (x : A) → N x → Spelt X x (pieces x)
  pub gives : Gives X N
  pub sample : Sample X

pub name_proper : Proper IsName Any IsPlain name_pieces
name_proper = record { once = name_once; spelt = name_spelt; gives = name_gives; sample = name_sample }

pub text_proper : Proper IsTextAt Any IsUtf8 text_pieces
text_proper = record {
  once = λ before x after y rest h k p q. (cc, cc);
  spelt = λ t n ps after h. (symbol.Text t ∷ after, word_says _ (symbol.Text t) (text_lexeme t n) h, refl);
  gives = λ before after t h sound. past h sound;
  sample = text_sample;
}

-- behind a word
pub behind : {A : Type 0} {X : Symbols → A → Symbols → Type 0} {P : Symbols → Type 0} {N : A → Type 0} {f : A → List Piece} (k : Keyword) → Proper X P N f → Proper (IsBehind k X) P N (λ x. word (spelling k) ∷ f x)
behind {X = X} {P = P} k a = record {
  once = λ before x after y rest h j p q. let w = h.1 in let v = j.1 in let same : h.0 ≡ j.0 = cc in onward X P a.once h.0 j.0 x after y rest same h.2 j.2 p q;
  spelt = λ x n ps after h. let s = a.spelt x n ps after h in (key_symbol k ∷ s.0, phrase_says (spelling k) k [] refl s.1, (s.0, refl, s.2));
  gives = λ before after x h sound. a.gives h.0 after x h.2 (past h.1 sound).1;
  sample = record { more = key_symbol k ∷ a.sample.more; meant = (meant_word k, a.sample.meant); value = a.sample.value; spells = λ after. (a.sample.more ++ after, refl, a.sample.spells after) };
}

led_once : {A : Type 0} (k : Keyword) (X : Symbols → A → Symbols → Type 0) (P Q : Symbols → Type 0) (test : Symbol → Bool) → test (key_symbol k) ≡ true → ((after : Symbols) → Q after → P after) → ((after : Symbols) → Q after → Stop test after)
    → Once X P → Once (IsLed k X) Q
led_once k X P Q test t fits stops once before None after None rest h j p q = (refl, sym h ∙ j)
led_once k X P Q test t fits stops once before None after (Some y) rest h j p q = absurd (Stop-begins test (sym h ∙ j.1) t (stops after p))
led_once k X P Q test t fits stops once before (Some x) after None rest h j p q = absurd (Stop-begins test (sym j ∙ h.1) t (stops rest q))
led_once k X P Q test t fits stops once before (Some x) after (Some y) rest h j p q =
    let w = h.1 in let v = j.1 in let same : h.0 ≡ j.0 = cc in
    let s = onward X P once h.0 j.0 x after y rest same h.2 j.2 (fits after p) (fits rest q) in (ap Some s.0, s.1)

-- behind a word, with which it may be left out: where it ends, the word does not begin
pub led_proper : {A : Type 0} {X : Symbols → A → Symbols → Type 0} {P : Symbols → Type 0} {N : A → Type 0} {f : A → List Piece} (k : Keyword) (Q : Symbols → Type 0) (test : Symbol → Bool) → test (key_symbol k) ≡ true
    → ((after : Symbols) → Q after → P after) → ((after : Symbols) → Q after → Stop test after) → Proper X P N f → Proper (IsLed k X) Q (IsNoneOr N) (led (spelling k) f)
led_proper {X = X} {P = P} {N = N} {f = f} k Q test t fits stops a = record {
  once = led_once k X P Q test t fits stops a.once;
  spelt = led_spelt X N f a.spelt (spelling k) k refl;
  gives = led_gives X N a.gives k;
  sample = led_sample k X;
}

-- where the second part begins, the first may end
abbrev pub Leads : {B : Type 0} → (Symbols → Type 0) → (Symbols → B → Symbols → Type 0) → (Symbols → Type 0) → Type 0
Leads {B = B} P Y Q = (before : Symbols) (y : B) (after : Symbols) → Y before y after → Q after → P before

pair_same : {A B : Type 0} (p q : A × B) → p.0 ≡ q.0 → p.1 ≡ q.1 → p ≡ q
pair_same (a, b) (c, d) e f = cc

-- one part and another behind it
pub both : {A B : Type 0} {X : Symbols → A → Symbols → Type 0} {P : Symbols → Type 0} {N : A → Type 0} {f : A → List Piece} {Y : Symbols → B → Symbols → Type 0} {Q : Symbols → Type 0} {M : B → Type 0} {g : B → List Piece} → Leads P Y Q
    → Proper X P N f → Proper Y Q M g → Proper (Seq X Y) Q (λ p. N p.0 × M p.1) (λ p. f p.0 ++ g p.1)
both {X = X} {f = f} {Y = Y} {Q = Q} {g = g} leads a b = record {
  once = λ before x after y rest h k p q.
      let s = a.once before x.0 h.0 y.0 k.0 h.1 k.1 (leads h.0 x.1 after h.2 p) (leads k.0 y.1 rest k.2 q) in
      let t = onward Y Q b.once h.0 k.0 x.1 after y.1 rest s.1 h.2 k.2 p q in (pair_same x y s.0 t.0, t.1);
  spelt = λ x n ps after h. let t = b.spelt x.1 n.1 ps after h in let s = a.spelt x.0 n.0 (g x.1 ++ ps) t.0 t.1 in (s.0, regrouped (f x.0) (g x.1) ps s.1, (t.0, s.2, t.2));
  gives = λ before after x h sound. let s = a.gives before h.0 x.0 h.1 sound in let t = b.gives h.0 after x.1 h.2 s.1 in ((s.0, t.0), t.1);
  sample = goes_first X Y [] a.sample b.sample;
}

-- what has such parts
pub made : {A B : Type 0} {X : Symbols → A → Symbols → Type 0} {P : Symbols → Type 0} {N : A → Type 0} {f : A → List Piece} (parts : B → A) (whole : A → B) → ((y : B) → whole (parts y) ≡ y) → ((x : A) → parts (whole x) ≡ x)
    → Proper X P N f → Proper (Of parts X) P (λ y. N (parts y)) (λ y. f (parts y))
made {X = X} parts whole back forth a = record {
  once = λ before x after y rest h k p q. let s = a.once before (parts x) after (parts y) rest h k p q in (sym (back x) ∙ (ap whole s.0 ∙ back y), s.1);
  spelt = λ y n. a.spelt (parts y) n;
  gives = λ before after y h sound. a.gives before after (parts y) h sound;
  sample = record {
    more = a.sample.more;
    meant = a.sample.meant;
    value = whole a.sample.value;
    spells = λ after. subst (λ v. X (a.sample.more ++ after) v after) (sym (forth a.sample.value)) (a.sample.spells after);
  };
}

-- the same in other pieces
pub respelt : {A : Type 0} {X : Symbols → A → Symbols → Type 0} {P : Symbols → Type 0} {N : A → Type 0} {f g : A → List Piece} → ((x : A) (ps : List Piece) (after : Symbols) → Says (f x ++ ps) after → Says (g x ++ ps) after)
    → Proper X P N f → Proper X P N g
respelt say a = record { once = a.once; spelt = λ x n ps after h. let s = a.spelt x n ps after h in (s.0, say x ps s.0 s.1, s.2); gives = a.gives; sample = a.sample }
