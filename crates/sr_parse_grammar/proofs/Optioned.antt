-- What an option is set to: its name, `=`, and the value that is kept.
use Rattle.std.proofs.Common.{◌≡◌, ℕ, Bool, true, false, if◌then◌else◌, List, [], ◌∷◌, ◌++◌, refl, sym, subst, ap, ◌∙◌, inl, codes, IsUtf8}
use Rattle.std.specs.Str.{str_eq_ignore_ascii_case}
use lib.Utf8.{encode}
use Rattle.sr_base.specs.declared.value.Value.{Value}
use Rattle.sr_base.specs.declared.value.Value.TheVariants as value
use Rattle.sr_lex.specs.declared.token.TokenKind.TheVariants as token
use Rattle.sr_ast.specs.declared.options.OptionRule.{OptionRule}
use Rattle.sr_ast.specs.declared.operator.Binary.TheVariants.{Equal}
use Rattle.sr_ast.specs.declared.keyword.Keyword.TheVariants as key
use Rattle.sr_ast.specs.Options.{settled, settled_text}
use Rattle.sr_ast.specs.Normal.{IsPlain, IsNormalValue}
use Rattle.sr_ast.specs.NormalForms.{IsSettledValue, IsNormalOption}
use Rattle.sr_ast.specs.Pages.{Piece, word}
use Rattle.sr_ast.specs.Printing.{value_pieces}
use Rattle.sr_ast.specs.Layout.{set_option_pieces}
use Rattle.sr_parse_grammar.specs.declared.symbol.Sign.TheVariants as mark
use Rattle.sr_parse_grammar.specs.Symbols.{Symbols, IsName, word as key_symbol, sign}
use Rattle.sr_parse_grammar.specs.Parts.{IsBehind, IsBehindSign, Seq}
use Rattle.sr_parse_grammar.specs.Catalog.{IsSigned, IsKeptValue, IsOptionRule}
use Rattle.sr_parse_grammar.specs.Inner.Made.{option_of as option}
use Rattle.sr_parse_grammar.proofs.Steps.{onward}
use Rattle.sr_parse_grammar.proofs.Lists.{Any}
use Rattle.sr_parse_grammar.proofs.Saying.{Spelt, word_says}
use Rattle.sr_parse_grammar.proofs.Termed.{operator_lexeme}
use Rattle.sr_parse_grammar.proofs.Signed.{signed_spelt}
use Rattle.sr_parse_grammar.proofs.Sound.{past, signed_gives}
use Rattle.sr_parse_grammar.proofs.Cataloguing.{signed_once}
use Rattle.sr_parse_grammar.proofs.Parts.{Proper, Sample, meant_word, name_proper, behind, both, made}

-- ---- what is kept is kept as it is

text_kept : (on off : Bool) (text : List ℕ) → str_eq_ignore_ascii_case text (codes "On") ≡ on → str_eq_ignore_ascii_case text (codes "Off") ≡ off
    → settled_text (if on then codes "On" else if off then codes "Off" else text) ≡ (if on then codes "On" else if off then codes "Off" else text)
text_kept true off text a b = refl
text_kept false true text a b = refl
text_kept false false text a b =
    ap (λ (c : Bool). if c then codes "On" else if str_eq_ignore_ascii_case text (codes "Off") then codes "Off" else text) a ∙ ap (λ (c : Bool). if c then codes "Off" else text) b

settled_twice : (v : Value) → settled (settled v) ≡ settled v
settled_twice (value.Str text) = ap value.Str (text_kept (str_eq_ignore_ascii_case text (codes "On")) (str_eq_ignore_ascii_case text (codes "Off")) text refl refl)
settled_twice _ = refl

text_utf8 : (on off : Bool) (text : List ℕ) → IsUtf8 text → IsUtf8 (if on then codes "On" else if off then codes "Off" else text)
unfolding encode
text_utf8 true off text u = (codes "On", (refl, refl))
text_utf8 false true text u = (codes "Off", (refl, refl))
text_utf8 false false text u = u

settled_normal : (v : Value) → IsNormalValue v → IsNormalValue (settled v)
settled_normal (value.Str text) u = text_utf8 (str_eq_ignore_ascii_case text (codes "On")) (str_eq_ignore_ascii_case text (codes "Off")) text u
settled_normal _ u = u

kept_sample : Sample IsKeptValue
kept_sample = record {
  more = key_symbol key.Null ∷ [];
  meant = (meant_word key.Null, tt);
  value = value.Null;
  spells = λ after. (value.Null, inl (inl (record { written = key_symbol key.Null; stands = refl; means = refl })), refl);
}

pub kept_proper : Proper IsKeptValue Any IsSettledValue value_pieces
kept_proper = record {
  once = λ before x after y rest h k p q. let s = signed_once before before h.0 after k.0 rest refl h.1 k.1 in (h.2 ∙ (ap settled s.0 ∙ sym k.2), s.1);
  spelt = λ v n ps after h. let s = signed_spelt v n.0 ps after h in (s.0, s.1, (v, s.2, sym n.1));
  gives = λ before after v h sound.
      let g = signed_gives before after h.0 h.1 sound in
      ((subst IsNormalValue (sym h.2) (settled_normal h.0 g.0), ap settled h.2 ∙ (settled_twice h.0 ∙ sym h.2)), g.1);
  sample = kept_sample;
}

-- ---- behind `=`

pub behind_equal : {A : Type 0} {X : Symbols → A → Symbols → Type 0} {P : Symbols → Type 0} {N : A → Type 0} {f : A → List Piece} → Proper X P N f → Proper (IsBehindSign mark.Equal X) P N (λ x. word (codes "=") ∷ f x)
behind_equal {X = X} {P = P} a = record {
  once = λ before x after y rest h j p q. let w = h.1 in let v = j.1 in let same : h.0 ≡ j.0 = cc in onward X P a.once h.0 j.0 x after y rest same h.2 j.2 p q;
  spelt = λ x n ps after h. let s = a.spelt x n ps after h in (sign mark.Equal ∷ s.0, word_says (codes "=") (sign mark.Equal) (operator_lexeme Equal) s.1, (s.0, refl, s.2));
  gives = λ before after x h sound. a.gives h.0 after x h.2 (past h.1 sound).1;
  sample = record {
    more = sign mark.Equal ∷ a.sample.more;
    meant = ((codes "=", token.Sign, refl, refl), a.sample.meant);
    value = a.sample.value;
    spells = λ after. (a.sample.more ++ after, refl, a.sample.spells after);
  };
}

-- ---- the whole

pub named_proper : Proper (Seq IsName (IsBehindSign mark.Equal IsKeptValue)) Any (λ p. IsPlain p.0 × IsSettledValue p.1) (λ p. word p.0 ∷ word (codes "=") ∷ value_pieces p.1)
named_proper = both (λ b y a h q. tt) name_proper (behind_equal kept_proper)

abbrev pub option_of : List ℕ × Value → OptionRule
option_of p = option p.0 p.1

pub option_proper : Proper IsOptionRule Any IsNormalOption (λ o. word (codes "OPTION") ∷ word o.name ∷ word (codes "=") ∷ value_pieces o.value)
option_proper = made (λ o. (o.name, o.value)) option_of (λ o. refl) (λ p. refl) (behind key.Option named_proper)

pub option_spelt : (o : OptionRule) → IsNormalOption o → Spelt (IsBehind key.Set IsOptionRule) o (set_option_pieces o)
unfolding set_option_pieces
option_spelt o n ps after h = let whole = behind key.Set option_proper in whole.spelt o n ps after h
