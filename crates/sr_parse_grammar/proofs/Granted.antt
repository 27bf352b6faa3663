-- What is granted: TO, the user, and his address.
use Rattle.std.proofs.Common.{◌≡◌, ℕ, Bool, true, false, List, [], ◌∷◌, ◌++◌, Option, Some, None, refl, codes, IsUtf8}
use Rattle.sr_ast.specs.declared.create.Grant.{Grant}
use Rattle.sr_ast.specs.declared.keyword.Keyword.{Keyword}
use Rattle.sr_ast.specs.declared.keyword.Keyword.TheVariants as key
use Rattle.sr_ast.specs.Normal.{IsPlain, IsNoneOr}
use Rattle.sr_ast.specs.NormalForms.{IsNormalGrant}
use Rattle.sr_ast.specs.Pages.{Piece, word, led}
use Rattle.sr_ast.specs.Layout.{text_pieces, grant_pieces}
use Rattle.sr_parse_grammar.specs.declared.symbol.Symbol.{Symbol}
use Rattle.sr_parse_grammar.specs.declared.symbol.Symbol.TheVariants as symbol
use Rattle.sr_parse_grammar.specs.Symbols.{Symbols, IsName, word as key_symbol}
use Rattle.sr_parse_grammar.specs.Parts.{Seq}
use Rattle.sr_parse_grammar.specs.Inner.Scripts.{IsBehindTwo}
use Rattle.sr_parse_grammar.specs.Catalog.{IsAddress, IsGrant}
use Rattle.sr_parse_grammar.specs.Inner.Going.{Ends}
use Rattle.sr_parse_grammar.specs.Inner.Made.{grant_of as grant}
use Rattle.sr_parse_grammar.proofs.Steps.{onward}
use Rattle.sr_parse_grammar.proofs.Lists.{Ends-stop}
use Rattle.sr_parse_grammar.proofs.Saying.{Says, Spelt, phrase, phrase_says, joined_says}
use Rattle.sr_parse_grammar.proofs.Parts.{Proper, name_proper, text_proper, behind, led_proper, both, made, respelt}

abbrev pub is_type : Symbol → Bool
is_type (symbol.Keyword key.Type) = true
is_type s = false

-- two words as one piece, where they are there
led_says : {A : Type 0} (a b : List ℕ) (f : A → List Piece) (o : Option A) (ps : List Piece) (after : Symbols) → Says (led a (λ x. word b ∷ f x) o ++ ps) after → Says (led (a ++ 32 ∷ b) f o ++ ps) after
led_says a b f None ps after h = h
led_says a b f (Some x) ps after h = joined_says a b h

pub address_proper : Proper IsAddress Ends (IsNoneOr IsUtf8) (led (codes "TYPE FILE ADDRESS") text_pieces)
address_proper = respelt (led_says (codes "TYPE FILE") (codes "ADDRESS") text_pieces) (respelt (led_says (codes "TYPE") (codes "FILE") (λ t. word (codes "ADDRESS") ∷ text_pieces t))
    (led_proper key.Type Ends is_type refl (λ a q. tt) (λ a q. Ends-stop is_type a refl q) (behind key.File (behind key.Address text_proper))))

pub user_proper : Proper (Seq IsName IsAddress) Ends (λ p. IsPlain p.0 × IsNoneOr IsUtf8 p.1) (λ p. word p.0 ∷ led (codes "TYPE FILE ADDRESS") text_pieces p.1)
user_proper = both (λ b y a h q. tt) name_proper address_proper

abbrev pub grant_of : List ℕ × Option (List ℕ) → Grant
grant_of p = grant p.0 p.1

pub grant_proper : Proper IsGrant Ends IsNormalGrant (λ g. word (codes "TO") ∷ word g.user ∷ led (codes "TYPE FILE ADDRESS") text_pieces g.address)
grant_proper = made (λ g. (g.user, g.address)) grant_of (λ g. refl) (λ p. refl) (behind key.To user_proper)

pub grant_once : {before here after rest : Symbols} {s t : Grant} → before ≡ here → IsGrant before s after → IsGrant here t rest → Ends after → Ends rest → (s ≡ t) × (after ≡ rest)
grant_once {before = b} {here = c} {after = after} {rest = rest} {s = s} {t = t} e h k p q = onward IsGrant Ends grant_proper.once b c s after t rest e h k p q

-- GRANT and what is granted are one piece with TO
pub grant_spelt : (words : List ℕ) (k : Keyword) → words ≡ phrase key.Grant (k ∷ key.To ∷ []) → (g : Grant) → IsNormalGrant g → Spelt (IsBehindTwo key.Grant k IsGrant) g (word words ∷ grant_pieces g)
unfolding grant_pieces
grant_spelt words k is g p ps after h =
    let u = user_proper.spelt (g.user, g.address) p ps after h in
    (key_symbol key.Grant ∷ key_symbol k ∷ key_symbol key.To ∷ u.0, phrase_says words key.Grant (k ∷ key.To ∷ []) is u.1, (key_symbol key.To ∷ u.0, refl, (u.0, refl, u.2)))
