-- What the next symbol means.
use Rattle.std.proofs.Common.{◌≡◌, ℕ, true, List, [], ◌∷◌, Option, Some, None, refl, sym, subst, inl, inr}
use Rattle.std.specs.Option.{option_copied, is_some}
use denote.Bor.{Bor}
use Rattle.sr_base.specs.declared.value.Value.{Value}
use Rattle.sr_ast.specs.declared.keyword.Keyword.{Keyword}
use Rattle.sr_ast.specs.declared.keyword.Keyword.TheVariants as key
use Rattle.sr_ast.specs.Keywords.{named}
use Rattle.sr_parse_grammar.specs.declared.symbol.Symbol.{Symbol}
use Rattle.sr_parse_grammar.specs.declared.symbol.Symbol.TheVariants as symbol
use Rattle.sr_parse_grammar.specs.Symbols.{Symbols, first, name_meant, IsName, IsWord}
use Rattle.sr_parse_grammar.specs.Inner.Symbols.{behind}
use Rattle.sr_parse_grammar.specs.Literals.{IsLiteral, IsDateText, literal_meant}

-- a key word that is also a name
pub name_next : (symbols : Symbols) (k : Keyword) (r : Option (Bor (List ℕ))) → first symbols ≡ Some (symbol.Keyword k) → option_copied r ≡ named k → is_some r ≡ true → (x : List ℕ) × IsName symbols x (behind symbols)
name_next [] k r f n i = absurd (cc)
name_next (s ∷ symbols) k None f n i = absurd (cc)
name_next (s ∷ symbols) k (Some b) f n i =
    let is : s ≡ symbol.Keyword k = cc in
    (b.now, record { word = s; stands = refl; means = subst (λ (w : Symbol). name_meant w ≡ Some b.now) (sym is) (sym n) })

-- behind DATE
pub date_next : (before next : Symbols) (v : Value) (after : Symbols) → IsLiteral before v after → IsWord before key.Date next → IsDateText next v after
date_next before next v after (inl l) w =
    let stands = l.stands in
    let is : l.written ≡ symbol.Keyword key.Date = cc in
    let meant : literal_meant (symbol.Keyword key.Date) ≡ Some v = subst (λ (s : Symbol). literal_meant s ≡ Some v) is l.means in
    absurd (cc)
date_next before next v after (inr d) w =
    let date = d.date in
    let place : d.next ≡ next = cc in subst (λ b. IsDateText b v after) place d.text
