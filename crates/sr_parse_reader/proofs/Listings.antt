-- Lists of the grammar, read one item after the other.
use Rattle.std.proofs.Common.{◌≡◌, List, [], ◌∷◌, ◌++◌, sym, subst}
use Rattle.sr_parse_grammar.specs.declared.symbol.Sign.TheVariants.{Comma}
use Rattle.sr_parse_grammar.specs.Symbols.{Symbols, IsSign}
use Rattle.sr_parse_grammar.specs.Listing.{Listed, Row}
use Rattle.sr_parse_grammar.specs.Listing.Listed.{one, more}
use Rattle.sr_parse_grammar.specs.Listing.Row.{none, then}

pub Listed-one : {A : Type 0} {X : Symbols → A → Symbols → Type 0} {before after : Symbols} {x : A} {ys : List A} → X before x after → ys ≡ x ∷ [] → Listed X before ys after
Listed-one {X = X} {before = b} {after = a} h e = subst (λ ys. Listed X b ys a) (sym e) (one h)

pub Listed-more : {A : Type 0} {X : Symbols → A → Symbols → Type 0} {before middle next after : Symbols} {xs ys : List A} {x : A} → Listed X before xs middle → IsSign middle Comma next → X next x after → ys ≡ xs ++ x ∷ [] → Listed X before ys after
Listed-more {X = X} {before = b} {after = a} hs c h e = subst (λ ys. Listed X b ys a) (sym e) (more hs c h)

pub Row-none : {A : Type 0} {X : Symbols → A → Symbols → Type 0} {before : Symbols} {ys : List A} → ys ≡ [] → Row X before ys before
Row-none {X = X} {before = b} e = subst (λ ys. Row X b ys b) (sym e) none

pub Row-then : {A : Type 0} {X : Symbols → A → Symbols → Type 0} {before middle after : Symbols} {xs ys : List A} {x : A} → Row X before xs middle → X middle x after → ys ≡ xs ++ x ∷ [] → Row X before ys after
Row-then {X = X} {before = b} {after = a} hs h e = subst (λ ys. Row X b ys a) (sym e) (then hs h)

pub ruleset steps = (Listed-one, Listed-more)
