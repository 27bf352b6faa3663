-- The kind of a column, as a reader goes through it.
use Rattle.std.proofs.Common.{◌≡◌, ℕ, refl, sym, subst, ◌∙◌, inl, inr}
use Rattle.sr_base.specs.declared.value.Kind.{Kind}
use Rattle.sr_base.specs.declared.value.Kind.TheVariants as kind
use Rattle.sr_ast.specs.declared.keyword.Keyword.TheVariants as key
use Rattle.sr_parse_grammar.specs.Symbols.{Symbols, IsWord}
use Rattle.sr_parse_grammar.specs.Catalog.{IsKind, IsVarchar}

-- where none of the other words stood, a kind is VARCHAR
pub kind_varchar : {start after_integer after_int after_bigint here : Symbols} → after_integer ≡ start → after_int ≡ after_integer → after_bigint ≡ after_int → here ≡ after_bigint
    → ((rest : Symbols) → IsWord start key.Integer rest → ⊥) → ((rest : Symbols) → IsWord after_integer key.Int rest → ⊥)
    → ((rest : Symbols) → IsWord after_int key.Bigint rest → ⊥) → ((rest : Symbols) → IsWord after_bigint key.Date rest → ⊥)
    → (x : Kind) (rest : Symbols) → IsKind start x rest → (n : ℕ) × (x ≡ kind.Varchar n) × IsVarchar here n rest
kind_varchar p q r s integer int big date kind.Int rest (inl w) = absurd (integer rest w)
kind_varchar p q r s integer int big date kind.Int rest (inr w) = absurd (int rest (p ∙ w))
kind_varchar p q r s integer int big date kind.Big rest w = absurd (big rest (q ∙ (p ∙ w)))
kind_varchar p q r s integer int big date (kind.Varchar n) rest h = (n, refl, subst (λ (b : Symbols). IsVarchar b n rest) (sym (s ∙ (r ∙ (q ∙ p)))) h)
kind_varchar p q r s integer int big date kind.Date rest w = absurd (date rest (r ∙ (q ∙ (p ∙ w))))
