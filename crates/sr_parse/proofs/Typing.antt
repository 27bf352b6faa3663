-- Readers of the kind of a column.
use Rattle.std.proofs.Common.{arith, pos, ◌≡◌, ℕ, [], ◌∷◌, Result, Ok, Err, refl, sym, subst, ap, ◌∙◌}
use Rattle.sr_base.specs.declared.value.Kind.{Kind}
use Rattle.sr_base.specs.declared.value.Kind.TheVariants as kind
use Rattle.sr_ast.specs.declared.keyword.Keyword.{Keyword}
use Rattle.sr_ast.specs.declared.keyword.Keyword.TheVariants as key
use Rattle.sr_parse_grammar.specs.declared.symbol.Sign.TheVariants as mark
use Rattle.sr_parse_grammar.specs.declared.symbol.Symbol.TheVariants as symbol
use Rattle.sr_parse_reader.specs.declared.reader.Broken.{Broken}
use Rattle.sr_parse_reader.specs.declared.reader.Broken.TheVariants.{Refused}
use Rattle.sr_parse_grammar.specs.Symbols.{Symbols, first, word, IsWord}
use Rattle.sr_parse_grammar.specs.Inner.Symbols.{behind}
use Rattle.sr_parse_grammar.specs.Catalog.{IsLength, IsKind}
use Rattle.sr_parse_reader.specs.Inner.Reading.{Reading, Anywhere, mapped}
use Rattle.sr_parse_reader.specs.Inner.Productions.{Word, Mark}
use Rattle.sr_parse_grammar.proofs.Cataloguing.{kind_once}
use Rattle.sr_parse.proofs.Kinded.{kind_varchar}
use Rattle.sr_parse_reader.proofs.Parts.{Seq, Sample, cast}
use Rattle.sr_parse_reader.proofs.Starts.{meant_one, standing, one_read, none_read, lacks}

-- the number 1
pub length_sample : Sample IsLength
length_sample = record {
  more = symbol.Number (pos 1) ∷ [];
  meant = (meant_one, tt);
  value = 1;
  spells = λ after. record { number = refl; least = omega arith; most = omega arith };
}

pub length_read : {before here : Symbols} {n : ℕ} → IsLength before n here → Reading IsLength Anywhere before here (Ok n)
length_read {n = n} h = one_read IsLength Anywhere (symbol.Number (pos n)) h.number (λ after. record { number = refl; least = h.least; most = h.most }) (λ there y rest k. let e = k.number in (cc, cc))

pub length_missed : {before here : Symbols} → here ≡ before → ((n : ℕ) (rest : Symbols) → IsLength before n rest → ⊥) → Reading IsLength Anywhere before here (Err Refused)
length_missed {before = before} e absent = none_read IsLength Anywhere e length_sample
    (λ there alike n rest h p. absent n (behind before) (record { number = standing before (alike ∙ ap first h.number); least = h.least; most = h.most }))

-- a kind that is one word
pub kind_read : (k : Kind) (w : Keyword) {before here : Symbols} → ((after : Symbols) → IsKind (word w ∷ after) k after) → IsWord before w here → Reading IsKind Anywhere before here (Ok k)
kind_read k w spells e = one_read IsKind Anywhere (word w) e spells (λ there y rest h. kind_once (word w ∷ there) (word w ∷ there) k there y rest refl (spells there) h)

abbrev pub VarcharParts : Symbols → Unit {0} × (Unit {0} × (ℕ × Unit {0})) → Symbols → Type 0
VarcharParts = Seq (Word key.Varchar) (Seq (Mark mark.Open) (Seq IsLength (Mark mark.Close)))

abbrev pub varchar_of : Unit {0} × (Unit {0} × (ℕ × Unit {0})) → Kind
varchar_of p = kind.Varchar p.1.1.0

-- without the other words it is a VARCHAR
pub varchar_read : {before after_integer after_int after_bigint from here : Symbols} {r : Result (Unit {0} × (Unit {0} × (ℕ × Unit {0}))) Broken} → after_integer ≡ before → after_int ≡ after_integer → after_bigint ≡ after_int → from ≡ after_bigint
    → ((rest : Symbols) → IsWord before key.Integer rest → ⊥) → ((rest : Symbols) → IsWord after_integer key.Int rest → ⊥)
    → ((rest : Symbols) → IsWord after_int key.Bigint rest → ⊥) → ((rest : Symbols) → IsWord after_bigint key.Date rest → ⊥)
    → Reading VarcharParts Anywhere from here r → Reading IsKind Anywhere before here (mapped varchar_of r)
varchar_read {before = before} {after_integer = after_integer} {after_int = after_int} {after_bigint = after_bigint} {from = from} {here = here} {r = r} p q s t integer int big date h =
    let one : after_int ≡ before = q ∙ p in
    let two : after_bigint ≡ before = s ∙ one in
    let read : Reading VarcharParts Anywhere before here r = subst (λ (b : Symbols). Reading VarcharParts Anywhere b here r) (t ∙ two) h in
    cast (record {
      to = λ b x a h. record { inside = h.2.0; close = h.2.2.0; opened = h.1 ∙ ap (λ (l : Symbols). word key.Varchar ∷ l) h.2.1; length = h.2.2.1; closed = h.2.2.2 };
      back = λ b y a alike h i.
          let v = kind_varchar refl refl refl refl (λ rest w. lacks alike integer w) (λ rest w. lacks (ap first p ∙ alike) int w) (λ rest w. lacks (ap first one ∙ alike) big w) (λ rest w. lacks (ap first two ∙ alike) date w) y a h in
          let is = v.2 in
          ((tt, (tt, (v.0, tt))), (_, is.opened, (is.inside, refl, (is.close, is.length, is.closed))), tt, sym v.1);
    }) read
