-- Readers of what an option is set to.
use Rattle.std.proofs.Common.{refl, sym, Result, List, ℕ}
use Rattle.sr_base.specs.declared.value.Value.{Value}
use Rattle.sr_ast.specs.Options.{settled}
use Rattle.sr_ast.specs.declared.keyword.Keyword.TheVariants as key
use Rattle.sr_parse_grammar.specs.declared.symbol.Sign.TheVariants as mark
use Rattle.sr_parse_grammar.specs.Symbols.{Symbols, IsName}
use Rattle.sr_parse_grammar.specs.Parts.{IsBehind, IsBehindSign, Seq}
use Rattle.sr_parse_grammar.specs.Catalog.{IsSigned, IsKeptValue, IsOptionRule}
use Rattle.sr_parse_grammar.proofs.Optioned.{option_of}
use Rattle.sr_parse_reader.specs.declared.reader.Broken.{Broken}
use Rattle.sr_parse_reader.specs.Inner.Reading.{Reading, Anywhere, mapped}
use Rattle.sr_parse_reader.proofs.Parts.{recast, whole_read}

pub kept_read : {before here : Symbols} {r : Result Value Broken} → Reading IsSigned Anywhere before here r → Reading IsKeptValue Anywhere before here (mapped settled r)
kept_read r = recast IsKeptValue settled (λ b x a h. (x, h, refl)) (λ b y a h. (h.0, h.1, sym h.2)) r

pub option_read : {before here : Symbols} {r : Result (List ℕ × Value) Broken} → Reading (IsBehind key.Option (Seq IsName (IsBehindSign mark.Equal IsKeptValue))) Anywhere before here r → Reading IsOptionRule Anywhere before here (mapped option_of r)
option_read r = whole_read (λ o. (o.name, o.value)) option_of (λ o. refl) (λ p. refl) r
