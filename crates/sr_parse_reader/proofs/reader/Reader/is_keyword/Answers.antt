use Rattle.std.proofs.Common.{rules, ◌≡◌, sym, ◌∙◌, true}
use denote.Enum.Bare.{same_true}
use Rattle.sr_ast.specs.contracts.keyword.Keyword.{the_type}
use Rattle.sr_parse_reader.proofs.reader.Reader.is_keyword.Goals as goal

pub returns-in-Some-Keyword-clause-found : goal.returns-in-Some-Keyword-clause-found
returns-in-Some-Keyword-clause-found c =
    λ t. let is : c.eq.result ≡ true = search rules in
    let same = same_true the_type tt c.in-Some-Keyword.keyword c.args.wanted (sym c.eq.ensures ∙ is) in
    search rules
