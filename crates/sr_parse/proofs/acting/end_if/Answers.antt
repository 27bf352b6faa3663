use Rattle.std.proofs.Common.{rules}
use Rattle.sr_ast.specs.declared.keyword.Keyword.TheVariants as key
use Rattle.sr_parse_reader.specs.Inner.Productions.{TwoWords}
use Rattle.sr_parse_reader.proofs.Parts.{then, first_fails, recast, handed}
use Rattle.sr_parse_reader.proofs.Starts.{word_sample}
use Rattle.sr_parse.proofs.Acted.{words_to, words_back}
use Rattle.sr_parse.proofs.acting.end_if.Goals as goal

pub returns-in_err-keyword-clause-reads : goal.returns-in_err-keyword-clause-reads
returns-in_err-keyword-clause-reads c = handed _ (recast (TwoWords key.End key.If) (λ p. tt) (words_to key.End key.If) (words_back key.End key.If) (first_fails _ _ (λ b y a h q. tt) (word_sample key.If) c.in_err-keyword.ensures.reads)) (search rules)

pub returns-in_err-keyword-2-clause-reads : goal.returns-in_err-keyword-2-clause-reads
returns-in_err-keyword-2-clause-reads c =
    handed _ (recast (TwoWords key.End key.If) (λ p. tt) (words_to key.End key.If) (words_back key.End key.If) (then (λ b y a h q. tt) c.in_ok-keyword.ensures.reads c.in_err-keyword-2.ensures.reads)) (search rules)

pub returns-clause-reads : goal.returns-clause-reads
returns-clause-reads c = recast (TwoWords key.End key.If) (λ p. tt) (words_to key.End key.If) (words_back key.End key.If) (then (λ b y a h q. tt) c.in_ok-keyword.ensures.reads c.in_ok-keyword-2.ensures.reads)
