use Rattle.std.proofs.Common.{rules}
use Rattle.sr_ast.specs.declared.keyword.Keyword.TheVariants as key
use Rattle.sr_parse_reader.specs.Inner.Productions.{TwoWords}
use Rattle.sr_parse_reader.proofs.Parts.{then, first_fails, recast, handed}
use Rattle.sr_parse_reader.proofs.Starts.{word_sample}
use Rattle.sr_parse.proofs.Triggers.{two_to, two_back}
use Rattle.sr_parse.proofs.creating.resolve_update.Goals as goal

pub returns-in_err-keyword-clause-reads : goal.returns-in_err-keyword-clause-reads
returns-in_err-keyword-clause-reads c =
    handed _ (recast (TwoWords key.Resolve key.Update) (λ x. tt) (two_to key.Resolve key.Update) (two_back key.Resolve key.Update) (first_fails _ _ (λ b y a h q. tt) (word_sample key.Update) c.in_err-keyword.ensures.reads)) (search rules)

pub returns-in_err-keyword-2-clause-reads : goal.returns-in_err-keyword-2-clause-reads
returns-in_err-keyword-2-clause-reads c =
    handed _ (recast (TwoWords key.Resolve key.Update) (λ x. tt) (two_to key.Resolve key.Update) (two_back key.Resolve key.Update) (then (λ b y a h q. tt) c.in_ok-keyword.ensures.reads c.in_err-keyword-2.ensures.reads)) (search rules)

pub returns-clause-reads : goal.returns-clause-reads
returns-clause-reads c =
    recast (TwoWords key.Resolve key.Update) (λ x. tt) (two_to key.Resolve key.Update) (two_back key.Resolve key.Update) (then (λ b y a h q. tt) c.in_ok-keyword.ensures.reads c.in_ok-keyword-2.ensures.reads)
