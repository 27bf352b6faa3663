use Rattle.std.proofs.Common.{rules, []}
use Rattle.sr_ast.specs.declared.keyword.Keyword.TheVariants as key
use Rattle.sr_parse_grammar.specs.declared.symbol.Sign.TheVariants as mark
use Rattle.sr_parse_grammar.specs.Tables.{IsKeyWords}
use Rattle.sr_parse_reader.specs.Inner.Productions.{Word}
use Rattle.sr_parse_reader.proofs.Parts.{then, first_fails, goes_first, recast, handed_mapped}
use Rattle.sr_parse_reader.proofs.Starts.{word_sample, sign_sample}
use Rattle.sr_parse_reader.proofs.Names.{NameParts, names_close, names_closed_sample}
use Rattle.sr_parse.proofs.Keyings.{key_of, key_to, key_back, name_parts_sample}
use Rattle.sr_parse.proofs.creating.key_list.Goals as goal

pub returns-in_err-keyword-clause-reads : goal.returns-in_err-keyword-clause-reads
returns-in_err-keyword-clause-reads c = handed_mapped _ _ (recast IsKeyWords key_of key_to key_back (first_fails _ _ (λ b y a h q. tt) (goes_first (Word key.Key) NameParts [] (word_sample key.Key) name_parts_sample) c.in_err-keyword.ensures.reads)) (search rules)

pub returns-in_err-keyword-2-clause-reads : goal.returns-in_err-keyword-2-clause-reads
returns-in_err-keyword-2-clause-reads c = handed_mapped _ _ (recast IsKeyWords key_of key_to key_back (then (λ b y a h q. tt) c.in_ok-keyword.ensures.reads (first_fails _ _ (λ b y a h q. tt) name_parts_sample c.in_err-keyword-2.ensures.reads))) (search rules)

pub returns-in_err-sign-clause-reads : goal.returns-in_err-sign-clause-reads
returns-in_err-sign-clause-reads c = handed_mapped _ _ (recast IsKeyWords key_of key_to key_back (then (λ b y a h q. tt) c.in_ok-keyword.ensures.reads (then (λ b y a h q. tt) c.in_ok-keyword-2.ensures.reads (first_fails _ _ (λ b y a h q. tt) names_closed_sample c.in_err-sign.ensures.reads)))) (search rules)

pub returns-in_err-names-clause-reads : goal.returns-in_err-names-clause-reads
returns-in_err-names-clause-reads c = handed_mapped _ _ (recast IsKeyWords key_of key_to key_back (then (λ b y a h q. tt) c.in_ok-keyword.ensures.reads (then (λ b y a h q. tt) c.in_ok-keyword-2.ensures.reads (then (λ b y a h q. tt) c.in_ok-sign.ensures.reads (first_fails _ _ names_close (sign_sample mark.Close) c.in_err-names.ensures.reads))))) (search rules)

pub returns-in_err-sign-2-clause-reads : goal.returns-in_err-sign-2-clause-reads
returns-in_err-sign-2-clause-reads c = handed_mapped _ _ (recast IsKeyWords key_of key_to key_back (then (λ b y a h q. tt) c.in_ok-keyword.ensures.reads (then (λ b y a h q. tt) c.in_ok-keyword-2.ensures.reads (then (λ b y a h q. tt) c.in_ok-sign.ensures.reads (then names_close c.in_ok-names.ensures.reads c.in_err-sign-2.ensures.reads))))) (search rules)

pub returns-clause-reads : goal.returns-clause-reads
returns-clause-reads c = recast IsKeyWords key_of key_to key_back (then (λ b y a h q. tt) c.in_ok-keyword.ensures.reads (then (λ b y a h q. tt) c.in_ok-keyword-2.ensures.reads (then (λ b y a h q. tt) c.in_ok-sign.ensures.reads (then names_close c.in_ok-names.ensures.reads c.in_ok-sign-2.ensures.reads))))
