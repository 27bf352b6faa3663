use Rattle.std.proofs.Common.{rules}
use Rattle.std.proofs.Common.{[]}
use Rattle.sr_parse_grammar.specs.declared.symbol.Sign.TheVariants as mark
use Rattle.sr_parse_grammar.specs.Catalog.{IsPublication}
use Rattle.sr_parse_reader.specs.Inner.Productions.{Mark}
use Rattle.sr_parse_reader.proofs.Parts.{then, first_fails, goes_first, recast, handed}
use Rattle.sr_parse_reader.proofs.Starts.{sign_sample}
use Rattle.sr_parse.proofs.Articles.{publication_of, publication_to, publication_back, articles_closed_sample, articles_close}
use Rattle.sr_parse.proofs.creating.create_publication.Goals as goal

pub returns-in_err-name-clause-reads : goal.returns-in_err-name-clause-reads
returns-in_err-name-clause-reads c = handed _ (recast IsPublication publication_of publication_to publication_back (first_fails _ _ (λ b y a h q. tt) (goes_first (Mark mark.Open) _ [] (sign_sample mark.Open) articles_closed_sample) c.in_err-name.ensures.reads)) (search rules)

pub returns-in_err-sign-clause-reads : goal.returns-in_err-sign-clause-reads
returns-in_err-sign-clause-reads c = handed _ (recast IsPublication publication_of publication_to publication_back (then (λ b y a h q. tt) c.in_ok-name.ensures.reads (first_fails _ _ (λ b y a h q. tt) articles_closed_sample c.in_err-sign.ensures.reads))) (search rules)

pub returns-in_err-articles-clause-reads : goal.returns-in_err-articles-clause-reads
returns-in_err-articles-clause-reads c = handed _ (recast IsPublication publication_of publication_to publication_back (then (λ b y a h q. tt) c.in_ok-name.ensures.reads (then (λ b y a h q. tt) c.in_ok-sign.ensures.reads (first_fails _ _ articles_close (sign_sample mark.Close) c.in_err-articles.ensures.reads)))) (search rules)

pub returns-in_err-sign-2-clause-reads : goal.returns-in_err-sign-2-clause-reads
returns-in_err-sign-2-clause-reads c = handed _ (recast IsPublication publication_of publication_to publication_back (then (λ b y a h q. tt) c.in_ok-name.ensures.reads (then (λ b y a h q. tt) c.in_ok-sign.ensures.reads (then articles_close c.in_ok-articles.ensures.reads c.in_err-sign-2.ensures.reads)))) (search rules)

pub returns-clause-reads : goal.returns-clause-reads
returns-clause-reads c = recast IsPublication publication_of publication_to publication_back (then (λ b y a h q. tt) c.in_ok-name.ensures.reads (then (λ b y a h q. tt) c.in_ok-sign.ensures.reads (then articles_close c.in_ok-articles.ensures.reads c.in_ok-sign-2.ensures.reads)))
