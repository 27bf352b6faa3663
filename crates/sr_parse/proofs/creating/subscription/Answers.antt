use Rattle.std.proofs.Common.{rules, [], refl}
use Rattle.sr_parse_grammar.specs.Inner.Going.{is_open}
use Rattle.sr_parse_grammar.proofs.Steps.{Stop-at}
use Rattle.sr_ast.specs.declared.keyword.Keyword.TheVariants as key
use Rattle.sr_parse_grammar.specs.Catalog.{IsSubscription}
use Rattle.sr_parse_reader.specs.Inner.Productions.{Word}
use Rattle.sr_parse.proofs.Grants.{subscription_of, subscription_to, subscription_back, for_sample, valued_sample, published_sample}
use Rattle.sr_parse_reader.proofs.Parts.{then, first_fails, goes_first, recast, handed}
use Rattle.sr_parse_reader.proofs.Starts.{word_sample, name_sample}
use Rattle.sr_parse.proofs.creating.subscription.Goals as goal

pub returns-in_err-keyword-clause-reads : goal.returns-in_err-keyword-clause-reads
returns-in_err-keyword-clause-reads c = handed _ (recast IsSubscription subscription_of subscription_to subscription_back (first_fails _ _ (λ b y a h q. tt) (goes_first (Word key.To) _ [] (word_sample key.To) published_sample) c.in_err-keyword.ensures.reads)) (search rules)

pub returns-in_err-keyword-2-clause-reads : goal.returns-in_err-keyword-2-clause-reads
returns-in_err-keyword-2-clause-reads c = handed _ (recast IsSubscription subscription_of subscription_to subscription_back (then (λ b y a h q. tt) c.in_ok-keyword.ensures.reads (first_fails _ _ (λ b y a h q. tt) published_sample c.in_err-keyword-2.ensures.reads))) (search rules)

pub returns-in_err-publication-clause-reads : goal.returns-in_err-publication-clause-reads
returns-in_err-publication-clause-reads c = handed _ (recast IsSubscription subscription_of subscription_to subscription_back (then (λ b y a h q. tt) c.in_ok-keyword.ensures.reads (then (λ b y a h q. tt) c.in_ok-keyword-2.ensures.reads (first_fails _ _ (λ b y a h q. tt) valued_sample c.in_err-publication.ensures.reads)))) (search rules)

pub returns-in_err-value-clause-reads : goal.returns-in_err-value-clause-reads
returns-in_err-value-clause-reads c = handed _ (recast IsSubscription subscription_of subscription_to subscription_back (then (λ b y a h q. tt) c.in_ok-keyword.ensures.reads (then (λ b y a h q. tt) c.in_ok-keyword-2.ensures.reads (then (λ b y a h q. tt) c.in_ok-publication.ensures.reads (first_fails _ _ (λ b y a h q. Stop-at is_open h.1 refl) for_sample c.in_err-value.ensures.reads))))) (search rules)

pub returns-in_err-keyword-3-clause-reads : goal.returns-in_err-keyword-3-clause-reads
returns-in_err-keyword-3-clause-reads c = handed _ (recast IsSubscription subscription_of subscription_to subscription_back (then (λ b y a h q. tt) c.in_ok-keyword.ensures.reads (then (λ b y a h q. tt) c.in_ok-keyword-2.ensures.reads (then (λ b y a h q. tt) c.in_ok-publication.ensures.reads (then (λ b y a h q. Stop-at is_open h.1 refl) c.in_ok-value.ensures.reads (first_fails _ _ (λ b y a h q. tt) name_sample c.in_err-keyword-3.ensures.reads)))))) (search rules)

pub returns-in_err-user-clause-reads : goal.returns-in_err-user-clause-reads
returns-in_err-user-clause-reads c = handed _ (recast IsSubscription subscription_of subscription_to subscription_back (then (λ b y a h q. tt) c.in_ok-keyword.ensures.reads (then (λ b y a h q. tt) c.in_ok-keyword-2.ensures.reads (then (λ b y a h q. tt) c.in_ok-publication.ensures.reads (then (λ b y a h q. Stop-at is_open h.1 refl) c.in_ok-value.ensures.reads (then (λ b y a h q. tt) c.in_ok-keyword-3.ensures.reads c.in_err-user.ensures.reads)))))) (search rules)

pub returns-clause-reads : goal.returns-clause-reads
returns-clause-reads c = recast IsSubscription subscription_of subscription_to subscription_back (then (λ b y a h q. tt) c.in_ok-keyword.ensures.reads (then (λ b y a h q. tt) c.in_ok-keyword-2.ensures.reads (then (λ b y a h q. tt) c.in_ok-publication.ensures.reads (then (λ b y a h q. Stop-at is_open h.1 refl) c.in_ok-value.ensures.reads (then (λ b y a h q. tt) c.in_ok-keyword-3.ensures.reads c.in_ok-user.ensures.reads)))))
