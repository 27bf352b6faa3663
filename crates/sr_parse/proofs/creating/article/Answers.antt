use Rattle.std.proofs.Common.{rules}
use Rattle.sr_parse_grammar.specs.Catalog.{IsArticle}
use Rattle.sr_parse_reader.proofs.Parts.{then, first_fails, recast, handed}
use Rattle.sr_parse.proofs.Articles.{article_of, article_to, article_back, subscribed_sample, selected_sample, columned_sample, tabled_sample, columns_end, condition_end}
use Rattle.sr_parse.proofs.creating.article.Goals as goal

pub returns-in_err-keyword-clause-reads : goal.returns-in_err-keyword-clause-reads
returns-in_err-keyword-clause-reads c = handed _ (recast IsArticle article_of article_to article_back (first_fails _ _ (λ b y a h q. tt) tabled_sample c.in_err-keyword.ensures.reads)) (search rules)

pub returns-in_err-table-clause-reads : goal.returns-in_err-table-clause-reads
returns-in_err-table-clause-reads c = handed _ (recast IsArticle article_of article_to article_back (then (λ b y a h q. tt) c.in_ok-keyword.ensures.reads (first_fails _ _ (λ b y a h q. tt) columned_sample c.in_err-table.ensures.reads))) (search rules)

pub returns-in_err-columns-clause-reads : goal.returns-in_err-columns-clause-reads
returns-in_err-columns-clause-reads c = handed _ (recast IsArticle article_of article_to article_back (then (λ b y a h q. tt) c.in_ok-keyword.ensures.reads (then (λ b y a h q. tt) c.in_ok-table.ensures.reads (first_fails _ _ columns_end selected_sample c.in_err-columns.ensures.reads)))) (search rules)

pub returns-in_err-condition-clause-reads : goal.returns-in_err-condition-clause-reads
returns-in_err-condition-clause-reads c = handed _ (recast IsArticle article_of article_to article_back (then (λ b y a h q. tt) c.in_ok-keyword.ensures.reads (then (λ b y a h q. tt) c.in_ok-table.ensures.reads (then columns_end c.in_ok-columns.ensures.reads (first_fails _ _ condition_end subscribed_sample c.in_err-condition.ensures.reads))))) (search rules)

pub returns-in_err-by-clause-reads : goal.returns-in_err-by-clause-reads
returns-in_err-by-clause-reads c = handed _ (recast IsArticle article_of article_to article_back (then (λ b y a h q. tt) c.in_ok-keyword.ensures.reads (then (λ b y a h q. tt) c.in_ok-table.ensures.reads (then columns_end c.in_ok-columns.ensures.reads (then condition_end c.in_ok-condition.ensures.reads c.in_err-by.ensures.reads))))) (search rules)

pub returns-clause-reads : goal.returns-clause-reads
returns-clause-reads c = recast IsArticle article_of article_to article_back (then (λ b y a h q. tt) c.in_ok-keyword.ensures.reads (then (λ b y a h q. tt) c.in_ok-table.ensures.reads (then columns_end c.in_ok-columns.ensures.reads (then condition_end c.in_ok-condition.ensures.reads c.in_ok-by.ensures.reads))))
