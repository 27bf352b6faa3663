use Rattle.std.proofs.Common.{rules, ◌≡◌, ◌∙◌}
use Rattle.sr_parse_grammar.proofs.Columns.{table_same, normals_once}
use Rattle.std.proofs.Common.{[], refl}
use Rattle.sr_parse_grammar.specs.declared.symbol.Sign.TheVariants as mark
use Rattle.sr_parse_grammar.specs.Tables.{IsTable}
use Rattle.sr_parse_reader.specs.Inner.Productions.{Mark}
use Rattle.sr_parse_reader.proofs.Parts.{then, first_fails, goes_first, recast, handed, no_memory, valued}
use Rattle.sr_parse_reader.proofs.Starts.{sign_sample}
use Rattle.sr_parse.proofs.Keyings.{table_of, table_to, table_back, normals_are, keyed_closed_sample, keyed_close}
use Rattle.sr_parse.proofs.creating.create_table.Goals as goal

pub returns-in_err-name-clause-reads : goal.returns-in_err-name-clause-reads
returns-in_err-name-clause-reads c = handed _ (recast IsTable table_of table_to table_back (first_fails _ _ (λ b y a h q. tt) (goes_first (Mark mark.Open) _ [] (sign_sample mark.Open) keyed_closed_sample) c.in_err-name.ensures.reads)) (search rules)

pub returns-in_err-sign-clause-reads : goal.returns-in_err-sign-clause-reads
returns-in_err-sign-clause-reads c = handed _ (recast IsTable table_of table_to table_back (then (λ b y a h q. tt) c.in_ok-name.ensures.reads (first_fails _ _ (λ b y a h q. tt) keyed_closed_sample c.in_err-sign.ensures.reads))) (search rules)

pub returns-in_err-written-clause-reads : goal.returns-in_err-written-clause-reads
returns-in_err-written-clause-reads c = handed _ (recast IsTable table_of table_to table_back (then (λ b y a h q. tt) c.in_ok-name.ensures.reads (then (λ b y a h q. tt) c.in_ok-sign.ensures.reads (first_fails _ _ keyed_close (sign_sample mark.Close) c.in_err-written.ensures.reads)))) (search rules)

pub returns-in_err-sign-2-clause-reads : goal.returns-in_err-sign-2-clause-reads
returns-in_err-sign-2-clause-reads c = handed _ (recast IsTable table_of table_to table_back (then (λ b y a h q. tt) c.in_ok-name.ensures.reads (then (λ b y a h q. tt) c.in_ok-sign.ensures.reads (then keyed_close c.in_ok-written.ensures.reads c.in_err-sign-2.ensures.reads)))) (search rules)

pub returns-in_err-columns-clause-reads : goal.returns-in_err-columns-clause-reads
returns-in_err-columns-clause-reads c = no_memory _ (search rules)

pub returns-clause-reads : goal.returns-clause-reads
returns-clause-reads c =
    let k : c.as_slice.result.now ≡ c.in_ok-written.key.items = search rules in
    let a : c.from_vec.result ≡ c.in_ok-columns.columns.items = search rules in
    let b : c.from_vec-2.result ≡ c.in_ok-written.key.items = search rules in
    valued (table_same _ _ refl (a ∙ normals_once _ _ _ _ _ _ k refl c.in_ok-columns.ensures.normal (normals_are _ _)) b) (recast IsTable table_of table_to table_back (then (λ b y a h q. tt) c.in_ok-name.ensures.reads (then (λ b y a h q. tt) c.in_ok-sign.ensures.reads (then keyed_close c.in_ok-written.ensures.reads c.in_ok-sign-2.ensures.reads))))
