use Rattle.std.proofs.Common.{rules}
use Rattle.std.proofs.lemmas.List.{nil_from_length}
use Rattle.sr_parse_reader.proofs.Parts.{then, first_fails, handed_mapped, no_memory_mapped}
use Rattle.sr_parse.proofs.Rulings.{typed_sample, rules_sample, column_read, column_missed, key_named, key_stays, with_key}
use Rattle.sr_parse.proofs.creating.column_rule.Goals as goal

pub returns-in_err-name-clause-reads : goal.returns-in_err-name-clause-reads
returns-in_err-name-clause-reads c = handed_mapped _ _ (column_missed (first_fails _ _ (λ b y a h q. tt) (typed_sample _) c.in_err-name.ensures.reads)) (search rules)

pub returns-in_err-kind-clause-reads : goal.returns-in_err-kind-clause-reads
returns-in_err-kind-clause-reads c = handed_mapped _ _ (column_missed (then (λ b y a h q. tt) c.in_ok-name.ensures.reads (first_fails _ _ (λ b y a h q. tt) (rules_sample _) c.in_err-kind.ensures.reads))) (search rules)

pub returns-in_err-rules-clause-reads : goal.returns-in_err-rules-clause-reads
returns-in_err-rules-clause-reads c = handed_mapped _ _ (column_read (λ e. nil_from_length _ (search rules)) (λ e. search rules) (then (λ b y a h q. tt) c.in_ok-name.ensures.reads (then (λ b y a h q. tt) c.in_ok-kind.ensures.reads c.in_err-rules.ensures.reads))) (search rules)

pub returns-in_err-key-clause-reads : goal.returns-in_err-key-clause-reads
returns-in_err-key-clause-reads c = no_memory_mapped _ _ (search rules)

pub returns-then-rules-clause-reads : goal.returns-then-rules-clause-reads
returns-then-rules-clause-reads c = with_key (key_named _ _ c.if-rules.true c.in_ok-key.ensures.items) (column_read (λ e. nil_from_length _ (search rules)) (λ e. search rules) (then (λ b y a h q. tt) c.in_ok-name.ensures.reads (then (λ b y a h q. tt) c.in_ok-kind.ensures.reads c.in_ok-rules.ensures.reads)))

pub returns-clause-reads : goal.returns-clause-reads
returns-clause-reads c = with_key (key_stays _ _ c.if-rules.false) (column_read (λ e. nil_from_length _ (search rules)) (λ e. search rules) (then (λ b y a h q. tt) c.in_ok-name.ensures.reads (then (λ b y a h q. tt) c.in_ok-kind.ensures.reads c.in_ok-rules.ensures.reads)))
