use Rattle.std.proofs.Common.{rules, [], refl, inl, inr, sym, ◌∙◌}
use Rattle.sr_base.specs.declared.value.Kind.TheVariants as kind
use Rattle.sr_ast.specs.declared.keyword.Keyword.TheVariants as key
use Rattle.sr_parse_grammar.specs.declared.symbol.Sign.TheVariants as mark
use Rattle.sr_parse_grammar.specs.Catalog.{IsLength}
use Rattle.sr_parse_reader.specs.Inner.Productions.{Mark}
use Rattle.sr_parse.proofs.Typing.{kind_read, varchar_read, length_sample}
use Rattle.sr_parse_reader.proofs.Parts.{then, first_fails, goes_first, handed}
use Rattle.sr_parse_reader.proofs.Starts.{sign_sample}
use Rattle.sr_parse.proofs.creating.kind.Goals as goal

pub returns-then-takes-clause-reads : goal.returns-then-takes-clause-reads
returns-then-takes-clause-reads c = kind_read kind.Int key.Integer (λ after. inl refl) (c.takes.ensures.found (search rules))

pub returns-then-takes-2-clause-reads : goal.returns-then-takes-2-clause-reads
returns-then-takes-2-clause-reads c = kind_read kind.Int key.Int (λ after. inr refl) (sym (c.takes.ensures.kept (search rules)) ∙ c.takes-2.ensures.found (search rules))

pub returns-then-takes-3-clause-reads : goal.returns-then-takes-3-clause-reads
returns-then-takes-3-clause-reads c = kind_read kind.Big key.Bigint (λ after. refl) (sym (c.takes.ensures.kept (search rules)) ∙ (sym (c.takes-2.ensures.kept (search rules)) ∙ c.takes-3.ensures.found (search rules)))

pub returns-then-takes-4-clause-reads : goal.returns-then-takes-4-clause-reads
returns-then-takes-4-clause-reads c =
    kind_read kind.Date key.Date (λ after. refl) (sym (c.takes.ensures.kept (search rules)) ∙ (sym (c.takes-2.ensures.kept (search rules)) ∙ (sym (c.takes-3.ensures.kept (search rules)) ∙ c.takes-4.ensures.found (search rules))))

pub returns-in_err-keyword-clause-reads : goal.returns-in_err-keyword-clause-reads
returns-in_err-keyword-clause-reads c =
    handed _ (varchar_read (c.takes.ensures.kept (search rules)) (c.takes-2.ensures.kept (search rules)) (c.takes-3.ensures.kept (search rules)) (c.takes-4.ensures.kept (search rules))
    (c.takes.ensures.absent (search rules)) (c.takes-2.ensures.absent (search rules)) (c.takes-3.ensures.absent (search rules)) (c.takes-4.ensures.absent (search rules))
    (first_fails _ _ (λ b y a h q. tt) (goes_first (Mark mark.Open) _ [] (sign_sample mark.Open) (goes_first IsLength (Mark mark.Close) [] length_sample (sign_sample mark.Close))) c.in_err-keyword.ensures.reads)) (search rules)

pub returns-in_err-sign-clause-reads : goal.returns-in_err-sign-clause-reads
returns-in_err-sign-clause-reads c =
    handed _ (varchar_read (c.takes.ensures.kept (search rules)) (c.takes-2.ensures.kept (search rules)) (c.takes-3.ensures.kept (search rules)) (c.takes-4.ensures.kept (search rules))
    (c.takes.ensures.absent (search rules)) (c.takes-2.ensures.absent (search rules)) (c.takes-3.ensures.absent (search rules)) (c.takes-4.ensures.absent (search rules))
    (then (λ b y a h q. tt) c.in_ok-keyword.ensures.reads (first_fails _ _ (λ b y a h q. tt) (goes_first IsLength (Mark mark.Close) [] length_sample (sign_sample mark.Close)) c.in_err-sign.ensures.reads))) (search rules)

pub returns-in_err-length-clause-reads : goal.returns-in_err-length-clause-reads
returns-in_err-length-clause-reads c =
    handed _ (varchar_read (c.takes.ensures.kept (search rules)) (c.takes-2.ensures.kept (search rules)) (c.takes-3.ensures.kept (search rules)) (c.takes-4.ensures.kept (search rules))
    (c.takes.ensures.absent (search rules)) (c.takes-2.ensures.absent (search rules)) (c.takes-3.ensures.absent (search rules)) (c.takes-4.ensures.absent (search rules))
    (then (λ b y a h q. tt) c.in_ok-keyword.ensures.reads (then (λ b y a h q. tt) c.in_ok-sign.ensures.reads (first_fails _ _ (λ b y a h q. tt) (sign_sample mark.Close) c.in_err-length.ensures.reads)))) (search rules)

pub returns-in_err-sign-2-clause-reads : goal.returns-in_err-sign-2-clause-reads
returns-in_err-sign-2-clause-reads c =
    handed _ (varchar_read (c.takes.ensures.kept (search rules)) (c.takes-2.ensures.kept (search rules)) (c.takes-3.ensures.kept (search rules)) (c.takes-4.ensures.kept (search rules))
    (c.takes.ensures.absent (search rules)) (c.takes-2.ensures.absent (search rules)) (c.takes-3.ensures.absent (search rules)) (c.takes-4.ensures.absent (search rules))
    (then (λ b y a h q. tt) c.in_ok-keyword.ensures.reads (then (λ b y a h q. tt) c.in_ok-sign.ensures.reads (then (λ b y a h q. tt) c.in_ok-length.ensures.reads c.in_err-sign-2.ensures.reads)))) (search rules)

pub returns-clause-reads : goal.returns-clause-reads
returns-clause-reads c =
    varchar_read (c.takes.ensures.kept (search rules)) (c.takes-2.ensures.kept (search rules)) (c.takes-3.ensures.kept (search rules)) (c.takes-4.ensures.kept (search rules))
    (c.takes.ensures.absent (search rules)) (c.takes-2.ensures.absent (search rules)) (c.takes-3.ensures.absent (search rules)) (c.takes-4.ensures.absent (search rules))
    (then (λ b y a h q. tt) c.in_ok-keyword.ensures.reads (then (λ b y a h q. tt) c.in_ok-sign.ensures.reads (then (λ b y a h q. tt) c.in_ok-length.ensures.reads c.in_ok-sign-2.ensures.reads)))
