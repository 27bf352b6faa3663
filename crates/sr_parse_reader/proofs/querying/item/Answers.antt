use Rattle.std.proofs.Common.{rules, sym, ◌∙◌}
use Rattle.sr_ast.specs.declared.query.Item.TheVariants as item
use Rattle.sr_ast.specs.declared.keyword.Keyword.TheVariants as key
use Rattle.sr_parse_reader.proofs.Missing.{Item-sum, Item-min, Item-max}
use Rattle.sr_parse_reader.proofs.Parts.{handed}
use Rattle.sr_parse_reader.proofs.Optionals.{moved, lacking}
use Rattle.sr_parse_reader.proofs.Selections.{count_read, aggregate_read, value_read}
use Rattle.sr_parse_reader.proofs.querying.item.Goals as goal

pub returns-in_err-counted-clause-reads : goal.returns-in_err-counted-clause-reads
returns-in_err-counted-clause-reads c = handed _ (count_read (c.takes.ensures.found (search rules)) c.in_err-counted.ensures.reads) (search rules)

pub returns-then-takes-clause-reads : goal.returns-then-takes-clause-reads
returns-then-takes-clause-reads c = count_read (c.takes.ensures.found (search rules)) c.in_ok-counted.ensures.reads

pub returns-in_err-of-clause-reads : goal.returns-in_err-of-clause-reads
returns-in_err-of-clause-reads c = handed _ (aggregate_read key.Sum item.Sum (λ b x a h. h) (λ b n w x r h. Item-sum w x r h) (sym (c.takes.ensures.kept (search rules)) ∙ c.takes-2.ensures.found (search rules)) c.in_err-of.ensures.reads) (search rules)

pub returns-then-takes-2-clause-reads : goal.returns-then-takes-2-clause-reads
returns-then-takes-2-clause-reads c = aggregate_read key.Sum item.Sum (λ b x a h. h) (λ b n w x r h. Item-sum w x r h) (sym (c.takes.ensures.kept (search rules)) ∙ c.takes-2.ensures.found (search rules)) c.in_ok-of.ensures.reads

pub returns-in_err-of-2-clause-reads : goal.returns-in_err-of-2-clause-reads
returns-in_err-of-2-clause-reads c = handed _ (aggregate_read key.Min item.Min (λ b x a h. h) (λ b n w x r h. Item-min w x r h) (sym (c.takes-2.ensures.kept (search rules) ∙ c.takes.ensures.kept (search rules)) ∙ c.takes-3.ensures.found (search rules)) c.in_err-of-2.ensures.reads) (search rules)

pub returns-then-takes-3-clause-reads : goal.returns-then-takes-3-clause-reads
returns-then-takes-3-clause-reads c = aggregate_read key.Min item.Min (λ b x a h. h) (λ b n w x r h. Item-min w x r h) (sym (c.takes-2.ensures.kept (search rules) ∙ c.takes.ensures.kept (search rules)) ∙ c.takes-3.ensures.found (search rules)) c.in_ok-of-2.ensures.reads

pub returns-in_err-of-3-clause-reads : goal.returns-in_err-of-3-clause-reads
returns-in_err-of-3-clause-reads c = handed _ (aggregate_read key.Max item.Max (λ b x a h. h) (λ b n w x r h. Item-max w x r h) (sym (c.takes-3.ensures.kept (search rules) ∙ (c.takes-2.ensures.kept (search rules) ∙ c.takes.ensures.kept (search rules))) ∙ c.takes-4.ensures.found (search rules)) c.in_err-of-3.ensures.reads) (search rules)

pub returns-then-takes-4-clause-reads : goal.returns-then-takes-4-clause-reads
returns-then-takes-4-clause-reads c = aggregate_read key.Max item.Max (λ b x a h. h) (λ b n w x r h. Item-max w x r h) (sym (c.takes-3.ensures.kept (search rules) ∙ (c.takes-2.ensures.kept (search rules) ∙ c.takes.ensures.kept (search rules))) ∙ c.takes-4.ensures.found (search rules)) c.in_ok-of-3.ensures.reads

pub returns-in_err-value-clause-reads : goal.returns-in_err-value-clause-reads
returns-in_err-value-clause-reads c = handed _ (value_read (c.takes.ensures.absent (search rules)) (lacking (c.takes.ensures.kept (search rules)) (c.takes-2.ensures.absent (search rules))) (lacking (c.takes-2.ensures.kept (search rules) ∙ c.takes.ensures.kept (search rules)) (c.takes-3.ensures.absent (search rules))) (lacking (c.takes-3.ensures.kept (search rules) ∙ (c.takes-2.ensures.kept (search rules) ∙ c.takes.ensures.kept (search rules))) (c.takes-4.ensures.absent (search rules))) (moved (c.takes-4.ensures.kept (search rules) ∙ (c.takes-3.ensures.kept (search rules) ∙ (c.takes-2.ensures.kept (search rules) ∙ c.takes.ensures.kept (search rules)))) c.in_err-value.ensures.reads)) (search rules)

pub returns-clause-reads : goal.returns-clause-reads
returns-clause-reads c = value_read (c.takes.ensures.absent (search rules)) (lacking (c.takes.ensures.kept (search rules)) (c.takes-2.ensures.absent (search rules))) (lacking (c.takes-2.ensures.kept (search rules) ∙ c.takes.ensures.kept (search rules)) (c.takes-3.ensures.absent (search rules))) (lacking (c.takes-3.ensures.kept (search rules) ∙ (c.takes-2.ensures.kept (search rules) ∙ c.takes.ensures.kept (search rules))) (c.takes-4.ensures.absent (search rules))) (moved (c.takes-4.ensures.kept (search rules) ∙ (c.takes-3.ensures.kept (search rules) ∙ (c.takes-2.ensures.kept (search rules) ∙ c.takes.ensures.kept (search rules)))) c.in_ok-value.ensures.reads)
