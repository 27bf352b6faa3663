use Rattle.std.proofs.Common.{ℕ, List, ap, ◌∙◌}
use Rattle.sr_catalog_schema.specs.Members.{column_name}
use Rattle.sr_catalog_schema.specs.Names.{named}
use Rattle.sr_catalog_triggers.specs.Triggers.{variable_name, alias_name}
use Rattle.sr_catalog_triggers.proofs.scope.TriggerScope.new.Goals as goal

pub invariant_of-result : goal.invariant_of-result
invariant_of-result c = (
  λ n. c.in_ok-variables.ensures.firsts n ∙ ap (named variable_name n) c.as_slice.ensures.items,
  λ n. c.in_ok-aliases.ensures.firsts n ∙ ap (named alias_name n) c.as_slice-2.ensures.items,
  λ n. c.in_ok-columns.ensures.firsts n ∙ ap (named column_name n) c.as_slice-3.ensures.items,
  λ n. c.in_ok-key.ensures.firsts n ∙ ap (named (λ (m : List ℕ). m) n) (c.as_slice-4.ensures.value ∙ c.in_ok-names.ensures),
)
