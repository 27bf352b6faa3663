use Rattle.std.proofs.Common.{◌≡◌, true, Some, sym, ap, ◌∙◌}
use Rattle.std.specs.Cmp.{Equal-is}
use Rattle.std.specs.Option.{option_copied}
use Rattle.std.specs.Ordering.{is_eq}
use Rattle.sr_base.specs.Order.{value_cmp}
use Rattle.sr_base.proofs.Exact.{exact_values}
use Rattle.sr_exec_dml.proofs.applying.is_same_value.Goals as goal

pub returns-in-Some-Some : goal.returns-in-Some-Some
returns-in-Some-Some c = record {
  same = λ h.
      let v = c.in-Some-Some.value.now in
      let w = c.in-Some-Some.other.now in
      let tied : is_eq (value_cmp v w) ≡ true = sym (c.is_eq.ensures ∙ ap is_eq c.cmp.ensures) ∙ h in
      ap option_copied c.in-Some-Some.is-0 ∙ ap (λ x. Some x) (exact_values v w ((Equal-is (value_cmp v w)).0 tied)) ∙ sym (ap option_copied c.in-Some-Some.is-1);
}
