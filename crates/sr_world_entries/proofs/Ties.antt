-- Keys and rows that compare as equal are one.
use Rattle.std.proofs.Common.{◌≡◌, ◌↔◌, Bool, List, IsTrue, sym, ap, ◌∙◌}
use Rattle.std.specs.Cmp.{Equal-is, tied_itself}
use Rattle.std.specs.Ordering.{is_eq}
use Rattle.sr_base.specs.declared.value.Value.{Value as Cell}
use Rattle.sr_base.specs.Order.{key_cmp}
use Rattle.sr_base.specs.Inner.Order.{key_cmp_total}
use Rattle.sr_base.proofs.Exact.{exact_keys}

pub same_where : (told : Bool) (a b : List Cell) → told ≡ is_eq (key_cmp a b) → IsTrue told ↔ (a ≡ b)
same_where told a b is = (
  λ h. exact_keys a b ((Equal-is (key_cmp a b)).0 (sym is ∙ h)),
  λ e. is ∙ ap is_eq (ap (key_cmp a) (sym e) ∙ tied_itself key_cmp_total a),
)
