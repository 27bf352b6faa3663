-- Which subscription a statement speaks of.
use Rattle.std.specs.Prelude.{Bool, true, false, ◌&&◌, cond, Option, Some, None, bytes_eq}
use Rattle.std.specs.Ordering.{eq_by_cmp}
use Rattle.sr_base.specs.Order.{value_cmp}
use Rattle.sr_base.specs.declared.value.Value.{Value}
use Rattle.sr_ast.specs.declared.create.SubscriptionRule.{SubscriptionRule}
use Rattle.sr_catalog_schema.specs.declared.subscription.Subscription.{Subscription}

-- equal values; a subscription with the value NULL and one without a value are two
abbrev pub is_same_value : Option Value → Option Value → Bool
is_same_value None None = true
is_same_value None (Some w) = false
is_same_value (Some v) None = false
is_same_value (Some v) (Some w) = eq_by_cmp value_cmp v w

-- whether a subscription is the one of a statement
abbrev pub is_of : SubscriptionRule → Subscription → Bool
is_of r s = bytes_eq r.publication s.publication && (bytes_eq r.user s.user && is_same_value r.value s.value)

-- a subscription after START or STOP of one
abbrev pub marked : Bool → SubscriptionRule → Subscription → Subscription
marked started r s = cond (is_of r s) (record s { started = started }) s
