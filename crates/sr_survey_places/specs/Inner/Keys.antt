-- Keys that places of a log are listed under, and their order.
use Rattle.std.specs.Prelude.{ℕ, Bool, true, false, List, []}
use Rattle.std.specs.Ordering.{nat_cmp, on, then_cmp, eq_by_cmp}
use Rattle.std.specs.declared.cmp.Ordering.{Ordering}
use Rattle.sr_base.specs.Order.{name_cmp, value_cmp}
use Rattle.sr_base.specs.declared.value.Value.{Value as Cell}
use Rattle.sr_base.specs.declared.value.Value.TheVariants.{Null}
use Rattle.sr_survey_places.specs.declared.key.Key.{Key}
use Rattle.sr_survey_places.specs.declared.key.Key.TheVariants.{Whole, Part, To, Text, From, Each}

-- rows are listed under it
abbrev pub is_shared : Key → Bool
is_shared (Whole p) = true
is_shared (Part p v) = true
is_shared (To u) = false
is_shared (Text u) = false
is_shared (From u) = false
is_shared Each = false

-- the place of its kind in the order
abbrev pub rank_of : Key → ℕ
rank_of (Whole p) = 0
rank_of (Part p v) = 1
rank_of (To u) = 2
rank_of (Text u) = 3
rank_of (From u) = 4
rank_of Each = 5

-- the publication or the user; no bytes where there is none
abbrev pub name_of : Key → List ℕ
name_of (Whole p) = p
name_of (Part p v) = p
name_of (To u) = u
name_of (Text u) = u
name_of (From u) = u
name_of Each = []

-- the value; NULL where there is none
abbrev pub value_of : Key → Cell
value_of (Whole p) = Null
value_of (Part p v) = v
value_of (To u) = Null
value_of (Text u) = Null
value_of (From u) = Null
value_of Each = Null

-- the order of keys: by their kind, their value and their name
abbrev pub key_cmp : Key → Key → Ordering
key_cmp = then_cmp (on rank_of nat_cmp) (then_cmp (on value_of value_cmp) (on name_of name_cmp))

-- whether two keys are one
abbrev pub key_eq : Key → Key → Bool
key_eq = eq_by_cmp key_cmp
