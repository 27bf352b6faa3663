-- What coded parts of a value's spelling mean together.
use Rattle.std.specs.Prelude.{◌≡◌, ℕ, zero, suc, ℤ, List, refl}
use Rattle.std.specs.Coded.{Coded, code_by, coded×, coded_ℕ, coded_ℤ, coded_list}
use Rattle.sr_base.specs.declared.value.Value.{Value}
use Rattle.sr_base.specs.declared.value.Value.TheVariants.{Null, Int, Big, Str, Date}
use Rattle.sr_base.specs.Order.{class_rank, number_of, bytes_of, width_of}

-- all that tells a value from another
abbrev pub Parts : Type 0
Parts = ℕ × ((ℤ × List ℕ) × ℕ)

abbrev pub parts : Value → Parts
parts v = (class_rank v, ((number_of v, bytes_of v), width_of v))

-- the value of these parts
abbrev pub value_of : ℕ → ℤ → List ℕ → ℕ → Value
value_of zero n t w = Null
value_of (suc zero) n t zero = Int n
value_of (suc zero) n t (suc w) = Big n
value_of (suc (suc zero)) n t w = Str t
value_of (suc (suc (suc c))) n t w = Date n

abbrev pub whole : Parts → Value
whole p = value_of p.0 p.1.0.0 p.1.0.1 p.1.1

pub whole-parts : (v : Value) → whole (parts v) ≡ v
whole-parts Null = refl
whole-parts (Int n) = refl
whole-parts (Big n) = refl
whole-parts (Str t) = refl
whole-parts (Date d) = refl

-- values as data: models of other crates hold them
abbrev pub coded_value : Coded Value
coded_value = code_by Parts (coded× coded_ℕ (coded× (coded× coded_ℤ (coded_list coded_ℕ)) coded_ℕ)) parts whole whole-parts
