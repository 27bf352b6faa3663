-- The value of an option, as it is kept.
use Rattle.std.specs.Prelude.{ℕ, List, codes, if◌then◌else◌}
use Rattle.std.specs.Str.{str_eq_ignore_ascii_case}
use Rattle.sr_base.specs.declared.value.Value.{Value}
use Rattle.sr_base.specs.declared.value.Value.TheVariants as value

-- the texts On and Off are spelled so, without regard to the case in which their letters were written
abbrev pub settled_text : List ℕ → List ℕ
settled_text text = if str_eq_ignore_ascii_case text (codes "On") then codes "On" else if str_eq_ignore_ascii_case text (codes "Off") then codes "Off" else text

-- every other value stays
abbrev pub settled : Value → Value
settled (value.Str text) = value.Str (settled_text text)
settled v = v
