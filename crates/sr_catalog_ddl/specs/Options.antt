-- SET OPTION.
use Rattle.std.specs.Prelude.{ℕ, Bool, false, not, ◌||◌, List, codes, bytes_eq}
use Rattle.std.specs.Str.{str_eq_ignore_ascii_case}
use Rattle.sr_base.specs.declared.value.Value.{Value}
use Rattle.sr_base.specs.declared.value.Value.TheVariants as value
use Rattle.sr_ast.specs.declared.options.OptionRule.{OptionRule}
use Rattle.sr_catalog_schema.specs.Causes.{Causes, no_cause}
use Rattle.sr_catalog_schema.specs.Firsts.{where_true}
use Rattle.sr_catalog_schema.specs.declared.options.Options.{Options}

-- the option that there is
abbrev pub verify_all_columns : List ℕ
verify_all_columns = codes "verify_all_columns"

-- the text On, and the text Off, without regard to the case of their letters
abbrev pub is_on : Value → Bool
is_on (value.Str text) = str_eq_ignore_ascii_case text (codes "On")
is_on v = false

abbrev pub is_off : Value → Bool
is_off (value.Str text) = str_eq_ignore_ascii_case text (codes "Off")
is_off v = false

-- what speaks against SET OPTION: there is no option of this name; it is neither On nor Off
unfoldable pub set_option_causes : OptionRule → Causes
set_option_causes o = record no_cause {
  missing = where_true (not (bytes_eq o.name verify_all_columns)) o.name;
  bad_type = where_true (not (is_on o.value || is_off o.value)) o.name;
}

-- the options behind SET OPTION
abbrev pub options_set : OptionRule → Options → Options
options_set o options = record options { verifies = is_on o.value }
