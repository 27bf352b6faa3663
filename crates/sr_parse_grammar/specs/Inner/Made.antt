-- A column, a grant and an option, made of their parts.
use Rattle.std.specs.Prelude.{ℕ, Bool, List, Option}
use Rattle.sr_base.specs.declared.value.Kind.{Kind}
use Rattle.sr_base.specs.declared.value.Value.{Value}
use Rattle.sr_ast.specs.declared.create.ColumnRule.{ColumnRule}
use Rattle.sr_ast.specs.declared.create.Grant.{Grant}
use Rattle.sr_ast.specs.declared.options.OptionRule.{OptionRule}

-- the rule of a column: its name, its kind, and whether it is NOT NULL
abbrev pub column_of : List ℕ → Kind → Bool → ColumnRule
column_of name kind not_null = record { name = name; kind = kind; not_null = not_null }

-- what stands behind GRANT REMOTE TO: the user, and the address where one is given
abbrev pub grant_of : List ℕ → Option (List ℕ) → Grant
grant_of user address = record { user = user; address = address }

-- what stands behind SET: the option, and the value that it gets
abbrev pub option_of : List ℕ → Value → OptionRule
option_of name value = record { name = name; value = value }
