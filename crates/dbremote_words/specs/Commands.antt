-- The clap command of each order: exactly the arguments of its usage line, without help or version.
use Rattle.std.specs.Prelude.{ℕ, true, List, [], ◌∷◌, Some, codes}
use Rattle.clap.specs.Words.{App, Rule, Text, new_rule}
use Rattle.clap.specs.Simple.{new_shape}
use Rattle.clap.specs.declared.builder.action.ArgAction.TheVariants.{SetTrue}

abbrev pub command_of : Text → List Rule → App
command_of name arguments = record {
  top = record (new_shape name) { rules = arguments; disable_help_flag = true; disable_version_flag = true };
  subs = [];
}

-- an argument that must be there, at its place
abbrev pub needed : Text → Rule
needed id = record (new_rule id) { required = true }

-- `--mail FOLDER`, which must be there
abbrev pub folder : Rule
folder = record (new_rule (codes "FOLDER")) { long = Some (codes "mail"); required = true }

-- a flag of one letter
abbrev pub flag : Text → ℕ → Rule
flag id letter = record (new_rule id) { short = Some letter; action = Some SetTrue }

-- `-l N`
abbrev pub length : Rule
length = record (new_rule (codes "N")) { short = Some 108 }

-- `init NAME USER`
unfoldable pub init_command : App
init_command = command_of (codes "init") (needed (codes "NAME") ∷ needed (codes "USER") ∷ [])

-- `sql NAME`
unfoldable pub sql_command : App
sql_command = command_of (codes "sql") (needed (codes "NAME") ∷ [])

-- `agent NAME --mail FOLDER [-r] [-s] [-p] [-x] [-l N]`: the letters are r (114), s (115), p (112) and x (120)
unfoldable pub agent_command : App
agent_command = command_of (codes "agent") (needed (codes "NAME") ∷ folder ∷ flag (codes "r") 114 ∷ flag (codes "s") 115 ∷ flag (codes "p") 112 ∷ flag (codes "x") 120 ∷ length ∷ [])

-- `show NAME`
unfoldable pub show_command : App
show_command = command_of (codes "show") (needed (codes "NAME") ∷ [])

-- `demo SEED COUNT`
unfoldable pub demo_command : App
demo_command = command_of (codes "demo") (needed (codes "SEED") ∷ needed (codes "COUNT") ∷ [])
