-- What `agent` does.
-- Here is what no contract of the program says by itself.
use Rattle.std.specs.Prelude.{ℕ, List, Ok}
use Rattle.sr_agent.specs.declared.options.Options.{Options}
use Rattle.dbremote_command.specs.Outside.{Outside}
use Rattle.dbremote_command.specs.Agents.{AgentRan}

-- it ran to its end
abbrev pub AgentRanSome : List ℕ → List ℕ → Options → Outside → Outside → ℕ → Type 0
AgentRanSome name mail options old new count = AgentRan name mail options old new (Ok count)
