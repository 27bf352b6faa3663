use Rattle.std.proofs.Common.{◌≡◌, ◌++◌, length, map}
use Rattle.sr_resolve_triggers.specs.Inner.Running.{behind_alias}
use Rattle.sr_resolve_triggers.proofs.running.aliases_behind.Given as goal

abbrev pub invariant-aliases : goal.invariant-aliases
invariant-aliases l = l.scopes.items ++ map (behind_alias l.table) l.rest ≡ map (behind_alias l.table) l.aliases

abbrev pub decreases-aliases : goal.decreases-aliases
decreases-aliases l = length l.rest
