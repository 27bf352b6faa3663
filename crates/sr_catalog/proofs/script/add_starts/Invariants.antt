use Rattle.std.proofs.Common.{◌≡◌, ◌++◌, length, map}
use Rattle.std.specs.Prelude.{filter}
use Rattle.sr_ast.specs.Layout.{printed}
use Rattle.sr_catalog_script_laws.specs.Scripts.{start_of}
use Rattle.sr_catalog.proofs.script.add_starts.Given as goal

abbrev pub invariant-subscriptions : goal.invariant-subscriptions
invariant-subscriptions l =
    l.texts.items ++ map printed (map start_of (filter (λ s. s.started) l.rest))
    ≡ l.fn.texts.items ++ map printed (map start_of (filter (λ s. s.started) l.subscriptions))

abbrev pub decreases-subscriptions : goal.decreases-subscriptions
decreases-subscriptions l = length l.rest
