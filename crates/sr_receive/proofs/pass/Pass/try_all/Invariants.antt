use Rattle.std.proofs.Common.{[]}
use Rattle.std.specs.Prelude.{Ok}
use Rattle.sr_receive.specs.Inner.Running.{KeepsLoans, Runs}
use Rattle.sr_receive.proofs.pass.Pass.try_all.Given as goal

-- windows were tried one after the other
abbrev pub invariant-windows : goal.invariant-windows
invariant-windows g l = record { ran : Runs g.S.Held.seen l.fn.self l.fn.inbox [] l.self l.inbox [] (Ok tt); loans : KeepsLoans l.fn.self l.self }
