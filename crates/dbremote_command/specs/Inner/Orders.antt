-- What orders may be.
use Rattle.std.specs.Prelude.{◌||◌, ⊤, IsTrue}
use Rattle.sr_mail_cut.specs.Inner.Cuts.{IsMessageLimit}
use Rattle.sr_agent.specs.declared.options.Options.{Options}
use Rattle.dbremote_command.specs.declared.order.Order.{Order}
use Rattle.dbremote_command.specs.declared.order.Order.TheVariants.{Init, Sql, Agent, Show}

-- what options may be: one pass at least is made, and a message has a length that it may have
pub record MayRun (options : Options) : Type 0 where
  pub some_pass : IsTrue (options.receive || options.send)
  pub limit : IsMessageLimit options.length

abbrev pub MayOrder : Order → Type 0
MayOrder (Init name user) = ⊤
MayOrder (Sql name) = ⊤
MayOrder (Show name) = ⊤
MayOrder (Agent name mail options) = MayRun options
