use Rattle.std.proofs.Common.{◌∙◌, ap₂}
use Rattle.clap.specs.Words.{with_rule}
use Rattle.dbremote_words.specs.Commands.{init_command}
use Rattle.dbremote_words.proofs.commands.init_command.Goals as goal

pub returns : goal.returns
unfolding init_command
returns c = record {
  app = c.in_ok-command-2.ensures.shape c.needed-2.ensures.own
      ∙ ap₂ with_rule (c.in_ok-command.ensures.shape c.needed.ensures.own ∙ ap₂ with_rule c.bare.ensures.app c.needed.ensures.rule) c.needed-2.ensures.rule;
}
