-- Each command is one of which clap says in every case what it makes of words.
use Rattle.std.proofs.Common.{◌≡◌, true, ap}
use Rattle.clap.specs.Words.{App}
use Rattle.dbremote_words.specs.Inner.Words.{is_known}
use Rattle.dbremote_words.specs.Commands.{agent_command, demo_command, init_command, show_command, sql_command}

pub init_known : (command : App) → command ≡ init_command → is_known command ≡ true
unfolding is_known init_command
init_known command is = ap is_known is

pub sql_known : (command : App) → command ≡ sql_command → is_known command ≡ true
unfolding is_known sql_command
sql_known command is = ap is_known is

pub agent_known : (command : App) → command ≡ agent_command → is_known command ≡ true
unfolding is_known agent_command
agent_known command is = ap is_known is

pub show_known : (command : App) → command ≡ show_command → is_known command ≡ true
unfolding is_known show_command
show_known command is = ap is_known is

pub demo_known : (command : App) → command ≡ demo_command → is_known command ≡ true
unfolding is_known demo_command
demo_known command is = ap is_known is
