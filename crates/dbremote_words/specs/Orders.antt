-- What words ask for.
use Rattle.std.specs.Prelude.{ℕ, Bool, not, List, [], ◌∷◌, ◌||◌, codes, if◌then◌else◌, Option, None, option_map}
use Rattle.std.specs.Option.{option_and_then}
use Rattle.std.specs.Str.{bytes_eq}
use Rattle.clap.specs.Words.{App, Row, Text}
use Rattle.dbremote_words.specs.Commands.{agent_command, demo_command, init_command, show_command, sql_command}
use Rattle.dbremote_words.specs.Given.{given_count, given_length, given_place, given_seed, given_user, is_set}
use Rattle.dbremote_words.specs.Words.{found}
use Rattle.dbremote_words.specs.declared.asked.Asked.{Asked}
use Rattle.dbremote_words.specs.declared.asked.Asked.TheVariants as asked
use Rattle.sr_agent.specs.declared.options.Options.{Options}
use Rattle.dbremote_command.specs.declared.order.Order.{Order}
use Rattle.dbremote_command.specs.declared.order.Order.TheVariants.{Init, Sql, Agent, Show}

abbrev pub init_from : List Row → Option Order
init_from rows = option_and_then (λ name. option_map (λ user. Init name user) (given_user rows)) (given_place (codes "NAME") rows)

abbrev pub sql_from : List Row → Option Order
sql_from rows = option_map (λ name. Sql name) (given_place (codes "NAME") rows)

abbrev pub show_from : List Row → Option Order
show_from rows = option_map (λ name. Show name) (given_place (codes "NAME") rows)

-- a pass is made where its flag is given, and where the other's is not
abbrev pub with_length : Bool → Bool → Bool → Bool → ℕ → Options
with_length receive send keep restart size = record {
  receive = receive || not send;
  send = send || not receive;
  purge = not keep;
  restart = restart;
  length = size;
}

abbrev pub options_from : List Row → Option Options
options_from rows = option_map (with_length (is_set (codes "r") rows) (is_set (codes "s") rows) (is_set (codes "p") rows) (is_set (codes "x") rows)) (given_length rows)

abbrev pub agent_from : List Row → Option Order
agent_from rows = option_and_then (λ name. option_and_then (λ mail. option_map (λ options. Agent name mail options) (options_from rows)) (given_place (codes "FOLDER") rows)) (given_place (codes "NAME") rows)

-- what is asked for by what a command finds in the words
abbrev pub ordered : (List Row → Option Order) → App → List Text → Option Order
ordered from command words = option_and_then from (found command words)

-- the first word names the command
abbrev pub order_by : Text → List Text → Option Order
order_by first words =
    if bytes_eq first (codes "init") then ordered init_from init_command words
    else (if bytes_eq first (codes "sql") then ordered sql_from sql_command words
    else (if bytes_eq first (codes "agent") then ordered agent_from agent_command words
    else (if bytes_eq first (codes "show") then ordered show_from show_command words else None)))

abbrev pub demo_from : List Row → Option Asked
demo_from rows = option_and_then (λ seed. option_map (λ count. asked.Demo seed count) (given_count rows)) (given_seed rows)

-- `demo` is no order on a database
abbrev pub asked_by : Text → List Text → Option Asked
asked_by first words =
    if bytes_eq first (codes "demo") then option_and_then demo_from (found demo_command words)
    else option_map (λ order. asked.Order order) (order_by first words)

-- what words ask for; none where they are refused
abbrev pub asked_of : List Text → Option Asked
asked_of [] = None
asked_of (first ∷ words) = asked_by first (first ∷ words)
