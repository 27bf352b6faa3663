-- What words ask for may be run.
use Rattle.std.proofs.Common.{◌≡◌, ◌≤◌, ◌&&◌, ℕ, Bool, true, false, not, List, [], ◌∷◌, Option, Some, None, refl, sym, subst, arith, nat_le, codes}
use Rattle.std.specs.Prelude.{IfSome, IsTrue, ◌||◌, if◌then◌else◌, option_map}
use Rattle.std.specs.Option.{option_and_then}
use Rattle.std.specs.Str.{bytes_eq}
use Rattle.std.proofs.lemmas.Bool.{leb-true}
use Rattle.clap.specs.Words.{App, Row, Text, first_of}
use Rattle.dbremote_words.specs.Commands.{agent_command, demo_command, init_command, show_command, sql_command}
use Rattle.dbremote_words.specs.Given.{given_count, given_length, given_place, given_seed, given_user, is_set, length_or_usual}
use Rattle.dbremote_words.specs.Numbers.{number_in, number_within, within}
use Rattle.dbremote_words.specs.Orders.{agent_from, asked_by, asked_of, demo_from, init_from, options_from, order_by, ordered, show_from, sql_from, with_length}
use Rattle.dbremote_words.specs.Inner.Orders.{MayAsk}
use Rattle.dbremote_words.specs.Words.{found}
use Rattle.dbremote_command.specs.Inner.Orders.{MayOrder, MayRun}
use Rattle.dbremote_words.specs.declared.asked.Asked.{Asked}
use Rattle.dbremote_words.specs.declared.asked.Asked.TheVariants as asked
use Rattle.sr_agent.specs.declared.options.Options.{Options}
use Rattle.dbremote_command.specs.declared.order.Order.{Order}
use Rattle.dbremote_command.specs.declared.order.Order.TheVariants.{Init, Sql, Agent, Show}

abbrev Fits : ℕ → Type 0
Fits size = (10000 ≤ size) × (size ≤ 1048576)

-- a number that is read is from the least to the most
within_fits : (least most number : ℕ) → IfSome (within least most number) (λ n. (least ≤ n) × (n ≤ most))
within_fits least most number = go (nat_le least number) (nat_le number most) (leb-true least number) (leb-true number most)
  where
    go : (low high : Bool) → (low ≡ true → least ≤ number) → (high ≡ true → number ≤ most) → IfSome (if low && high then Some number else None) (λ n. (least ≤ n) × (n ≤ most))
    go true true low high = (low refl, high refl)
    go true false low high = tt
    go false high low at = tt

pub number_fits : (least most : ℕ) (word : Text) → IfSome (number_within least most word) (λ n. (least ≤ n) × (n ≤ most))
number_fits least most word = go (number_in word)
  where
    go : (number : Option ℕ) → IfSome (option_and_then (within least most) number) (λ n. (least ≤ n) × (n ≤ most))
    go None = tt
    go (Some number) = within_fits least most number

usual_fits : (word : Option Text) → IfSome (length_or_usual word) Fits
usual_fits None = (omega arith, omega arith)
usual_fits (Some word) = number_fits 10000 1048576 word

some_pass : (receive send : Bool) → IsTrue ((receive || not send) || (send || not receive))
some_pass true send = refl
some_pass false true = refl
some_pass false false = refl

options_may : (rows : List Row) → IfSome (options_from rows) MayRun
options_may rows = go (is_set (codes "r") rows) (is_set (codes "s") rows) (is_set (codes "p") rows) (is_set (codes "x") rows) (given_length rows) (usual_fits (first_of (codes "N") rows))
  where
    go : (receive send keep restart : Bool) (size : Option ℕ) → IfSome size Fits → IfSome (option_map (with_length receive send keep restart) size) MayRun
    go receive send keep restart None fits = tt
    go receive send keep restart (Some size) fits = record { some_pass = some_pass receive send; limit = record { least = fits.0; most = fits.1 } }

agent_may : (rows : List Row) → IfSome (agent_from rows) MayOrder
agent_may rows = go (given_place (codes "NAME") rows) (given_place (codes "FOLDER") rows) (options_from rows) (options_may rows)
  where
    go : (name mail : Option Text) (options : Option Options) → IfSome options MayRun → IfSome (option_and_then (λ n. option_and_then (λ m. option_map (λ o. Agent n m o) options) mail) name) MayOrder
    go None mail options may = tt
    go (Some n) None options may = tt
    go (Some n) (Some m) None may = tt
    go (Some n) (Some m) (Some o) may = may

init_may : (rows : List Row) → IfSome (init_from rows) MayOrder
init_may rows = go (given_place (codes "NAME") rows) (given_user rows)
  where
    go : (name user : Option Text) → IfSome (option_and_then (λ n. option_map (λ u. Init n u) user) name) MayOrder
    go None user = tt
    go (Some n) None = tt
    go (Some n) (Some u) = tt

sql_may : (rows : List Row) → IfSome (sql_from rows) MayOrder
sql_may rows = go (given_place (codes "NAME") rows)
  where
    go : (name : Option Text) → IfSome (option_map (λ n. Sql n) name) MayOrder
    go None = tt
    go (Some n) = tt

show_may : (rows : List Row) → IfSome (show_from rows) MayOrder
show_may rows = go (given_place (codes "NAME") rows)
  where
    go : (name : Option Text) → IfSome (option_map (λ n. Show n) name) MayOrder
    go None = tt
    go (Some n) = tt

ordered_may : (from : List Row → Option Order) (command : App) (words : List Text) → ((rows : List Row) → IfSome (from rows) MayOrder) → IfSome (ordered from command words) MayOrder
ordered_may from command words may = go (found command words)
  where
    go : (rows : Option (List Row)) → IfSome (option_and_then from rows) MayOrder
    go None = tt
    go (Some rows) = may rows

either_may : (test : Bool) (one other : Option Order) → IfSome one MayOrder → IfSome other MayOrder → IfSome (if test then one else other) MayOrder
either_may true one other may may' = may
either_may false one other may may' = may'

by_may : (first : Text) (words : List Text) → IfSome (order_by first words) MayOrder
by_may first words =
    either_may (bytes_eq first (codes "init")) _ _ (ordered_may init_from init_command words init_may)
    (either_may (bytes_eq first (codes "sql")) _ _ (ordered_may sql_from sql_command words sql_may)
    (either_may (bytes_eq first (codes "agent")) _ _ (ordered_may agent_from agent_command words agent_may)
    (either_may (bytes_eq first (codes "show")) _ _ (ordered_may show_from show_command words show_may) tt)))

demo_may : (rows : List Row) → IfSome (demo_from rows) MayAsk
demo_may rows = go (given_seed rows) (given_count rows) (count_fits (first_of (codes "COUNT") rows))
  where
    count_fits : (word : Option Text) → IfSome (option_and_then (number_within 0 100000) word) (λ n. (0 ≤ n) × (n ≤ 100000))
    count_fits None = tt
    count_fits (Some word) = number_fits 0 100000 word

    go : (seed count : Option ℕ) → IfSome count (λ n. (0 ≤ n) × (n ≤ 100000)) → IfSome (option_and_then (λ s. option_map (λ n. asked.Demo s n) count) seed) MayAsk
    go None count fits = tt
    go (Some s) None fits = tt
    go (Some s) (Some n) fits = fits.1

asked_may : (first : Text) (words : List Text) → IfSome (asked_by first words) MayAsk
asked_may first words = either (bytes_eq first (codes "demo")) _ _ (demo (found demo_command words)) (order (order_by first words) (by_may first words))
  where
    demo : (rows : Option (List Row)) → IfSome (option_and_then demo_from rows) MayAsk
    demo None = tt
    demo (Some rows) = demo_may rows

    order : (order : Option Order) → IfSome order MayOrder → IfSome (option_map (λ o. asked.Order o) order) MayAsk
    order None may = tt
    order (Some o) may = may

    either : (test : Bool) (one other : Option Asked) → IfSome one MayAsk → IfSome other MayAsk → IfSome (if test then one else other) MayAsk
    either true one other may may' = may
    either false one other may may' = may'

words_may : (words : List Text) → IfSome (asked_of words) MayAsk
words_may [] = tt
words_may (first ∷ words) = asked_may first (first ∷ words)

pub may_be_asked : (asked : Option Asked) (words : List Text) → asked ≡ asked_of words → IfSome asked MayAsk
may_be_asked asked words is = subst (λ (a : Option Asked). IfSome a MayAsk) (sym is) (words_may words)
