use Rattle.std.proofs.Common.{◌≡◌, ◌∙◌, [], ◌∷◌, ap₂, codes}
use Rattle.clap.specs.Words.{app_of, with_rule}
use Rattle.dbremote_words.specs.Commands.{agent_command, command_of, flag, folder, needed}
use Rattle.dbremote_words.proofs.commands.agent_command.Goals as goal

pub returns : goal.returns
unfolding agent_command
returns c =
    let one : app_of c.in_ok-command.command ≡ command_of (codes "agent") (needed (codes "NAME") ∷ []) =
    c.in_ok-command.ensures.shape c.needed.ensures.own ∙ ap₂ with_rule c.bare.ensures.app c.needed.ensures.rule in
    let two : app_of c.in_ok-command-2.command ≡ command_of (codes "agent") (needed (codes "NAME") ∷ folder ∷ []) =
    c.in_ok-command-2.ensures.shape c.folder.ensures.own ∙ ap₂ with_rule one c.folder.ensures.rule in
    let three : app_of c.in_ok-command-3.command ≡ command_of (codes "agent") (needed (codes "NAME") ∷ folder ∷ flag (codes "r") 114 ∷ []) =
    c.in_ok-command-3.ensures.shape c.flag.ensures.own ∙ ap₂ with_rule two c.flag.ensures.rule in
    let four : app_of c.in_ok-command-4.command ≡ command_of (codes "agent") (needed (codes "NAME") ∷ folder ∷ flag (codes "r") 114 ∷ flag (codes "s") 115 ∷ []) =
    c.in_ok-command-4.ensures.shape c.flag-2.ensures.own ∙ ap₂ with_rule three c.flag-2.ensures.rule in
    let five : app_of c.in_ok-command-5.command ≡ command_of (codes "agent") (needed (codes "NAME") ∷ folder ∷ flag (codes "r") 114 ∷ flag (codes "s") 115 ∷ flag (codes "p") 112 ∷ []) =
    c.in_ok-command-5.ensures.shape c.flag-3.ensures.own ∙ ap₂ with_rule four c.flag-3.ensures.rule in
    let six : app_of c.in_ok-command-6.command ≡ command_of (codes "agent") (needed (codes "NAME") ∷ folder ∷ flag (codes "r") 114 ∷ flag (codes "s") 115 ∷ flag (codes "p") 112 ∷ flag (codes "x") 120 ∷ []) =
    c.in_ok-command-6.ensures.shape c.flag-4.ensures.own ∙ ap₂ with_rule five c.flag-4.ensures.rule in
    record { app = c.in_ok-command-7.ensures.shape c.length.ensures.own ∙ ap₂ with_rule six c.length.ensures.rule }
