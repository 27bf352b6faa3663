-- Which statement begins: its first word and the one behind that tell.
use Rattle.std.specs.Prelude.{◌∷◌, Option, Some, None}
use Rattle.sr_ast.specs.declared.form.Form.{Form}
use Rattle.sr_ast.specs.declared.form.Form.TheVariants as form
use Rattle.sr_ast.specs.declared.keyword.Keyword.{Keyword}
use Rattle.sr_ast.specs.declared.keyword.Keyword.TheVariants as key
use Rattle.sr_parse_grammar.specs.Symbols.{Symbols, word}

-- the word that a statement begins with, and a second one that it goes on with, where that tells it from the others
abbrev pub words : Form → Keyword × Option Keyword
words form.CreateTable = (key.Create, Some key.Table)
words form.DropTable = (key.Drop, Some key.Table)
words form.CreatePublication = (key.Create, Some key.Publication)
words form.DropPublication = (key.Drop, Some key.Publication)
words form.GrantRemote = (key.Grant, Some key.Remote)
words form.GrantConsolidate = (key.Grant, None)
words form.CreateSubscription = (key.Create, None)
words form.StartSubscription = (key.Start, None)
words form.StopSubscription = (key.Stop, None)
words form.Synchronize = (key.Synchronize, None)
words form.DropSubscription = (key.Drop, None)
words form.CreateTrigger = (key.Create, Some key.Trigger)
words form.DropTrigger = (key.Drop, Some key.Trigger)
words form.SetOption = (key.Set, None)
words form.Insert = (key.Insert, None)
words form.Update = (key.Update, None)
words form.Delete = (key.Delete, None)
words form.Select = (key.Select, None)
words form.Commit = (key.Commit, None)
words form.Rollback = (key.Rollback, None)
words form.Passthrough = (key.Passthrough, None)
words form.PassthroughStop = (key.Passthrough, Some key.Stop)

-- symbols with a second word in front, and those behind it
abbrev pub led : Option Keyword → Symbols → Symbols
led None after = after
led (Some k) after = word k ∷ after
