-- Which statement begins: its first word and the one behind that tell.
-- Here is what no contract of the program says by itself.
use Rattle.std.specs.Prelude.{Option, Some, None}
use Rattle.sr_ast.specs.declared.form.Form.{Form}
use Rattle.sr_ast.specs.declared.form.Form.TheVariants as form
use Rattle.sr_ast.specs.declared.keyword.Keyword.{Keyword}
use Rattle.sr_ast.specs.declared.keyword.Keyword.TheVariants as key
use Rattle.sr_parse_grammar.specs.declared.symbol.Symbol.{Symbol}
use Rattle.sr_parse_grammar.specs.declared.symbol.Symbol.TheVariants as symbol
use Rattle.sr_parse_grammar.specs.Symbols.{Symbols, first}
use Rattle.sr_parse_grammar.specs.Inner.Symbols.{behind}

-- the key word that a symbol is
abbrev pub word_in : Option Symbol → Option Keyword
word_in (Some (symbol.Keyword k)) = Some k
word_in s = None

-- behind CREATE, DROP, GRANT and PASSTHROUGH the next word tells
abbrev pub created : Option Keyword → Form
created (Some key.Table) = form.CreateTable
created (Some key.Publication) = form.CreatePublication
created (Some key.Trigger) = form.CreateTrigger
created next = form.CreateSubscription

abbrev pub dropped : Option Keyword → Form
dropped (Some key.Table) = form.DropTable
dropped (Some key.Publication) = form.DropPublication
dropped (Some key.Trigger) = form.DropTrigger
dropped next = form.DropSubscription

abbrev pub granted : Option Keyword → Form
granted (Some key.Remote) = form.GrantRemote
granted next = form.GrantConsolidate

abbrev pub passed : Option Keyword → Form
passed (Some key.Stop) = form.PassthroughStop
passed next = form.Passthrough

-- the statement that begins with a word, by the word behind it
abbrev pub form_behind : Keyword → Option Keyword → Option Form
form_behind key.Create next = Some (created next)
form_behind key.Drop next = Some (dropped next)
form_behind key.Grant next = Some (granted next)
form_behind key.Start next = Some form.StartSubscription
form_behind key.Stop next = Some form.StopSubscription
form_behind key.Synchronize next = Some form.Synchronize
form_behind key.Set next = Some form.SetOption
form_behind key.Insert next = Some form.Insert
form_behind key.Update next = Some form.Update
form_behind key.Delete next = Some form.Delete
form_behind key.Select next = Some form.Select
form_behind key.Commit next = Some form.Commit
form_behind key.Rollback next = Some form.Rollback
form_behind key.Passthrough next = Some (passed next)
form_behind k next = None

-- the statement that symbols begin with
abbrev pub form_of : Option Keyword → Option Keyword → Option Form
form_of None next = None
form_of (Some k) next = form_behind k next

abbrev pub form_at : Symbols → Option Form
form_at before = form_of (word_in (first before)) (word_in (first (behind before)))

abbrev pub past : Option Keyword → Symbols → Symbols
past None before = before
past (Some k) before = behind before
