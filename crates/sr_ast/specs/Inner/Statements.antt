-- Kinds of statements.
-- Here is what no contract of the program says by itself.
use Rattle.sr_ast.specs.declared.stmt.Stmt.{Stmt}
use Rattle.sr_ast.specs.declared.stmt.Stmt.TheVariants as stmt
use Rattle.sr_ast.specs.declared.query.Dml.TheVariants as dml
use Rattle.sr_ast.specs.declared.form.Form.{Form}
use Rattle.sr_ast.specs.declared.form.Form.TheVariants as forms

-- which statement it is
abbrev pub form : Stmt → Form
form (stmt.CreateTable x) = forms.CreateTable
form (stmt.DropTable x) = forms.DropTable
form (stmt.CreatePublication x) = forms.CreatePublication
form (stmt.DropPublication x) = forms.DropPublication
form (stmt.GrantRemote x) = forms.GrantRemote
form (stmt.GrantConsolidate x) = forms.GrantConsolidate
form (stmt.CreateSubscription x) = forms.CreateSubscription
form (stmt.StartSubscription x) = forms.StartSubscription
form (stmt.StopSubscription x) = forms.StopSubscription
form (stmt.Synchronize x) = forms.Synchronize
form (stmt.DropSubscription x) = forms.DropSubscription
form (stmt.CreateTrigger x) = forms.CreateTrigger
form (stmt.DropTrigger x) = forms.DropTrigger
form (stmt.SetOption x) = forms.SetOption
form (stmt.Dml (dml.Insert x)) = forms.Insert
form (stmt.Dml (dml.Update x)) = forms.Update
form (stmt.Dml (dml.Delete x)) = forms.Delete
form (stmt.Select x) = forms.Select
form stmt.Commit = forms.Commit
form stmt.Rollback = forms.Rollback
form (stmt.Passthrough x) = forms.Passthrough
form stmt.PassthroughStop = forms.PassthroughStop
