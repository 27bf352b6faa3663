-- What a script does is the database's own: it takes nothing of a partner and notes nothing of him.
use Rattle.std.proofs.Common.{◌≡◌, ℕ, List, ◌++◌, map, Result, sym, subst}
use Rattle.std.specs.Prelude.{IsTrue}
use Rattle.std.specs.List.{AllByRecursion}
use Rattle.sr_ast.specs.declared.stmt.Stmt.{Stmt}
use Rattle.sr_book.specs.Entries.{Name, local}
use Rattle.sr_database.specs.Databases.{IsDatabase}
use Rattle.sr_database.specs.Views.{View, committed}
use Rattle.sr_database_history.specs.Folds.{sees}
use Rattle.sr_database_history.specs.Recorded.{Recorded}
use Rattle.sr_session_script.specs.Acts.{entries_of}
use Rattle.sr_session.specs.Runs.{RanScript}
use Rattle.sr_session.specs.declared.fault.SessionFault.{SessionFault}
use Rattle.sr_site.specs.Images.{RestsThroughout}
use Rattle.sr_site.specs.Seen.{Seen}
use Rattle.sr_site.specs.Streams.{Output}
use Rattle.sr_database_meaning.specs.Events.{commit}
use Rattle.sr_agent.proofs.Joints.{commits_of}
use Rattle.sr_world_prefix.specs.Partners.{ArePartners, StandInStep}
use Rattle.sr_world_prefix.proofs.Along.{Along}
use Rattle.sr_world_prefix.proofs.Lasting.{own_along}
use Rattle.sr_world_prefix.proofs.Moments.{on_layers, went_rests}
use Rattle.sr_world_prefix.proofs.Said.{said_locals, script_said}
use Rattle.sr_world_prefix.proofs.Taking.{IsOn}

abbrev IsLocal : Recorded → Type 0
IsLocal r = sees r ≡ local

-- all entries of a run of a script are the database's own
pub script_locals : (old new : View) (before now : Seen) (written written' : Output) (statements : List Stmt) (result : Result ℕ SessionFault)
    → (ran : RanScript old new before now written written' statements result) → AllByRecursion IsLocal (entries_of ran.acts ++ ran.broken)
script_locals old new before now written written' statements result ran =
    said_locals (committed old) (entries_of ran.acts ++ ran.broken) (script_said old new before now written written' statements result ran)

pub script_kept : (publisher user : Name) (es us : List Recorded) (old new : View) (before now : Seen) (written written' : Output) (statements : List Stmt) (result : Result ℕ SessionFault)
    → IsTrue before.observable → IsDatabase old publisher es before → ArePartners publisher user es us → RanScript old new before now written written' statements result
    → RestsThroughout (StandInStep publisher user us) before now
script_kept publisher user es us old new before now written written' statements result told database partners ran =
    let entries : List Recorded = entries_of ran.acts ++ ran.broken in
    let locals : AllByRecursion IsLocal entries = script_locals old new before now written written' statements result ran in
    let along : Along (IsOn publisher user us) es entries = own_along publisher user us es entries locals (on_layers publisher user us es partners.took) in
    went_rests publisher user us es before now (map commit entries) partners
    (subst (λ (rs : List Recorded). Along (IsOn publisher user us) es rs) (sym (commits_of entries)) along) (ran.reached.went told publisher es database)
