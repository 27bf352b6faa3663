-- What was done of a step, by the answer that tells it.
use Rattle.std.proofs.Common.{◌≡◌, true, ℕ, List, Option, Result, Ok, Err, sym, subst}
use Rattle.std.specs.Prelude.{IsErrAnd}
use Rattle.sr_ast.specs.declared.stmt.Passthrough.{Passthrough}
use Rattle.sr_site.specs.Seen.{Seen}
use Rattle.sr_database.specs.Views.{View}
use Rattle.sr_session_script.specs.Meaning.{Stepped}
use Rattle.sr_session.specs.Inner.Steps.{Took}
use Rattle.sr_session.specs.declared.fault.StepFault.{StepFault}
use Rattle.sr_session.specs.declared.fault.StepFault.TheVariants.{Memory}
use Rattle.sr_session.proofs.Commits.{took_none}

pub took_fault : (meant : Stepped) (old new : View) (first second : Seen) (lines lines' : List ℕ) (region : Option Passthrough) (told fault : StepFault) → told ≡ fault
    → Took meant old new first second lines lines' region (Err fault) → Took meant old new first second lines lines' region (Err told)
took_fault meant old new first second lines lines' region told fault is took = subst (λ (e : StepFault). Took meant old new first second lines lines' region (Err e)) (sym is) took

pub took_err : (meant : Stepped) (old new : View) (first second : Seen) (lines lines' : List ℕ) (region : Option Passthrough) (fault : StepFault) (result : Result (Unit {0}) StepFault)
    → IsErrAnd result (λ e. e ≡ fault) → Took meant old new first second lines lines' region (Err fault) → Took meant old new first second lines lines' region result
took_err meant old new first second lines lines' region fault (Ok done) is took = absurd is
took_err meant old new first second lines lines' region fault (Err told) is took = took_fault meant old new first second lines lines' region told fault is took

-- for want of memory
pub took_memory : (meant : Stepped) (view : View) (seen : Seen) (lines lines' : List ℕ) (region : Option Passthrough) (result : Result (Unit {0}) StepFault) → IsErrAnd result (λ e. e ≡ Memory)
    → view.log.usable ≡ true → lines' ≡ lines → Took meant view view seen seen lines lines' region result
took_memory meant view seen lines lines' region result is usable same =
    took_err meant view view seen seen lines lines' region Memory result is (took_none meant view seen lines lines' region usable same)
