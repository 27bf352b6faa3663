-- Answers that are a fault.
use Rattle.std.proofs.Common.{◌≡◌, Result, Ok, Err, sym, subst}
use Rattle.std.specs.Prelude.{IfErr, IsErrAnd}
use Rattle.sr_send.specs.declared.fault.SendFault.{SendFault}

-- what holds of a fault holds of the answer that is it
pub if_fault : {T : Type 0} (holds : SendFault → Type 0) (fault : SendFault) (result : Result T SendFault) → IsErrAnd result (λ e. e ≡ fault) → holds fault → IfErr result holds
if_fault holds fault (Ok x) is so = tt
if_fault holds fault (Err e) is so = subst holds (sym is) so
