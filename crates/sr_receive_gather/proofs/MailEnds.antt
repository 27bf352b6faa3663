-- Calls of the mail that fail.
use Rattle.std.proofs.Common.{◌≡◌, ◌∙◌, Result, Ok, Err, sym, subst}
use Rattle.std.specs.Prelude.{IfErr, OnOk, IsErrAnd, IsErrOf}
use Rattle.sr_site.specs.Causes.{Rose}
use Rattle.sr_site.specs.Seen.{Seen}
use Rattle.sr_site.specs.declared.mail.MailFault.{MailFault}
use Rattle.sr_site.specs.declared.mail.MailFault.TheVariants as mail
use Rattle.sr_receive_gather.specs.Inner.Faults.{fault_of_mail}
use Rattle.sr_receive_gather.specs.Gathers.{IsMailFault}
use Rattle.sr_receive_gather.specs.declared.fault.ReceiveFault.{ReceiveFault}
use Rattle.sr_receive_gather.specs.declared.fault.ReceiveFault.TheVariants.{Disk, Mail, Full, Long, Memory}

-- what holds of a fault holds of the answer that is it
pub if_fault : {T : Type 0} (holds : ReceiveFault → Type 0) (fault : ReceiveFault) (result : Result T ReceiveFault) → IsErrAnd result (λ e. e ≡ fault) → holds fault → IfErr result holds
if_fault holds fault (Ok x) is so = tt
if_fault holds fault (Err e) is so = subst holds (sym is) so

-- what follows from a success, and from a fault
pub on_ok_map : {T E P Q : Type 0} (result : Result T E) → (P → Q) → OnOk result P → OnOk result Q
on_ok_map (Ok x) f h = f h
on_ok_map (Err e) f h = tt

pub if_err_map : {T : Type 0} (holds follows : ReceiveFault → Type 0) (result : Result T ReceiveFault) → ((fault : ReceiveFault) → holds fault → follows fault) → IfErr result holds → IfErr result follows
if_err_map holds follows (Ok x) f h = tt
if_err_map holds follows (Err e) f h = f e h

-- why a call of the mail gave nothing
pub mail_why : {T : Type 0} (before now : Seen) (fault : MailFault) (result : Result T MailFault) → result ≡ Err fault → (IsErrOf result mail.Failed → Rose before.mail_faults now.mail_faults)
    → (IsErrOf result mail.Memory → now.mail_faults ≡ before.mail_faults) → IsMailFault before now (fault_of_mail fault)
mail_why before now mail.Failed result is cause short = cause is
mail_why before now mail.Memory result is cause short = short is

-- it is so of all that happened, where its count stood still before
pub mail_then : (before middle now : Seen) (fault : ReceiveFault) → middle.mail_faults ≡ before.mail_faults → IsMailFault middle now fault → IsMailFault before now fault
mail_then before middle now Disk same why = why
mail_then before middle now Mail same why = subst (λ n. Rose n now.mail_faults) same why
mail_then before middle now (Full end need) same why = why
mail_then before middle now (Long size limit) same why = why
mail_then before middle now Memory same why = why ∙ same
