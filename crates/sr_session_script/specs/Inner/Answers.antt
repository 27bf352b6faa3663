-- What the functions of this crate answer.
use Rattle.std.specs.Prelude.{◌≡◌, ⊤, Result, Ok, Err}
use Rattle.sr_catalog_schema.specs.declared.fault.DdlFault.{DdlFault}
use Rattle.sr_catalog_schema.specs.declared.fault.DdlFault.TheVariants as ddl
use Rattle.sr_catalog_schema.specs.declared.fault.DmlFault.{DmlFault}
use Rattle.sr_catalog_schema.specs.declared.fault.DmlFault.TheVariants as dml
use Rattle.sr_session_script.specs.declared.refusal.Refusal.{Refusal}
use Rattle.sr_session_script.specs.declared.refusal.Refusal.TheVariants.{Ddl, Dml}
use Rattle.sr_session_script.specs.declared.refusal.Stop.{Stop}
use Rattle.sr_session_script.specs.declared.refusal.Stop.TheVariants.{Refused, Memory}

-- a fault as what stops a statement: want of memory is no refusal
abbrev pub stop_of_ddl : DdlFault → Stop
stop_of_ddl (ddl.Exists name) = Refused (Ddl (ddl.Exists name))
stop_of_ddl (ddl.Missing name) = Refused (Ddl (ddl.Missing name))
stop_of_ddl (ddl.BadType name) = Refused (Ddl (ddl.BadType name))
stop_of_ddl (ddl.NoKey table) = Refused (Ddl (ddl.NoKey table))
stop_of_ddl (ddl.KeyNotInArticle table column) = Refused (Ddl (ddl.KeyNotInArticle table column))
stop_of_ddl (ddl.TwiceSubscribed user table) = Refused (Ddl (ddl.TwiceSubscribed user table))
stop_of_ddl (ddl.InUse name) = Refused (Ddl (ddl.InUse name))
stop_of_ddl (ddl.TooMany limit) = Refused (Ddl (ddl.TooMany limit))
stop_of_ddl ddl.Memory = Memory

abbrev pub stop_of_dml : DmlFault → Stop
stop_of_dml (dml.NoTable name) = Refused (Dml (dml.NoTable name))
stop_of_dml (dml.NoColumn name) = Refused (Dml (dml.NoColumn name))
stop_of_dml (dml.BadValue name) = Refused (Dml (dml.BadValue name))
stop_of_dml (dml.Null name) = Refused (Dml (dml.Null name))
stop_of_dml (dml.Duplicate key) = Refused (Dml (dml.Duplicate key))
stop_of_dml dml.Overflow = Refused (Dml dml.Overflow)
stop_of_dml dml.Memory = Memory

-- the refusal that is meant, unless there is no memory
abbrev pub IsStop : {A : Type 0} → Result A Refusal → Stop → Type 0
IsStop meant (Refused fault) = meant ≡ Err fault
IsStop meant Memory = ⊤

-- the answer is the one that is meant, unless there is no memory
abbrev pub Meets : {A : Type 0} → Result A Stop → Result A Refusal → Type 0
Meets (Ok x) meant = meant ≡ Ok x
Meets (Err stop) meant = IsStop meant stop
