-- CREATE TRIGGER and DROP TRIGGER, and which tables a trigger names.
-- Here is what no contract of the program says by itself.
use Rattle.std.specs.Prelude.{List}
use Rattle.std.specs.Prelude.{Option, option_map}
use Rattle.sr_ast.specs.declared.create.CreateTrigger.{CreateTrigger}
use Rattle.sr_catalog_schema.specs.Firsts.{first_of}
use Rattle.sr_catalog_schema.specs.declared.fault.DdlFault.{DdlFault}
use Rattle.sr_catalog_schema.specs.declared.fault.DdlFault.TheVariants.{Missing, BadType}
use Rattle.sr_catalog_schema.specs.declared.table.Table.{Table}
use Rattle.sr_catalog_triggers.specs.Triggers.{absent_behind, absent_in_trigger, bad_behind, bad_in_trigger}

-- the fault of the two on a table that is there
abbrev pub fault_behind : List Table → CreateTrigger → Table → Option DdlFault
fault_behind tables g t = first_of (option_map Missing (absent_behind tables g t)) (option_map BadType (bad_behind tables g t))

-- the fault of the two, where there is one
abbrev pub inside_fault : List Table → CreateTrigger → Option Table → Option DdlFault
inside_fault tables g t = first_of (option_map Missing (absent_in_trigger tables g t)) (option_map BadType (bad_in_trigger tables g t))
