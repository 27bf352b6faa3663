-- The texts of refusals.
use Rattle.std.specs.Prelude.{ℕ, List, [], ◌∷◌, ◌++◌, codes}
use Rattle.std.specs.Fmt.{decimal}
use Rattle.sr_base.specs.declared.value.Value.{Value as Cell}
use Rattle.sr_base_dates.specs.Literals.{literal}
use Rattle.sr_catalog_schema.specs.declared.fault.DdlFault.{DdlFault}
use Rattle.sr_catalog_schema.specs.declared.fault.DdlFault.TheVariants as ddl
use Rattle.sr_catalog_schema.specs.declared.fault.DmlFault.{DmlFault}
use Rattle.sr_catalog_schema.specs.declared.fault.DmlFault.TheVariants as dml
use Rattle.sr_session_script.specs.Acts.{line}
use Rattle.sr_session_script.specs.declared.refusal.Refusal.{Refusal}
use Rattle.sr_session_script.specs.declared.refusal.Refusal.TheVariants.{Ddl, Dml}

-- values as literals, each behind a comma and a blank
abbrev pub more_values : List Cell → List ℕ
more_values [] = []
more_values (v ∷ values) = 44 ∷ 32 ∷ literal v ++ more_values values

abbrev pub with_commas : List Cell → List ℕ
with_commas [] = []
with_commas (v ∷ values) = literal v ++ more_values values

-- a key in parentheses
abbrev pub key_text : List Cell → List ℕ
key_text key = 40 ∷ with_commas key ++ 41 ∷ []

-- a fault's name, and its values behind blanks
abbrev pub ddl_text : DdlFault → List ℕ
ddl_text (ddl.Exists name) = codes "Exists " ++ name
ddl_text (ddl.Missing name) = codes "Missing " ++ name
ddl_text (ddl.BadType name) = codes "BadType " ++ name
ddl_text (ddl.NoKey table) = codes "NoKey " ++ table
ddl_text (ddl.KeyNotInArticle table column) = codes "KeyNotInArticle " ++ table ++ 32 ∷ column
ddl_text (ddl.TwiceSubscribed user table) = codes "TwiceSubscribed " ++ user ++ 32 ∷ table
ddl_text (ddl.InUse name) = codes "InUse " ++ name
ddl_text (ddl.TooMany limit) = codes "TooMany " ++ decimal limit
ddl_text ddl.Memory = codes "Memory"

abbrev pub dml_text : DmlFault → List ℕ
dml_text (dml.NoTable name) = codes "NoTable " ++ name
dml_text (dml.NoColumn name) = codes "NoColumn " ++ name
dml_text (dml.BadValue name) = codes "BadValue " ++ name
dml_text (dml.Null name) = codes "Null " ++ name
dml_text (dml.Duplicate key) = codes "Duplicate " ++ key_text key
dml_text dml.Overflow = codes "Overflow"
dml_text dml.Memory = codes "Memory"

abbrev pub refusal_text : Refusal → List ℕ
refusal_text (Ddl fault) = ddl_text fault
refusal_text (Dml fault) = dml_text fault

-- the line of the statement of a number that is refused
abbrev pub refusal_line : ℕ → Refusal → List ℕ
refusal_line number fault = line (codes "statement " ++ decimal number ++ codes " refused: " ++ refusal_text fault)
