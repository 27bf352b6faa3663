-- A conflict, and what the triggers that it fires make of it.
-- Here is what no contract of the program says by itself.
use Rattle.std.specs.Prelude.{List, refl}
use Rattle.std.specs.Coded.{Coded, code_by, coded×, coded_list}
use Rattle.sr_base.specs.Inner.Codes.{coded_value}
use Rattle.sr_base.specs.declared.value.Value.{Value as Cell}
use Rattle.sr_logform.specs.contracts.change.Change.{the_row as change_row}
use Rattle.sr_logform.specs.declared.change.Change.{Change}
use Rattle.sr_rows.specs.Marks.{RowMap}
use Rattle.sr_rows.specs.Inner.Marks.{coded_rows}
use Rattle.sr_resolve_triggers.specs.Bindings.{Bindings}

-- bindings as data: a model holds them
abbrev pub coded_bindings : Coded Bindings
coded_bindings = code_by (List Cell × (List Cell × (RowMap × List Change)))
    (coded× (coded_list coded_value) (coded× (coded_list coded_value) (coded× coded_rows (coded_list change_row.coded))))
    (λ s. (s.new, (s.variables, (s.added, s.inserts)))) (λ p. record { new = p.0; variables = p.1.0; added = p.1.1.0; inserts = p.1.1.1 }) (λ _. refl)
