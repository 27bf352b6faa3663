use Rattle.std.proofs.Common.{◌≡◌, ◌≢◌, List, Result, Ok, Err, sym, subst, ◌∙◌}
use Rattle.std.specs.Prelude.{MatchResult}
use Rattle.sr_base.specs.declared.value.Value.{Value}
use Rattle.sr_catalog_schema.specs.declared.fault.DmlFault.{DmlFault}
use Rattle.sr_catalog_schema.specs.declared.fault.DmlFault.TheVariants.{Memory}
use Rattle.sr_exec_dml.specs.Inner.Making.{given_row}
use Rattle.sr_exec_dml.specs.Sequences.{each}
use Rattle.sr_exec_dml.specs.Storing.{inserted_row}
use Rattle.sr_exec_dml.proofs.Readied.{rows_given}
use Rattle.sr_exec_dml.proofs.inserting.inserted_rows.Goals as goal

pub returns : goal.returns
returns c =
    let columns = c.args.table.now.columns in
    let meant : each (λ es. given_row es c.as_slice-columns.result.now c.as_slice.result.now) c.args.rows.now ≡ each (λ es. inserted_row c.args.names.now es columns) c.args.rows.now =
    (λ i. each (λ es. given_row es c.as_slice-columns.result.now ((c.as_slice.ensures.value ∙ c.in_ok-places.ensures.places) i)) c.args.rows.now)
    ∙ sym (rows_given c.args.names.now c.as_slice-columns.result.now c.args.rows.now)
    ∙ (λ i. each (λ es. inserted_row c.args.names.now es (c.as_slice-columns.ensures.items i)) c.args.rows.now) in
    record {
      answer = subst (λ (m : Result (List (List Value)) DmlFault). MatchResult c.given_rows.result (λ added. m ≡ Ok added.items) (λ fault. fault ≢ Memory → m ≡ Err fault)) meant c.given_rows.ensures.answer;
    }
