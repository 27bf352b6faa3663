use Rattle.std.proofs.Common.{◌≡◌, Option, Some, None, Err, refl, sym, ap, ◌∙◌}
use Rattle.std.specs.Option.{ok_or}
use Rattle.sr_catalog_schema.specs.declared.fault.DmlFault.TheVariants.{BadValue}
use Rattle.sr_exec_dml.specs.Storing.{fitting}
use Rattle.sr_exec_dml.proofs.storing.fitting.Goals as goal

not_given : {A E : Type 0} (o : Option A) (e x : E) → Err x ≡ ok_or o e → o ≡ None
not_given None e x h = refl
not_given (Some a) e x h = cc

pub returns : goal.returns
returns c = record { answer = λ _. ap (fitting c.args.column.now) (not_given _ _ _ c.in-Err.ensures.fits) ∙ ap (λ n. Err (BadValue n)) (sym c.in_ok-copy-in-Err.ensures.equal) }
