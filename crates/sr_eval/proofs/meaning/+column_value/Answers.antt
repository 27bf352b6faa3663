use Rattle.std.proofs.Common.{rules, ap, sym, ◌∙◌, ◌≡◌, ◌∷◌}
use Rattle.std.specs.Prelude.{unwrap_or}
use Rattle.sr_eval.specs.Inner.Bounds.{columns_of, values_of}
use Rattle.sr_eval.specs.Meanings.{value_meant}
use Rattle.sr_eval.proofs.Sources.{value_among}
use Rattle.sr_eval.proofs.meaning.+column_value.Goals as goal

pub returns-in-Some-value_in : goal.returns-in-Some-value_in
returns-in-Some-value_in t c =
    let begins : c.args.sources.now ≡ c.in-Some.source.now ∷ c.in-Some.after.now = search rules in
    let among = value_among c.args.sources.now c.in-Some.source.now c.in-Some.after.now c.args.table.now c.args.name.now begins c.requires in
    record { value = among ∙ ap (λ o. unwrap_or o (value_meant (columns_of c.in-Some.after.now) (values_of c.in-Some.after.now) c.args.table.now c.args.name.now)) (sym c.in-Some-value_in.ensures.found) }

pub returns-in-None : goal.returns-in-None
returns-in-None t c =
    let begins : c.args.sources.now ≡ c.in-Some.source.now ∷ c.in-Some.after.now = search rules in
    let among = value_among c.args.sources.now c.in-Some.source.now c.in-Some.after.now c.args.table.now c.args.name.now begins c.requires in
    record { value = among ∙ ap (λ o. unwrap_or o (value_meant (columns_of c.in-Some.after.now) (values_of c.in-Some.after.now) c.args.table.now c.args.name.now)) (sym c.in-None.ensures.found) ∙ c.column_value.ensures.value }
