use Rattle.std.proofs.Common.{sym, ap, ◌∙◌, slice_get}
use Rattle.std.specs.Prelude.{bytes_eq}
use Rattle.std.specs.Option.{option_copied}
use Rattle.sr_catalog_schema.proofs.Places.{find-no_place, find-place}
use Rattle.sr_catalog_schema.proofs.named.Named.get.Goals as goal

pub returns-in_err-place : goal.returns-in_err-place
returns-in_err-place g c = record {
  thing = ap option_copied c.from_residual.ensures
      ∙ sym (find-no_place (λ t. bytes_eq c.args.name.now (g.T.HasName.name_of t)) c.args.self.now (sym c.place.ensures.place ∙ c.in_err-place.was));
}

pub returns : goal.returns
returns g c = record {
  thing = c.item_at.ensures
      ∙ (ap (λ l. slice_get l c.in_ok-place.place) (c.as_slice.ensures.value ∙ c.self.view_is)
      ∙ sym (find-place (λ t. bytes_eq c.args.name.now (g.T.HasName.name_of t)) c.args.self.now c.in_ok-place.place (sym c.place.ensures.place ∙ c.in_ok-place.was)));
}
