use Rattle.std.proofs.Common.{◌≡◌, [], ◌∷◌, ◌++◌, refl, sym, ap, subst, append_assoc, rules, ◌∙◌}
use Rattle.std.proofs.lemmas.List.{nil_from_length, append-nil}
use Rattle.sr_survey_places.specs.Inner.Search.{IsFirstOther}
use Rattle.sr_survey_places.specs.Inner.Listed.{IsUnder}
use Rattle.sr_survey_places.proofs.First.{first_none, first_more}
use Rattle.sr_survey_places.proofs.listings.Listings.first_under.Goals as goal

pub keys-init : goal.keys-init
keys-init c = ([], refl, first_none c.args.own.now c.args.passed c.args.limit c.args.self.now.lists)

pub keys-preserved : goal.keys-preserved
keys-preserved c =
    let lists = c.args.self.now.lists in
    let done = c.keys.invariant.0 in
    let key = c.in-Some.key.now in
    let own = c.args.own.now in
    let e : c.keys.left.now ≡ key ∷ c.in-Some.rest.now = search rules in (
      done ++ key ∷ [],
      append_assoc done (key ∷ []) c.in-Some.rest.now ∙ ap (λ xs. done ++ xs) (sym e) ∙ c.keys.invariant.1,
      subst (λ o. IsFirstOther (IsUnder lists (done ++ key ∷ [])) own c.args.passed c.args.limit o) (sym c.earlier-first.ensures.earlier)
          (first_more own c.args.passed c.args.limit lists done key c.keys.first c.first_in.result c.keys.invariant.2 c.first_in.ensures.first),
    )

pub returns : goal.returns
returns c =
    let lists = c.args.self.now.lists in
    let done = c.keys.invariant.0 in
    let none : c.keys.left.now ≡ [] = nil_from_length _ c.in_default.ensures.cases in
    let all : done ≡ c.args.keys.now = sym (append-nil done) ∙ ap (λ xs. done ++ xs) (sym none) ∙ c.keys.invariant.1 in
    record { first = subst (λ ks. IsFirstOther (IsUnder lists ks) c.args.own.now c.args.passed c.args.limit c.keys.first) all c.keys.invariant.2 }
