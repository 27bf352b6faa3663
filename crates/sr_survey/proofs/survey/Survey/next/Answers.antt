use Rattle.std.proofs.Common.{List, ℕ, [], ◌∷◌, ◌++◌, subst}
use Rattle.sr_survey.proofs.Nexting.{first_is_next}
use Rattle.sr_survey.specs.Inner.Following.{keys_at}
use Rattle.sr_survey_places.specs.Inner.Listed.{IsFirstAmong}
use Rattle.sr_survey_places.specs.declared.key.Key.TheVariants as keyed
use Rattle.sr_survey.proofs.survey.Survey.next.Goals as goal

pub returns : goal.returns
returns c =
    let s = c.args.self.now in
    let user = c.args.user.now in
    let lists = c.args.self.now.places.lists in
    let sent = c.args.sent.0 in
    let o = c.first_among-found.result in
    let shared = c.keys-shared.result.now in
    let alone : IsFirstAmong lists (keyed.To user ∷ keyed.Text user ∷ keyed.Each ∷ shared) (keyed.From user) sent o =
    subst (λ (n : List ℕ). IsFirstAmong lists (keyed.To n ∷ keyed.Text user ∷ keyed.Each ∷ shared) (keyed.From user) sent o) c.in_ok-to.ensures.equal
    (subst (λ (n : List ℕ). IsFirstAmong lists (keyed.To c.in_ok-to.to ∷ keyed.Text n ∷ keyed.Each ∷ shared) (keyed.From user) sent o) c.in_ok-text.ensures.equal
    (subst (λ (n : List ℕ). IsFirstAmong lists (keyed.To c.in_ok-to.to ∷ keyed.Text c.in_ok-text.text ∷ keyed.Each ∷ shared) (keyed.From n) sent o) c.in_ok-taken.ensures.equal c.first_among-found.ensures.first)) in
    record { next = first_is_next s user sent o (subst (λ ks. IsFirstAmong lists (keyed.To user ∷ keyed.Text user ∷ keyed.Each ∷ ks) (keyed.From user) sent o) c.keys-shared.ensures.keys alone) }
