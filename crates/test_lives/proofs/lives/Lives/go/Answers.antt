use Rattle.std.proofs.Common.{rules, ◌≡◌, ◌++◌, ◌∷◌, [], List, sym, subst}
use Rattle.test_lives.proofs.Living.{one_more_above, one_more_below}
use Rattle.test_lives.specs.Inner.Lives.{IsLife}
use Rattle.test_lives.specs.declared.place.Place.{Place}
use Rattle.test_lives.specs.declared.place.Place.TheVariants.{Above, Below}
use Rattle.test_lives.proofs.lives.Lives.go.Goals as goal

pub invariant_of-lives : goal.invariant_of-lives
invariant_of-lives c =
    let pushed : c.push.new.self ≡ c.self.inside.places ++ Above ∷ [] = search rules in
    let new = c.in_ok-office-in-Above.field-0.office in
    subst (λ (l : List Place). IsLife new c.self.inside.below c.go_on.new.put l) (sym pushed)
    (one_more_above c.self.inside.above c.self.inside.below new c.self.inside.put c.go_on.new.put c.self.inside.places c.self.invariant c.in_ok-office-in-Above.ensures.gone)

pub invariant_of-lives-in-Below : goal.invariant_of-lives-in-Below
invariant_of-lives-in-Below c =
    let pushed : c.push.new.self ≡ c.self.inside.places ++ Below ∷ [] = search rules in
    let new = c.in_ok-office-in-Below.field-0.office in
    subst (λ (l : List Place). IsLife c.self.inside.above new c.go_on-in-Below.new.put l) (sym pushed)
    (one_more_below c.self.inside.above c.self.inside.below new c.self.inside.put c.go_on-in-Below.new.put c.self.inside.places c.self.invariant c.in_ok-office-in-Below.ensures.gone)
