use Rattle.std.proofs.Common.{◌≡◌, [], ◌∷◌, map, rules, sym, ap, subst}
use Rattle.std.proofs.lemmas.List.{nil_from_length}
use Rattle.sr_survey_places.proofs.Joined.{listed_none, listed_both}
use Rattle.sr_survey_places.specs.Inner.Listed.{IsListedUnder}
use Rattle.sr_survey_places.specs.declared.key.Key.TheVariants as keyed
use Rattle.sr_survey.proofs.entries.list_users.Goals as goal

pub users-init : goal.users-init
users-init c = λ m h. h

pub users-preserved : goal.users-preserved
users-preserved c = λ m h.
    let e : c.users.left.now ≡ c.in-Some.user.now ∷ c.in-Some.rest.now = search rules in
    c.users.invariant m (subst (λ xs. IsListedUnder c.users.lists.lists (map keyed.Text xs) c.args.place m) (sym e)
    (listed_both c.users.lists.lists c.list_one.new.lists.lists m (keyed.Text c.in-Some.user.now ∷ []) (map keyed.Text c.in-Some.rest.now) c.args.place
    (c.in_ok-list_one.ensures.listed (keyed.Text c.in-Some.user.now) (ap keyed.Text c.in_ok-copy.ensures.equal)) h))

pub returns : goal.returns
returns c =
    let none : c.users.left.now ≡ [] = nil_from_length _ c.in_default.ensures.cases in
    record { listed = c.users.invariant c.users.lists.lists (subst (λ xs. IsListedUnder c.users.lists.lists (map keyed.Text xs) c.args.place c.users.lists.lists) (sym none) (listed_none c.users.lists.lists c.args.place)) }
