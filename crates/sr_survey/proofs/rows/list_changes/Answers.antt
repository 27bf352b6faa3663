use Rattle.std.proofs.Common.{◌≡◌, [], ◌∷◌, rules, sym, subst}
use Rattle.std.proofs.lemmas.List.{nil_from_length}
use Rattle.sr_survey.specs.Inner.Keyed.{change_keys, changes_keys}
use Rattle.sr_survey_places.proofs.Joined.{listed_none, listed_both}
use Rattle.sr_survey_places.specs.Inner.Listed.{IsListedUnder}
use Rattle.sr_survey.proofs.rows.list_changes.Goals as goal

pub changes-init : goal.changes-init
changes-init c = λ m h. h

pub changes-preserved : goal.changes-preserved
changes-preserved c = λ m h.
    let catalog = c.args.catalog.now in
    let e : c.changes.left.now ≡ c.in-Some.change.now ∷ c.in-Some.rest.now = search rules in
    c.changes.invariant m (subst (λ xs. IsListedUnder c.changes.lists.lists (changes_keys catalog xs) c.args.place m) (sym e)
    (listed_both c.changes.lists.lists c.list_change.new.lists.lists m (change_keys catalog c.in-Some.change.now) (changes_keys catalog c.in-Some.rest.now) c.args.place c.in_ok-list_change.ensures.listed h))

pub returns : goal.returns
returns c =
    let none : c.changes.left.now ≡ [] = nil_from_length _ c.in_default.ensures.cases in
    record { listed = c.changes.invariant c.changes.lists.lists (subst (λ xs. IsListedUnder c.changes.lists.lists (changes_keys c.args.catalog.now xs) c.args.place c.changes.lists.lists) (sym none) (listed_none c.changes.lists.lists c.args.place)) }
