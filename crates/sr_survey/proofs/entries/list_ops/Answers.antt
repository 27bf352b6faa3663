use Rattle.std.proofs.Common.{◌≡◌, [], ◌∷◌, rules, sym, subst}
use Rattle.std.proofs.lemmas.List.{nil_from_length}
use Rattle.sr_survey.specs.Inner.Concerning.{op_keys, ops_keys}
use Rattle.sr_survey_places.proofs.Joined.{listed_none, listed_both}
use Rattle.sr_survey_places.specs.Inner.Listed.{IsListedUnder}
use Rattle.sr_survey.proofs.entries.list_ops.Goals as goal

pub ops-init : goal.ops-init
ops-init c = λ m h. h

pub ops-preserved : goal.ops-preserved
ops-preserved c = λ m h.
    let catalog = c.args.catalog.now in
    let e : c.ops.left.now ≡ c.in-Some.op.now ∷ c.in-Some.rest.now = search rules in
    c.ops.invariant m (subst (λ xs. IsListedUnder c.ops.lists.lists (ops_keys catalog xs) c.args.place m) (sym e)
    (listed_both c.ops.lists.lists c.list_op.new.lists.lists m (op_keys catalog c.in-Some.op.now) (ops_keys catalog c.in-Some.rest.now) c.args.place c.in_ok-list_op.ensures.listed h))

pub returns : goal.returns
returns c =
    let none : c.ops.left.now ≡ [] = nil_from_length _ c.in_default.ensures.cases in
    record { listed = c.ops.invariant c.ops.lists.lists (subst (λ xs. IsListedUnder c.ops.lists.lists (ops_keys c.args.catalog.now xs) c.args.place c.ops.lists.lists) (sym none) (listed_none c.ops.lists.lists c.args.place)) }
