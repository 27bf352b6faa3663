use Rattle.std.proofs.Common.{◌≡◌, ◌+◌, ◌≤◌, [], length, sym, ap, ◌∙◌, arith}
use Rattle.std.proofs.lemmas.List.{nil_from_length}
use Rattle.std.specs.List.{concat}
use Rattle.std.specs.Vec.Iter.{into_iter_items}
use Rattle.sr_mail_cut.proofs.Filling.{so_far_none, so_far_more, so_far_within, so_far_all}
use Rattle.sr_mail_cut.proofs.fragments.add_messages.Goals as goal

pub fragments-init : goal.fragments-init
fragments-init c =
    rw c.into_iter-left.ensures.rest
    (so_far_none c.args.head.now c.args.span.now.prev c.args.span.now.upto c.args.span.now.total c.args.fragments.items c.args.messages.now.items)

pub overflow_cast-size : goal.overflow_cast-size
overflow_cast-size c =
    let f = c.in-Some.fragment in
    let within : c.fragments.start + length f ≤ length (concat c.args.fragments.items) = so_far_within _ _ _ _ _ _ _ _ _ _ _ c.in-Some.ensures.items c.fragments.invariant in
    omega (arith, c.requires, ap length c.as_slice.ensures.items)

pub overflow_add-start : goal.overflow_add-start
overflow_add-start c =
    let f = c.in-Some.fragment in
    let within : c.fragments.start + length f ≤ length (concat c.args.fragments.items) = so_far_within _ _ _ _ _ _ _ _ _ _ _ c.in-Some.ensures.items c.fragments.invariant in
    omega (arith, c.requires, ap length c.as_slice.ensures.items)

pub fragments-preserved : goal.fragments-preserved
fragments-preserved c =
    rw (c.in_ok-push.ensures.items, c.in_ok-message_of.ensures, c.as_slice.ensures.items)
    (so_far_more _ _ _ _ _ _ _ _ _ _ _ c.in-Some.ensures.items c.fragments.invariant)

pub returns : goal.returns
returns c =
    let none : into_iter_items c.fragments.left ≡ [] = nil_from_length (into_iter_items c.fragments.left) (sym c.fragments.left.rest.ok.0 ∙ c.in_default.ensures.cases.0) in
    so_far_all _ _ _ _ _ _ _ _ (rw none at c.fragments.invariant)
