use Rattle.std.proofs.Common.{◌≡◌, ◌∷◌, ◌++◌, [], get_or, sym, ap, ◌∙◌, append_assoc, subst}
use Rattle.std.specs.List.{AllByRecursion, Contains}
use Rattle.sr_mail.specs.Inner.Spans.{SpanOf}
use Rattle.sr_mail_cut.proofs.Lists.{AllByRecursion-append}
use Rattle.sr_mail.proofs.Looping.{own_piece, copied_more}
use Rattle.sr_mail.proofs.covering.copies.Goals as goal

pub spans-preserved : goal.spans-preserved
spans-preserved c =
    let pieces = c.args.pieces.now in
    let s = c.in-Some.span.now in
    let p = c.in_ok-copy.field-0 in
    let chosen = c.spans.chosen.items in
    let cons = c.in-Some.ensures.cases.0 in
    let left : AllByRecursion (SpanOf pieces) (s ∷ c.in-Some.behind.now) = rw cons at c.spans.invariant.left_own in
    let is : p ≡ get_or pieces s.2 p = subst (λ x. x ≡ get_or pieces s.2 x) (sym c.in_ok-copy.ensures.equal) c.index-pieces-span.is in
    let covered = c.spans.invariant.covered in
    rw c.in_ok-push.ensures.items (record {
      left_own = left.1;
      own = AllByRecursion-append (Contains pieces) chosen (p ∷ []) c.spans.invariant.own (own_piece pieces s p left.0 is, tt);
      covered = (
        covered.0 ++ s ∷ [],
        covered.1 ∙ ap (λ x. covered.0 ++ x) cons ∙ sym (append_assoc covered.0 (s ∷ []) c.in-Some.behind.now),
        λ place. copied_more pieces s p place chosen covered.0 left.0 is (covered.2 place),
      );
    })
