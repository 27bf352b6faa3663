use Rattle.std.proofs.Common.{◌∷◌, ◌++◌, [], ap, ◌∙◌, append_assoc, arith}
use Rattle.std.specs.List.{AllByRecursion}
use Rattle.sr_mail.specs.Assembled.{IsItsPiece}
use Rattle.sr_mail_cut.proofs.Lists.{AllByRecursion-prefix, AllByRecursion-back}
use Rattle.sr_mail.proofs.Looping.{written_more}
use Rattle.sr_mail.proofs.assembling.fill.Goals as goal

pub pieces-preserved : goal.pieces-preserved
pieces-preserved c =
    let pair = c.in-Some.pair.now in
    let before = c.in-Some.before.now in
    let cons = c.in-Some.ensures.cases.0 in
    let own : AllByRecursion IsItsPiece (before ++ pair ∷ []) = rw cons at c.pieces.invariant.own in
    let done = c.pieces.invariant.written in
    record {
      long = omega (arith, c.overwrite.auto.bytes, c.pieces.invariant.long);
      own = AllByRecursion-prefix IsItsPiece before (pair ∷ []) own;
      written = (
        pair ∷ done.0,
        done.1 ∙ ap (λ x. x ++ done.0) cons ∙ append_assoc before (pair ∷ []) done.0,
        written_more pair done.0 c.pieces.bytes c.overwrite.new.bytes (AllByRecursion-back IsItsPiece before (pair ∷ []) own).0 c.overwrite.auto.bytes
            (rw c.as_slice.ensures.items at c.overwrite.ensures.inside) c.overwrite.ensures.before (rw c.as_slice.ensures.items at c.overwrite.ensures.behind) done.2,
      );
    }
