use Rattle.std.proofs.Common.{◌≡◌, List, ◌∷◌, length, ap, subst, arith}
use Rattle.std.specs.Vec.Iter.{into_iter_items}
use Rattle.sr_receive_gather.specs.declared.report.Report.{Report}
use Rattle.sr_receive.proofs.Inserting.{IsInserting, inserting_more}
use Rattle.sr_receive.proofs.reporting.insert_all.Goals as goal

pub reports-preserved : goal.reports-preserved
reports-preserved c =
    let at = c.reports in
    let report = c.in-Some.report in
    let steps : into_iter_items at.report-iterator ≡ report ∷ into_iter_items c.next.new.self = c.in-Some.ensures.steps.0 in
    let gone = c.in-Some.ensures.steps.1 in
    let was = at.invariant.size in
    let short = ap length steps in
    let wide = at.invariant.room in
    let longer = c.insert_within.ensures.length in
    let kept = c.insert_within.ensures.capacity in
    record {
      inserting =
          inserting_more c.args.at c.args.reports.now.items c.args.made.items report (into_iter_items c.next.new.self) at.next at.reports.items c.insert_within.new.reports.items c.requires.within c.insert_within.ensures.items
          (subst (λ (l : List Report). IsInserting c.args.at c.args.reports.now.items c.args.made.items l at.next at.reports.items) steps at.invariant.inserting);
      size = omega arith;
      room = omega arith;
    }
