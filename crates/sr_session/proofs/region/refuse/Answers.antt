use Rattle.std.proofs.Common.{Some, ap, ◌∙◌}
use Rattle.sr_catalog_schema.specs.Catalogs.{Lists}
use Rattle.sr_session_script.specs.Meaning.{refused_in, uncarried}
use Rattle.sr_session.specs.Inner.Ready.{work_of}
use Rattle.sr_session.proofs.Regions.{uncarried_refused}
use Rattle.sr_session.proofs.Results.{took_memory}
use Rattle.sr_session.proofs.region.refuse.Goals as goal

pub returns-in_err-fault : goal.returns-in_err-fault
returns-in_err-fault c = record {
  took = λ seen lines.
      took_memory (refused_in c.args.region.now c.args.name.now c.args.stmt.now (work_of c.args.db.now (Some c.args.region.now))) c.args.db.now seen lines lines (Some c.args.region.now) c.from_residual.result
      c.from_residual.ensures.1 c.requires.usable (λ i. lines);
}

pub returns : goal.returns
returns c = record {
  took = λ seen lines.
      uncarried_refused c.args.db.now seen lines c.args.region.now (Some c.args.region.now) c.args.name.now c.args.stmt.now c.in_ok-fault.fault c.requires.usable
      (c.in_ok-fault.ensures.fault ∙ ap (λ (l : Lists). uncarried c.args.region.now.only c.args.name.now l c.args.stmt.now) c.catalog.ensures.catalog);
}
