use Rattle.std.proofs.Common.{◌≡◌, Ok, subst}
use Rattle.sr_ast.specs.declared.stmt.Stmt.{Stmt}
use Rattle.sr_catalog_schema.specs.Catalogs.{Lists}
use Rattle.sr_session_script.specs.Inner.Answers.{IsStop}
use Rattle.sr_session_script.specs.Meaning.{accepted, began}
use Rattle.sr_session.specs.Inner.Faults.{fault_of_stop}
use Rattle.sr_session.specs.Inner.Ready.{work_of}
use Rattle.sr_session.proofs.Regions.{begin_stop, begin_done, region_users}
use Rattle.sr_session.proofs.Results.{took_err, took_memory}
use Rattle.sr_session.proofs.region.begin.Goals as goal

pub returns-in_err-accept-clause-took : goal.returns-in_err-accept-clause-took
returns-in_err-accept-clause-took c seen =
    let view = c.args.db.now in
    let region = c.args.session.now.region in
    let lines = c.args.session.now.lines.items in
    let why = c.in_err-accept.field-0.0 in
    took_err (began c.args.passthrough.now (work_of view region)) view view seen seen lines lines region (fault_of_stop why) c.from_residual.result c.from_residual.ensures.1
    (begin_stop view seen lines region region c.args.passthrough.now why c.requires.usable
    (subst (λ (s : Stmt). IsStop (accepted view.catalog s) why) c.requires.stmt (subst (λ (l : Lists). IsStop (accepted l c.args.stmt.now) why) c.catalog.ensures.catalog c.in_err-accept.ensures.meant)))

pub returns-in_err-region-clause-took : goal.returns-in_err-region-clause-took
returns-in_err-region-clause-took c seen =
    took_memory (began c.args.passthrough.now (work_of c.args.db.now c.args.session.now.region)) c.args.db.now seen c.args.session.now.lines.items c.args.session.now.lines.items c.args.session.now.region
    c.from_residual-in_err-region.result c.from_residual-in_err-region.ensures.1 c.requires.usable (λ i. c.args.session.now.lines.items)

pub returns-in_err-extend_from_slice-clause-took : goal.returns-in_err-extend_from_slice-clause-took
returns-in_err-extend_from_slice-clause-took c seen =
    took_memory (began c.args.passthrough.now (work_of c.args.db.now c.args.session.now.region)) c.args.db.now seen c.args.session.now.lines.items c.extend_from_slice.new.self.items c.args.session.now.region
    c.from_residual-in_err-extend_from_slice.result c.from_residual-in_err-extend_from_slice.ensures.1 c.requires.usable c.in_err-extend_from_slice.ensures.items

pub returns-clause-took : goal.returns-clause-took
returns-clause-took c seen =
    let view = c.args.db.now in
    begin_done view seen c.args.session.now.lines.items c.extend_from_slice.new.self.items c.args.session.now.region c.args.passthrough.now c.in_ok-region.region c.requires.usable
    (subst (λ (s : Stmt). accepted view.catalog s ≡ Ok tt) c.requires.stmt (subst (λ (l : Lists). accepted l c.args.stmt.now ≡ Ok tt) c.catalog.ensures.catalog c.in_ok-accept.ensures.meant)) c.in_ok-region.ensures.region
    c.in_ok-extend_from_slice.ensures.items

pub returns-clause-users : goal.returns-clause-users
returns-clause-users c =
    let view = c.args.db.now in
    region_users view c.args.passthrough.now c.in_ok-region.region
    (subst (λ (s : Stmt). accepted view.catalog s ≡ Ok tt) c.requires.stmt (subst (λ (l : Lists). accepted l c.args.stmt.now ≡ Ok tt) c.catalog.ensures.catalog c.in_ok-accept.ensures.meant)) c.in_ok-region.ensures.region
