use Rattle.std.proofs.Common.{subst, ◌∙◌}
use Rattle.std.specs.Prelude.{IfErr, OnOk}
use Rattle.sr_book.specs.Entries.{Name}
use Rattle.sr_send.specs.Inner.Steps.{AllRead}
use Rattle.sr_send.specs.Inner.Stops.{ReadStop}
use Rattle.sr_send.specs.declared.fault.SendFault.TheVariants.{Memory}
use Rattle.sr_send.proofs.Endings.{not_begun}
use Rattle.sr_send.proofs.Results.{if_fault}
use Rattle.sr_send.proofs.unsent.put_scanned.Goals as goal

pub returns-in_err-scanner-clause-cause : goal.returns-in_err-scanner-clause-cause
returns-in_err-scanner-clause-cause g c =
    let seen = g.S.Held.seen c.args.site.now in
    if_fault (ReadStop c.args.db.now c.args.aim.now c.args.user.now seen seen) Memory c.from_residual.result c.from_residual.ensures.1 (not_begun c.args.db.now c.args.aim.now c.args.user.now seen c.requires.aim)

pub put_given-outcome-requires-clause-catalog : goal.put_given-outcome-requires-clause-catalog
put_given-outcome-requires-clause-catalog g c = c.in_ok-scanner.ensures.catalog ∙ c.base_catalog.ensures.catalog

pub returns-clause-read : goal.returns-clause-read
returns-clause-read g c =
    let before = g.S.Held.seen c.args.site.now in
    let now = g.S.Held.seen c.put_given-outcome.new.site in
    subst (λ (u : Name). OnOk c.put_given-outcome.result (AllRead c.args.db.now c.args.aim.now u c.put_given-outcome.new.post before now)) c.in_ok-scanner.ensures.user c.put_given-outcome.ensures.read

pub returns-clause-cause : goal.returns-clause-cause
returns-clause-cause g c =
    let before = g.S.Held.seen c.args.site.now in
    let now = g.S.Held.seen c.put_given-outcome.new.site in
    subst (λ (u : Name). IfErr c.put_given-outcome.result (ReadStop c.args.db.now c.args.aim.now u before now)) c.in_ok-scanner.ensures.user c.put_given-outcome.ensures.cause
