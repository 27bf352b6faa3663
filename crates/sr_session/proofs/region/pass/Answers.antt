use Rattle.std.proofs.Common.{◌<◌, ◌^◌, List, Some, length, subst}
use Rattle.sr_base.specs.Fields.{IsListOf}
use Rattle.sr_book.specs.Entries.{Name}
use Rattle.sr_database_history.specs.Recorded.{pass}
use Rattle.sr_logform.specs.Outcomes.{IsShortChange}
use Rattle.sr_logform.specs.declared.change.Change.{Change}
use Rattle.sr_session_script.specs.Meaning.{enters}
use Rattle.sr_session.specs.Inner.Ready.{work_of}
use Rattle.sr_session.proofs.Commits.{took_none}
use Rattle.sr_session.proofs.Regions.{can_pass, can_pass_some}
use Rattle.sr_session.proofs.Results.{took_memory}
use Rattle.sr_session.proofs.region.pass.Goals as goal

pub returns-then-not-are_few : goal.returns-then-not-are_few
returns-then-not-are_few g c =
    let region = c.args.region.now in
    record {
      took =
          took_none (enters (pass region.users region.only c.args.stmt.now c.args.changes) (work_of c.args.db.now (Some region))) c.args.db.now (g.S.Held.seen c.args.site.now) c.args.lines.now.items c.args.lines.now.items
          (Some region) c.requires.ready.usable (λ i. c.args.lines.now.items);
    }

pub returns-in_err-copy : goal.returns-in_err-copy
returns-in_err-copy g c =
    let region = c.args.region.now in
    record {
      took =
          took_memory (enters (pass region.users region.only c.args.stmt.now c.args.changes) (work_of c.args.db.now (Some region))) c.args.db.now (g.S.Held.seen c.args.site.now) c.args.lines.now.items c.args.lines.now.items
          (Some region) c.from_residual.result c.from_residual.ensures.1 c.requires.ready.usable (λ i. c.args.lines.now.items);
    }

pub returns-in_err-text_of : goal.returns-in_err-text_of
returns-in_err-text_of g c =
    let region = c.args.region.now in
    record {
      took =
          took_memory (enters (pass region.users region.only c.args.stmt.now c.args.changes) (work_of c.args.db.now (Some region))) c.args.db.now (g.S.Held.seen c.args.site.now) c.args.lines.now.items c.args.lines.now.items
          (Some region) c.from_residual-in_err-text_of.result c.from_residual-in_err-text_of.ensures.1 c.requires.ready.usable (λ i. c.args.lines.now.items);
    }

pub enter-requires-clause-entry : goal.enter-requires-clause-entry
enter-requires-clause-entry g c =
    let region = c.args.region.now in
    can_pass_some c.args.db.now region c.args.stmt.now c.in_ok-copy.field-0 c.in_ok-text_of.field-0 c.args.changes c.requires.pending c.requires.users c.requires.carried c.requires.fit c.requires.accepted c.requires.may
    c.in_ok-copy.ensures.equal (subst (λ (names : List Name). length names < 2 ^ 32) c.as_slice.ensures.items (c.are_few.ensures.few.0 c.if-not-are_few.false)) c.in_ok-text_of.ensures.text c.in_ok-text_of.ensures.short
    (subst (λ (l : List Change). IsListOf IsShortChange l) c.as_slice-else-not-are_few.ensures.items (c.are_short.ensures.short.0 c.if-not-are_short.false))

pub returns : goal.returns
returns g c =
    let region = c.args.region.now in
    record {
      took =
          c.enter.ensures.took (pass region.users region.only c.args.stmt.now c.args.changes) (Some region)
          (can_pass c.args.db.now region c.args.stmt.now c.in_ok-copy.field-0 c.in_ok-text_of.field-0 c.args.changes c.requires.pending c.requires.users c.requires.carried c.requires.fit c.requires.accepted c.requires.may
          c.in_ok-copy.ensures.equal (subst (λ (names : List Name). length names < 2 ^ 32) c.as_slice.ensures.items (c.are_few.ensures.few.0 c.if-not-are_few.false)) c.in_ok-text_of.ensures.text c.in_ok-text_of.ensures.short
          (subst (λ (l : List Change). IsListOf IsShortChange l) c.as_slice-else-not-are_few.ensures.items (c.are_short.ensures.short.0 c.if-not-are_short.false)));
    }
