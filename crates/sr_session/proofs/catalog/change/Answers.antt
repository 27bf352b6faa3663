use Rattle.std.proofs.Common.{◌≡◌, Ok, ap, sym, subst, ◌∙◌}
use Rattle.sr_catalog_schema.specs.Catalogs.{Lists}
use Rattle.sr_database_history.specs.Recorded.{ddl}
use Rattle.sr_session_script.specs.Inner.Answers.{IsStop}
use Rattle.sr_session_script.specs.Meaning.{accepted, changed, is_done_already}
use Rattle.sr_session.specs.Inner.Faults.{fault_of_stop}
use Rattle.sr_session.specs.Inner.Ready.{work_of}
use Rattle.sr_session.proofs.Catalogs.{can_ddl, can_ddl_some, changed_already, changed_entry, changed_stop}
use Rattle.sr_session.proofs.Results.{took_err, took_memory}
use Rattle.sr_session.proofs.catalog.change.Goals as goal

pub returns-in_err-accept : goal.returns-in_err-accept
returns-in_err-accept g c =
    let view = c.args.db.now in
    let seen = g.S.Held.seen c.args.site.now in
    let why = c.in_err-accept.field-0.0 in
    record {
      took = λ region.
          took_err (changed c.args.stmt.now (work_of view region)) view view seen seen c.args.lines.now.items c.args.lines.now.items region (fault_of_stop why) c.from_residual.result c.from_residual.ensures.1
          (changed_stop view seen c.args.lines.now.items region c.args.stmt.now why c.requires.ready.usable
          (subst (λ (l : Lists). IsStop (accepted l c.args.stmt.now) why) c.catalog.ensures.catalog c.in_err-accept.ensures.meant));
    }

pub returns-in_err-done : goal.returns-in_err-done
returns-in_err-done g c = record {
  took = λ region.
      took_memory (changed c.args.stmt.now (work_of c.args.db.now region)) c.args.db.now (g.S.Held.seen c.args.site.now) c.args.lines.now.items c.args.lines.now.items region
      c.from_residual-in_err-done.result c.from_residual-in_err-done.ensures.1 c.requires.ready.usable (λ i. c.args.lines.now.items);
}

pub returns-in_err-extend_from_slice : goal.returns-in_err-extend_from_slice
returns-in_err-extend_from_slice g c = record {
  took = λ region.
      took_memory (changed c.args.stmt.now (work_of c.args.db.now region)) c.args.db.now (g.S.Held.seen c.args.site.now) c.args.lines.now.items c.extend_from_slice.new.self.items region
      c.from_residual-in_err-extend_from_slice.result c.from_residual-in_err-extend_from_slice.ensures.1 c.requires.ready.usable c.in_err-extend_from_slice.ensures.items;
}

pub returns-then-done : goal.returns-then-done
returns-then-done g c =
    let view = c.args.db.now in
    record {
      took = λ region.
          changed_already view (g.S.Held.seen c.args.site.now) c.args.lines.now.items c.extend_from_slice.new.self.items region c.args.stmt.now c.requires.ready.usable
          (subst (λ (l : Lists). accepted l c.args.stmt.now ≡ Ok tt) c.catalog.ensures.catalog c.in_ok-accept.ensures.meant)
          (ap (λ (l : Lists). is_done_already l c.args.stmt.now) (sym c.catalog-2.ensures.catalog) ∙ sym c.in_ok-done.ensures ∙ c.if-done.true) c.in_ok-extend_from_slice.ensures.items;
    }

pub returns-in_err-text_of : goal.returns-in_err-text_of
returns-in_err-text_of g c = record {
  took = λ region.
      took_memory (changed c.args.stmt.now (work_of c.args.db.now region)) c.args.db.now (g.S.Held.seen c.args.site.now) c.args.lines.now.items c.args.lines.now.items region
      c.from_residual-in_err-text_of.result c.from_residual-in_err-text_of.ensures.1 c.requires.ready.usable (λ i. c.args.lines.now.items);
}

pub enter-requires-clause-entry : goal.enter-requires-clause-entry
enter-requires-clause-entry g c =
    can_ddl_some c.args.db.now c.args.stmt.now c.in_ok-text_of.field-0 c.requires.pending c.requires.ddl c.in_ok-text_of.ensures.text c.in_ok-text_of.ensures.short
    (subst (λ (l : Lists). accepted l c.args.stmt.now ≡ Ok tt) c.catalog.ensures.catalog c.in_ok-accept.ensures.meant)

pub returns : goal.returns
returns g c =
    let view = c.args.db.now in
    let fine : accepted view.catalog c.args.stmt.now ≡ Ok tt = subst (λ (l : Lists). accepted l c.args.stmt.now ≡ Ok tt) c.catalog.ensures.catalog c.in_ok-accept.ensures.meant in
    record {
      took = λ region.
          changed_entry view c.enter.new.db (g.S.Held.seen c.args.site.now) (g.S.Held.seen c.enter.new.site) c.args.lines.now.items c.enter.new.lines.items region c.args.stmt.now c.enter.result fine
          (ap (λ (l : Lists). is_done_already l c.args.stmt.now) (sym c.catalog-2.ensures.catalog) ∙ sym c.in_ok-done.ensures ∙ c.if-done.false)
          (c.enter.ensures.took (ddl c.args.stmt.now) region
          (can_ddl view c.args.stmt.now c.in_ok-text_of.field-0 c.requires.pending c.requires.ddl c.in_ok-text_of.ensures.text c.in_ok-text_of.ensures.short fine));
    }
