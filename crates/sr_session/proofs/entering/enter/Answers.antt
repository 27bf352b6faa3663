use Rattle.std.proofs.Common.{◌++◌, codes, ap, ◌∙◌}
use Rattle.std.specs.Fmt.{decimal}
use Rattle.sr_session_script.specs.Acts.{line}
use Rattle.sr_session_script.specs.Meaning.{enters}
use Rattle.sr_session.specs.Inner.Faults.{fault_of_store}
use Rattle.sr_session.specs.Inner.Ready.{work_of}
use Rattle.sr_session.proofs.Commits.{Committed, NotCommitted, entered, not_entered}
use Rattle.sr_session.proofs.Results.{took_fault, took_memory}
use Rattle.sr_session.proofs.entering.enter.Goals as goal

pub returns-in_err-reserve : goal.returns-in_err-reserve
returns-in_err-reserve g c = record {
  took = λ r region can.
      took_memory (enters r (work_of c.args.db.now region)) c.args.db.now (g.S.Held.seen c.args.site.now) c.args.lines.now.items c.reserve.new.self.items region c.from_residual.result c.from_residual.ensures.1
      c.requires.ready.usable c.reserve.ensures.items;
}

pub returns-in-Ok : goal.returns-in-Ok
returns-in-Ok g c =
    let before = g.S.Held.seen c.args.site.now in
    let now = g.S.Held.seen c.commit.new.site in
    let done : Committed c.args.db.now c.commit.new.self before now c.args.entry.now c.in-Ok.end = record {
      offset_is = c.in-Ok.ensures.offset;
      ready = c.in-Ok.ensures.ready;
      value = c.in-Ok.ensures.value;
      in_force = c.in-Ok.ensures.in_force;
      database = c.in-Ok.ensures.database;
      went = λ told publisher es r database can. c.in-Ok.ensures.went told publisher es r database can tt;
      room = c.in-Ok.ensures.room;
      attached = c.in-Ok.ensures.attached;
      stays = c.in-Ok.ensures.stays;
      steady = c.in-Ok.ensures.steady;
    } in
    record {
      took = λ r region can.
          entered c.args.db.now c.commit.new.self before now c.args.lines.now.items c.push_committed.new.out.items region c.args.entry.now c.in-Ok.end r c.requires.ready can done
          (c.push_committed.ensures.line ∙ ap (λ l. l ++ line (codes "committed " ++ decimal c.in-Ok.end.0)) c.reserve.ensures.items);
    }

pub returns-in-Err : goal.returns-in-Err
returns-in-Err g c =
    let before = g.S.Held.seen c.args.site.now in
    let now = g.S.Held.seen c.commit.new.site in
    let done : NotCommitted c.args.db.now c.commit.new.self before now c.args.entry.now c.in-Err.fault = record { cause = c.in-Err.ensures.cause; went = c.in-Err.ensures.went; attached = c.in-Err.ensures.attached; stays = c.in-Err.ensures.stays } in
    record {
      took = λ r region can.
          took_fault (enters r (work_of c.args.db.now region)) c.args.db.now c.commit.new.self before now c.args.lines.now.items c.reserve.new.self.items region c.from.result (fault_of_store c.in-Err.fault) c.from.ensures
          (not_entered c.args.db.now c.commit.new.self before now c.args.lines.now.items c.reserve.new.self.items region c.args.entry.now r c.in-Err.fault c.requires.ready can done c.reserve.ensures.items);
    }
