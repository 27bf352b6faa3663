use Rattle.sr_session_script.specs.Meaning.{ended}
use Rattle.sr_session.specs.Inner.Ready.{work_of}
use Rattle.sr_session.proofs.Regions.{end_done}
use Rattle.sr_session.proofs.Results.{took_memory}
use Rattle.sr_session.proofs.region.end.Goals as goal

pub returns-in_err-extend_from_slice-clause-took : goal.returns-in_err-extend_from_slice-clause-took
returns-in_err-extend_from_slice-clause-took c seen =
    took_memory (ended (work_of c.args.db.now c.args.session.now.region)) c.args.db.now seen c.args.session.now.lines.items c.extend_from_slice.new.self.items c.args.session.now.region
    c.from_residual.result c.from_residual.ensures.1 c.requires.usable c.in_err-extend_from_slice.ensures.items

pub returns-clause-took : goal.returns-clause-took
returns-clause-took c seen = end_done c.args.db.now seen c.args.session.now.lines.items c.extend_from_slice.new.self.items c.args.session.now.region c.requires.usable c.in_ok-extend_from_slice.ensures.items
