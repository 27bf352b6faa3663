use Rattle.sr_agent.proofs.BegunAt.{begun_at, ended_at, passed_in, refusal_is}
use Rattle.sr_agent.proofs.restarting.begin_at.Goals as goal

pub ended_by-requires : goal.ended_by-requires
ended_by-requires g c = record { refusal = refusal_is c.args.db.now c.restart_log.new.self c.args.keep (g.S.Held.seen c.args.site.now) (g.S.Held.seen c.restart_log.new.site) c.in-Err.fault c.in-Err.ensures.cause }

pub returns-in-Ok-clause-begins : goal.returns-in-Ok-clause-begins
returns-in-Ok-clause-begins g c =
    begun_at c.args.keep c.args.db.now c.restart_log.new.self (g.S.Held.seen c.args.site.now) (g.S.Held.seen c.restart_log.new.site) c.requires.can c.restart_log.ensures.stays c.restart_log.ensures.moments
    c.restart_log.ensures.both c.restart_log.ensures.quiet c.in-Ok.ensures.value c.in-Ok.ensures.beginning c.in-Ok.ensures.database c.in-Ok.ensures.steady

pub returns-in-Err-clause-begins : goal.returns-in-Err-clause-begins
returns-in-Err-clause-begins g c =
    passed_in c.args.keep c.args.db.now c.restart_log.new.self (g.S.Held.seen c.args.site.now) (g.S.Held.seen c.restart_log.new.site) c.requires.can c.restart_log.ensures.stays c.restart_log.ensures.moments
    c.restart_log.ensures.both c.restart_log.ensures.quiet c.in-Err.fault c.ended_by.result c.ended_by.ensures.passed (λ told. c.in-Err.ensures.left told) c.in-Err.ensures.cause

pub returns-in-Err-clause-breaks : goal.returns-in-Err-clause-breaks
returns-in-Err-clause-breaks g c =
    ended_at c.args.keep c.args.db.now c.restart_log.new.self (g.S.Held.seen c.args.site.now) (g.S.Held.seen c.restart_log.new.site) c.requires.can c.restart_log.ensures.stays c.restart_log.ensures.moments
    c.restart_log.ensures.both c.restart_log.ensures.quiet c.in-Err.fault c.ended_by.result c.ended_by.ensures.ended (λ told publisher es its. c.in-Err.ensures.same told publisher es its) c.in-Err.ensures.cause
