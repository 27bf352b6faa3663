use Rattle.sr_database_did.specs.Inner.Did.{PlaceView}
use Rattle.sr_database_did.specs.Inner.Places.{at}
use Rattle.sr_database_did.proofs.Committing.{CommitSays, commit_did}
use Rattle.sr_database_did.proofs.place.Place.commit.Goals as goal

pub returns-clause-did : goal.returns-clause-did
returns-clause-did g c r can =
    let a : PlaceView = at g.S.Held.seen c.args.self.now in
    let b : PlaceView = record { db = c.commit.new.self; seen = g.S.Held.seen c.commit.new.site } in
    let says : CommitSays a b c.args.entry.now c.commit.result = record {
      ready = c.commit.ensures.ready;
      value = c.commit.ensures.value;
      in_force = c.commit.ensures.in_force;
      database = c.commit.ensures.database;
      went = c.commit.ensures.went;
      room = c.commit.ensures.room;
      stays = c.commit.ensures.stays;
      steady = c.commit.ensures.steady;
      cause = c.commit.ensures.cause;
    } in
    commit_did a b c.args.entry.now r c.commit.result c.requires.usable can says
