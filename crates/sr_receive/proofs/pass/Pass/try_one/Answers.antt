use Rattle.std.proofs.Common.{[], refl, sym, ◌∙◌}
use Rattle.sr_receive.specs.Inner.Running.{stand}
use Rattle.sr_receive.proofs.Fetched.{due_here, fetch_stopped, filled_found, found_ready, one_of_found}
use Rattle.sr_receive.proofs.Leading.{firsts, none_holds}
use Rattle.sr_receive.proofs.pass.Pass.try_one.Goals as goal

pub returns-in_default-clause-ran : goal.returns-in_default-clause-ran
returns-in_default-clause-ran g c = absurd (c.requires.next.filled (sym c.as_slice.ensures.value ∙ none_holds c.window_of.result _ c.in_default.not-Some c.window_of.ensures.none))

pub try_found-requires : goal.try_found-requires
try_found-requires g c =
    let db = c.args.self.now.place.db.now in
    let before = g.S.Held.seen c.args.self.now.place.site.now in
    let now = g.S.Held.seen c.fetch_again.new.place.site.now in
    let user = c.args.self.now.user.now in
    let pieces = c.args.pieces.items in record {
      ready = record { ready = rw c.fetch_again.ensures.db (found_ready db before now db.catalog.publisher user pieces _ c.requires.ready.ready c.in-Ok.ensures.found); granted = rw c.fetch_again.ensures.db c.requires.ready.granted; within = c.requires.ready.within };
      filled = filled_found c.in-Ok.found (λ pairs. pairs.items) db.catalog.publisher user pieces before now c.requires.next.filled c.in-Ok.ensures.found;
      one_window = one_of_found c.in-Ok.found (λ pairs. pairs.items) db.catalog.publisher user c.requires.next.window pieces before now (firsts _ _ pieces c.requires.next.own) c.in-Ok.ensures.found;
    }

pub returns-in-Ok-clause-ran : goal.returns-in-Ok-clause-ran
returns-in-Ok-clause-ran g c =
    let of = c.in-Some.ensures.found in
    let s = stand c.args.self.now c.args.inbox.now [] in
    let before = g.S.Held.seen c.args.self.now.place.site.now in
    rw c.fetch_again.ensures.db at (c.try_found.ensures.ran c.args.pieces.items before
    (rw c.fetch_again.ensures.db (record { due = due_here s c.in-Some.window of.0 of.1 c.as_slice.result.now c.args.pieces.items refl c.requires.next c.as_slice.ensures.value of.2 of.3; found_all = c.in-Ok.ensures.found })))

pub returns-in-Err-clause-ran : goal.returns-in-Err-clause-ran
returns-in-Err-clause-ran g c =
    let of = c.in-Some.ensures.found in
    let s = stand c.args.self.now c.args.inbox.now [] in
    rw c.fetch_again.ensures.db
    (fetch_stopped c.args.self.now.place.db.now (g.S.Held.seen c.args.self.now.place.site.now) (g.S.Held.seen c.fetch_again.new.place.site.now) c.requires.ready.ready.usable s c.in-Some.window c.args.pieces.items c.in-Err.fault
    (due_here s c.in-Some.window of.0 of.1 c.as_slice.result.now c.args.pieces.items refl c.requires.next c.as_slice.ensures.value of.2 of.3) c.in-Err.ensures.cause)
