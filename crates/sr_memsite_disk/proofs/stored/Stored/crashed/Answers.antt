use Rattle.std.proofs.Common.{rules, ◌≡◌, ◌∙◌, ap, Option, ℕ, List, [], length}
use Rattle.std.proofs.lemmas.List.{nil_from_length}
use Rattle.sr_memsite_disk.specs.Changes.{cuts}
use Rattle.sr_memsite_disk.specs.Picks.{Crash, crashed, crash_of}
use Rattle.sr_memsite_disk.specs.Store.{Store}
use Rattle.sr_memsite_disk.specs.Inner.Store.{settled_on}
use Rattle.sr_memsite_disk.proofs.Undone.{gone_through}
use Rattle.sr_memsite_disk.proofs.stored.Stored.crashed.Goals as goal

-- the writes were gone through, and then the last cut
pub returns-clause-pick : goal.returns-clause-pick
returns-clause-pick c =
    let none : c.writes.writes.now ≡ [] = nil_from_length c.writes.writes.now (search rules) in
    let cut_is = c.in_ok-cut_if.ensures.cut ∙ ap (λ (last : Option ℕ). crashed c.writes.crash (cuts last)) (ap (λ (s : Store). s.unsynced.last_cut) c.self.view_is) in
    let done = gone_through c.writes.crash (record { file = c.args.self.now.unsynced.settled; pick = c.args.pick }) c.cut_if.new.self c.args.self.now.unsynced.changes c.writes.writes.now c.args.self.now.unsynced.last_cut c.writes.invariant none cut_is in
    c.apart-bytes.ensures.pick ∙ ap (λ (crash : Crash). crash.pick) done

pub returns-clause-file : goal.returns-clause-file
returns-clause-file c =
    let none : c.writes.writes.now ≡ [] = nil_from_length c.writes.writes.now (search rules) in
    let cut_is = c.in_ok-cut_if.ensures.cut ∙ ap (λ (last : Option ℕ). crashed c.writes.crash (cuts last)) (ap (λ (s : Store). s.unsynced.last_cut) c.self.view_is) in
    let done = gone_through c.writes.crash (record { file = c.args.self.now.unsynced.settled; pick = c.args.pick }) c.cut_if.new.self c.args.self.now.unsynced.changes c.writes.writes.now c.args.self.now.unsynced.last_cut c.writes.invariant none cut_is in
    c.of.ensures.settled ∙ ap settled_on (c.apart-bytes.ensures.file ∙ ap (λ (crash : Crash). crash.file) done)
