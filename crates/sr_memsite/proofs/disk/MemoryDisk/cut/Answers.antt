use Rattle.std.proofs.Common.{◌≡◌, ◌∙◌, List, ℕ, ap, refl, take, true, false}
use Rattle.sr_site.specs.Files.{Files, bytes_of, with_bytes}
use Rattle.sr_site.specs.Happenings.{cut_to}
use Rattle.sr_memsite_disk.specs.Store.{Store}
use Rattle.sr_memsite_disk.proofs.Backing.{cut_done, cut_failed}
use Rattle.sr_memsite_disk.proofs.Standing.{standing_cut, standing_cut_failed}
use Rattle.sr_memsite.specs.Inner.Steps.{first_of, happened_of}
use Rattle.sr_memsite.proofs.Crashes.{done_by, within_of, within_seen, files_by, happened_by}
use Rattle.sr_memsite.proofs.disk.MemoryDisk.cut.Goals as goal

pub cut-requires : goal.cut-requires
cut-requires c = within_of c.self.inside.files c.self.inside.calls.steps c.args.self.now c.args.file c.args.to c.self.invariant c.self.view_is c.requires

pub invariant_of-self-2 : goal.invariant_of-self-2
invariant_of-self-2 c =
    let within = within_of c.self.inside.files c.self.inside.calls.steps c.args.self.now c.args.file c.args.to c.self.invariant c.self.view_is c.requires in
    done_by _ _ _ _ _ c.with-self-inside-2.ensures c.cut.ensures.cut (cut_done (first_of c.self.inside.calls.steps) (happened_of c.self.inside.calls.steps) c.self.inside.files c.self.invariant c.args.file c.args.to c.of-2.result.value.bytes within)

pub returns-clause-cut : goal.returns-clause-cut
returns-clause-cut c =
    let steps = c.self.inside.calls.steps in
    let within = within_seen steps c.args.self.now c.args.file c.args.to c.self.view_is c.requires in
    files_by steps _ _ c.args.self.now (λ (files : Files). with_bytes files c.args.file (take c.args.to (bytes_of files c.args.file))) c.with-self-inside-2.ensures c.self.view_is
    (standing_cut (first_of steps) (happened_of steps) c.args.file c.args.to c.of-2.result.value.bytes within)

pub returns-clause-happened : goal.returns-clause-happened
returns-clause-happened c =
    happened_by c.cut.new.self c.self.inside.calls.steps _ _ c.args.self.now c.args.file c.of-2.result.value.bytes (λ (after : List ℕ). cut_to c.args.file c.args.to true after) c.with-self-inside-2.ensures c.self.view_is refl
    (invariant_of-self-2 c) (ap (λ (s : Store). s.bytes) (c.of-2.ensures ∙ c.file-2.ensures.store))

pub returns-then-fails-clause-err : goal.returns-then-fails-clause-err
returns-then-fails-clause-err c =
    let steps = c.self.inside.calls.steps in
    files_by steps _ _ c.args.self.now (λ (files : Files). files) c.with-self-inside.ensures c.self.view_is (standing_cut_failed (first_of steps) (happened_of steps) c.args.file c.args.to c.of.result.value.bytes)

pub returns-then-fails-clause-happened : goal.returns-then-fails-clause-happened
returns-then-fails-clause-happened c =
    let steps = c.self.inside.calls.steps in
    let backed = done_by c.self.inside.files c.self.inside.files steps _ _ c.with-self-inside.ensures refl (cut_failed (first_of steps) (happened_of steps) c.self.inside.files c.self.invariant c.args.file c.args.to c.of.result.value.bytes) in
    happened_by c.self.inside.files steps _ _ c.args.self.now c.args.file c.of.result.value.bytes (λ (after : List ℕ). cut_to c.args.file c.args.to false after) c.with-self-inside.ensures c.self.view_is refl backed
    (ap (λ (s : Store). s.bytes) (c.of.ensures ∙ c.file.ensures.store))
