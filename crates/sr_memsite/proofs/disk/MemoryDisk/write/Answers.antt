use Rattle.std.proofs.Common.{◌≡◌, ◌∙◌, List, ℕ, ap, refl, sym, subst, rules, true, false}
use Rattle.sr_site.specs.Files.{Files, bytes_of, with_bytes, overwritten}
use Rattle.sr_site.specs.Happenings.{wrote}
use Rattle.sr_memsite_disk.specs.Store.{Store}
use Rattle.sr_memsite_disk.specs.Inner.Store.{after_write}
use Rattle.sr_memsite_disk.specs.Stores.{Stores}
use Rattle.sr_memsite_disk.specs.Inner.Stores.{AreBacked, store_of, with_store}
use Rattle.sr_memsite_disk.proofs.Backing.{write_done, write_failed}
use Rattle.sr_memsite_disk.proofs.Standing.{standing_write, standing_write_failed}
use Rattle.sr_memsite.specs.Inner.Steps.{first_of, happened_of}
use Rattle.sr_memsite.proofs.Crashes.{Steps, seen, done_by, within_of, within_seen, files_by, happened_by}
use Rattle.sr_memsite.proofs.disk.MemoryDisk.write.Goals as goal
use Rattle.sr_memsite.proofs.disk.MemoryDisk.write.Goals.{then-fails-via-then-fails, then-fails-via-else-fails+then-is_err}

pub write-requires : goal.write-requires
write-requires c = within_of c.self.inside.files c.self.inside.calls.steps c.args.self.now c.args.file c.args.at c.self.invariant c.self.view_is c.requires

pub invariant_of-self-2 : goal.invariant_of-self-2
invariant_of-self-2 c =
    let within = within_of c.self.inside.files c.self.inside.calls.steps c.args.self.now c.args.file c.args.at c.self.invariant c.self.view_is c.requires in
    let same : c.write.new.self ≡ with_store c.self.inside.files c.args.file (after_write (store_of c.self.inside.files c.args.file) c.args.at c.args.bytes.now) = search rules in
    done_by _ _ _ _ _ c.with-self-inside-2.ensures same (write_done (first_of c.self.inside.calls.steps) (happened_of c.self.inside.calls.steps) c.self.inside.files c.self.invariant c.args.file c.args.at c.args.bytes.now c.of-2.result.value.bytes within)

pub returns-clause-written : goal.returns-clause-written
returns-clause-written c =
    let steps = c.self.inside.calls.steps in
    let within = within_seen steps c.args.self.now c.args.file c.args.at c.self.view_is c.requires in
    files_by steps _ _ c.args.self.now (λ (files : Files). with_bytes files c.args.file (overwritten (bytes_of files c.args.file) c.args.at c.args.bytes.now)) c.with-self-inside-2.ensures c.self.view_is
    (standing_write (first_of steps) (happened_of steps) c.args.file c.args.at c.args.bytes.now c.of-2.result.value.bytes within)

pub returns-clause-happened : goal.returns-clause-happened
returns-clause-happened c =
    happened_by c.write.new.self c.self.inside.calls.steps _ _ c.args.self.now c.args.file c.of-2.result.value.bytes (λ (after : List ℕ). wrote c.args.file c.args.at c.args.bytes.now true after) c.with-self-inside-2.ensures c.self.view_is refl
    (invariant_of-self-2 c) (ap (λ (s : Store). s.bytes) (c.of-2.ensures ∙ c.file-2.ensures.store))

pub returns-then-fails-clause-err : goal.returns-then-fails-clause-err
returns-then-fails-clause-err c =
    let steps = c.then-fails.self-inside.calls.steps in
    let same : steps ≡ c.self.inside.calls.steps = elim c.then-fails.branch [ then-fails-via-then-fails w ↦ search rules | then-fails-via-else-fails+then-is_err w ↦ search rules ] in
    files_by steps _ _ c.args.self.now (λ (files : Files). files) c.with-self-inside.ensures (ap seen same ∙ c.self.view_is) (standing_write_failed (first_of steps) (happened_of steps) c.args.file c.args.at c.args.bytes.now c.of.result.value.bytes)

pub returns-then-fails-clause-happened : goal.returns-then-fails-clause-happened
returns-then-fails-clause-happened c =
    let steps = c.then-fails.self-inside.calls.steps in
    let stores = c.then-fails.self-inside.files in
    let same : steps ≡ c.self.inside.calls.steps = elim c.then-fails.branch [ then-fails-via-then-fails w ↦ search rules | then-fails-via-else-fails+then-is_err w ↦ search rules ] in
    let stood : stores ≡ c.self.inside.files = elim c.then-fails.branch [ then-fails-via-then-fails w ↦ search rules | then-fails-via-else-fails+then-is_err w ↦ search rules ] in
    let before : AreBacked stores (first_of steps) (happened_of steps) =
    subst (λ (l : Steps). AreBacked stores (first_of l) (happened_of l)) (sym same) (subst (λ (s : Stores). AreBacked s (first_of c.self.inside.calls.steps) (happened_of c.self.inside.calls.steps)) (sym stood) c.self.invariant) in
    let backed = done_by stores stores steps _ _ c.with-self-inside.ensures refl (write_failed (first_of steps) (happened_of steps) stores before c.args.file c.args.at c.args.bytes.now c.of.result.value.bytes) in
    happened_by stores steps _ _ c.args.self.now c.args.file c.of.result.value.bytes (λ (after : List ℕ). wrote c.args.file c.args.at c.args.bytes.now false after) c.with-self-inside.ensures (ap seen same ∙ c.self.view_is) refl backed
    (ap (λ (s : Store). s.bytes) (c.of.ensures ∙ c.file.ensures.store))
