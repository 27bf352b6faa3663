use Rattle.std.proofs.Common.{◌≡◌, ◌∙◌, ap, refl, List, ℕ, true, false}
use Rattle.sr_site.specs.Files.{Files}
use Rattle.sr_site.specs.Happenings.{synced}
use Rattle.sr_memsite.specs.Inner.Steps.{first_of, happened_of}
use Rattle.sr_memsite_disk.specs.Store.{Store}
use Rattle.sr_memsite_disk.specs.Inner.Store.{settled_on}
use Rattle.sr_memsite_disk.specs.Stores.{Stores}
use Rattle.sr_memsite_disk.specs.Inner.Stores.{store_of}
use Rattle.sr_memsite_disk.proofs.Standing.{standing_sync_failed}
use Rattle.sr_memsite.proofs.Crashes.{seen, done_by, sync_as, sync_stays, store_there, bytes_seen, files_by, noted_by}
use Rattle.sr_memsite.proofs.disk.MemoryDisk.sync.Goals as goal

pub invariant_of-self-2 : goal.invariant_of-self-2
invariant_of-self-2 c =
    let bytes : List ℕ = (store_of c.self.inside.files c.args.file).bytes in
    let read : c.of-2.result.value.bytes ≡ bytes =
    ap (λ (store : Store). store.bytes) (c.of-2.ensures ∙ c.file-2.ensures.store ∙ ap (λ (stores : Stores). store_of stores c.args.file) c.sync.ensures.synced ∙ store_there c.self.inside.files c.args.file (settled_on bytes)) in
    done_by _ _ _ _ _ c.with-self-inside-2.ensures c.sync.ensures.synced
    (sync_as (first_of c.self.inside.calls.steps) (happened_of c.self.inside.calls.steps) c.self.inside.files c.self.invariant c.args.file bytes c.of-2.result.value.bytes read)

pub returns-then-fails-clause-noted : goal.returns-then-fails-clause-noted
returns-then-fails-clause-noted c =
    let steps = c.self.inside.calls.steps in
    let read = ap (λ (s : Store). s.bytes) (c.of.ensures ∙ c.file.ensures.store) ∙ bytes_seen c.self.inside.files steps c.args.self.now c.args.file c.self.invariant c.self.view_is in
    noted_by steps _ _ c.args.self.now (synced c.args.file false c.of.result.value.bytes) _ c.with-self-inside.ensures c.self.view_is refl (ap (λ (l : List ℕ). synced c.args.file false l) read)

pub returns-then-fails-clause-files : goal.returns-then-fails-clause-files
returns-then-fails-clause-files c =
    let steps = c.self.inside.calls.steps in
    files_by steps _ _ c.args.self.now (λ (files : Files). files) c.with-self-inside.ensures c.self.view_is (standing_sync_failed (first_of steps) (happened_of steps) c.args.file c.of.result.value.bytes)

pub returns-clause-noted : goal.returns-clause-noted
returns-clause-noted c =
    let steps = c.self.inside.calls.steps in
    let bytes : List ℕ = (store_of c.self.inside.files c.args.file).bytes in
    let read : c.of-2.result.value.bytes ≡ bytes =
    ap (λ (store : Store). store.bytes) (c.of-2.ensures ∙ c.file-2.ensures.store ∙ ap (λ (stores : Stores). store_of stores c.args.file) c.sync.ensures.synced ∙ store_there c.self.inside.files c.args.file (settled_on bytes)) in
    noted_by steps _ _ c.args.self.now (synced c.args.file true c.of-2.result.value.bytes) _ c.with-self-inside-2.ensures c.self.view_is refl
    (ap (λ (l : List ℕ). synced c.args.file true l) (read ∙ bytes_seen c.self.inside.files steps c.args.self.now c.args.file c.self.invariant c.self.view_is))

pub returns-clause-files : goal.returns-clause-files
returns-clause-files c =
    let steps = c.self.inside.calls.steps in
    let bytes : List ℕ = (store_of c.self.inside.files c.args.file).bytes in
    let read : c.of-2.result.value.bytes ≡ bytes =
    ap (λ (store : Store). store.bytes) (c.of-2.ensures ∙ c.file-2.ensures.store ∙ ap (λ (stores : Stores). store_of stores c.args.file) c.sync.ensures.synced ∙ store_there c.self.inside.files c.args.file (settled_on bytes)) in
    files_by steps _ _ c.args.self.now (λ (files : Files). files) c.with-self-inside-2.ensures c.self.view_is
    (sync_stays (first_of steps) (happened_of steps) c.args.file c.of-2.result.value.bytes (read ∙ bytes_seen c.self.inside.files steps (seen steps) c.args.file c.self.invariant refl))
