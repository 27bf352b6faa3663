use Rattle.std.proofs.Common.{◌∙◌, List, ℕ, ap}
use Rattle.sr_site.specs.Files.{Files, with_bytes}
use Rattle.sr_memsite_disk.specs.Picks.{standing}
use Rattle.sr_memsite_disk.proofs.Standing.{standing_sync}
use Rattle.sr_memsite.specs.Inner.Steps.{first_of, happened_of}
use Rattle.sr_memsite_disk.specs.Store.{Store}
use Rattle.sr_memsite_disk.specs.Inner.Stores.{with_store}
use Rattle.sr_memsite.proofs.Crashes.{done_by, sync_as, files_by}
use Rattle.sr_memsite.proofs.disk.MemoryDisk.set.Goals as goal

pub invariant_of-self : goal.invariant_of-self
invariant_of-self c =
    done_by _ _ _ _ _ c.with-self-inside.ensures (c.set.ensures.set ∙ ap (λ (store : Store). with_store c.self.inside.files c.args.file store) c.of-stored.ensures.settled)
    (sync_as (first_of c.self.inside.calls.steps) (happened_of c.self.inside.calls.steps) c.self.inside.files c.self.invariant c.args.file c.args.bytes.items c.of.result.value.bytes (ap (λ (store : Store). store.bytes) (c.of.ensures ∙ c.of-stored.ensures.settled)))

pub returns-clause-files : goal.returns-clause-files
returns-clause-files c =
    let steps = c.self.inside.calls.steps in
    let given = ap (λ (store : Store). store.bytes) (c.of.ensures ∙ c.of-stored.ensures.settled) in
    files_by steps _ _ c.args.self.now (λ (files : Files). with_bytes files c.args.file c.args.bytes.items) c.with-self-inside.ensures c.self.view_is
    (standing_sync (first_of steps) (happened_of steps) c.args.file c.of.result.value.bytes ∙ ap (λ (l : List ℕ). with_bytes (standing (first_of steps) (happened_of steps)) c.args.file l) given)
