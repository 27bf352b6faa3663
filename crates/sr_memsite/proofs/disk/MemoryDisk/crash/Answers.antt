use Rattle.std.proofs.Common.{◌≡◌, [], ◌∙◌, ap}
use Rattle.sr_memsite.specs.Inner.Steps.{first_of, happened_of}
use Rattle.sr_memsite_disk.specs.Stores.{Stores}
use Rattle.sr_memsite_disk.specs.Inner.Stores.{files_of, outcomes}
use Rattle.sr_memsite.proofs.Crashes.{begun_as, crashed_as}
use Rattle.sr_memsite.proofs.disk.MemoryDisk.crash.Goals as goal

pub invariant_of-self : goal.invariant_of-self
invariant_of-self c =
    let first : first_of c.with-self-inside.result.steps ≡ files_of c.in_ok-files.files = ap first_of c.with-self-inside.ensures ∙ ap (λ (s : Stores). files_of s) c.of.ensures in
    let none : happened_of c.with-self-inside.result.steps ≡ [] = ap happened_of c.with-self-inside.ensures in
    begun_as c.in_ok-files.files (outcomes c.args.pick c.self.inside.files) _ _ c.in_ok-files.ensures.outcomes first none

pub returns-clause-crashed : goal.returns-clause-crashed
returns-clause-crashed c =
    let first : first_of c.with-self-inside.result.steps ≡ files_of c.in_ok-files.files = ap first_of c.with-self-inside.ensures ∙ ap (λ (s : Stores). files_of s) c.of.ensures in
    let none : happened_of c.with-self-inside.result.steps ≡ [] = ap happened_of c.with-self-inside.ensures in
    crashed_as c.self.inside.files c.in_ok-files.files (first_of c.self.inside.calls.steps) (first_of c.with-self-inside.result.steps) (happened_of c.self.inside.calls.steps) (happened_of c.with-self-inside.result.steps) c.args.pick c.args.self.now
    c.self.invariant c.in_ok-files.ensures.outcomes c.self.view_is first none
