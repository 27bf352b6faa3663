use Rattle.std.proofs.Common.{◌≡◌, None}
use Rattle.sr_catalog_change.specs.Changes.{refusal}
use Rattle.sr_catalog.proofs.Spelling.{spelled_either}
use Rattle.sr_catalog.proofs.catalog.Catalog.apply.Goals as goal

pub invariant_of-self : goal.invariant_of-self
invariant_of-self c =
    let before = c.self.inside.schema in
    let accepted : refusal before c.args.statement.now ≡ None = cc in
    spelled_either c.apply.result before c.apply.new.schema c.args.statement.now c.self.invariant c.requires.normal accepted c.apply.ensures.ok
    c.apply.ensures.err
