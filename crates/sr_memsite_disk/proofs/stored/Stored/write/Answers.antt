use Rattle.std.proofs.Common.{◌≡◌, ◌≤◌, ℕ, List, length, sym, subst, rules}
use Rattle.sr_site.specs.Files.{overwritten}
use Rattle.sr_memsite_disk.specs.Store.{Store}
use Rattle.sr_memsite_disk.specs.Inner.Undoing.{Keeps, content}
use Rattle.sr_memsite_disk.proofs.Undone.{write_seen}
use Rattle.sr_memsite_disk.proofs.stored.Stored.write.Goals as goal

pub put-requires : goal.put-requires
put-requires c = subst (λ (s : Store). c.args.at ≤ length s.bytes) (sym c.self.view_is) c.requires

pub returns-clause-ok : goal.returns-clause-ok
returns-clause-ok c =
    let keeps = subst (λ (l : List ℕ). Keeps c.self.inside.cut l c.args.at c.args.bytes.now c.in_ok-written.written) c.as_slice.ensures.value c.in_ok-written.ensures.keeps in
    let wrote : c.put.new.file.items ≡ overwritten (content c.self.inside.cut c.self.inside.bytes.items) c.args.at c.args.bytes.now = search rules in
    write_seen c.self.inside.bytes.items _ c.self.inside.cut c.args.at c.args.bytes.now c.self.inside.writes.items _ c.in_ok-written.written c.args.self.now
    c.self.view_is keeps c.in_ok-push.ensures.items wrote (subst (λ (s : Store). c.args.at ≤ length s.bytes) (sym c.self.view_is) c.requires)
