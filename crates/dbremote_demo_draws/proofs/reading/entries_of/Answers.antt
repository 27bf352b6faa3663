use Rattle.std.proofs.Common.{◌≡◌, List, [], ◌∷◌, ◌++◌, Option, rules, sym, subst}
use Rattle.sr_base.specs.declared.offset.Offset.{Offset}
use Rattle.sr_database.specs.Inner.Entries.{IsEntryAfter}
use Rattle.sr_logform.specs.declared.entry.Entry.{Entry}
use Rattle.sr_memsite.specs.Inner.Meaning.{seen_of}
use Rattle.dbremote_demo_draws.proofs.EntriesRead.{AreRead, none_read, one_more, order}
use Rattle.dbremote_demo_draws.proofs.reading.entries_of.Goals as goal

pub entries-init : goal.entries-init
entries-init c =
    let first = seen_of c.args.site.now in
    subst (λ (items : List Entry). AreRead c.args.database.now items c.base-after.result first first) (sym c.new-entries.ensures.items)
    (none_read c.args.database.now c.base-after.result first c.base-after.ensures.base (order c.args.database.now (c.usable-usable_here.ensures.sound c.requires.usable)))

pub entries-preserved : goal.entries-preserved
entries-preserved c =
    let pushed : c.push.new.self.items ≡ c.entries.entries.items ++ c.in-Some.entry ∷ [] = search rules in
    subst (λ (items : List Entry). AreRead c.args.database.now items c.in-Some.end (seen_of c.args.site.now) (seen_of c.next_entry.new.site)) (sym pushed)
    (one_more c.args.database.now c.entries.entries.items c.entries.after c.in-Some.end c.in-Some.entry (seen_of c.args.site.now) (seen_of c.entries.site) (seen_of c.next_entry.new.site) c.entries.invariant
    (λ publisher done left is at. subst (λ (found : Option (Offset × Entry)). IsEntryAfter done left found) c.in-Some.is (c.in_ok-end.ensures.entry publisher done left is at)) (search rules) c.next_entry.ensures.database)
