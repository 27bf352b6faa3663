use Rattle.std.proofs.Common.{◌≡◌, rules, sym, ap, ◌∙◌}
use Rattle.std.specs.FinMap as map
use Rattle.std.proofs.lemmas.Map.Lookups.{exact_bytes}
use Rattle.sr_base.specs.Order.{name_cmp}
use Rattle.sr_base.specs.Inner.Order.{name_cmp_total}
use Rattle.sr_database_replay.specs.declared.bookkeeping.Books.TheInside.{Inside}
use Rattle.sr_rows.proofs.Entries.{get-lookup, from_entries-given, there_not_none}
use Rattle.sr_database_replay.proofs.bookkeeping.Books.set.Goals as goal
use Rattle.sr_database_replay.proofs.bookkeeping.Books.set.Goals.{in-Some, in-None}

pub returns : goal.returns
returns c =
    let es = c.self.inside.books.entries in
    let user = c.args.user.now in
    let at_user = get-lookup name_cmp_total es user in
    let view : map.from_entries es ≡ c.args.self.now = c.self.view_is in
    record {
      set = elim c.match-get_mut.branch [
        | in-Some w ↦
            ap (λ (s : Inside). map.from_entries {R = name_cmp} s.books.entries) w.self-inside-is
            ∙ from_entries-given name_cmp_total exact_bytes es (c.get_mut.follows.lender c.args.book).entries user c.args.book ((c.get_mut.follows.holds c.args.book).3 (search rules)).0
            ∙ ap (λ m. map.insert m user c.args.book) view
        | in-None w ↦ there_not_none (map.get c.args.self.now user) (ap (λ m. map.get m user) (sym view) ∙ at_user ∙ sym w.in-None.ensures.value) c.requires.there
      ];
    }
