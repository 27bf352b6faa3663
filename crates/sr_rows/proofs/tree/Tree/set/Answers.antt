use Rattle.std.proofs.Common.{◌≡◌, rules, sym, ap, ◌∙◌, Some}
use Rattle.std.specs.FinMap as map
use Rattle.sr_base.specs.Order.{key_cmp}
use Rattle.sr_base.specs.Inner.Order.{key_cmp_total}
use Rattle.sr_base.proofs.Exact.{exact_keys}
use Rattle.sr_rows.specs.declared.tree.Tree.TheInside.{Inside}
use Rattle.sr_rows.proofs.Entries.{get-lookup, from_entries-given, there_not_none}
use Rattle.sr_rows.proofs.tree.Tree.set.Goals as goal
use Rattle.sr_rows.proofs.tree.Tree.set.Goals.{in-Some, in-None}

pub returns-clause-set : goal.returns-clause-set
returns-clause-set c =
    let es = c.self.inside.places.entries in
    let k = c.args.key.now in
    let at_key = get-lookup key_cmp_total es k in
    let view : map.from_entries es ≡ c.args.self.now = c.self.view_is in
    elim c.match-get_mut.branch [
      | in-Some w ↦
          ap (λ (s : Inside). map.from_entries {R = key_cmp} s.places.entries) w.self-inside-is
          ∙ from_entries-given key_cmp_total exact_keys es (c.get_mut.follows.lender w.replace.new.dest).entries k w.replace.new.dest ((c.get_mut.follows.holds w.replace.new.dest).3 (search rules)).0
          ∙ ap (λ p. map.insert (map.from_entries es) k p) w.replace.ensures.after ∙ ap (λ m. map.insert m k c.args.place) view
      | in-None w ↦ there_not_none (map.get c.args.self.now k) (ap (λ m. map.get m k) (sym view) ∙ at_key ∙ sym w.in-None.ensures.value) c.requires.there
    ]

pub returns-clause-before : goal.returns-clause-before
returns-clause-before c =
    let es = c.self.inside.places.entries in
    let k = c.args.key.now in
    let at_key = get-lookup key_cmp_total es k in
    let view : map.from_entries es ≡ c.args.self.now = c.self.view_is in
    elim c.match-get_mut.branch [
      | in-Some w ↦ ap (λ m. map.get m k) (sym view) ∙ at_key ∙ sym w.in-Some.ensures.value ∙ ap Some (sym (w.result-is ∙ w.replace.ensures.value))
      | in-None w ↦ there_not_none (map.get c.args.self.now k) (ap (λ m. map.get m k) (sym view) ∙ at_key ∙ sym w.in-None.ensures.value) c.requires.there
    ]
