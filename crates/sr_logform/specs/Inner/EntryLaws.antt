-- Entries: what is read is spelled so, and what is spelled is read again.
use Rattle.std.proofs.Common.{◌≡◌, ℕ, Bool, true, false, List, ◌++◌, Ok, refl}
use Rattle.std.specs.Prelude.{⊤}
use Rattle.sr_base.specs.Fields.{name_spelling, IsName, list_spelling}
use Rattle.sr_base.specs.Inner.ListLaws.{list_format}
use Rattle.sr_base.specs.Inner.PartLaws.{IsTable, tag_table, no_table, variant, bare_variant, pair_format, triple_format}
use Rattle.sr_base.specs.Inner.Reading.{IsFormat}
use Rattle.sr_base.specs.Inner.TextLaws.{name_format, text_format}
use Rattle.sr_base.specs.Inner.ValueLaws.{offset_format}
use Rattle.sr_logform.specs.declared.entry.Entry.{Entry}
use Rattle.sr_logform.specs.declared.entry.Entry.TheVariants.{Own, From, Ddl, Sync, Pass, Note}
use Rattle.sr_logform.specs.Entries.{flag_spelling, AreUsers, entry_spelling, IsEntry}
use Rattle.sr_logform.specs.Inner.Entries.{flag_at, users_at, entry_at}
use Rattle.sr_logform.specs.Inner.OpLaws.{op_format}
use Rattle.sr_logform.specs.Inner.OutcomeLaws.{row_format, change_format, outcome_format, note_format}
use Rattle.sr_logform.specs.Inner.RuleLaws.{checked_format, distinct_tells, filled_format}
use Rattle.sr_logform.specs.Inner.Rules.{are_distinct}

flag_table : IsTable flag_at flag_spelling (λ only. ⊤)
unfolding flag_at flag_spelling
flag_table = tag_table (bare_variant refl tt) (tag_table (bare_variant refl tt) no_table)

flag_again : (only : Bool) (rest : List ℕ) → ⊤ → flag_at (flag_spelling only ++ rest) ≡ Ok (only, rest)
unfolding flag_at flag_spelling
flag_again false rest h = refl
flag_again true rest h = refl

pub flag_format : IsFormat flag_at flag_spelling (λ only. ⊤)
flag_format = record { takes = flag_table.takes; again = flag_again; within = flag_table.within }

pub users_format : IsFormat users_at (list_spelling name_spelling) (AreUsers IsName)
unfolding users_at
users_format =
    checked_format are_distinct distinct_tells (λ users h r. record { items = h; distinct = r }) (λ users h. (h.items, h.distinct)) (list_format name_format)

entry_table : IsTable entry_at entry_spelling IsEntry
unfolding entry_at entry_spelling IsEntry
entry_table =
    tag_table (variant (filled_format change_format) (λ changes. Own changes) (λ x. refl) (λ x h. h))
    (tag_table (variant (triple_format name_format offset_format (filled_format (pair_format op_format outcome_format)))
    (λ p. From p.0 p.1 p.2) (λ x. refl) (λ x h. h))
    (tag_table (variant text_format (λ text. Ddl text) (λ x. refl) (λ x h. h))
    (tag_table (variant (pair_format name_format (list_format (pair_format name_format (list_format row_format)))) (λ p. Sync p.0 p.1) (λ x. refl) (λ x h. h))
    (tag_table (variant (pair_format (triple_format users_format flag_format text_format) (list_format change_format))
    (λ p. Pass p.0.0 p.0.1 p.0.2 p.1) (λ x. refl) (λ x h. h))
    (tag_table (variant (pair_format name_format note_format) (λ p. Note p.0 p.1) (λ x. refl) (λ x h. h)) no_table)))))

entry_again : (entry : Entry) (rest : List ℕ) → IsEntry entry → entry_at (entry_spelling entry ++ rest) ≡ Ok (entry, rest)
unfolding entry_at entry_spelling IsEntry
entry_again (Own changes) rest h = rw ((filled_format change_format).again changes rest h) refl
entry_again (From user at ops) rest h =
    rw ((triple_format name_format offset_format (filled_format (pair_format op_format outcome_format))).again (user, at, ops) rest h) refl
entry_again (Ddl text) rest h = rw (text_format.again text rest h) refl
entry_again (Sync user tables) rest h =
    rw ((pair_format name_format (list_format (pair_format name_format (list_format row_format)))).again (user, tables) rest h) refl
entry_again (Pass users only text changes) rest h =
    rw ((pair_format (triple_format users_format flag_format text_format) (list_format change_format)).again ((users, only, text), changes) rest h) refl
entry_again (Note user note) rest h = rw ((pair_format name_format note_format).again (user, note) rest h) refl

pub entry_format : IsFormat entry_at entry_spelling IsEntry
entry_format = record { takes = entry_table.takes; again = entry_again; within = entry_table.within }
