-- Changes, outcomes and notes: what is read is spelled so, and what is spelled is read again.
use Rattle.std.proofs.Common.{◌≡◌, ◌↔◌, ℕ, Bool, true, false, not, List, ◌++◌, Ok, refl, sym, append_assoc}
use Rattle.std.specs.Prelude.{⊤}
use Rattle.sr_base.specs.Fields.{name_spelling, option_spelling}
use Rattle.sr_base.specs.Inner.ListLaws.{list_format}
use Rattle.sr_base.specs.Inner.NumberLaws.{format32, format64}
use Rattle.sr_base.specs.Inner.PartLaws.{IsTable, tag_table, no_table, variant, bare_variant, mapped_format, respelled_format, option_format, pair_format, triple_format}
use Rattle.sr_base.specs.Inner.Reading.{IsFormat}
use Rattle.sr_base.specs.Inner.TextLaws.{name_format}
use Rattle.sr_base.specs.Inner.ValueLaws.{value_format, offset_format}
use Rattle.sr_base.specs.Values.{row_spelling, IsValue}
use Rattle.sr_base.specs.Inner.Values.{row_at, IsRow}
use Rattle.sr_book.specs.declared.note.Note.{Note}
use Rattle.sr_book.specs.declared.note.Note.TheVariants as notes
use Rattle.sr_logform.specs.declared.change.Change.{Change}
use Rattle.sr_logform.specs.declared.outcome.Clash.{Clash}
use Rattle.sr_logform.specs.declared.outcome.Clash.TheVariants as clashes
use Rattle.sr_logform.specs.declared.outcome.Outcome.{Outcome}
use Rattle.sr_logform.specs.declared.outcome.Outcome.TheVariants as outcomes
use Rattle.sr_logform.specs.Outcomes.{change_spelling, IsChange, Images, ImagesHave, clash_spelling, outcome_spelling, OutcomeHas, IsOutcome, note_spelling, IsNote, is_same_row}
use Rattle.sr_logform.specs.Inner.Outcomes.{change_at, change_of, images_at, images_spelling, are_two, clash_at, outcome_at, note_at}
use Rattle.sr_logform.specs.Inner.RuleLaws.{Tells, checked_format, same_row_tells}

pub row_format : IsFormat row_at row_spelling IsRow
row_format = list_format value_format

told : (b : Bool) (same : Type 0) → (b ≡ true) ↔ same → (not b ≡ true) ↔ (¬ same)
told true same h = (λ e. absurd cc, λ f. absurd (f (h.0 refl)))
told false same h = (λ e s. let f = h.1 s in absurd cc, λ f. refl)

two_tells : Tells are_two (λ p. ¬ (p.0 ≡ p.1))
two_tells p = told (is_same_row p.0 p.1) (p.0 ≡ p.1) (same_row_tells p.0 p.1)

pub images_format : IsFormat images_at images_spelling (ImagesHave IsValue)
unfolding images_at
images_format =
    checked_format are_two two_tells (λ p h r. record { before = h.0; after = h.1; differ = r }) (λ p h. ((h.before, h.after), h.differ))
    (pair_format (option_format row_format) (option_format row_format))

parts_of : Change → List ℕ × Images
parts_of c = (c.table, (c.before, c.after))

pub change_format : IsFormat change_at change_spelling IsChange
unfolding change_at parts_of
change_format =
    respelled_format (λ c. sym (append_assoc (name_spelling c.table) (option_spelling row_spelling c.before) (option_spelling row_spelling c.after)))
    (λ c h. record { table = h.0; before = h.1.before; after = h.1.after; differ = h.1.differ })
    (λ c h. (h.table, record { before = h.before; after = h.after; differ = h.differ }))
    (mapped_format change_of parts_of (λ p. refl) (λ c. refl) (pair_format name_format images_format))

clash_table : IsTable clash_at clash_spelling (λ clash. ⊤)
unfolding clash_at clash_spelling
clash_table =
    tag_table (bare_variant refl tt)
    (tag_table (bare_variant refl tt)
    (tag_table (bare_variant refl tt)
    (tag_table (bare_variant refl tt)
    (tag_table (bare_variant refl tt)
    (tag_table (bare_variant refl tt)
    (tag_table (bare_variant refl tt)
    (tag_table (bare_variant refl tt) no_table)))))))

clash_again : (clash : Clash) (rest : List ℕ) → ⊤ → clash_at (clash_spelling clash ++ rest) ≡ Ok (clash, rest)
unfolding clash_at clash_spelling
clash_again clashes.Duplicate rest h = refl
clash_again clashes.NoRow rest h = refl
clash_again clashes.NoTable rest h = refl
clash_again clashes.NoColumn rest h = refl
clash_again clashes.BadValue rest h = refl
clash_again clashes.Null rest h = refl
clash_again clashes.Trigger rest h = refl
clash_again clashes.Statement rest h = refl

pub clash_format : IsFormat clash_at clash_spelling (λ clash. ⊤)
clash_format = record { takes = clash_table.takes; again = clash_again; within = clash_table.within }

outcome_table : IsTable outcome_at outcome_spelling IsOutcome
unfolding outcome_at outcome_spelling OutcomeHas
outcome_table =
    tag_table (variant (list_format change_format) (λ changes. outcomes.Plain changes) (λ x. refl) (λ x h. h))
    (tag_table (variant (triple_format (list_format change_format) row_format row_format) (λ p. outcomes.Conflict p.0 p.1 p.2) (λ x. refl) (λ x h. h))
    (tag_table (variant clash_format (λ clash. outcomes.Clash clash) (λ x. refl) (λ x h. h)) no_table))

outcome_again : (outcome : Outcome) (rest : List ℕ) → IsOutcome outcome → outcome_at (outcome_spelling outcome ++ rest) ≡ Ok (outcome, rest)
unfolding outcome_at outcome_spelling OutcomeHas
outcome_again (outcomes.Plain changes) rest h = rw ((list_format change_format).again changes rest h) refl
outcome_again (outcomes.Conflict inserts before after) rest h =
    rw ((triple_format (list_format change_format) row_format row_format).again (inserts, before, after) rest h) refl
outcome_again (outcomes.Clash clash) rest h = rw (clash_format.again clash rest h) refl

pub outcome_format : IsFormat outcome_at outcome_spelling IsOutcome
outcome_format = record { takes = outcome_table.takes; again = outcome_again; within = outcome_table.within }

note_table : IsTable note_at note_spelling IsNote
unfolding note_at note_spelling IsNote
note_table =
    tag_table (variant offset_format (λ place. notes.Confirmed place) (λ x. refl) (λ x h. h))
    (tag_table (variant (pair_format format64 offset_format) (λ p. notes.Asked p.0 p.1) (λ x. refl) (λ x h. h))
    (tag_table (bare_variant refl tt)
    (tag_table (variant (triple_format offset_format format32 offset_format) (λ p. notes.Sent p.0 p.1 p.2) (λ x. refl) (λ x h. h)) no_table)))

note_again : (note : Note) (rest : List ℕ) → IsNote note → note_at (note_spelling note ++ rest) ≡ Ok (note, rest)
unfolding note_at note_spelling IsNote
note_again (notes.Confirmed place) rest h = rw (offset_format.again place rest h) refl
note_again (notes.Asked count place) rest h = rw ((pair_format format64 offset_format).again (count, place) rest h) refl
note_again notes.Raised rest h = refl
note_again (notes.Sent end messages confirm) rest h = rw ((triple_format offset_format format32 offset_format).again (end, messages, confirm) rest h) refl

pub note_format : IsFormat note_at note_spelling IsNote
note_format = record { takes = note_table.takes; again = note_again; within = note_table.within }
