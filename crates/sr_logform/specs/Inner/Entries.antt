-- Entries of a log, their bytes, and how they are read.
-- Here is what no contract of the program says by itself.
use Rattle.std.specs.Prelude.{◌≡◌, ℕ, ◌<◌, ◌^◌, Bool, true, false, ⊤, List, [], ◌∷◌, length, Result, Ok, Err}
use Rattle.sr_base.specs.declared.broken.Bad.{Bad}
use Rattle.sr_base.specs.declared.broken.Bad.TheVariants as bad
use Rattle.sr_base.specs.Fields.{name_at, IsListOf}
use Rattle.sr_base.specs.Inner.Fields.{pair_at, triple_at}
use Rattle.sr_base.specs.Reading.{Read, ◌>>=◌, text_at, list_at, mapped_at, tag_at, just_at, untagged_at}
use Rattle.sr_base.specs.Values.{IsShort}
use Rattle.sr_base.specs.Inner.Values.{row_at, offset_at}
use Rattle.sr_logform.specs.declared.entry.Entry.{Entry}
use Rattle.sr_logform.specs.declared.entry.Entry.TheVariants.{Own, From, Ddl, Sync, Pass, Note}
use Rattle.sr_logform.specs.Ops.{IsShortOp}
use Rattle.sr_logform.specs.Inner.Ops.{op_at}
use Rattle.sr_logform.specs.Outcomes.{IsShortChange, IsShortOutcome}
use Rattle.sr_logform.specs.Inner.Outcomes.{change_at, outcome_at, note_at}
use Rattle.sr_logform.specs.Rules.{IsFilledListOf}
use Rattle.sr_logform.specs.Inner.Rules.{checked_at, are_distinct, filled_at}
use Rattle.sr_logform.specs.Entries.{AreUsers}

unfoldable pub flag_at : List ℕ → Read Bool
flag_at = tag_at 0 (just_at false) (tag_at 1 (just_at true) untagged_at)

unfoldable pub users_at : List ℕ → Read (List (List ℕ))
users_at = checked_at are_distinct (list_at name_at)

-- what has to be known of an entry to write it: it keeps its rules, each list has fewer than 2 ^ 32 items, and each text fewer than
-- 2 ^ 32 bytes
abbrev pub IsShortEntry : Entry → Type 0
IsShortEntry (Own changes) = IsFilledListOf IsShortChange changes
IsShortEntry (From user at ops) = IsFilledListOf (λ p. IsShortOp p.0 × IsShortOutcome p.1) ops
IsShortEntry (Ddl text) = length text < 2 ^ 32
IsShortEntry (Sync user tables) = IsListOf (λ p. ⊤ × IsListOf (IsListOf IsShort) p.1) tables
IsShortEntry (Pass users only text changes) = AreUsers (λ name. ⊤) users × (length text < 2 ^ 32) × IsListOf IsShortChange changes
IsShortEntry (Note user note) = ⊤

unfoldable pub entry_at : List ℕ → Read Entry
entry_at =
    tag_at 1 (mapped_at (λ changes. Own changes) (filled_at change_at))
    (tag_at 2 (mapped_at (λ p. From p.0 p.1 p.2) (triple_at name_at offset_at (filled_at (pair_at op_at outcome_at))))
    (tag_at 3 (mapped_at (λ text. Ddl text) text_at)
    (tag_at 4 (mapped_at (λ p. Sync p.0 p.1) (pair_at name_at (list_at (pair_at name_at (list_at row_at)))))
    (tag_at 5 (mapped_at (λ p. Pass p.0.0 p.0.1 p.0.2 p.1) (pair_at (triple_at users_at flag_at text_at) (list_at change_at)))
    (tag_at 6 (mapped_at (λ p. Note p.0 p.1) (pair_at name_at note_at)) untagged_at)))))

-- ---- all of the bytes: a byte that is left behind the value breaks

abbrev pub alone : {A : Type 0} → A × List ℕ → Result A ℕ
alone (value, []) = Ok value
alone (value, byte ∷ rest) = Err (length (byte ∷ rest))

-- the entry that the bytes are, or how many bytes are left from the first byte of the field that breaks
unfoldable pub body_at : List ℕ → Result Entry ℕ
body_at bytes = entry_at bytes >>= alone

-- the entry was read, unless there was no memory
abbrev pub IsReadWhole : Result Entry Bad → Entry → Type 0
IsReadWhole (Ok found) entry = found ≡ entry
IsReadWhole (Err bad.Memory) entry = ⊤
IsReadWhole (Err (bad.Field at)) entry = ⊥
