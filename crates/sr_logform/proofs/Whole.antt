-- An entry that is all of the bytes.
use Rattle.std.proofs.Common.{◌≡◌, ℕ, ◌-◌, ◌≤◌, ◌<◌, List, [], ◌∷◌, ◌++◌, length, drop, Ok, Err, refl, sym, ap, ◌∙◌, arith, length-drop}
use Rattle.std.proofs.lemmas.List.{append-nil, nil_from_length}
use Rattle.sr_base.specs.declared.broken.Bad.{Bad}
use Rattle.sr_base.specs.declared.broken.Bad.TheVariants as bad
use Rattle.sr_base.specs.Inner.Reading.{BeginsWith, IsReadAs, IsBad}
use Rattle.sr_logform.specs.declared.entry.Entry.{Entry}
use Rattle.sr_logform.specs.Entries.{entry_spelling, IsEntry}
use Rattle.sr_logform.specs.Inner.Entries.{entry_at, alone, body_at, IsReadWhole}
use Rattle.sr_logform.specs.Inner.EntryLaws.{entry_format}

-- no byte is left behind it
pub whole_found : (bytes : List ℕ) (entry : Entry) (taken : ℕ) → BeginsWith bytes (entry_spelling entry) taken → length bytes ≤ taken
    → bytes ≡ entry_spelling entry
whole_found bytes entry taken prefix le =
    let none : drop taken bytes ≡ [] = nil_from_length (drop taken bytes) (length-drop taken bytes ∙ omega arith) in
    prefix.prefix ∙ ap (λ (rest : List ℕ). entry_spelling entry ++ rest) none ∙ append-nil (entry_spelling entry)

-- the entry that was read is the one that the bytes spell
pub whole_is : (bytes : List ℕ) (found entry : Entry) (taken : ℕ)
    → ((value : Entry) (rest : List ℕ) → IsEntry value → bytes ≡ entry_spelling value ++ rest
    → IsReadAs (Ok (found, taken)) value (length (entry_spelling value)))
    → IsEntry entry → bytes ≡ entry_spelling entry → (found ≡ entry) × (taken ≡ length bytes)
whole_is bytes found entry taken only h e =
    let read = only entry [] h (e ∙ sym (append-nil (entry_spelling entry))) in
    (read.0, read.1 ∙ ap length (sym e))

-- bytes that break spell no entry
pub none_breaks : (bytes : List ℕ) (fault : Bad)
    → ((value : Entry) (rest : List ℕ) → IsEntry value → bytes ≡ entry_spelling value ++ rest → IsReadAs (Err fault) value (length (entry_spelling value)))
    → (entry : Entry) → IsEntry entry → bytes ≡ entry_spelling entry → IsReadWhole (Err fault) entry
none_breaks bytes bad.Memory only entry h e = tt
none_breaks bytes (bad.Field at) only entry h e = only entry [] h (e ∙ sym (append-nil (entry_spelling entry)))

left_over : (entry : Entry) (rest : List ℕ) → 0 < length rest → alone (entry, rest) ≡ Err (length rest)
left_over entry [] lt = absurd (omega (arith, lt))
left_over entry (byte ∷ rest) lt = refl

-- bytes that are left behind an entry break at the first of them
pub rest_breaks : (bytes : List ℕ) (entry : Entry) (taken : ℕ) → IsEntry entry → BeginsWith bytes (entry_spelling entry) taken → taken < length bytes
    → IsBad (body_at bytes) (length bytes) (bad.Field taken)
unfolding body_at
rest_breaks bytes entry taken h prefix lt =
    let size : length (drop taken bytes) ≡ length bytes - taken = length-drop taken bytes in
    let read : entry_at bytes ≡ Ok (entry, drop taken bytes) = ap entry_at prefix.prefix ∙ entry_format.again entry (drop taken bytes) h in
    (length (drop taken bytes), (rw read (left_over entry (drop taken bytes) (omega (arith, size)))), omega (arith, size))

-- where the entry breaks, the whole does
pub entry_breaks : (bytes : List ℕ) (size : ℕ) (fault : Bad) → IsBad (entry_at bytes) size fault → IsBad (body_at bytes) size fault
unfolding body_at
entry_breaks bytes size bad.Memory h = tt
entry_breaks bytes size (bad.Field at) h = (h.0, (rw h.1 refl), h.2)
