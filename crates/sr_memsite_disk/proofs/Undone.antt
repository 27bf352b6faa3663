-- A file without its unsynced writes is the file as the last sync left it.
use Rattle.std.proofs.Common.{◌≡◌, ◌+◌, ◌-◌, ◌≤◌, ◌<◌, ℕ, max, List, [], ◌∷◌, ◌++◌, length, take, drop, Option, None, Some, refl, sym, ◌∙◌, ap, subst, inl, inr, arith, append_assoc, length-append, length-take, length-drop, take-append-drop}
use Rattle.std.proofs.lemmas.List.{take_at, drop_at, take_all, drop_all, drop-take, drop-drop, take-append-le, append-nil}
use Rattle.std.proofs.lemmas.Bool.{cases_lt}
use Rattle.std.proofs.Math.Seq.{take-append-add}
use Rattle.sr_site.specs.Files.{overwritten}
use Rattle.sr_memsite_disk.specs.Changes.{Change, Unsynced, cuts, write, all_of, with_write, with_cut}
use Rattle.sr_memsite_disk.specs.Picks.{Crash, crashed}
use Rattle.sr_memsite_disk.specs.Store.{Store}
use Rattle.sr_memsite_disk.specs.Inner.Store.{after_write, after_cut}
use Rattle.sr_memsite_disk.specs.Inner.Undoing.{content, off, Keeps, undone_by, undone, changes_by, shown, stored}
use Rattle.sr_memsite_disk.specs.declared.written.Written.{Written}
use Rattle.sr_memsite_disk.proofs.Tearing.{crashed_on}

-- the last write is taken back first
pub undone_last : (bytes : List ℕ) (writes : List Written) (written : Written) → undone bytes (writes ++ written ∷ []) ≡ undone (undone_by written bytes) writes
undone_last bytes [] written = refl
undone_last bytes (first ∷ writes) written = ap (undone_by first) (undone_last bytes writes written)

pub shown_last : (writes : List Written) (written : Written) → shown (writes ++ written ∷ []) ≡ shown writes ++ changes_by written
shown_last [] written = append-nil (changes_by written)
shown_last (first ∷ writes) written = ap (λ (l : List Change). changes_by first ++ l) (shown_last writes written) ∙ sym (append_assoc (changes_by first) (shown writes) (changes_by written))

-- the writes were gone through, and then the last cut
pub gone_through : (crash start done : Crash) (changes : List Change) (left : List Written) (last : Option ℕ) → crashed crash (shown left) ≡ crashed start changes → left ≡ [] → done ≡ crashed crash (cuts last) → done ≡ crashed start (changes ++ cuts last)
gone_through crash start done changes left last same none is =
    let there : crash ≡ crashed start changes = ap (λ (l : List Written). crashed crash (shown l)) (sym none) ∙ same in
    is ∙ ap (λ (c : Crash). crashed c (cuts last)) there ∙ sym (crashed_on start changes (cuts last))

-- what counts and what does not
parts : (cut : Option ℕ) (file : List ℕ) → content cut file ++ off cut file ≡ file
parts None file = append-nil file
parts (Some to) file = take-append-drop to file

-- a write over a content is taken back
back : (place : ℕ) (bytes old : List ℕ) → place ≤ length old → (take place (overwritten old place bytes) ++ take (length bytes) (drop place old)) ++ drop (length bytes) (drop place (overwritten old place bytes)) ≡ old
back place bytes old within =
    let prefix : length (take place old) ≡ place = omega (arith, within, length-take place old) in
    let tail = drop (place + length bytes) old in
    let apart : overwritten old place bytes ≡ take place old ++ (bytes ++ tail) = append_assoc (take place old) bytes tail in
    let taken : take place (overwritten old place bytes) ≡ take place old = ap (take place) apart ∙ take_at (take place old) (bytes ++ tail) place prefix in
    let dropped : drop place (overwritten old place bytes) ≡ bytes ++ tail = ap (drop place) apart ∙ drop_at (take place old) (bytes ++ tail) place prefix in
    let behind : drop (length bytes) (bytes ++ tail) ≡ tail = drop_at bytes tail (length bytes) refl in
    let over = take (length bytes) (drop place old) in
    ap (λ (l : List ℕ). (l ++ over) ++ drop (length bytes) (drop place (overwritten old place bytes))) taken
    ∙ ap (λ (l : List ℕ). (take place old ++ over) ++ drop (length bytes) l) dropped
    ∙ ap (λ (l : List ℕ). (take place old ++ over) ++ l) (behind ∙ sym (drop-drop (length bytes) place old))
    ∙ append_assoc (take place old) over (drop (length bytes) (drop place old))
    ∙ ap (λ (l : List ℕ). take place old ++ l) (take-append-drop (length bytes) (drop place old))
    ∙ take-append-drop place old

taken_back : (cut : Option ℕ) (file : List ℕ) (place : ℕ) (bytes : List ℕ) (written : Written) → Keeps cut file place bytes written → place ≤ length (content cut file) → undone_by written (overwritten (content cut file) place bytes) ≡ file
taken_back cut file place bytes written keeps within =
    let new = overwritten (content cut file) place bytes in
    ap (λ (p : ℕ). ((take p new ++ written.over.items) ++ drop (length written.new.items) (drop p new)) ++ written.off.items) keeps.place_is
    ∙ ap (λ (l : List ℕ). ((take place new ++ l) ++ drop (length written.new.items) (drop place new)) ++ written.off.items) keeps.over_is
    ∙ ap (λ (l : List ℕ). ((take place new ++ take (length bytes) (drop place (content cut file))) ++ drop (length l) (drop place new)) ++ written.off.items) keeps.new_is
    ∙ ap (λ (l : List ℕ). l ++ written.off.items) (back place bytes (content cut file) within)
    ∙ ap (λ (l : List ℕ). content cut file ++ l) keeps.off_is
    ∙ parts cut file

-- one more write
pub write_stored : (bytes new : List ℕ) (cut : Option ℕ) (place : ℕ) (given : List ℕ) (writes more : List Written) (written : Written) → Keeps cut bytes place given written → more ≡ writes ++ written ∷ []
    → new ≡ overwritten (content cut bytes) place given → place ≤ length (content cut bytes) → stored new None more ≡ after_write (stored bytes cut writes) place given
write_stored bytes new cut place given writes more written keeps more_is new_is within =
    let settled : undone new more ≡ undone bytes writes =
    ap (λ (l : List ℕ). undone l more) new_is ∙ ap (λ (l : List Written). undone (overwritten (content cut bytes) place given) l) more_is
    ∙ undone_last (overwritten (content cut bytes) place given) writes written ∙ ap (λ (l : List ℕ). undone l writes) (taken_back cut bytes place given written keeps within) in
    let by : changes_by written ≡ cuts cut ++ write place given ∷ [] =
    ap (λ (c : Option ℕ). cuts c ++ write written.place written.new.items ∷ []) keeps.cut_is
    ∙ ap (λ (p : ℕ). cuts cut ++ write p written.new.items ∷ []) keeps.place_is ∙ ap (λ (l : List ℕ). cuts cut ++ write place l ∷ []) keeps.new_is in
    let changes : shown more ≡ (shown writes ++ cuts cut) ++ write place given ∷ [] =
    ap shown more_is ∙ shown_last writes written ∙ ap (λ (l : List Change). shown writes ++ l) by ∙ sym (append_assoc (shown writes) (cuts cut) (write place given ∷ [])) in
    λ k. record { bytes = new_is k; unsynced = record { settled = settled k; changes = changes k; last_cut = None } }

pub write_seen : (bytes new : List ℕ) (cut : Option ℕ) (place : ℕ) (given : List ℕ) (writes more : List Written) (written : Written) (old : Store) → stored bytes cut writes ≡ old → Keeps cut bytes place given written → more ≡ writes ++ written ∷ []
    → new ≡ overwritten (content cut bytes) place given → place ≤ length (content cut bytes) → stored new None more ≡ after_write old place given
write_seen bytes new cut place given writes more written old view keeps more_is new_is within =
    write_stored bytes new cut place given writes more written keeps more_is new_is within ∙ ap (λ (s : Store). after_write s place given) view

-- a cut
pub taken_twice : (to n : ℕ) (bytes : List ℕ) → to ≤ length (take n bytes) → take to bytes ≡ take to (take n bytes)
taken_twice to n bytes within = ap (take to) (sym (take-append-drop n bytes)) ∙ take-append-le to (take n bytes) (drop n bytes) within

cut_content : (cut : Option ℕ) (to : ℕ) (bytes : List ℕ) → to ≤ length (content cut bytes) → take to bytes ≡ take to (content cut bytes)
cut_content None to bytes within = refl
cut_content (Some n) to bytes within = taken_twice to n bytes within

pub cut_seen : (bytes : List ℕ) (cut : Option ℕ) (to : ℕ) (writes : List Written) (old : Store) → stored bytes cut writes ≡ old → to ≤ length old.bytes → stored bytes (Some to) writes ≡ after_cut old to
cut_seen bytes cut to writes old view within =
    let inside : to ≤ length (content cut bytes) = subst (λ (s : Store). to ≤ length s.bytes) (sym view) within in
    (λ k. record { bytes = cut_content cut to bytes inside k; unsynced = record { settled = undone bytes writes; changes = shown writes; last_cut = Some to } })
    ∙ ap (λ (s : Store). after_cut s to) view

-- the bytes that a write over a cut file keeps
pub kept_from : (to place : ℕ) (bytes given : List ℕ) → place ≤ length (take to bytes) → take (max to (place + length given)) (overwritten bytes place given) ≡ overwritten (take to bytes) place given
kept_from to place bytes given within =
    let fits : place ≤ length bytes = omega (arith, within, length-take to bytes) in
    let prefix : length (take place bytes) ≡ place = omega (arith, fits, length-take place bytes) in
    let tail = drop (place + length given) bytes in
    let left = to - (place + length given) in
    let long : length (take place bytes ++ given) ≡ place + length given = length-append (take place bytes) given ∙ ap (λ (n : ℕ). n + length given) prefix in
    let count : max to (place + length given) ≡ length (take place bytes ++ given) + left = omega (arith, long) in
    let tails : take left tail ≡ drop (place + length given) (take to bytes) = behind to (place + length given) bytes in
    ap (λ (n : ℕ). take n (overwritten bytes place given)) count
    ∙ take-append-add (take place bytes ++ given) tail left
    ∙ ap (λ (l : List ℕ). (take place bytes ++ given) ++ l) tails
    ∙ ap (λ (l : List ℕ). (l ++ given) ++ drop (place + length given) (take to bytes)) (taken_twice place to bytes within)
  where
    behind : (to n : ℕ) (bytes : List ℕ) → take (to - n) (drop n bytes) ≡ drop n (take to bytes)
    behind to n bytes = elim (cases_lt to n) [
      | inl over ↦ past over
      | inr fits ↦ inside fits
    ]
      where
        past : to < n → take (to - n) (drop n bytes) ≡ drop n (take to bytes)
        past over =
            let none : to - n ≡ 0 = omega (arith, over) in
            let all : drop n (take to bytes) ≡ [] = drop_all n (take to bytes) (omega (arith, over, length-take to bytes)) in
            ap (λ (k : ℕ). take k (drop n bytes)) none ∙ sym all

        inside : n ≤ to → take (to - n) (drop n bytes) ≡ drop n (take to bytes)
        inside fits =
            let sum : n + (to - n) ≡ to = omega (arith, fits) in
            sym (drop-take n (to - n) bytes) ∙ ap (λ (k : ℕ). drop n (take k bytes)) sum

pub ruleset putting = (kept_from)
