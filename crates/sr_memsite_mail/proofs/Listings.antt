-- The names so far, with one more file.
use Rattle.std.proofs.Common.{◌≡◌, ℕ, ◌+◌, ◌<◌, ◌≤◌, min, subst, Bor, List, [], ◌∷◌, ◌++◌, refl, true, false, cond, ap, sym, ◌∙◌, map, Bool, take, length, arith, ltb, filter}
use Rattle.std.proofs.lemmas.List.{map-append, map_push, take_all, take-append-le, length-take, length-append}
use Rattle.std.proofs.lemmas.List.{append-nil}
use Rattle.std.proofs.lemmas.Bool.{lt-ltb}
use Rattle.std.proofs.lemmas.Simd.{map-map}
use Rattle.std.specs.Map.Iter.{deref_pair}
use Rattle.std.proofs.lemmas.List.Elements.{filter-append}
use Rattle.sr_memsite_mail.specs.declared.place.Place.{Place}
use Rattle.sr_memsite_mail.specs.Folders.{Folders}
use Rattle.sr_memsite_mail.specs.Inner.Folders.{names_in, is_in}
use Rattle.sr_memsite_mail.specs.StoredFile.{StoredFile}
use Rattle.sr_site.specs.Listings.{most_names}

names_in-push : (files : List (Place × StoredFile)) (file : Place × StoredFile) (address : List ℕ) → names_in (files ++ file ∷ []) address ≡ names_in files address ++ cond (is_in address file) (file.0.name ∷ []) []
names_in-push files file address =
    ap (map (λ file. file.0.name)) (filter-append (is_in address) files (file ∷ []))
    ∙ map-append (λ file. file.0.name) (filter (is_in address) files) (filter (is_in address) (file ∷ []))
    ∙ ap (λ ys. names_in files address ++ ys) (elim (is_in address file) as (λ b. map (λ file. file.0.name) (cond b (file ∷ []) []) ≡ cond b (file.0.name ∷ []) []) [ true ↦ refl | false ↦ refl ])

-- the first names of a list, and whether there are others
abbrev pub Holds : List (List ℕ) → Bool → List (List ℕ) → Type 0
Holds names more all = (names ≡ take most_names all) × (more ≡ ltb most_names (length all))

-- one more name, for which there is room
holds_more : (names all : List (List ℕ)) (more : Bool) (name : List ℕ) → Holds names more all → length names < 65536 → Holds (names ++ name ∷ []) more (all ++ name ∷ [])
holds_more names all more name h room =
    let count : length names ≡ min 65536 (length all) = ap length h.0 ∙ length-take 65536 all in
    let short : length all < 65536 = omega (arith, count, room) in
    let longer : length (all ++ name ∷ []) ≡ length all + 1 = length-append all (name ∷ []) in
    let same : names ≡ all = h.0 ∙ take_all 65536 all (omega (arith, short)) in
    let fits : length (all ++ name ∷ []) ≤ 65536 = omega (arith, short, longer) in
    let before : ltb 65536 (length all) ≡ false = grind (arith, short) in
    let after : ltb 65536 (length (all ++ name ∷ [])) ≡ false = grind (arith, fits) in
    (ap (λ names. names ++ name ∷ []) same ∙ sym (take_all 65536 (all ++ name ∷ []) fits), h.1 ∙ before ∙ sym after)

-- one more name, for which there is none
holds_full : (names all : List (List ℕ)) (more : Bool) (name : List ℕ) → Holds names more all → 65536 ≤ length names → Holds names true (all ++ name ∷ [])
holds_full names all more name h full =
    let count : length names ≡ min 65536 (length all) = ap length h.0 ∙ length-take 65536 all in
    let long : 65536 ≤ length all = omega (arith, count, full) in
    let longer : length (all ++ name ∷ []) ≡ length all + 1 = length-append all (name ∷ []) in
    let after : ltb 65536 (length (all ++ name ∷ [])) ≡ true = lt-ltb 65536 (length (all ++ name ∷ [])) (omega (arith, long, longer)) in
    (h.0 ∙ sym (take-append-le 65536 all (name ∷ []) long), sym after)

-- a file as the loop sees it
abbrev pub Lent : Type 0
Lent = Bor Place × Bor StoredFile

-- and as the folders have it
abbrev pub file_of : Lent → Place × StoredFile
file_of file = (file.0.now, file.1.now)

-- the names of the files so far
abbrev pub names_so_far : List Lent → List ℕ → List (List ℕ)
names_so_far files address = names_in (map file_of files) address

-- with one more file
names_so_far-push : (files : List Lent) (file : Lent) (address : List ℕ) (b : Bool) → is_in address (file_of file) ≡ b
    → names_so_far (files ++ file ∷ []) address ≡ names_so_far files address ++ cond b (file.0.now.name ∷ []) []
names_so_far-push files file address b is =
    ap (λ files. names_in files address) (map_push file_of files file) ∙ names_in-push (map file_of files) (file_of file) address
    ∙ ap (λ b. names_so_far files address ++ cond b (file.0.now.name ∷ []) []) is

pub listed_room : (names names' : List (List ℕ)) (more : Bool) (files : List Lent) (file : Lent) (address : List ℕ)
    → Holds names more (names_so_far files address) → is_in address (file_of file) ≡ true → length names < 65536 → names' ≡ names ++ file.0.now.name ∷ []
    → Holds names' more (names_so_far (files ++ file ∷ []) address)
listed_room names names' more files file address h inside room added =
    let all : List (List ℕ) = names_so_far files address in
    let held : Holds (names ++ file.0.now.name ∷ []) more (all ++ file.0.now.name ∷ []) = holds_more names all more file.0.now.name h room in
    let P : List (List ℕ) → Type 0 = λ names. Holds names more (names_so_far (files ++ file ∷ []) address) in
    let Q : List (List ℕ) → Type 0 = λ all. Holds (names ++ file.0.now.name ∷ []) more all in
    subst P (sym added) (subst Q (sym (names_so_far-push files file address true inside)) held)

pub listed_full : (names : List (List ℕ)) (more : Bool) (files : List Lent) (file : Lent) (address : List ℕ)
    → Holds names more (names_so_far files address) → is_in address (file_of file) ≡ true → 65536 ≤ length names
    → Holds names true (names_so_far (files ++ file ∷ []) address)
listed_full names more files file address h inside full =
    let all : List (List ℕ) = names_so_far files address in
    let Q : List (List ℕ) → Type 0 = λ all. Holds names true all in
    subst Q (sym (names_so_far-push files file address true inside)) (holds_full names all more file.0.now.name h full)

pub listed_other : (names : List (List ℕ)) (more : Bool) (files : List Lent) (file : Lent) (address : List ℕ)
    → Holds names more (names_so_far files address) → is_in address (file_of file) ≡ false
    → Holds names more (names_so_far (files ++ file ∷ []) address)
listed_other names more files file address h outside =
    let all : List (List ℕ) = names_so_far files address in
    let Q : List (List ℕ) → Type 0 = λ all. Holds names more all in
    subst Q (sym (names_so_far-push files file address false outside ∙ append-nil all)) h

-- at the end they are all files
pub listed_all : (files : List Lent) (entries : List (Place × StoredFile)) (puts : List (List ℕ × List ℕ)) (seen : Folders)
    → map deref_pair files ≡ entries → record { files = entries; puts = puts } ≡ seen → map file_of files ≡ seen.files
listed_all files entries puts seen all view = all ∙ ap (λ seen. seen.files) view
