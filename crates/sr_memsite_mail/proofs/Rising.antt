-- The names of one folder rise, as the places of a map do.
use Rattle.std.proofs.Common.{◌≡◌, ℕ, zero, suc, List, [], ◌∷◌, refl, true, false, cond, not, ap, sym, ◌∙◌, subst, map, filter, take}
use Rattle.std.specs.declared.cmp.Ordering.{Ordering}
use Rattle.std.specs.declared.cmp.Ordering.TheVariants.{Less, Equal, Greater}
use Rattle.std.specs.Ordering.{nat_cmp, is_eq, ordering_then, ordering_reverse}
use Rattle.std.specs.Cmp.Lexicographic.{slice_cmp, nat_list_cmp_total}
use Rattle.std.specs.List.{AllByRecursion}
use Rattle.std.specs.List.Sorted.{IsStrictlySortedBy}
use Rattle.std.specs.Map.{keys_of}
use Rattle.std.specs.Map.Iter.{deref_pair}
use Rattle.std.proofs.Common.{Bool, ◌&&◌}
use Rattle.sr_memsite_mail.specs.StoredFile.{StoredFile}
use Rattle.std.proofs.lemmas.Simd.{map-map}
use Rattle.std.proofs.lemmas.List.{length-take}
use Rattle.std.proofs.Common.{ltb, length, min, arith, ◌<◌}
use Rattle.std.proofs.lemmas.Bool.{ltb-true}
use Rattle.sr_site.specs.declared.mail.Listing.{Listing}
use Rattle.sr_memsite_mail.specs.declared.place.Place.{Place}
use Rattle.sr_memsite_mail.specs.Places.{place_cmp}
use Rattle.sr_memsite_mail.specs.Inner.Folders.{names_in, is_in}
use Rattle.sr_site.specs.Listings.{IsListing, AreAscending, most_names}
use Rattle.sr_memsite_mail.proofs.Listings.{Lent, file_of, names_so_far}

abbrev order : List ℕ → List ℕ → Ordering
order = slice_cmp nat_cmp

equal : (o : Ordering) → is_eq o ≡ true → o ≡ Equal
equal Less h = cc
equal Equal h = refl
equal Greater h = cc

-- both hold
left_of : (a b : Bool) → (a && b) ≡ true → a ≡ true
left_of true b h = refl
left_of false b h = h

in_folder : (address : List ℕ) (file : Place × StoredFile) → is_in address file ≡ true → is_eq (order file.0.address address) ≡ true
in_folder address file h = left_of (is_eq (order file.0.address address)) (not file.1.held) h

-- of two places in one folder the one with the lesser name comes first
by_name : (p q : Place) (address : List ℕ) → is_eq (order p.address address) ≡ true → is_eq (order q.address address) ≡ true → place_cmp p q ≡ Less → order p.name q.name ≡ Less
by_name p q address hp hq less =
    let together : order p.address q.address ≡ Equal =
    nat_list_cmp_total.congr p.address address q.address (equal (order p.address address) hp) ∙ nat_list_cmp_total.antisymm address q.address ∙ ap ordering_reverse (equal (order q.address address) hq) in
    sym (ap (λ o. ordering_then o (order p.name q.name)) together) ∙ less

-- a name is below those of the files behind it
below : (p : Place) (address : List ℕ) → is_eq (order p.address address) ≡ true → (files : List (Place × StoredFile)) → AllByRecursion (λ q. place_cmp p q ≡ Less) (keys_of files)
    → AllByRecursion (λ name. order p.name name ≡ Less) (names_in files address)
below p address hp [] h = tt
below p address hp (file ∷ files) h =
    let rest : AllByRecursion (λ name. order p.name name ≡ Less) (names_in files address) = below p address hp files h.1 in
    elim (is_in address file) as (λ b. is_in address file ≡ b → AllByRecursion (λ name. order p.name name ≡ Less) (map (λ file. file.0.name) (cond b (file ∷ filter (is_in address) files) (filter (is_in address) files))))
    [ true ↦ λ e. (by_name p file.0 address hp (in_folder address file e) h.0, rest) | false ↦ λ e. rest ] refl

names_rise : (files : List (Place × StoredFile)) (address : List ℕ) → IsStrictlySortedBy place_cmp (keys_of files) → IsStrictlySortedBy order (names_in files address)
unfolding IsStrictlySortedBy
names_rise [] address h = tt
names_rise (file ∷ files) address h =
    let rest : IsStrictlySortedBy order (names_in files address) = names_rise files address h.1 in
    elim (is_in address file) as (λ b. is_in address file ≡ b → IsStrictlySortedBy order (map (λ file. file.0.name) (cond b (file ∷ filter (is_in address) files) (filter (is_in address) files))))
    [ true ↦ λ e. (below file.0 address (in_folder address file e) files h.0, rest) | false ↦ λ e. rest ] refl

first_below : (name : List ℕ) (n : ℕ) (names : List (List ℕ)) → AllByRecursion (λ other. order name other ≡ Less) names → AllByRecursion (λ other. order name other ≡ Less) (take n names)
first_below name zero names h = tt
first_below name (suc n) [] h = tt
first_below name (suc n) (other ∷ names) h = (h.0, first_below name n names h.1)

-- the first of names that rise do so too
first_rise : (n : ℕ) (names : List (List ℕ)) → IsStrictlySortedBy order names → IsStrictlySortedBy order (take n names)
unfolding IsStrictlySortedBy
first_rise zero names h = tt
first_rise (suc n) [] h = tt
first_rise (suc n) (name ∷ names) h = (first_below name n names h.0, first_rise n names h.1)

-- the names of one folder in a map in order
pub folder_rises : (files : List Lent) (entries : List (Place × StoredFile)) (address : List ℕ) → map deref_pair files ≡ entries → IsStrictlySortedBy place_cmp (keys_of entries)
    → AreAscending (names_so_far files address)
folder_rises files entries address all ordered =
    let keys : keys_of (map file_of files) ≡ keys_of entries = map-map (λ e. e.0) file_of files ∙ sym (map-map (λ e. e.0) deref_pair files) ∙ ap keys_of all in
    names_rise (map file_of files) address (subst (IsStrictlySortedBy place_cmp) (sym keys) ordered)

-- the first names of a folder in order are a listing of it
pub first_names : (folder : List (List ℕ)) (listing : Listing) → AreAscending folder → listing.names ≡ take most_names folder → listing.more ≡ ltb most_names (length folder) → IsListing listing
first_names folder listing ascending names more =
    let count : length listing.names ≡ min 65536 (length folder) = ap length names ∙ length-take 65536 folder in
    record {
      ascending = subst AreAscending (sym names) (first_rise most_names folder ascending);
      most = omega (arith, count);
      full = λ is. let over : most_names < length folder = ltb-true most_names (length folder) (sym more ∙ is) in omega (arith, count, over);
    }
