-- What a listing of a folder says.
use Rattle.std.specs.Prelude.{◌≡◌, ◌≤◌, ℕ, List, length, take, nat_lt, true}
use Rattle.std.specs.Ordering.{nat_cmp}
use Rattle.std.specs.Cmp.Lexicographic.{slice_cmp}
use Rattle.std.specs.List.Sorted.{IsStrictlySortedBy}
use Rattle.sr_site.specs.declared.mail.Listing.{Listing}

-- how many names a listing has at most
abbrev pub most_names : ℕ
most_names = 65536

-- names in byte order, none of them twice
abbrev pub AreAscending : List (List ℕ) → Type 0
AreAscending names = IsStrictlySortedBy (slice_cmp nat_cmp) names

-- a listing has at most so many names, in byte order, and says that there are others only where it is full
pub record IsListing (listing : Listing) : Type 0 where
  pub ascending : AreAscending listing.names
  pub most : length listing.names ≤ most_names
  pub full : listing.more ≡ true → length listing.names ≡ most_names

-- it has the first names of the folder, and says whether there are others
pub record Lists (folder : List (List ℕ)) (listing : Listing) : Type 0 where
  pub ascending : AreAscending folder
  pub names : listing.names ≡ take most_names folder
  pub more : listing.more ≡ nat_lt most_names (length folder)
