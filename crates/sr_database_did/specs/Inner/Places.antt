-- A database on its site, in the code.
-- Here is what no contract of the program says by itself.
use Rattle.std.specs.Prelude.{◌≡◌}
use Rattle.sr_site.specs.Seen.{Seen}
use Rattle.sr_database_did.specs.Inner.Did.{PlaceView}
use Rattle.sr_database_did.specs.declared.place.Place.{Place}

-- as contracts see it
abbrev pub at : {S : Type 0} → (S → Seen) → Place S → PlaceView
at seen place = record { db = place.db.now; seen = seen place.site.now }

-- it is still lent what it was lent
pub record IsLent {S : Type 0} (old new : Place S) : Type 0 where
  pub db : new.db.ghost_name ≡ old.db.ghost_name
  pub site : new.site.ghost_name ≡ old.site.ghost_name
