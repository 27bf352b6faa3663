-- A disk that refuses a commit.
use Rattle.std.specs.Prelude.{◌≡◌, true, false, List, [], ◌∷◌}
use Rattle.sr_database_history.specs.Recorded.{Recorded}
use Rattle.sr_site.specs.Causes.{Rose}
use Rattle.sr_site.specs.Seen.{Seen}
use Rattle.sr_database.specs.Views.{View}

-- the entry whose commit the disk refused, if it refused one: then the database is not used again
abbrev pub IsBroken : List Recorded → View → Seen → Seen → Type 0
IsBroken [] new before now = (new.log.usable ≡ true) × (now.disk_faults ≡ before.disk_faults)
IsBroken (r ∷ []) new before now = (new.log.usable ≡ false) × Rose before.disk_faults now.disk_faults
IsBroken (r ∷ other ∷ rs) new before now = ⊥
