-- The order of folders and names.
use Rattle.std.specs.Ordering.{nat_cmp, on, then_cmp}
use Rattle.std.specs.declared.cmp.Ordering.{Ordering}
use Rattle.std.specs.Cmp.Lexicographic.{slice_cmp}
use Rattle.sr_memsite_mail.specs.declared.place.Place.{Place}

-- the order of places: by address and then by name, each in byte order
abbrev pub place_cmp : Place → Place → Ordering
place_cmp = then_cmp (on (λ place. place.address) (slice_cmp nat_cmp)) (on (λ place. place.name) (slice_cmp nat_cmp))
