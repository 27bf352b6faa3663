-- The databases that stay open from one run of the demonstration to the next.
use Rattle.std.specs.Prelude.{Option, None, IfSome}
use Rattle.dbremote_command.specs.Inner.Kept.{IsKept}
use Rattle.sr_database.specs.Views.{View}
use Rattle.sr_memsite.specs.Disks.{Disk}
use Rattle.sr_memsite.specs.Meaning.{begun}
use Rattle.dbremote_demo_draws.specs.declared.demo_site.DemoSite.{DemoSite}
use Rattle.dbremote_demo_draws.specs.declared.demo_site.DemoSite.TheVariants.{Cons, R1, R2, R3}
use Rattle.dbremote_demo_draws.specs.declared.demo_sites.DemoSites.{DemoSites}
use Rattle.dbremote_demo.specs.declared.kept.Kept.{Kept}

-- the database of an site, where it is open
abbrev pub kept_at : DemoSite → Kept → Option View
kept_at Cons kept = kept.cons
kept_at R1 kept = kept.r1
kept_at R2 kept = kept.r2
kept_at R3 kept = kept.r3

-- with another one of an site
abbrev pub with_kept : DemoSite → Option View → Kept → Kept
with_kept Cons view kept = record kept { cons = view }
with_kept R1 view kept = record kept { r1 = view }
with_kept R2 view kept = record kept { r2 = view }
with_kept R3 view kept = record kept { r3 = view }

-- none is open
abbrev pub none_kept : Kept
none_kept = record { cons = None; r1 = None; r2 = None; r3 = None }

-- a database that is open is what these files hold
abbrev pub IsKeptAt : Option View → Disk → Type 0
IsKeptAt kept disk = IfSome kept (λ view. IsKept view (begun disk))

-- each is what the files of its site hold
pub record AreKept (demo_sites : DemoSites) (kept : Kept) : Type 0 where
  pub cons : IsKeptAt kept.cons demo_sites.cons
  pub r1 : IsKeptAt kept.r1 demo_sites.r1
  pub r2 : IsKeptAt kept.r2 demo_sites.r2
  pub r3 : IsKeptAt kept.r3 demo_sites.r3
