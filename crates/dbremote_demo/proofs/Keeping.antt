-- What is known of a database that is open.
use Rattle.std.proofs.Common.{◌≡◌, Option, Some, None, IfSome, refl, sym, subst}
use Rattle.dbremote_command.specs.Inner.Kept.{IsKept}
use Rattle.sr_database.proofs.Advancing.{none_advanced}
use Rattle.sr_database.proofs.InForce.{in_force_stays, in_force_still}
use Rattle.sr_database.specs.Views.{View}
use Rattle.dbremote_demo.specs.Inner.Branches.{AreKept, IsKeptAt, kept_at}
use Rattle.dbremote_demo.specs.declared.kept.Kept.{Kept}
use Rattle.dbremote_demo_draws.specs.declared.demo_site.DemoSite.{DemoSite}
use Rattle.dbremote_demo_draws.specs.declared.demo_site.DemoSite.TheVariants.{Cons, R1, R2, R3}
use Rattle.sr_memsite_disk.proofs.Standing.{standing_handed_over}
use Rattle.sr_memsite_disk.specs.Picks.{standing}
use Rattle.sr_memsite_mail.specs.Folders.{Folders, files_shown}
use Rattle.sr_memsite.specs.Disks.{Disk}
use Rattle.sr_memsite.specs.Handing.{handed}
use Rattle.sr_memsite.specs.Meaning.{begun}
use Rattle.sr_site.specs.Seen.{Seen}
use Rattle.dbremote_demo_draws.specs.Places.{disk_at}
use Rattle.dbremote_demo_draws.specs.declared.demo_sites.DemoSites.{DemoSites}

kept_there : (demo_site : DemoSite) (demo_sites : DemoSites) (kept : Kept) → AreKept demo_sites kept → IsKeptAt (kept_at demo_site kept) (disk_at demo_site demo_sites)
kept_there Cons demo_sites kept are = are.cons
kept_there R1 demo_sites kept are = are.r1
kept_there R2 demo_sites kept are = are.r2
kept_there R3 demo_sites kept are = are.r3

-- that of an site is what the files of this site hold
pub kept_here : (demo_site : DemoSite) (old demo_sites : DemoSites) (kept : Kept) (one : Option View) → demo_sites ≡ old → one ≡ kept_at demo_site kept → AreKept demo_sites kept
    → IsKeptAt one (disk_at demo_site old)
kept_here demo_site old demo_sites kept one same is are =
    subst (λ (o : DemoSites). IsKeptAt one (disk_at demo_site o)) same
    (subst (λ (k : Option View). IsKeptAt k (disk_at demo_site demo_sites)) (sym is) (kept_there demo_site demo_sites kept are))

kept_in : (view : View) (seen : Seen) → seen.files ≡ standing seen.first seen.happened → IsKept view seen → IsKept view (begun (record { first = seen.first; happened = seen.happened }))
kept_in view seen files k = record {
  usable = k.usable;
  pending = k.pending;
  has = in_force_stays view seen (begun (record { first = seen.first; happened = seen.happened })) refl (sym files) refl k.has;
}

-- what a run left open is what the files hold that its site was taken apart into
pub kept_back : (one : Option View) (seen : Seen) (disk : Disk) → disk ≡ record { first = seen.first; happened = seen.happened } → seen.files ≡ standing seen.first seen.happened
    → IfSome one (λ view. IsKept view seen) → IsKeptAt one disk
kept_back None seen disk same files k = tt
kept_back (Some view) seen disk same files k = subst (λ (d : Disk). IsKept view (begun d)) (sym same) (kept_in view seen files k)

-- what is open stays what the files hold where folders are handed to the site
kept_over : (view : View) (disk : Disk) (mail : Folders) → IsKept view (begun disk) → IsKept view (begun (handed disk mail))
kept_over view disk mail k = record {
  usable = k.usable;
  pending = k.pending;
  has = in_force_still view view (begun disk) (begun (handed disk mail)) refl (none_advanced view) (standing_handed_over disk.first disk.happened (files_shown mail.files) mail.puts) (λ image there. there) k.has;
}

pub kept_handed : (one : Option View) (disk : Disk) (mail : Folders) (seen : Seen) → seen ≡ begun (handed disk mail) → IsKeptAt one disk → IfSome one (λ view. IsKept view seen)
kept_handed None disk mail seen is k = tt
kept_handed (Some view) disk mail seen is k = subst (λ (s : Seen). IsKept view s) (sym is) (kept_over view disk mail k)
