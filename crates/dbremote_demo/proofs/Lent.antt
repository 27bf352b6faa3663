-- A run on the files of one database.
use Rattle.std.proofs.Common.{◌≡◌, ◌∙◌, ℕ, List, [], sym, ap, subst, refl}
use Rattle.dbremote_command.specs.Counts.{TellsFaults}
use Rattle.dbremote_command.specs.Outside.{Outside, outside}
use Rattle.dbremote_command.specs.Runs.{RanOrder}
use Rattle.dbremote_command.specs.declared.order.Order.{Order}
use Rattle.dbremote_demo_draws.specs.declared.demo_site.DemoSite.{DemoSite}
use Rattle.dbremote_demo_draws.specs.declared.demo_site.DemoSite.TheVariants.{Cons, R1, R2, R3}
use Rattle.sr_memsite_mail.specs.Folders.{Folders}
use Rattle.dbremote_demo.specs.Runs.{RanTask, Task, begun_at, having, holding, outside_of}
use Rattle.sr_memsite.specs.Disks.{Disk}
use Rattle.sr_memsite.specs.Handing.{AreAsHappened, IsTruthful}
use Rattle.sr_site.specs.Causes.{Stays}
use Rattle.sr_site.specs.Happenings.{Happening}
use Rattle.sr_site.specs.Seen.{Seen}
use Rattle.sr_site.specs.Streams.{Input, Output}
use Rattle.dbremote_demo_draws.specs.Places.{with_disk}
use Rattle.dbremote_demo_draws.specs.declared.demo_sites.DemoSites.{DemoSites}

-- what a run began with is equal to this
pub begun_so : (order : Order) (site site' : Seen) (input input' : Input) (output output' : Output) (new : Outside) (status : ℕ) → site ≡ site' → input ≡ input' → output ≡ output'
    → RanOrder order (outside site input output) new status → RanOrder order (outside site' input' output') new status
begun_so order site site' input input' output output' new status s i o ran =
    subst (λ (x : Seen). RanOrder order (outside x input' output') new status) s
    (subst (λ (x : Input). RanOrder order (outside site x output') new status) i (subst (λ (x : Output). RanOrder order (outside site input x) new status) o ran))

swapped : (demo_site : DemoSite) (old : DemoSites) (empty disk : Disk) (none mail : Folders)
    → record (with_disk demo_site disk (record (with_disk demo_site empty old) { mail = none })) { mail = mail } ≡ with_disk demo_site disk (record old { mail = mail })
swapped Cons old empty disk none mail = refl
swapped R1 old empty disk none mail = refl
swapped R2 old empty disk none mail = refl
swapped R3 old empty disk none mail = refl

mail_in : (demo_site : DemoSite) (old : DemoSites) (disk : Disk) → (with_disk demo_site disk old).mail ≡ old.mail
mail_in Cons old disk = refl
mail_in R1 old disk = refl
mail_in R2 old disk = refl
mail_in R3 old disk = refl

-- the files and the mail were lent to a site, and came back
pub files_back : (demo_site : DemoSite) (old one new : DemoSites) (empty disk : Disk) (none mail : Folders) → one ≡ record (with_disk demo_site empty old) { mail = none }
    → new ≡ record (with_disk demo_site disk one) { mail = mail } → new ≡ with_disk demo_site disk (record old { mail = new.mail })
files_back demo_site old one new empty disk none mail a b =
    let whole = b ∙ (ap (λ (o : DemoSites). record (with_disk demo_site disk o) { mail = mail }) a ∙ swapped demo_site old empty disk none mail) in
    let mails = ap (λ (o : DemoSites). o.mail) whole ∙ mail_in demo_site (record old { mail = mail }) disk in
    whole ∙ ap (λ (m : Folders). with_disk demo_site disk (record old { mail = m })) (sym mails)

-- what the command did on the site is what is done
pub ran_so : (task : Task) (old one new : DemoSites) (empty disk : Disk) (none mail : Folders) (site site' : Seen) (input input' : Input) (output : Output)
    → (lines : List ℕ) (faults status : ℕ) → site ≡ begun_at task.demo_site old → input ≡ holding task.script → output ≡ having [] 0
    → RanOrder task.order (outside site input output) (outside site' input' (having lines faults)) status → Stays site site'
    → TellsFaults (outside site input output) (outside site' input' (having lines faults)) status
    → one ≡ record (with_disk task.demo_site empty old) { mail = none }
    → new ≡ record (with_disk task.demo_site disk one) { mail = mail } → disk ≡ record { first = site'.first; happened = site'.happened }
    → AreAsHappened disk.happened mail → IsTruthful disk.happened → RanTask task old new status lines
ran_so task old one new empty disk none mail site site' input input' output lines faults status s i o ran stays tells a b same as_happened truthful =
    let happened : disk.happened ≡ site'.happened = ap (λ (d : Disk). d.happened) same in
    let all : outside site input output ≡ outside_of task old = λ k. outside (s k) (i k) (o k) in
    let mails : new.mail ≡ mail = ap (λ (o : DemoSites). o.mail) b in
    record {
      site = site';
      input = input';
      faults = faults;
      ran = begun_so task.order site (begun_at task.demo_site old) input (holding task.script) output (having [] 0) (outside site' input' (having lines faults)) status s i o ran;
      stays = subst (λ (x : Seen). Stays x site') s stays;
      tells = subst (λ (x : Outside). TellsFaults x (outside site' input' (having lines faults)) status) all tells;
      files = subst (λ (d : Disk). new ≡ with_disk task.demo_site d (record old { mail = new.mail })) same (files_back task.demo_site old one new empty disk none mail a b);
      as_happened = subst (λ (m : Folders). AreAsHappened site'.happened m) (sym mails) (subst (λ (h : List Happening). AreAsHappened h mail) happened as_happened);
      truthful = subst IsTruthful happened truthful;
    }
