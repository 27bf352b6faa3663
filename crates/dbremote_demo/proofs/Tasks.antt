-- What is known of a task that was done, whatever came of it.
use Rattle.std.proofs.Common.{◌≡◌, ◌≢◌, ◌⊎◌, ℕ, true, false, bytes_eq, List, ◌∷◌, ◌++◌, refl, sym, ap, subst, ◌∙◌, inl, inr}
use Rattle.dbremote_command.proofs.Cases.{AgentFinds, order_calls}
use Rattle.dbremote_command.specs.Outside.{Outside, outside}
use Rattle.dbremote_demo.specs.Runs.{RanTask, Task, begun_at, having, outside_of}
use Rattle.dbremote_demo_draws.specs.Names.{text_of}
use Rattle.dbremote_demo_draws.specs.Places.{disk_at, with_disk}
use Rattle.dbremote_demo_draws.specs.declared.demo_site.DemoSite.{DemoSite}
use Rattle.dbremote_demo_draws.specs.declared.demo_site.DemoSite.TheVariants.{Cons, R1, R2, R3}
use Rattle.dbremote_demo_draws.specs.declared.demo_sites.DemoSites.{DemoSites}
use Rattle.sr_book.proofs.Folds.{same_name}
use Rattle.sr_memsite.specs.Disks.{Disk}
use Rattle.sr_memsite.specs.Handing.{AreAsHappened, IsTruthful, handing}
use Rattle.sr_memsite_mail.specs.Folders.{Folders}
use Rattle.sr_site.specs.Happenings.{Happening}
use Rattle.sr_world_runs.specs.Inner.Worlds.{CallsInOrder}

-- ---- the files of the four

-- another database has another name, and its files stay
pub record IsAnother (x d : DemoSite) : Type 0 where
  pub named : text_of x ≢ text_of d
  pub stays : (disk : Disk) (demo_sites : DemoSites) → disk_at x (with_disk d disk demo_sites) ≡ disk_at x demo_sites

apart : (x d : DemoSite) → bytes_eq (text_of x) (text_of d) ≡ false → text_of x ≢ text_of d
apart x d differ e =
    let same : bytes_eq (text_of x) (text_of d) ≡ true = subst (λ (n : List ℕ). bytes_eq (text_of x) n ≡ true) e (same_name (text_of x)) in
    let no : false ≡ true = sym differ ∙ same in
    cc

pub which : (x d : DemoSite) → (x ≡ d) ⊎ IsAnother x d
which Cons Cons = inl refl
which Cons R1 = inr (record { named = apart Cons R1 refl; stays = λ disk demo_sites. refl })
which Cons R2 = inr (record { named = apart Cons R2 refl; stays = λ disk demo_sites. refl })
which Cons R3 = inr (record { named = apart Cons R3 refl; stays = λ disk demo_sites. refl })
which R1 Cons = inr (record { named = apart R1 Cons refl; stays = λ disk demo_sites. refl })
which R1 R1 = inl refl
which R1 R2 = inr (record { named = apart R1 R2 refl; stays = λ disk demo_sites. refl })
which R1 R3 = inr (record { named = apart R1 R3 refl; stays = λ disk demo_sites. refl })
which R2 Cons = inr (record { named = apart R2 Cons refl; stays = λ disk demo_sites. refl })
which R2 R1 = inr (record { named = apart R2 R1 refl; stays = λ disk demo_sites. refl })
which R2 R2 = inl refl
which R2 R3 = inr (record { named = apart R2 R3 refl; stays = λ disk demo_sites. refl })
which R3 Cons = inr (record { named = apart R3 Cons refl; stays = λ disk demo_sites. refl })
which R3 R1 = inr (record { named = apart R3 R1 refl; stays = λ disk demo_sites. refl })
which R3 R2 = inr (record { named = apart R3 R2 refl; stays = λ disk demo_sites. refl })
which R3 R3 = inl refl

pub disk_there : (d : DemoSite) (disk : Disk) (demo_sites : DemoSites) → disk_at d (with_disk d disk demo_sites) ≡ disk
disk_there Cons disk demo_sites = refl
disk_there R1 disk demo_sites = refl
disk_there R2 disk demo_sites = refl
disk_there R3 disk demo_sites = refl

pub disk_with_mail : (x : DemoSite) (mail : Folders) (demo_sites : DemoSites) → disk_at x (record demo_sites { mail = mail }) ≡ disk_at x demo_sites
disk_with_mail Cons mail demo_sites = refl
disk_with_mail R1 mail demo_sites = refl
disk_with_mail R2 mail demo_sites = refl
disk_with_mail R3 mail demo_sites = refl

-- ---- a task

module _ (old new : DemoSites) (task : Task) (status : ℕ) (lines : List ℕ) (ran : RanTask task old new status lines) where
  abbrev pub ended_task : Outside
  ended_task = outside ran.site ran.input (having lines ran.faults)

  pub own_disk : disk_at task.demo_site new ≡ record { first = ran.site.first; happened = ran.site.happened }
  own_disk =
      ap (disk_at task.demo_site) ran.files ∙ disk_there task.demo_site (record { first = ran.site.first; happened = ran.site.happened }) (record old { mail = new.mail })

  pub other_disk : (x : DemoSite) → IsAnother x task.demo_site → disk_at x new ≡ disk_at x old
  other_disk x another =
      ap (disk_at x) ran.files ∙ another.stays (record { first = ran.site.first; happened = ran.site.happened }) (record old { mail = new.mail })
      ∙ disk_with_mail x new.mail old

  -- where an agent finds a database
  module _ (finds : AgentFinds task.order (begun_at task.demo_site old).files) where
    pub task_order : CallsInOrder (begun_at task.demo_site old) ran.site
    task_order = order_calls (outside_of task old) ended_task refl task.order status ran.ran finds

    abbrev folders_before : List Happening
    folders_before = handing old.mail ∷ (disk_at task.demo_site old).happened

    pub task_as_happened : AreAsHappened (task_order.more ++ folders_before) new.mail
    task_as_happened = subst (λ (h : List Happening). AreAsHappened h new.mail) task_order.is ran.as_happened

    pub task_truthful : IsTruthful (task_order.more ++ folders_before)
    task_truthful = subst IsTruthful task_order.is ran.truthful
