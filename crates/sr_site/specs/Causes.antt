-- Which device's count of faults rose, and which stayed.
use Rattle.std.specs.Prelude.{◌≡◌, ℕ, ◌+◌, ◌-◌, ◌^◌, ◌≤◌, min}
use Rattle.sr_site.specs.Happenings.{Grows, mail_in}
use Rattle.sr_site.specs.Seen.{Seen}

-- a count of faults rose, or stands at a counter's last value
abbrev pub Rose : ℕ → ℕ → Type 0
Rose before now = min (before + 1) (2 ^ 64 - 1) ≤ now

-- what every call leaves: whether the site tells, what stood at the beginning, what happened before, and counts that never fall
pub record Stays (old new : Seen) : Type 0 where
  pub observable : new.observable ≡ old.observable
  pub first : new.first ≡ old.first
  pub grows : Grows old.happened new.happened
  pub disk : old.disk_faults ≤ new.disk_faults
  pub mail : old.mail_faults ≤ new.mail_faults

-- what a call of the disk leaves: besides, the mail as it was
pub record DiskStays (old new : Seen) : Type 0 where
  pub observable : new.observable ≡ old.observable
  pub first : new.first ≡ old.first
  pub grows : Grows old.happened new.happened
  pub mail : mail_in new.happened ≡ mail_in old.happened
  pub mail_faults : new.mail_faults ≡ old.mail_faults
  pub later : old.disk_faults ≤ new.disk_faults

-- what a call of the mail leaves: besides, the disk as it was
pub record MailStays (old new : Seen) : Type 0 where
  pub observable : new.observable ≡ old.observable
  pub first : new.first ≡ old.first
  pub files : new.files ≡ old.files
  pub grows : Grows old.happened new.happened
  pub disk_faults : new.disk_faults ≡ old.disk_faults
  pub later : old.mail_faults ≤ new.mail_faults
