-- What the status of a run tells of the counts of faults.
use Rattle.std.specs.Prelude.{◌≡◌, ◌⊎◌, ℕ}
use Rattle.dbremote_command.specs.Outside.{Outside}

-- a fault of a device is told
pub record TellsFaults (old new : Outside) (status : ℕ) : Type 0 where
  -- the disk's count stays, or the status is 5, or 7, where a stream failed too
  pub disk : (new.site.disk_faults ≡ old.site.disk_faults) ⊎ ((status ≡ 5) ⊎ (status ≡ 7))
  -- the mail's count stays, or the status is 6, or 7, where the sink failed too
  pub mail : (new.site.mail_faults ≡ old.site.mail_faults) ⊎ ((status ≡ 6) ⊎ (status ≡ 7))
