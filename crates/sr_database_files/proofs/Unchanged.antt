-- What a refusal before the first call of a device leaves.
use Rattle.std.proofs.Common.{refl, arith}
use Rattle.sr_site.specs.Causes.{DiskStays}
use Rattle.sr_site.specs.Seen.{Seen}

pub same_stays : (seen : Seen) → DiskStays seen seen
same_stays seen = record { observable = refl; first = refl; grows = λ moment there. there; mail = refl; mail_faults = refl; later = omega arith }
