-- Five files, of which one has other bytes.
use Rattle.std.proofs.Common.{◌≡◌, ◌≢◌, ℕ, List, refl, ap, ◌∙◌}
use Rattle.sr_site.specs.Files.{Files, bytes_of, with_bytes, OthersStay}
use Rattle.sr_site.specs.declared.file.File.{File}
use Rattle.sr_site.specs.declared.file.File.TheVariants.{Root, Log0, Log1, Snap0, Snap1}

pub replaced_again : (files : Files) (f : File) (bytes more : List ℕ) → with_bytes (with_bytes files f bytes) f more ≡ with_bytes files f more
replaced_again files Root bytes more = refl
replaced_again files Log0 bytes more = refl
replaced_again files Log1 bytes more = refl
replaced_again files Snap0 bytes more = refl
replaced_again files Snap1 bytes more = refl

pub other_bytes : (files : Files) (f g : File) (bytes : List ℕ) → f ≢ g → bytes_of (with_bytes files f bytes) g ≡ bytes_of files g
other_bytes files Root Root bytes n = absurd (n refl)
other_bytes files Root Log0 bytes n = refl
other_bytes files Root Log1 bytes n = refl
other_bytes files Root Snap0 bytes n = refl
other_bytes files Root Snap1 bytes n = refl
other_bytes files Log0 Root bytes n = refl
other_bytes files Log0 Log0 bytes n = absurd (n refl)
other_bytes files Log0 Log1 bytes n = refl
other_bytes files Log0 Snap0 bytes n = refl
other_bytes files Log0 Snap1 bytes n = refl
other_bytes files Log1 Root bytes n = refl
other_bytes files Log1 Log0 bytes n = refl
other_bytes files Log1 Log1 bytes n = absurd (n refl)
other_bytes files Log1 Snap0 bytes n = refl
other_bytes files Log1 Snap1 bytes n = refl
other_bytes files Snap0 Root bytes n = refl
other_bytes files Snap0 Log0 bytes n = refl
other_bytes files Snap0 Log1 bytes n = refl
other_bytes files Snap0 Snap0 bytes n = absurd (n refl)
other_bytes files Snap0 Snap1 bytes n = refl
other_bytes files Snap1 Root bytes n = refl
other_bytes files Snap1 Log0 bytes n = refl
other_bytes files Snap1 Log1 bytes n = refl
other_bytes files Snap1 Snap0 bytes n = refl
other_bytes files Snap1 Snap1 bytes n = absurd (n refl)

-- what a change of one file leaves of another
pub stays : (f g : File) (old new : Files) → f ≢ g → OthersStay f old new → bytes_of new g ≡ bytes_of old g
stays f g old new n others = ap (λ (x : Files). bytes_of x g) others ∙ other_bytes old f g (bytes_of new f) n
