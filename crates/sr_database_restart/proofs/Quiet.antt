-- Calls of the disk attach nothing and put nothing.
use Rattle.std.proofs.Common.{List, [], ◌∷◌, ◌++◌, refl, ap, ◌∙◌}
use Rattle.sr_database_meaning.specs.Events.{attaches_in, puts_in}
use Rattle.sr_database_meaning.specs.Restarts.{IsQuiet}
use Rattle.sr_logfile_carry.specs.Inner.Touching.{AreOn, HappenedOn}
use Rattle.sr_site.specs.Happenings.{Happening, attached, wrote, cut_to, synced, listed, fetched, sent, removed, handed_over}
use Rattle.sr_site.specs.declared.file.File.{File}

none : (file : File) (before more : List Happening) → AreOn file more → IsQuiet before (more ++ before)
none file before [] on = record { attached = refl; put = refl }
none file before (attached name folder done ∷ more) on = absurd on.0
none file before (wrote f place bytes done after ∷ more) on = let rest = none file before more on.1 in record { attached = rest.attached; put = rest.put }
none file before (cut_to f to done after ∷ more) on = let rest = none file before more on.1 in record { attached = rest.attached; put = rest.put }
none file before (synced f done after ∷ more) on = let rest = none file before more on.1 in record { attached = rest.attached; put = rest.put }
none file before (listed address folder listing ∷ more) on = absurd on.0
none file before (fetched address name limit found ∷ more) on = absurd on.0
none file before (sent address name bytes done ∷ more) on = absurd on.0
none file before (removed address name done ∷ more) on = absurd on.0
none file before (handed_over folders noted ∷ more) on = absurd on.0

pub quiet : (file : File) (before now : List Happening) → HappenedOn file before now → IsQuiet before now
quiet file before now on = let rest = none file before on.more on.on in record { attached = ap attaches_in on.is ∙ rest.attached; put = ap puts_in on.is ∙ rest.put }

pub quiet_on : (before middle now : List Happening) → IsQuiet before middle → IsQuiet middle now → IsQuiet before now
quiet_on before middle now one other = record { attached = other.attached ∙ one.attached; put = other.put ∙ one.put }
