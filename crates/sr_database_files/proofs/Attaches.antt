-- Calls of the disk attach nothing.
use Rattle.std.proofs.Common.{◌≡◌, Bool, List, [], ◌∷◌, ◌++◌, refl, ap, ◌∙◌}
use Rattle.sr_site.specs.Files.{Files}
use Rattle.sr_site.specs.Happenings.{Happening, attached, wrote, cut_to, synced, listed, fetched, sent, removed, handed_over}
use Rattle.sr_site.specs.Seen.{Seen}
use Rattle.sr_site.specs.declared.file.File.{File}
use Rattle.sr_database_meaning.specs.Events.{attaches_in}
use Rattle.sr_database_files.specs.Inner.Making.{HasSyncedRoot}
use Rattle.sr_database_files.specs.Inner.Openings.{AreSyncs, OnlySynced}
use Rattle.sr_database_files.specs.Inner.Touching.{AreOn, HappenedOn, AreOff, HappenedOff}

on_none : (file : File) (before more : List Happening) → AreOn file more → attaches_in (more ++ before) ≡ attaches_in before
on_none file before [] all = refl
on_none file before (attached name folder done ∷ more) all = absurd all.0
on_none file before (wrote f place bytes done after ∷ more) all = on_none file before more all.1
on_none file before (cut_to f to done after ∷ more) all = on_none file before more all.1
on_none file before (synced f done after ∷ more) all = on_none file before more all.1
on_none file before (listed address folder listing ∷ more) all = on_none file before more all.1
on_none file before (fetched address name limit found ∷ more) all = on_none file before more all.1
on_none file before (sent address name bytes done ∷ more) all = on_none file before more all.1
on_none file before (removed address name done ∷ more) all = on_none file before more all.1
on_none file before (handed_over folders noted ∷ more) all = on_none file before more all.1

off_none : (file : File) (before more : List Happening) → AreOff file more → attaches_in (more ++ before) ≡ attaches_in before
off_none file before [] all = refl
off_none file before (attached name folder done ∷ more) all = absurd all.0
off_none file before (wrote f place bytes done after ∷ more) all = off_none file before more all.1
off_none file before (cut_to f to done after ∷ more) all = off_none file before more all.1
off_none file before (synced f done after ∷ more) all = off_none file before more all.1
off_none file before (listed address folder listing ∷ more) all = off_none file before more all.1
off_none file before (fetched address name limit found ∷ more) all = off_none file before more all.1
off_none file before (sent address name bytes done ∷ more) all = off_none file before more all.1
off_none file before (removed address name done ∷ more) all = off_none file before more all.1
off_none file before (handed_over folders noted ∷ more) all = off_none file before more all.1

syncs_none : (files : Files) (before more : List Happening) → AreSyncs files more → attaches_in (more ++ before) ≡ attaches_in before
syncs_none files before [] all = refl
syncs_none files before (attached name folder done ∷ more) all = absurd all
syncs_none files before (wrote f place bytes done after ∷ more) all = absurd all
syncs_none files before (cut_to f to done after ∷ more) all = absurd all
syncs_none files before (synced f done after ∷ more) all = syncs_none files before more all.1
syncs_none files before (listed address folder listing ∷ more) all = absurd all
syncs_none files before (fetched address name limit found ∷ more) all = absurd all
syncs_none files before (sent address name bytes done ∷ more) all = absurd all
syncs_none files before (removed address name done ∷ more) all = absurd all
syncs_none files before (handed_over folders noted ∷ more) all = absurd all

pub on_attaches : (file : File) (before now : List Happening) → HappenedOn file before now → attaches_in now ≡ attaches_in before
on_attaches file before now on = ap attaches_in on.is ∙ on_none file before on.more on.on

pub off_attaches : (file : File) (before now : List Happening) → HappenedOff file before now → attaches_in now ≡ attaches_in before
off_attaches file before now off = ap attaches_in off.is ∙ off_none file before off.more off.off

pub synced_attaches : (before now : Seen) → OnlySynced before now → attaches_in now.happened ≡ attaches_in before.happened
synced_attaches before now only = ap attaches_in only.is ∙ syncs_none before.files before.happened only.more only.syncs

pub root_attaches : (read : Bool) (before now : Seen) → HasSyncedRoot read before now → attaches_in now.happened ≡ attaches_in before.happened
root_attaches read before now synced_root = ap attaches_in synced_root.is
