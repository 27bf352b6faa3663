-- What each call does to a site in memory.
use Rattle.std.specs.Prelude.{ℕ, List, [], ◌∷◌}
use Rattle.std.specs.Option.{option_map}
use Rattle.std.specs.Result.{result_map_both}
use Rattle.sr_site.specs.Files.{Files}
use Rattle.sr_site.specs.Happenings.{Happening, attached, wrote, cut_to, synced, listed, fetched, sent, removed}
use Rattle.sr_memsite.specs.Handing.{handing}
use Rattle.sr_memsite_mail.specs.Inner.Folders.{names_in}
use Rattle.sr_memsite_disk.specs.Stores.{no_bytes}
use Rattle.sr_memsite_disk.specs.Inner.Stores.{files_of}
use Rattle.sr_memsite.specs.declared.calls.Step.{Step}
use Rattle.sr_memsite.specs.declared.calls.Step.TheVariants.{Began, Attached, Wrote, Cut, Synced, Listed, Fetched, Put, Removed, Handed}

-- the files with which the calls began
abbrev pub first_of : List (Step × List ℕ) → Files
first_of [] = no_bytes
first_of ((Began files, bytes) ∷ before) = files_of files.value
first_of ((Attached name folder done, bytes) ∷ before) = first_of before
first_of ((Wrote file place done after, bytes) ∷ before) = first_of before
first_of ((Cut file to done after, bytes) ∷ before) = first_of before
first_of ((Synced file done after, bytes) ∷ before) = first_of before
first_of ((Listed address mail listing, bytes) ∷ before) = first_of before
first_of ((Fetched address name limit found, bytes) ∷ before) = first_of before
first_of ((Put address name done, bytes) ∷ before) = first_of before
first_of ((Removed address name done, bytes) ∷ before) = first_of before
first_of ((Handed mail, bytes) ∷ before) = first_of before

-- what happened since then, each call with the bytes that it was given
abbrev pub happened_of : List (Step × List ℕ) → List Happening
happened_of [] = []
happened_of ((Began files, bytes) ∷ before) = []
happened_of ((Attached name folder done, bytes) ∷ before) = attached name.value folder.value done ∷ happened_of before
happened_of ((Wrote file place done after, bytes) ∷ before) = wrote file place bytes done after.value.bytes ∷ happened_of before
happened_of ((Cut file to done after, bytes) ∷ before) = cut_to file to done after.value.bytes ∷ happened_of before
happened_of ((Synced file done after, bytes) ∷ before) = synced file done after.value.bytes ∷ happened_of before
happened_of ((Listed address mail listing, bytes) ∷ before) = listed address.value (names_in mail.value.files address.value) listing.value ∷ happened_of before
happened_of ((Fetched address name limit found, bytes) ∷ before) =
    fetched address.value name.value limit (result_map_both (option_map (λ file. file.items)) (λ fault. fault) found.value) ∷ happened_of before
happened_of ((Put address name done, bytes) ∷ before) = sent address.value name.value bytes done ∷ happened_of before
happened_of ((Removed address name done, bytes) ∷ before) = removed address.value name.value done ∷ happened_of before
happened_of ((Handed mail, bytes) ∷ before) = handing mail.value ∷ happened_of before
