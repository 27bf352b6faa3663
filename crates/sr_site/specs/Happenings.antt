-- What happened at a site: commits of files, and calls of the mail.
use Rattle.std.specs.Prelude.{◌≡◌, ◌⊎◌, ℕ, Bool, List, [], ◌∷◌, ◌++◌, Option, Result}
use Rattle.sr_site.specs.declared.file.File.{File}
use Rattle.sr_site.specs.declared.mail.Listing.{Listing}
use Rattle.sr_site.specs.declared.mail.MailFault.{MailFault}

-- a call that a site was asked for, with its outcome: `true` where it succeeded. A call of the disk tells the file as a read gives it then,
-- a listing all the names that the folder held, a fetch its limit and what came. `handed_over` is no call: a site says with it what
-- lies in all folders as it is handed them, each file's address, name and bytes, and what had been put into them, each address and name
pub data Happening : Type 0 where
  attached : List ℕ → List ℕ → Bool → Happening
  wrote : File → ℕ → List ℕ → Bool → List ℕ → Happening
  cut_to : File → ℕ → Bool → List ℕ → Happening
  synced : File → Bool → List ℕ → Happening
  listed : List ℕ → List (List ℕ) → Result Listing MailFault → Happening
  fetched : List ℕ → List ℕ → ℕ → Result (Option (List ℕ)) MailFault → Happening
  sent : List ℕ → List ℕ → List ℕ → Bool → Happening
  removed : List ℕ → List ℕ → Bool → Happening
  handed_over : List (List ℕ × List ℕ × List ℕ) → List (List ℕ × List ℕ) → Happening

-- a list is a moment of what happened: all of it, or what stood before the last
abbrev pub IsMoment : List Happening → List Happening → Type 0
IsMoment moment [] = moment ≡ []
IsMoment moment (step ∷ before) = (moment ≡ step ∷ before) ⊎ IsMoment moment before

-- what happened only grows: each of its moments stays one
abbrev pub Grows : List Happening → List Happening → Type 0
Grows before now = (moment : List Happening) → IsMoment moment before → IsMoment moment now

-- what happened to the mail alone
abbrev pub mail_in : List Happening → List Happening
mail_in [] = []
mail_in (attached name folder done ∷ before) = mail_in before
mail_in (wrote file place bytes done after ∷ before) = mail_in before
mail_in (cut_to file to done after ∷ before) = mail_in before
mail_in (synced file done after ∷ before) = mail_in before
mail_in (listed address folder listing ∷ before) = listed address folder listing ∷ mail_in before
mail_in (fetched address name limit found ∷ before) = fetched address name limit found ∷ mail_in before
mail_in (sent address name bytes done ∷ before) = sent address name bytes done ∷ mail_in before
mail_in (removed address name done ∷ before) = removed address name done ∷ mail_in before
mail_in (handed_over folders noted ∷ before) = handed_over folders noted ∷ mail_in before

-- it is a call: nothing was handed over
abbrev pub IsCall : Happening → Type 0
IsCall (attached name folder done) = Unit {0}
IsCall (wrote file place bytes done after) = Unit {0}
IsCall (cut_to file to done after) = Unit {0}
IsCall (synced file done after) = Unit {0}
IsCall (listed address folder listing) = Unit {0}
IsCall (fetched address name limit found) = Unit {0}
IsCall (sent address name bytes done) = Unit {0}
IsCall (removed address name done) = Unit {0}
IsCall (handed_over folders noted) = ⊥

-- it is so at a moment, and at each later one until these happened as well, the newest first
abbrev pub Throughout : (List Happening → Type 0) → List Happening → List Happening → Type 0
Throughout holds before [] = holds before
Throughout holds before (step ∷ more) = holds (step ∷ more ++ before) × Throughout holds before more
