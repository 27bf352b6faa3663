-- How the calls of a disk keep its files backed, and what they make of them, seen by its steps.
use Rattle.std.proofs.Common.{◌≡◌, ◌≤◌, ℕ, true, List, [], ◌∷◌, length, refl, sym, ◌∙◌, ap, subst}
use Rattle.sr_site.specs.Files.{Files, bytes_of, with_bytes}
use Rattle.sr_site.specs.Happenings.{Happening, synced}
use Rattle.sr_site.specs.Images.{MayLeave}
use Rattle.sr_site.specs.declared.file.File.{File}
use Rattle.sr_site.specs.declared.file.File.TheVariants.{Root, Log0, Log1, Snap0, Snap1}
use Rattle.sr_memsite_disk.specs.Picks.{standing}
use Rattle.sr_memsite_disk.specs.Store.{Store}
use Rattle.sr_memsite_disk.specs.Inner.Store.{settled_on}
use Rattle.sr_memsite_disk.specs.Stores.{Stores}
use Rattle.sr_memsite_disk.specs.Inner.Stores.{store_of, with_store, stores_of, files_of, outcomes, AreBacked}
use Rattle.sr_memsite_disk.proofs.Backing.{sync_done, begins, bytes_in, is_image, chosen, lost, whole}
use Rattle.sr_memsite_disk.proofs.Standing.{told, standing_first, standing_sync}
use Rattle.sr_site.proofs.Images.{with_same}
use Rattle.sr_memsite.specs.Disks.{Disk, files_in}
use Rattle.sr_memsite.specs.Inner.Disks.{with_happening, HasCrashed}
use Rattle.sr_memsite.specs.Inner.Steps.{first_of, happened_of}
use Rattle.sr_memsite.specs.declared.calls.Step.{Step}

abbrev pub Steps : Type 0
Steps = List (Step × List ℕ)

-- a disk as contracts see it
abbrev pub seen : Steps → Disk
seen steps = record { first = first_of steps; happened = happened_of steps }

pub done_by : (stores now : Stores) (steps more : Steps) (step : Step × List ℕ) → more ≡ step ∷ steps → now ≡ stores → AreBacked stores (first_of (step ∷ steps)) (happened_of (step ∷ steps)) → AreBacked now (first_of more) (happened_of more)
done_by stores now steps more step is same backed =
    subst (λ (l : Steps). AreBacked now (first_of l) (happened_of l)) (sym is) (subst (λ (s : Stores). AreBacked s (first_of (step ∷ steps)) (happened_of (step ∷ steps))) (sym same) backed)

pub store_there : (stores : Stores) (file : File) (store : Store) → store_of (with_store stores file store) file ≡ store
store_there stores Root store = refl
store_there stores Log0 store = refl
store_there stores Log1 store = refl
store_there stores Snap0 store = refl
store_there stores Snap1 store = refl

-- a file's bytes, as contracts see them
pub bytes_seen : (stores : Stores) (steps : Steps) (disk : Disk) (file : File) → AreBacked stores (first_of steps) (happened_of steps) → seen steps ≡ disk → (store_of stores file).bytes ≡ bytes_of (files_in disk) file
bytes_seen stores steps disk file backed view =
    sym (bytes_in stores file) ∙ ap (λ (files : Files). bytes_of files file) (told stores (first_of steps) (happened_of steps) backed ∙ ap (λ (d : Disk). files_in d) view)

pub within_of : (stores : Stores) (steps : Steps) (disk : Disk) (file : File) (n : ℕ) → AreBacked stores (first_of steps) (happened_of steps) → seen steps ≡ disk → n ≤ length (bytes_of (files_in disk) file) → n ≤ length (store_of stores file).bytes
within_of stores steps disk file n backed view within = subst (λ (bytes : List ℕ). n ≤ length bytes) (sym (bytes_seen stores steps disk file backed view)) within

pub within_seen : (steps : Steps) (disk : Disk) (file : File) (n : ℕ) → seen steps ≡ disk → n ≤ length (bytes_of (files_in disk) file) → n ≤ length (bytes_of (standing (first_of steps) (happened_of steps)) file)
within_seen steps disk file n view within = subst (λ (d : Disk). n ≤ length (bytes_of (files_in d) file)) (sym view) within

-- what one more step makes of the files
pub files_by : (steps more : Steps) (step : Step × List ℕ) (disk : Disk) (P : Files → Files) → more ≡ step ∷ steps → seen steps ≡ disk → standing (first_of (step ∷ steps)) (happened_of (step ∷ steps)) ≡ P (standing (first_of steps) (happened_of steps)) → standing (first_of more) (happened_of more) ≡ P (files_in disk)
files_by steps more step disk P is view same =
    ap (λ (l : Steps). standing (first_of l) (happened_of l)) is ∙ same ∙ ap (λ (d : Disk). P (files_in d)) view

-- one more step with the file as it stands then
pub happened_by : (stores : Stores) (steps more : Steps) (step : Step × List ℕ) (disk : Disk) (file : File) (after : List ℕ) (H : List ℕ → Happening) → more ≡ step ∷ steps → seen steps ≡ disk → happened_of (step ∷ steps) ≡ H after ∷ happened_of steps
    → AreBacked stores (first_of more) (happened_of more) → after ≡ (store_of stores file).bytes → happened_of more ≡ H (bytes_of (standing (first_of more) (happened_of more)) file) ∷ disk.happened
happened_by stores steps more step disk file after H is view same backed after_is =
    ap happened_of is ∙ same ∙ ap (λ (l : List ℕ). H l ∷ happened_of steps) (after_is ∙ bytes_seen stores more (seen more) file backed refl) ∙ ap (λ (d : Disk). H (bytes_of (standing (first_of more) (happened_of more)) file) ∷ d.happened) view

-- one more step alone
pub noted_by : (steps more : Steps) (step : Step × List ℕ) (disk : Disk) (told noted : Happening) → more ≡ step ∷ steps → seen steps ≡ disk → seen (step ∷ steps) ≡ with_happening (seen steps) told → told ≡ noted → seen more ≡ with_happening disk noted
noted_by steps more step disk told noted is view by same =
    ap seen is ∙ by ∙ ap (λ (h : Happening). with_happening (seen steps) h) same ∙ ap (λ (d : Disk). with_happening d noted) view

-- a sync of bytes that were read then
pub sync_as : (first : Files) (before : List Happening) (stores : Stores) → AreBacked stores first before → (other : File) (bytes after : List ℕ) → after ≡ bytes → AreBacked (with_store stores other (settled_on bytes)) first (synced other true after ∷ before)
sync_as first before stores backed other bytes after is =
    subst (λ (l : List ℕ). AreBacked (with_store stores other (settled_on bytes)) first (synced other true l ∷ before)) (sym is) (sync_done first before stores backed other bytes)

-- a sync of what stands leaves it
pub sync_stays : (first : Files) (before : List Happening) (file : File) (after : List ℕ) → after ≡ bytes_of (standing first before) file → standing first (synced file true after ∷ before) ≡ standing first before
sync_stays first before file after is =
    standing_sync first before file after ∙ ap (λ (l : List ℕ). with_bytes (standing first before) file l) is ∙ sym (with_same (standing first before) file)

pub begun_as : (now : Stores) (files first : Files) (happened : List Happening) → now ≡ stores_of files → first ≡ files_of now → happened ≡ [] → AreBacked now first happened
begun_as now files first happened is same none =
    let first_is : first ≡ files = same ∙ ap files_of is in
    subst (λ (l : List Happening). AreBacked now first l) (sym none) (subst (λ (f : Files). AreBacked now f []) (sym first_is) (subst (λ (s : Stores). AreBacked s files []) (sym is) (begins files)))

pub crashed_as : (stores now : Stores) (first then : Files) (happened later : List Happening) (pick : ℕ) (old : Disk) → AreBacked stores first happened → now ≡ stores_of (outcomes pick stores) → record { first = first; happened = happened } ≡ old
    → then ≡ files_of now → later ≡ [] → HasCrashed pick old (record { first = then; happened = later })
crashed_as stores now first then happened later pick old backed now_is is same none =
    let left = outcomes pick stores in
    let fresh : standing left [] ≡ left = standing_first left in
    let new : record { first = then; happened = later } ≡ record { first = left; happened = [] } = λ k. record { first = (same ∙ ap files_of now_is) k; happened = none k } in
    subst (λ (d : Disk). HasCrashed pick old d) (sym new)
    (subst (λ (d : Disk). HasCrashed pick d (record { first = left; happened = [] })) is
    (record {
      begun = λ k. record { first = sym fresh k; happened = [] };
      image = subst (λ (files : Files). MayLeave first happened files) (sym fresh) (is_image stores first happened backed pick);
      chosen = λ file. ap (λ (files : Files). bytes_of files file) fresh ∙ chosen stores first happened backed pick file;
      lost = λ zero_is file. ap (λ (files : Files). bytes_of files file) fresh ∙ lost stores first happened backed pick zero_is file;
      whole = λ one_is. fresh ∙ whole stores first happened backed pick one_is ∙ told stores first happened backed;
    }))
