-- The script of a catalog, read from a file: first its texts one by one, then the same texts once more beside the catalog's own.
use Rattle.std.specs.Prelude.{◌≡◌, ◌<◌, ◌^◌, ⊤, ◌⊎◌, ℕ, zero, suc, Bool, true, false, List, ◌∷◌, ◌++◌, length, map, IsTrue}
use Rattle.std.specs.List.{flat_map, AllByRecursion}
use Rattle.sr_ast.specs.Layout.{printed}
use Rattle.sr_ast.specs.declared.stmt.Stmt.{Stmt}
use Rattle.sr_base.specs.Fields.{bytes_spelling, list_spelling, IsText}
use Rattle.sr_book.specs.Entries.{Name}
use Rattle.sr_catalog_change.specs.Changes.{next}
use Rattle.sr_catalog_schema.specs.Catalogs.{Lists, nothing_but}
use Rattle.sr_catalog_script_laws.specs.Scripts.{statements}
use Rattle.sr_site.specs.Seen.{Seen}
use Rattle.sr_site.specs.declared.file.File.{File}
use Rattle.sr_snapshot.specs.declared.fault.SnapFault.{SnapFault}
use Rattle.sr_snapshot.specs.declared.fault.SnapFault.TheVariants.{Disk, Long, Damaged, Memory}
use Rattle.sr_snapshot_read.specs.Damages.{BehindPart, BreaksHere, IsNextStatement, Make, TextMisfits, FieldBreaks}
use Rattle.sr_snapshot_read.specs.Places.{text_in}
use Rattle.sr_snapshot_read.specs.Inner.Reading.{HasTaken}
use Rattle.sr_snapshot_read.specs.Inner.Views.{View}

-- a text made one catalog of another
abbrev pub Makes : Lists → List ℕ → Lists → Type 0
Makes c text d = (s : Stmt) × IsNextStatement c text s × (d ≡ next c s)

-- why a text, which stands at this place, made none
abbrev pub RefusesText : Lists → List ℕ → ℕ → SnapFault → Type 0
RefusesText c text place Disk = ⊥
RefusesText c text place (Long size limit) = ⊥
RefusesText c text place (Damaged at) = (at ≡ place) × ((s : Stmt) → ¬ (IsNextStatement c text s))
RefusesText c text place Memory = ⊤

-- the next text was taken, and made one catalog of another
pub record HasTakenText (file : File) (before now : Seen) (old new : View) (c d : Lists) : Type 0 where
  pub text : List ℕ
  pub taken : HasTaken file (bytes_spelling text) before now old new
  pub is : IsText text
  pub makes : Makes c text d

-- the next text breaks, or makes no catalog of this one
abbrev pub TextBreaks : Lists → List ℕ → ℕ → Type 0
TextBreaks c bytes left = FieldBreaks text_in bytes left ⊎ TextMisfits c bytes left

-- so many texts were taken, and made one catalog of another
pub record HasTakenTexts (file : File) (count : ℕ) (before now : Seen) (old new : View) (c d : Lists) : Type 0 where
  pub texts : List (List ℕ)
  pub taken : HasTaken file (flat_map bytes_spelling texts) before now old new
  pub are : AllByRecursion IsText texts
  pub counted : length texts ≡ count
  pub make : Make c texts d

-- the text is not the first of these
pub record TextDiffers (script : List (List ℕ)) (bytes : List ℕ) (left : ℕ) : Type 0 where
  pub text : List ℕ
  pub is : IsText text
  pub differs : (later : List (List ℕ)) → ¬ (script ≡ text ∷ later)
  pub there : BehindPart (bytes_spelling text) (λ rest. ⊤) bytes
  pub here : BreaksHere bytes left

-- of so many texts one breaks, or differs from that of the script
abbrev pub RepeatBreaks : List (List ℕ) → ℕ → List ℕ → ℕ → Type 0
RepeatBreaks script zero bytes left = ⊥
RepeatBreaks script (suc count) bytes left =
    FieldBreaks text_in bytes left
    ⊎ (TextDiffers script bytes left
    ⊎ ((text : List ℕ) × (later : List (List ℕ)) × IsText text × (script ≡ text ∷ later) × BehindPart (bytes_spelling text) (λ rest. RepeatBreaks later count rest left) bytes))

-- the texts are the script, or they end before it does
abbrev pub Ends : List (List ℕ) → List (List ℕ) → Bool → Type 0
Ends script texts true = script ≡ texts
Ends script texts false = (line : List ℕ) × (later : List (List ℕ)) × (script ≡ texts ++ line ∷ later)

-- so many texts were taken, and none differs from that of the script; is it all of the script?
pub record HasRepeated (file : File) (script : List (List ℕ)) (count : ℕ) (before now : Seen) (old new : View) (whole : Bool) : Type 0 where
  pub texts : List (List ℕ)
  pub taken : HasTaken file (flat_map bytes_spelling texts) before now old new
  pub are : AllByRecursion IsText texts
  pub counted : length texts ≡ count
  pub ends : Ends script texts whole

-- so many texts were taken through a window, and none differs from that of the script; is it all of the script?
pub record RepeatsFrom (file : File) (script : List (List ℕ)) (count : ℕ) (before now : Seen) (old : View) (whole : Bool) : Type 0 where
  pub then : View
  pub repeated : HasRepeated file script count before now old then whole

-- the script of a catalog was taken, which its texts make of a new one
pub record HasTakenScript (file : File) (publisher : Name) (before now : Seen) (old new : View) (c : Lists) : Type 0 where
  pub taken : HasTaken file (list_spelling bytes_spelling (map printed (statements c))) before now old new
  pub few : length (map printed (statements c)) < 2 ^ 32
  pub are : AllByRecursion IsText (map printed (statements c))
  pub publisher_is : c.publisher ≡ publisher
  pub make : IsTrue before.observable → Make (nothing_but publisher) (map printed (statements c)) c
