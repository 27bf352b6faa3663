-- What the files stand for while a restart goes on.
use Rattle.std.proofs.Common.{◌≡◌, ◌⊎◌, inl, inr, ◌≤◌, List, [], ◌∷◌, Some, length, ℕ, refl, sym, ◌∙◌, ap, subst, arith}
use Rattle.std.specs.Prelude.{◌%◌, ◌==◌, if◌then◌else◌}
use Rattle.sr_book.specs.Entries.{Name}
use Rattle.sr_database_history.specs.Recorded.{Recorded}
use Rattle.sr_database_meaning.proofs.Resting.{rests_on}
use Rattle.sr_database_meaning.specs.Generations.{Generation, even, odd, generation_in, snapshot_of, log_of, generation_of, named, other_of}
use Rattle.sr_database_meaning.specs.Restarts.{StandsAtBoth, StandsAtEither}
use Rattle.sr_database_meaning.specs.Standing.{IsSnapshotAt, StandsFor, bodies}
use Rattle.sr_database_restart.proofs.Beside.{rests_each}
use Rattle.sr_database_restart.proofs.Named.{root_not_snapshot, root_not_log}
use Rattle.sr_database_restart.specs.Inner.Generations.{IsLogFile}
use Rattle.sr_database_restart.specs.Inner.Laws.{HoldsHistory, Names}
use Rattle.sr_database_restart.specs.Inner.Restarting.{AgreesOn, HasBoth, HasParts, IsRestarted, KeepsInForce, WentOn}
use Rattle.sr_logfile.specs.Records.{Spells}
use Rattle.sr_logfile_carry.proofs.Files.{other_bytes}
use Rattle.sr_site.specs.Files.{Files, bytes_of, with_bytes}
use Rattle.sr_site.specs.Images.{IsSettled, RestsThroughout}
use Rattle.sr_site.specs.Seen.{Seen}
use Rattle.sr_site.specs.declared.file.File.{File}
use Rattle.sr_site.specs.declared.file.File.TheVariants.{Root}

-- what is said of files does not look at those of the other generation
abbrev pub LooksAt : Generation → (Files → Type 0) → Type 0
LooksAt generation holds = (old image : Files) → AgreesOn generation old image → holds old → holds image

-- then it goes on to hold
pub keeps : (generation : Generation) (holds : Files → Type 0) (before now : Seen) → LooksAt generation holds → RestsThroughout (KeepsInForce generation before) before now → IsSettled holds before → RestsThroughout holds before now
keeps generation holds before now looks rests settled =
    rests_each (KeepsInForce generation before) holds before now (λ image kept. looks kept.old image kept.agrees (settled kept.old kept.stood)) rests

-- ---- which generation a root names

one_generation : (a b : Generation) (root : List ℕ) → generation_in root ≡ Some a → generation_in root ≡ Some b → a ≡ b
one_generation a b root one other = let same : Some a ≡ Some b = sym one ∙ other in cc

has_byte : (generation : Generation) (root : List ℕ) → generation_in root ≡ Some generation → 1 ≤ length root
has_byte generation [] none = cc
has_byte generation (byte ∷ rest) some = omega arith

-- one that a byte names
record NamesOne (root : List ℕ) : Type 0 where
  generation : Generation
  is : generation_in root ≡ Some generation

names_one : (root : List ℕ) → 1 ≤ length root → NamesOne root
names_one [] some = absurd (omega (arith, some))
names_one (byte ∷ rest) some = record { generation = if (byte % 2) == 0 then even else odd; is = refl }

this_or_other : (generation found : Generation) → (found ≡ generation) ⊎ (found ≡ other_of generation)
this_or_other even even = inl refl
this_or_other even odd = inr refl
this_or_other odd even = inr refl
this_or_other odd odd = inl refl

pub of_one : (generation : Generation) (file : File) → log_of generation ≡ file → IsLogFile file × (generation_of file ≡ generation)
of_one even file is = (sym is ∙ ap (λ (f : File). log_of (generation_of f)) is, ap generation_of (sym is))
of_one odd file is = (sym is ∙ ap (λ (f : File). log_of (generation_of f)) is, ap generation_of (sym is))

pub named_names : (generation : Generation) (root : List ℕ) → generation_in (named generation root) ≡ Some generation
named_names even root = refl
named_names odd root = refl

-- ---- a generation and its history

module _ (generation : Generation) (publisher : Name) (es : List Recorded) (base : ℕ) where
  stands_by : (snapshot log : List ℕ) (image : Files) → HoldsHistory publisher es base snapshot log → Names generation image → HasParts generation snapshot log image → StandsFor publisher es base image
  stands_by snapshot log image history names parts = record {
    generation = generation;
    root = names;
    name = history.name;
    stored = history.stored;
    done = history.done;
    left = history.left;
    parts = history.parts;
    base_is = history.base_is;
    snapshot = subst (λ (bytes : List ℕ). IsSnapshotAt publisher history.done bytes) (sym parts.snapshot_is) history.snapshot_is;
    log = subst (λ (bytes : List ℕ). Spells base (bodies history.left) bytes) (sym parts.log_is) history.log_is;
  }

  holds_history : (old : Files) → StandsFor publisher es base old → Names generation old → HoldsHistory publisher es base (bytes_of old (snapshot_of generation)) (bytes_of old (log_of generation))
  holds_history old stands names =
      let same : stands.generation ≡ generation = one_generation stands.generation generation old.root stands.root names in
      record {
        name = stands.name;
        stored = stands.stored;
        done = stands.done;
        left = stands.left;
        parts = stands.parts;
        base_is = stands.base_is;
        snapshot_is = subst (λ (g : Generation). IsSnapshotAt publisher stands.done (bytes_of old (snapshot_of g))) same stands.snapshot;
        log_is = subst (λ (g : Generation). Spells base (bodies stands.left) (bytes_of old (log_of g))) same stands.log;
      }

  -- with another root
  parts_stay : (snapshot log root : List ℕ) (image : Files) → HasParts generation snapshot log image → HasParts generation snapshot log (with_bytes image Root root)
  parts_stay snapshot log root image parts = record {
    snapshot_is = other_bytes image Root (snapshot_of generation) root (root_not_snapshot generation) ∙ parts.snapshot_is;
    log_is = other_bytes image Root (log_of generation) root (root_not_log generation) ∙ parts.log_is;
  }

  stands_named : (snapshot log : List ℕ) (image : Files) → HoldsHistory publisher es base snapshot log → HasParts generation snapshot log image → StandsFor publisher es base (with_bytes image Root (named generation image.root))
  stands_named snapshot log image history parts =
      stands_by snapshot log (with_bytes image Root (named generation image.root)) history (named_names generation image.root) (parts_stay snapshot log (named generation image.root) image parts)

  stands_kept : (before : Seen) (image : Files) → IsSettled (StandsFor publisher es base) before → IsSettled (Names generation) before → KeepsInForce generation before image → StandsFor publisher es base image
  stands_kept before image settled names kept =
      let agrees = kept.agrees in
      stands_by (bytes_of kept.old (snapshot_of generation)) (bytes_of kept.old (log_of generation)) image (holds_history kept.old (settled kept.old kept.stood) (names kept.old kept.stood))
      (ap generation_in agrees.root ∙ names kept.old kept.stood) (record { snapshot_is = agrees.snapshot; log_is = agrees.log })

  pub keeps_standing : (before now : Seen) → IsSettled (StandsFor publisher es base) before → IsSettled (Names generation) before → RestsThroughout (KeepsInForce generation before) before now → RestsThroughout (StandsFor publisher es base) before now
  keeps_standing before now settled names rests = rests_each (KeepsInForce generation before) (StandsFor publisher es base) before now (λ image kept. stands_kept before image settled names kept) rests

module _ (generation : Generation) (publisher : Name) (es : List Recorded) (base keep : ℕ) (snapshot log : List ℕ) (before : Seen) (history : HoldsHistory publisher es keep snapshot log) (settled : IsSettled (StandsFor publisher es base) before)
    (names : IsSettled (Names generation) before) where
  stands_either : (image : Files) → HasBoth generation snapshot log before image → StandsAtEither publisher es base keep image
  stands_either image both =
      let long = has_byte generation both.rooted.root (names both.rooted both.stood_too) in
      let torn = both.root in
      let one = names_one image.root (omega (arith, long, torn.longer)) in
      by_name one.generation one.is (this_or_other generation one.generation)
    where
      by_name : (found : Generation) → Names found image → (found ≡ generation) ⊎ (found ≡ other_of generation) → StandsAtEither publisher es base keep image
      by_name found is (inl this) = inl (stands_by generation publisher es base (bytes_of both.old (snapshot_of generation)) (bytes_of both.old (log_of generation)) image
          (holds_history generation publisher es base both.old (settled both.old both.stood) (names both.old both.stood)) (subst (λ (g : Generation). Names g image) this is) both.parts)
      by_name found is (inr other) = inr (stands_by (other_of generation) publisher es keep snapshot log image history (subst (λ (g : Generation). Names g image) other is) both.new)

  stands_both : (image : Files) → HasBoth generation snapshot log before image → StandsAtBoth generation publisher es base keep image
  stands_both image both = record {
    old = stands_named generation publisher es base (bytes_of both.old (snapshot_of generation)) (bytes_of both.old (log_of generation)) image
        (holds_history generation publisher es base both.old (settled both.old both.stood) (names both.old both.stood)) both.parts;
    new = stands_named (other_of generation) publisher es keep snapshot log image history both.new;
    either = stands_either image both;
  }

  keeping : (now : Seen) → RestsThroughout (KeepsInForce generation before) before now → RestsThroughout (StandsAtEither publisher es base keep) before now
  keeping now rests = rests_each (KeepsInForce generation before) (StandsAtEither publisher es base keep) before now (λ image kept. inl (stands_kept generation publisher es base before image settled names kept)) rests

  pub stands : (now : Seen) → WentOn generation snapshot log before now → RestsThroughout (StandsAtEither publisher es base keep) before now
  stands now (inl rests) = keeping now rests
  stands now (inr went) =
      rests_on (StandsAtEither publisher es base keep) before went.middle now went.first (keeping went.middle went.writing)
      (rests_each (HasBoth generation snapshot log before) (StandsAtEither publisher es base keep) went.middle now (λ image both. stands_either image both) went.naming)

  pub both : (middle now : Seen) → RestsThroughout (HasBoth generation snapshot log before) middle now → RestsThroughout (StandsAtBoth generation publisher es base keep) middle now
  both middle now rests = rests_each (HasBoth generation snapshot log before) (StandsAtBoth generation publisher es base keep) middle now (λ image at. stands_both image at) rests

-- in the end
pub new : (generation : Generation) (publisher : Name) (es : List Recorded) (keep : ℕ) (snapshot log : List ℕ) (before now : Seen) → HoldsHistory publisher es keep snapshot log → IsRestarted generation snapshot log before now → IsSettled (StandsFor publisher es keep) now
new generation publisher es keep snapshot log before now history is image there =
    let whole = is.settled image there in
    stands_by (other_of generation) publisher es keep snapshot log image history (ap generation_in whole.root_is ∙ named_names (other_of generation) before.files.root) whole.parts
