-- What a crash may leave of each file, file by file, and how that is what it may leave of all of them.
use Rattle.std.proofs.Common.{◌≡◌, ◌+◌, ◌≤◌, ℕ, Bool, true, false, cond, List, [], ◌∷◌, ◌++◌, length, take, drop, None, Some, refl, sym, ◌∙◌, ap, subst, arith}
use Rattle.std.proofs.lemmas.List.{append-nil}
use Rattle.sr_site.specs.Files.{Files, bytes_of, with_bytes, IsTorn, IsCutInPart}
use Rattle.sr_site.specs.Happenings.{Happening, attached, wrote, cut_to, synced, listed, fetched, sent, removed, handed_over}
use Rattle.sr_site.specs.Images.{MayLeave}
use Rattle.sr_site.specs.declared.file.File.{File}
use Rattle.sr_site.specs.declared.file.File.TheVariants.{Root, Log0, Log1, Snap0, Snap1}
use Rattle.sr_memsite_disk.specs.Changes.{same_file, Change, write, cut, Unsynced, settled_at, all_of, with_write, with_cut, unsynced_of}
use Rattle.sr_memsite_disk.specs.Picks.{Crash, crashed, next, tear_of, torn, crash_of}
use Rattle.sr_memsite_disk.specs.Inner.Picks.{pick_of, outcome}
use Rattle.sr_memsite_disk.proofs.Tearing.{crashed_on, torn_write, torn_cut}

-- what a crash may leave of a file after a write, a cut or a sync, if it was one of this file
abbrev pub AfterWrite : Bool → ℕ → ℕ → (List ℕ → Type 0) → List ℕ → Type 0
AfterWrite true place count before bytes = (old : List ℕ) × before old × IsTorn place count old bytes
AfterWrite false place count before bytes = before bytes

abbrev pub AfterCut : Bool → ℕ → (List ℕ → Type 0) → List ℕ → Type 0
AfterCut true to before bytes = (old : List ℕ) × before old × IsCutInPart to old bytes
AfterCut false to before bytes = before bytes

abbrev pub AfterSync : Bool → List ℕ → (List ℕ → Type 0) → List ℕ → Type 0
AfterSync true after before bytes = (old : List ℕ) × before old × (bytes ≡ after)
AfterSync false after before bytes = before bytes

-- what a crash may leave of one file
abbrev pub Leaves : File → List ℕ → List Happening → List ℕ → Type 0
Leaves file first [] bytes = bytes ≡ first
Leaves file first (attached name folder done ∷ before) bytes = Leaves file first before bytes
Leaves file first (wrote other place new done after ∷ before) bytes = AfterWrite (same_file file other) place (length new) (Leaves file first before) bytes
Leaves file first (cut_to other to done after ∷ before) bytes = AfterCut (same_file file other) to (Leaves file first before) bytes
Leaves file first (synced other true after ∷ before) bytes = AfterSync (same_file file other) after (Leaves file first before) bytes
Leaves file first (synced other false after ∷ before) bytes = Leaves file first before bytes
Leaves file first (listed address folder listing ∷ before) bytes = Leaves file first before bytes
Leaves file first (fetched address name limit found ∷ before) bytes = Leaves file first before bytes
Leaves file first (sent address name new done ∷ before) bytes = Leaves file first before bytes
Leaves file first (removed address name done ∷ before) bytes = Leaves file first before bytes
Leaves file first (handed_over folders noted ∷ before) bytes = Leaves file first before bytes

abbrev pub LeaveEach : Files → List Happening → Files → Type 0
LeaveEach first happened image = (file : File) → Leaves file (bytes_of first file) happened (bytes_of image file)

pub may_leave : (first image : Files) (happened : List Happening) → LeaveEach first happened image → MayLeave first happened image
may_leave first image [] each = λ k. record { root = each Root k; log0 = each Log0 k; log1 = each Log1 k; snap0 = each Snap0 k; snap1 = each Snap1 k }
may_leave first image (attached name folder done ∷ before) each = may_leave first image before each
may_leave first image (listed address folder listing ∷ before) each = may_leave first image before each
may_leave first image (fetched address name limit found ∷ before) each = may_leave first image before each
may_leave first image (sent address name new done ∷ before) each = may_leave first image before each
may_leave first image (removed address name done ∷ before) each = may_leave first image before each
may_leave first image (handed_over folders noted ∷ before) each = may_leave first image before each
may_leave first image (synced file false after ∷ before) each = may_leave first image before each
may_leave first image (wrote Root place new done after ∷ before) each = (with_bytes image Root (each Root).0, may_leave first (with_bytes image Root (each Root).0) before old, refl, (each Root).2)
  where
    old : LeaveEach first before (with_bytes image Root (each Root).0)
    old Root = (each Root).1
    old Log0 = each Log0
    old Log1 = each Log1
    old Snap0 = each Snap0
    old Snap1 = each Snap1
may_leave first image (cut_to Root to done after ∷ before) each = (with_bytes image Root (each Root).0, may_leave first (with_bytes image Root (each Root).0) before old, refl, (each Root).2)
  where
    old : LeaveEach first before (with_bytes image Root (each Root).0)
    old Root = (each Root).1
    old Log0 = each Log0
    old Log1 = each Log1
    old Snap0 = each Snap0
    old Snap1 = each Snap1
may_leave first image (synced Root true after ∷ before) each = (with_bytes image Root (each Root).0, may_leave first (with_bytes image Root (each Root).0) before old, ap (λ (bytes : List ℕ). with_bytes image Root bytes) (each Root).2)
  where
    old : LeaveEach first before (with_bytes image Root (each Root).0)
    old Root = (each Root).1
    old Log0 = each Log0
    old Log1 = each Log1
    old Snap0 = each Snap0
    old Snap1 = each Snap1
may_leave first image (wrote Log0 place new done after ∷ before) each = (with_bytes image Log0 (each Log0).0, may_leave first (with_bytes image Log0 (each Log0).0) before old, refl, (each Log0).2)
  where
    old : LeaveEach first before (with_bytes image Log0 (each Log0).0)
    old Root = each Root
    old Log0 = (each Log0).1
    old Log1 = each Log1
    old Snap0 = each Snap0
    old Snap1 = each Snap1
may_leave first image (cut_to Log0 to done after ∷ before) each = (with_bytes image Log0 (each Log0).0, may_leave first (with_bytes image Log0 (each Log0).0) before old, refl, (each Log0).2)
  where
    old : LeaveEach first before (with_bytes image Log0 (each Log0).0)
    old Root = each Root
    old Log0 = (each Log0).1
    old Log1 = each Log1
    old Snap0 = each Snap0
    old Snap1 = each Snap1
may_leave first image (synced Log0 true after ∷ before) each = (with_bytes image Log0 (each Log0).0, may_leave first (with_bytes image Log0 (each Log0).0) before old, ap (λ (bytes : List ℕ). with_bytes image Log0 bytes) (each Log0).2)
  where
    old : LeaveEach first before (with_bytes image Log0 (each Log0).0)
    old Root = each Root
    old Log0 = (each Log0).1
    old Log1 = each Log1
    old Snap0 = each Snap0
    old Snap1 = each Snap1
may_leave first image (wrote Log1 place new done after ∷ before) each = (with_bytes image Log1 (each Log1).0, may_leave first (with_bytes image Log1 (each Log1).0) before old, refl, (each Log1).2)
  where
    old : LeaveEach first before (with_bytes image Log1 (each Log1).0)
    old Root = each Root
    old Log0 = each Log0
    old Log1 = (each Log1).1
    old Snap0 = each Snap0
    old Snap1 = each Snap1
may_leave first image (cut_to Log1 to done after ∷ before) each = (with_bytes image Log1 (each Log1).0, may_leave first (with_bytes image Log1 (each Log1).0) before old, refl, (each Log1).2)
  where
    old : LeaveEach first before (with_bytes image Log1 (each Log1).0)
    old Root = each Root
    old Log0 = each Log0
    old Log1 = (each Log1).1
    old Snap0 = each Snap0
    old Snap1 = each Snap1
may_leave first image (synced Log1 true after ∷ before) each = (with_bytes image Log1 (each Log1).0, may_leave first (with_bytes image Log1 (each Log1).0) before old, ap (λ (bytes : List ℕ). with_bytes image Log1 bytes) (each Log1).2)
  where
    old : LeaveEach first before (with_bytes image Log1 (each Log1).0)
    old Root = each Root
    old Log0 = each Log0
    old Log1 = (each Log1).1
    old Snap0 = each Snap0
    old Snap1 = each Snap1
may_leave first image (wrote Snap0 place new done after ∷ before) each = (with_bytes image Snap0 (each Snap0).0, may_leave first (with_bytes image Snap0 (each Snap0).0) before old, refl, (each Snap0).2)
  where
    old : LeaveEach first before (with_bytes image Snap0 (each Snap0).0)
    old Root = each Root
    old Log0 = each Log0
    old Log1 = each Log1
    old Snap0 = (each Snap0).1
    old Snap1 = each Snap1
may_leave first image (cut_to Snap0 to done after ∷ before) each = (with_bytes image Snap0 (each Snap0).0, may_leave first (with_bytes image Snap0 (each Snap0).0) before old, refl, (each Snap0).2)
  where
    old : LeaveEach first before (with_bytes image Snap0 (each Snap0).0)
    old Root = each Root
    old Log0 = each Log0
    old Log1 = each Log1
    old Snap0 = (each Snap0).1
    old Snap1 = each Snap1
may_leave first image (synced Snap0 true after ∷ before) each = (with_bytes image Snap0 (each Snap0).0, may_leave first (with_bytes image Snap0 (each Snap0).0) before old, ap (λ (bytes : List ℕ). with_bytes image Snap0 bytes) (each Snap0).2)
  where
    old : LeaveEach first before (with_bytes image Snap0 (each Snap0).0)
    old Root = each Root
    old Log0 = each Log0
    old Log1 = each Log1
    old Snap0 = (each Snap0).1
    old Snap1 = each Snap1
may_leave first image (wrote Snap1 place new done after ∷ before) each = (with_bytes image Snap1 (each Snap1).0, may_leave first (with_bytes image Snap1 (each Snap1).0) before old, refl, (each Snap1).2)
  where
    old : LeaveEach first before (with_bytes image Snap1 (each Snap1).0)
    old Root = each Root
    old Log0 = each Log0
    old Log1 = each Log1
    old Snap0 = each Snap0
    old Snap1 = (each Snap1).1
may_leave first image (cut_to Snap1 to done after ∷ before) each = (with_bytes image Snap1 (each Snap1).0, may_leave first (with_bytes image Snap1 (each Snap1).0) before old, refl, (each Snap1).2)
  where
    old : LeaveEach first before (with_bytes image Snap1 (each Snap1).0)
    old Root = each Root
    old Log0 = each Log0
    old Log1 = each Log1
    old Snap0 = each Snap0
    old Snap1 = (each Snap1).1
may_leave first image (synced Snap1 true after ∷ before) each = (with_bytes image Snap1 (each Snap1).0, may_leave first (with_bytes image Snap1 (each Snap1).0) before old, ap (λ (bytes : List ℕ). with_bytes image Snap1 bytes) (each Snap1).2)
  where
    old : LeaveEach first before (with_bytes image Snap1 (each Snap1).0)
    old Root = each Root
    old Log0 = each Log0
    old Log1 = each Log1
    old Snap0 = each Snap0
    old Snap1 = (each Snap1).1

torn_same : (place count : ℕ) (old : List ℕ) → IsTorn place count old old
torn_same place count old = record { before = refl; behind = refl; longer = omega arith }

cut_same : (to : ℕ) (old : List ℕ) → IsCutInPart to old old
cut_same to old = record { before = refl; least = omega arith; most = omega arith }

-- a call that was lost
lost_write : (b : Bool) (place count : ℕ) (P : List ℕ → Type 0) (bytes : List ℕ) → P bytes → AfterWrite b place count P bytes
lost_write true place count P bytes there = (bytes, there, torn_same place count bytes)
lost_write false place count P bytes there = there

lost_cut : (b : Bool) (to : ℕ) (P : List ℕ → Type 0) (bytes : List ℕ) → P bytes → AfterCut b to P bytes
lost_cut true to P bytes there = (bytes, there, cut_same to bytes)
lost_cut false to P bytes there = there

-- a file before its first change
abbrev pub start : Unsynced → ℕ → Crash
start u pick = record { file = u.settled; pick = pick }

-- whatever the pick, a crash leaves what it may leave: without the last cut, and with it
pub record IsSafe (P : List ℕ → Type 0) (u : Unsynced) : Type 0 where
  pub short : (pick : ℕ) → P (crashed (start u pick) u.changes).file
  pub long : (pick : ℕ) → P (crashed (start u pick) (all_of u)).file

lost_all_writes : (b : Bool) (place count : ℕ) (P : List ℕ → Type 0) (u : Unsynced) → IsSafe P u → IsSafe (AfterWrite b place count P) u
lost_all_writes b place count P u safe =
    record {
      short = λ pick. lost_write b place count P (crashed (start u pick) u.changes).file (safe.short pick);
      long = λ pick. lost_write b place count P (crashed (start u pick) (all_of u)).file (safe.long pick);
    }

lost_all_cuts : (b : Bool) (to : ℕ) (P : List ℕ → Type 0) (u : Unsynced) → IsSafe P u → IsSafe (AfterCut b to P) u
lost_all_cuts b to P u safe =
    record {
      short = λ pick. lost_cut b to P (crashed (start u pick) u.changes).file (safe.short pick);
      long = λ pick. lost_cut b to P (crashed (start u pick) (all_of u)).file (safe.long pick);
    }

-- one more write, cut or sync that succeeded
after_write : (b : Bool) (place : ℕ) (new : List ℕ) (P : List ℕ → Type 0) (u : Unsynced) → IsSafe P u → IsSafe (AfterWrite b place (length new) P) (cond b (with_write u place new) u)
after_write false place new P u safe = record { short = safe.short; long = safe.long }
after_write true place new P u safe = record { short = short; long = long }
  where
    short : (pick : ℕ) → AfterWrite true place (length new) P (crashed (start u pick) (all_of u ++ write place new ∷ [])).file
    short pick =
        let old = crashed (start u pick) (all_of u) in
        subst (λ (c : Crash). AfterWrite true place (length new) P c.file) (sym (crashed_on (start u pick) (all_of u) (write place new ∷ [])))
        (old.file, safe.long pick, torn_write (tear_of old.pick) place new old.file)

    long : (pick : ℕ) → AfterWrite true place (length new) P (crashed (start u pick) ((all_of u ++ write place new ∷ []) ++ [])).file
    long pick =
        subst (λ (l : List Change). AfterWrite true place (length new) P (crashed (start u pick) l).file) (sym (append-nil (all_of u ++ write place new ∷ []))) (short pick)

after_cut : (b : Bool) (to : ℕ) (P : List ℕ → Type 0) (u : Unsynced) → IsSafe P u → IsSafe (AfterCut b to P) (cond b (with_cut u to) u)
after_cut false to P u safe = record { short = safe.short; long = safe.long }
after_cut true to P u safe = record { short = short; long = long }
  where
    short : (pick : ℕ) → AfterCut true to P (crashed (start u pick) u.changes).file
    short pick = lost_cut true to P (crashed (start u pick) u.changes).file (safe.short pick)

    long : (pick : ℕ) → AfterCut true to P (crashed (start u pick) (u.changes ++ cut to ∷ [])).file
    long pick =
        let old = crashed (start u pick) u.changes in
        subst (λ (c : Crash). AfterCut true to P c.file) (sym (crashed_on (start u pick) u.changes (cut to ∷ [])))
        (old.file, safe.short pick, torn_cut (tear_of old.pick) to old.file)

after_sync : (b : Bool) (after : List ℕ) (P : List ℕ → Type 0) (u : Unsynced) → IsSafe P u → IsSafe (AfterSync b after P) (cond b (settled_at after) u)
after_sync false after P u safe = record { short = safe.short; long = safe.long }
after_sync true after P u safe = record { short = λ pick. (old, safe.short 0, refl); long = λ pick. (old, safe.short 0, refl) }
  where
    old : List ℕ
    old = (crashed (start u 0) u.changes).file

module _ (file : File) (first : Files) where
  pub is_safe : (happened : List Happening) → IsSafe (Leaves file (bytes_of first file) happened) (unsynced_of file first happened)
  is_safe [] = record { short = λ pick. refl; long = λ pick. refl }
  is_safe (attached name folder done ∷ before) = let safe = is_safe before in record { short = safe.short; long = safe.long }
  is_safe (wrote other place new true after ∷ before) = after_write (same_file file other) place new (Leaves file (bytes_of first file) before) (unsynced_of file first before) (is_safe before)
  is_safe (wrote other place new false after ∷ before) = lost_all_writes (same_file file other) place (length new) (Leaves file (bytes_of first file) before) (unsynced_of file first before) (is_safe before)
  is_safe (cut_to other to true after ∷ before) = after_cut (same_file file other) to (Leaves file (bytes_of first file) before) (unsynced_of file first before) (is_safe before)
  is_safe (cut_to other to false after ∷ before) = lost_all_cuts (same_file file other) to (Leaves file (bytes_of first file) before) (unsynced_of file first before) (is_safe before)
  is_safe (synced other true after ∷ before) = after_sync (same_file file other) after (Leaves file (bytes_of first file) before) (unsynced_of file first before) (is_safe before)
  is_safe (synced other false after ∷ before) = let safe = is_safe before in record { short = safe.short; long = safe.long }
  is_safe (listed address folder listing ∷ before) = let safe = is_safe before in record { short = safe.short; long = safe.long }
  is_safe (fetched address name limit found ∷ before) = let safe = is_safe before in record { short = safe.short; long = safe.long }
  is_safe (sent address name new done ∷ before) = let safe = is_safe before in record { short = safe.short; long = safe.long }
  is_safe (removed address name done ∷ before) = let safe = is_safe before in record { short = safe.short; long = safe.long }
  is_safe (handed_over folders noted ∷ before) = let safe = is_safe before in record { short = safe.short; long = safe.long }

-- each file by some pick is an image
pub picked : (first image : Files) (happened : List Happening) → ((file : File) → (pick : ℕ) × (bytes_of image file ≡ (crash_of pick (unsynced_of file first happened)).file)) → MayLeave first happened image
picked first image happened each =
    may_leave first image happened (λ file. subst (λ (bytes : List ℕ). Leaves file (bytes_of first file) happened bytes) (sym (each file).1) ((is_safe file first happened).long (each file).0))
