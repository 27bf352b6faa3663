-- How the calls of a disk keep its files backed by what happened.
use Rattle.std.proofs.Common.{◌≡◌, ◌+◌, ◌≤◌, ℕ, Bool, true, false, cond, List, [], ◌∷◌, ◌++◌, length, take, drop, Option, None, Some, refl, sym, ◌∙◌, ap, subst, inl, inr, ◌⊎◌, nat_lt, arith, length-take, take-append-drop}
use Rattle.std.proofs.lemmas.List.{append-nil, take_all}
use Rattle.sr_site.specs.Files.{Files, bytes_of, with_bytes, overwritten}
use Rattle.sr_site.specs.Happenings.{Happening, attached, wrote, cut_to, synced, listed, fetched, sent, removed}
use Rattle.sr_site.specs.Images.{MayLeave}
use Rattle.sr_site.specs.declared.file.File.{File}
use Rattle.sr_site.specs.declared.file.File.TheVariants.{Root, Log0, Log1, Snap0, Snap1}
use Rattle.sr_memsite_disk.specs.Changes.{same_file, Change, write, cut, cuts, Unsynced, settled_at, all_of, with_write, with_cut, unsynced_of}
use Rattle.sr_memsite_disk.specs.Picks.{Crash, crashed, next, crash_of}
use Rattle.sr_memsite_disk.specs.Inner.Picks.{pick_of, outcome}
use Rattle.sr_memsite_disk.specs.Store.{Store}
use Rattle.sr_memsite_disk.specs.Inner.Store.{after_write, after_cut, settled_on}
use Rattle.sr_memsite_disk.specs.Stores.{Stores}
use Rattle.sr_memsite_disk.specs.Inner.Stores.{store_of, with_store, files_of, stores_of, unsynced, outcomes, IsBacked, AreBacked}
use Rattle.sr_memsite_disk.specs.declared.tear.Tear.TheVariants.{Whole}
use Rattle.sr_memsite_disk.proofs.Leaving.{picked, start}
use Rattle.sr_memsite_disk.proofs.Tearing.{crashed_on, write_there}
use Rattle.sr_memsite_disk.proofs.Undone.{taken_twice}

-- what holds of one file and of the others holds of each
each_file : (stores : Stores) (other : File) (store : Store) (P : Bool → File → Store → Type 0) → P true other store → ((file : File) → P false file (store_of stores file)) → (file : File) → P (same_file file other) file (store_of (with_store stores other store) file)
each_file stores Root store P here there Root = here
each_file stores Root store P here there Log0 = there Log0
each_file stores Root store P here there Log1 = there Log1
each_file stores Root store P here there Snap0 = there Snap0
each_file stores Root store P here there Snap1 = there Snap1
each_file stores Log0 store P here there Root = there Root
each_file stores Log0 store P here there Log0 = here
each_file stores Log0 store P here there Log1 = there Log1
each_file stores Log0 store P here there Snap0 = there Snap0
each_file stores Log0 store P here there Snap1 = there Snap1
each_file stores Log1 store P here there Root = there Root
each_file stores Log1 store P here there Log0 = there Log0
each_file stores Log1 store P here there Log1 = here
each_file stores Log1 store P here there Snap0 = there Snap0
each_file stores Log1 store P here there Snap1 = there Snap1
each_file stores Snap0 store P here there Root = there Root
each_file stores Snap0 store P here there Log0 = there Log0
each_file stores Snap0 store P here there Log1 = there Log1
each_file stores Snap0 store P here there Snap0 = here
each_file stores Snap0 store P here there Snap1 = there Snap1
each_file stores Snap1 store P here there Root = there Root
each_file stores Snap1 store P here there Log0 = there Log0
each_file stores Snap1 store P here there Log1 = there Log1
each_file stores Snap1 store P here there Snap0 = there Snap0
each_file stores Snap1 store P here there Snap1 = here

-- at 1 it stays
picks_stay : (crash : Crash) (changes : List Change) → crash.pick ≡ 1 → (crashed crash changes).pick ≡ 1
picks_stay crash [] is = is
picks_stay crash (change ∷ changes) is = picks_stay (next crash change) changes (ap (λ (pick : ℕ). (next (record { file = crash.file; pick = pick }) change).pick) is)

-- all of a write is there
whole_next : (crash : Crash) (place : ℕ) (bytes now : List ℕ) → crash.pick ≡ 1 → crash.file ≡ now → place ≤ length now → (next crash (write place bytes)).file ≡ overwritten now place bytes
whole_next crash place bytes now is same within =
    ap (λ (pick : ℕ). (next (record { file = crash.file; pick = pick }) (write place bytes)).file) is
    ∙ ap (λ (file : List ℕ). (next (record { file = file; pick = 1 }) (write place bytes)).file) same
    ∙ write_there Whole place bytes now within

whole_cut : (crash : Crash) (to : ℕ) → crash.pick ≡ 1 → (next crash (cut to)).file ≡ take to crash.file
whole_cut crash to is = ap (λ (pick : ℕ). (next (record { file = crash.file; pick = pick }) (cut to)).file) is ∙ append-nil (take to crash.file)

pub whole_after_write : (u : Unsynced) (place : ℕ) (bytes now : List ℕ) → (crash_of 1 u).file ≡ now → place ≤ length now → (crash_of 1 (with_write u place bytes)).file ≡ overwritten now place bytes
whole_after_write u place bytes now same within =
    ap (λ (l : List Change). (crashed (start u 1) l).file) (append-nil (all_of u ++ write place bytes ∷ []))
    ∙ ap (λ (c : Crash). c.file) (crashed_on (start u 1) (all_of u) (write place bytes ∷ []))
    ∙ whole_next (crashed (start u 1) (all_of u)) place bytes now (picks_stay (start u 1) (all_of u) refl) same within

pub whole_after_cut : (u : Unsynced) (to : ℕ) (now : List ℕ) → (crash_of 1 u).file ≡ now → to ≤ length now → (crash_of 1 (with_cut u to)).file ≡ take to now
whole_after_cut u to now same within =
    let prefix = crashed (start u 1) u.changes in
    let at_one = picks_stay (start u 1) u.changes refl in
    ap (λ (c : Crash). c.file) (crashed_on (start u 1) u.changes (cut to ∷ [])) ∙ whole_cut prefix to at_one ∙ twice u.last_cut (sym (ap (λ (c : Crash). c.file) (crashed_on (start u 1) u.changes (cuts u.last_cut))) ∙ same)
  where
    twice : (last : Option ℕ) → (crashed (crashed (start u 1) u.changes) (cuts last)).file ≡ now → take to (crashed (start u 1) u.changes).file ≡ take to now
    twice None is = ap (take to) is
    twice (Some n) is =
        let prefix = crashed (start u 1) u.changes in
        let cut_is : take n prefix.file ≡ now = sym (whole_cut prefix n (picks_stay (start u 1) u.changes refl)) ∙ is in
        taken_twice to n prefix.file (subst (λ (l : List ℕ). to ≤ length l) (sym cut_is) within) ∙ ap (take to) cut_is

module _ (first : Files) (before : List Happening) (stores : Stores) (backed : AreBacked stores first before) where
  pub write_failed : (other : File) (place : ℕ) (new after : List ℕ) → AreBacked stores first (wrote other place new false after ∷ before)
  write_failed other place new after file = record { same = (backed file).same; whole = (backed file).whole }

  pub cut_failed : (other : File) (to : ℕ) (after : List ℕ) → AreBacked stores first (cut_to other to false after ∷ before)
  cut_failed other to after file = record { same = (backed file).same; whole = (backed file).whole }

  pub sync_failed : (other : File) (after : List ℕ) → AreBacked stores first (synced other false after ∷ before)
  sync_failed other after file = record { same = (backed file).same; whole = (backed file).whole }

  pub write_done : (other : File) (place : ℕ) (new after : List ℕ) → place ≤ length (store_of stores other).bytes → AreBacked (with_store stores other (after_write (store_of stores other) place new)) first (wrote other place new true after ∷ before)
  write_done other place new after within =
      let store = store_of stores other in
      each_file stores other (after_write store place new) (λ b file store. IsBacked (cond b (with_write (unsynced_of file first before) place new) (unsynced_of file first before)) store)
      (record { same = ap (λ (u : Unsynced). with_write u place new) (backed other).same; whole = whole_after_write store.unsynced place new store.bytes (backed other).whole within })
      (λ file. record { same = (backed file).same; whole = (backed file).whole })

  pub cut_done : (other : File) (to : ℕ) (after : List ℕ) → to ≤ length (store_of stores other).bytes → AreBacked (with_store stores other (after_cut (store_of stores other) to)) first (cut_to other to true after ∷ before)
  cut_done other to after within =
      let store = store_of stores other in
      each_file stores other (after_cut store to) (λ b file store. IsBacked (cond b (with_cut (unsynced_of file first before) to) (unsynced_of file first before)) store)
      (record { same = ap (λ (u : Unsynced). with_cut u to) (backed other).same; whole = whole_after_cut store.unsynced to store.bytes (backed other).whole within })
      (λ file. record { same = (backed file).same; whole = (backed file).whole })

  pub sync_done : (other : File) (bytes : List ℕ) → AreBacked (with_store stores other (settled_on bytes)) first (synced other true bytes ∷ before)
  sync_done other bytes =
      each_file stores other (settled_on bytes) (λ b file store. IsBacked (cond b (settled_at bytes) (unsynced_of file first before)) store)
      (record { same = refl; whole = refl })
      (λ file. record { same = (backed file).same; whole = (backed file).whole })

-- files with which all begins anew
pub begins : (files : Files) → AreBacked (stores_of files) files []
begins files Root = record { same = refl; whole = refl }
begins files Log0 = record { same = refl; whole = refl }
begins files Log1 = record { same = refl; whole = refl }
begins files Snap0 = record { same = refl; whole = refl }
begins files Snap1 = record { same = refl; whole = refl }

pub bytes_in : (stores : Stores) (file : File) → bytes_of (files_of stores) file ≡ (store_of stores file).bytes
bytes_in stores Root = refl
bytes_in stores Log0 = refl
bytes_in stores Log1 = refl
bytes_in stores Snap0 = refl
bytes_in stores Snap1 = refl

outcome_in : (pick : ℕ) (stores : Stores) (file : File) → bytes_of (outcomes pick stores) file ≡ outcome pick (unsynced stores) file
outcome_in pick stores Root = refl
outcome_in pick stores Log0 = refl
outcome_in pick stores Log1 = refl
outcome_in pick stores Snap0 = refl
outcome_in pick stores Snap1 = refl

-- the picks at which nothing is there
abbrev IsLost : ℕ → Type 0
IsLost pick = (pick ≡ 0) ⊎ (pick ≡ 2)

lost_write : (place : ℕ) (file : List ℕ) → cond (nat_lt (length file) place) file (overwritten file place []) ≡ file
lost_write place file = elim (nat_lt (length file) place) as (λ b. cond b file (overwritten file place []) ≡ file) [ true ↦ refl | false ↦ whole ]
  where
    whole : overwritten file place [] ≡ file
    whole =
        let same : place + 0 ≡ place = omega arith in
        ap (λ (l : List ℕ). l ++ drop (place + 0) file) (append-nil (take place file)) ∙ ap (λ (n : ℕ). take place file ++ drop n file) same ∙ take-append-drop place file

lost_next : (crash : Crash) (change : Change) → IsLost crash.pick → ((next crash change).file ≡ crash.file) × IsLost (next crash change).pick
lost_next crash change lost = elim lost [
  | inl is ↦ (ap (λ (pick : ℕ). (next (record { file = crash.file; pick = pick }) change).file) is ∙ at_zero change crash.file, inr (ap (λ (pick : ℕ). (next (record { file = crash.file; pick = pick }) change).pick) is))
  | inr is ↦ (ap (λ (pick : ℕ). (next (record { file = crash.file; pick = pick }) change).file) is ∙ at_two change crash.file, inr (ap (λ (pick : ℕ). (next (record { file = crash.file; pick = pick }) change).pick) is))
]
  where
    at_zero : (change : Change) (file : List ℕ) → (next (record { file = file; pick = 0 }) change).file ≡ file
    at_zero (write place bytes) file = lost_write place file
    at_zero (cut to) file = take-append-drop to file

    at_two : (change : Change) (file : List ℕ) → (next (record { file = file; pick = 2 }) change).file ≡ file
    at_two (write place bytes) file = lost_write place file
    at_two (cut to) file = take-append-drop to file

lost_all : (crash : Crash) (changes : List Change) → IsLost crash.pick → ((crashed crash changes).file ≡ crash.file) × IsLost (crashed crash changes).pick
lost_all crash [] lost = (refl, lost)
lost_all crash (change ∷ changes) lost =
    let here = lost_next crash change lost in
    let rest = lost_all (next crash change) changes here.1 in
    (rest.0 ∙ here.0, rest.1)

module _ (each : File → Unsynced) where
  lost_log0 : IsLost (pick_of 0 each Log0)
  lost_log0 = (lost_all (start (each Root) 0) (all_of (each Root)) (inl refl)).1

  lost_log1 : IsLost (pick_of 0 each Log1)
  lost_log1 = (lost_all (start (each Log0) (pick_of 0 each Log0)) (all_of (each Log0)) lost_log0).1

  lost_snap0 : IsLost (pick_of 0 each Snap0)
  lost_snap0 = (lost_all (start (each Log1) (pick_of 0 each Log1)) (all_of (each Log1)) lost_log1).1

  lost_pick : (file : File) → IsLost (pick_of 0 each file)
  lost_pick Root = inl refl
  lost_pick Log0 = lost_log0
  lost_pick Log1 = lost_log1
  lost_pick Snap0 = lost_snap0
  lost_pick Snap1 = (lost_all (start (each Snap0) (pick_of 0 each Snap0)) (all_of (each Snap0)) lost_snap0).1

  whole_log0 : pick_of 1 each Log0 ≡ 1
  whole_log0 = picks_stay (start (each Root) 1) (all_of (each Root)) refl

  whole_log1 : pick_of 1 each Log1 ≡ 1
  whole_log1 = picks_stay (start (each Log0) (pick_of 1 each Log0)) (all_of (each Log0)) whole_log0

  whole_snap0 : pick_of 1 each Snap0 ≡ 1
  whole_snap0 = picks_stay (start (each Log1) (pick_of 1 each Log1)) (all_of (each Log1)) whole_log1

  whole_pick : (file : File) → pick_of 1 each file ≡ 1
  whole_pick Root = refl
  whole_pick Log0 = whole_log0
  whole_pick Log1 = whole_log1
  whole_pick Snap0 = whole_snap0
  whole_pick Snap1 = picks_stay (start (each Snap0) (pick_of 1 each Snap0)) (all_of (each Snap0)) whole_snap0

module _ (stores : Stores) (first : Files) (happened : List Happening) (backed : AreBacked stores first happened) where
  -- the files as a read gives them
  pub reads : MayLeave first happened (files_of stores)
  reads = picked first (files_of stores) happened (λ file. (1, bytes_in stores file ∙ sym (backed file).whole ∙ ap (λ (u : Unsynced). (crash_of 1 u).file) (backed file).same))

  each : (λ (file : File). unsynced_of file first happened) ≡ unsynced stores
  each = λ k file. sym (backed file).same k

  -- a crash by the pick
  pub chosen : (pick : ℕ) (file : File) → bytes_of (outcomes pick stores) file ≡ outcome pick (λ file. unsynced_of file first happened) file
  chosen pick file = outcome_in pick stores file ∙ ap (λ (u : File → Unsynced). outcome pick u file) (sym each)

  pub is_image : (pick : ℕ) → MayLeave first happened (outcomes pick stores)
  is_image pick = picked first (outcomes pick stores) happened (λ file. (pick_of pick (λ file. unsynced_of file first happened) file, chosen pick file))

  pub lost : (pick : ℕ) → pick ≡ 0 → (file : File) → bytes_of (outcomes pick stores) file ≡ (unsynced_of file first happened).settled
  lost pick is file =
      let each = λ (file : File). unsynced_of file first happened in
      chosen pick file ∙ ap (λ (n : ℕ). outcome n each file) is ∙ (lost_all (start (each file) (pick_of 0 each file)) (all_of (each file)) (lost_pick each file)).0

  pub whole : (pick : ℕ) → pick ≡ 1 → outcomes pick stores ≡ files_of stores
  whole pick is = ap (λ (n : ℕ). outcomes n stores) is ∙ (λ k. record { root = there Root k; log0 = there Log0 k; log1 = there Log1 k; snap0 = there Snap0 k; snap1 = there Snap1 k })
    where
      there : (file : File) → outcome 1 (unsynced stores) file ≡ (store_of stores file).bytes
      there file = ap (λ (n : ℕ). (crash_of n (unsynced stores file)).file) (whole_pick (unsynced stores) file) ∙ (backed file).whole
