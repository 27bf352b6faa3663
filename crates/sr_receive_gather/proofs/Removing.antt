-- Dead files that are removed, one after the other.
use Rattle.std.proofs.Common.{◌≡◌, ℕ, ◌+◌, Bool, true, false, cond, List, [], ◌∷◌, ◌++◌, length, inl, inr, refl, sym, ap, subst, ◌∙◌, append_assoc, arith, le_refl}
use Rattle.std.proofs.lemmas.List.{append-nil, length-append}
use Rattle.std.proofs.lemmas.List.Elements.{filter-append}
use Rattle.std.specs.Prelude.{IsTrue}
use Rattle.sr_book.specs.declared.book.Book.{Book}
use Rattle.sr_site.specs.Causes.{MailStays, Rose}
use Rattle.sr_site.specs.Inner.Growing.{mail_stays_on}
use Rattle.sr_site.specs.Happenings.{Happening, removed}
use Rattle.sr_site.specs.Seen.{Seen}
use Rattle.sr_receive_gather.specs.Purges.{PurgeCause, PurgedInPart, Removes, dead, is_dead, removals}
use Rattle.sr_receive_gather.specs.Inner.Purges.{HasPurged, RemovesNext}
use Rattle.sr_receive_gather.specs.declared.bag.Filed.{Filed}
use Rattle.sr_receive_gather.specs.declared.fault.ReceiveFault.{ReceiveFault}
use Rattle.sr_receive_gather.specs.declared.fault.ReceiveFault.TheVariants.{Disk, Mail, Full, Long, Memory}

pub still : (seen : Seen) → MailStays seen seen
still seen = record { observable = refl; first = refl; files = refl; grows = λ moment there. there; disk_faults = refl; later = le_refl seen.mail_faults }

-- ---- one file

one_dead : (book : Book) (f : Filed) → is_dead book f ≡ true → dead book (f ∷ []) ≡ f ∷ []
one_dead book f is = ap (λ (b : Bool). cond b (f ∷ []) []) is

none_dead : (book : Book) (f : Filed) → is_dead book f ≡ false → dead book (f ∷ []) ≡ []
none_dead book f is = ap (λ (b : Bool). cond b (f ∷ []) []) is

pub passed_over : (address : List ℕ) (book : Book) (f : Filed) (seen : Seen) (count : ℕ) → is_dead book f ≡ false → RemovesNext address book f seen seen count count
passed_over address book f seen count is = record {
  removed_is = λ told. ap (λ (l : List Filed). removals address l seen.happened) (sym (none_dead book f is));
  count_is = (let none : length (dead book (f ∷ [])) ≡ 0 = ap length (none_dead book f is) in omega arith);
  stays = still seen;
  steady = refl;
}

pub removed_one : (address : List ℕ) (book : Book) (f : Filed) (before now : Seen) (count next : ℕ) → is_dead book f ≡ true → next ≡ count + 1
    → (IsTrue before.observable → now.happened ≡ removed address f.name true ∷ before.happened) → MailStays before now → now.mail_faults ≡ before.mail_faults
    → RemovesNext address book f before now count next
removed_one address book f before now count next is counted happened stays steady = record {
  removed_is = λ told. happened told ∙ ap (λ (l : List Filed). removals address l before.happened) (sym (one_dead book f is));
  count_is = (let one : length (dead book (f ∷ [])) ≡ 1 = ap length (one_dead book f is) in omega arith);
  stays = stays;
  steady = steady;
}

-- ---- what a fault leaves

no_more : (address : List ℕ) (left : List Filed) (before : List Happening) → Removes address [] left before before
no_more address [] before = refl
no_more address (f ∷ left) before = inl refl

-- nothing was done
pub nothing_purged : (address : List ℕ) (book : Book) (files : List Filed) (seen : Seen) → PurgedInPart address book files seen seen
nothing_purged address book files seen = record {
  done = [];
  left = dead book files;
  parts = refl;
  happened = λ told. no_more address (dead book files) seen.happened;
  stays = still seen;
}

-- a removal failed
pub one_failed : (address : List ℕ) (book : Book) (f : Filed) (before now : Seen) → is_dead book f ≡ true
    → (IsTrue before.observable → now.happened ≡ removed address f.name false ∷ before.happened) → MailStays before now → PurgedInPart address book (f ∷ []) before now
one_failed address book f before now is happened stays = record {
  done = [];
  left = f ∷ [];
  parts = one_dead book f is;
  happened = λ told. inr (happened told);
  stays = stays;
}

-- ---- one after the other

removals_append : (address : List ℕ) (xs ys : List Filed) (before : List Happening) → removals address (xs ++ ys) before ≡ removals address ys (removals address xs before)
removals_append address [] ys before = refl
removals_append address (x ∷ xs) ys before = removals_append address xs ys (removed address x.name true ∷ before)

-- the files before those that are left were looked at
pub record PurgingSoFar (address : List ℕ) (book : Book) (files left : List Filed) (before now : Seen) (count : ℕ) : Type 0 where
  pub passed : List Filed
  pub parts : files ≡ passed ++ left
  pub has : HasPurged address book passed before now count

pub purging_start : (address : List ℕ) (book : Book) (files : List Filed) (seen : Seen) → PurgingSoFar address book files files seen seen 0
purging_start address book files seen = record {
  passed = [];
  parts = refl;
  has = record { removed_are = λ told. refl; count_is = refl; stays = still seen; steady = refl };
}

told_then : (before now : Seen) → MailStays before now → IsTrue before.observable → IsTrue now.observable
told_then before now stays told = stays.observable ∙ told

pub purging_on : (address : List ℕ) (book : Book) (files left rest : List Filed) (f : Filed) (before mid now : Seen) (count next : ℕ) → PurgingSoFar address book files left before mid count
    → left ≡ f ∷ rest → RemovesNext address book f mid now count next → PurgingSoFar address book files rest before now next
purging_on address book files left rest f before mid now count next so split one =
    let both : dead book (so.passed ++ f ∷ []) ≡ dead book so.passed ++ dead book (f ∷ []) = filter-append (is_dead book) so.passed (f ∷ []) in
    record {
      passed = so.passed ++ f ∷ [];
      parts = so.parts ∙ ap (λ (l : List Filed). so.passed ++ l) split ∙ sym (append_assoc so.passed (f ∷ []) rest);
      has = record {
        removed_are = λ told.
            one.removed_is (told_then before mid so.has.stays told)
            ∙ ap (removals address (dead book (f ∷ []))) (so.has.removed_are told)
            ∙ sym (removals_append address (dead book so.passed) (dead book (f ∷ [])) before.happened)
            ∙ ap (λ (l : List Filed). removals address l before.happened) (sym both);
        count_is = (let all : length (dead book (so.passed ++ f ∷ [])) ≡ length (dead book so.passed) + length (dead book (f ∷ [])) =
            ap length both ∙ length-append (dead book so.passed) (dead book (f ∷ [])) in
            let had = so.has.count_is in
            let more = one.count_is in
            omega arith);
        stays = mail_stays_on before mid now so.has.stays one.stays;
        steady = one.steady ∙ so.has.steady;
      };
    }

pub purging_end : (address : List ℕ) (book : Book) (files left : List Filed) (before now : Seen) (count : ℕ) → PurgingSoFar address book files left before now count → left ≡ []
    → HasPurged address book files before now count
purging_end address book files left before now count so none =
    let all : so.passed ≡ files = sym (append-nil so.passed) ∙ ap (λ (l : List Filed). so.passed ++ l) (sym none) ∙ sym so.parts in
    subst (λ (l : List Filed). HasPurged address book l before now count) all so.has

-- the next was not removed
fails_behind : (address : List ℕ) (done left more : List Filed) (before now : List Happening) → Removes address done left before now → Removes address done (left ++ more) before now
fails_behind address done [] [] before now h = h
fails_behind address done [] (g ∷ more) before now h = inl h
fails_behind address done (f ∷ left) more before now h = h

fails_after : (address : List ℕ) (first done left : List Filed) (before mid now : List Happening) → mid ≡ removals address first before → Removes address done left mid now
    → Removes address (first ++ done) left before now
fails_after address first done [] before mid now is h = h ∙ ap (removals address done) is ∙ sym (removals_append address first done before)
fails_after address first done (f ∷ left) before mid now is (inl h) = inl (h ∙ ap (removals address done) is ∙ sym (removals_append address first done before))
fails_after address first done (f ∷ left) before mid now is (inr h) =
    inr (h ∙ ap (λ (l : List Happening). removed address f.name false ∷ l) (ap (removals address done) is ∙ sym (removals_append address first done before)))

part_behind : (address : List ℕ) (book : Book) (files left rest : List Filed) (f : Filed) (before mid now : Seen) (count : ℕ) → PurgingSoFar address book files left before mid count
    → left ≡ f ∷ rest → PurgedInPart address book (f ∷ []) mid now → PurgedInPart address book files before now
part_behind address book files left rest f before mid now count so split part =
    let all : files ≡ so.passed ++ (f ∷ [] ++ rest) = so.parts ∙ ap (λ (l : List Filed). so.passed ++ l) split in
    let parts : dead book files ≡ dead book so.passed ++ (dead book (f ∷ []) ++ dead book rest) =
    ap (dead book) all ∙ filter-append (is_dead book) so.passed (f ∷ [] ++ rest) ∙ ap (λ (l : List Filed). dead book so.passed ++ l) (filter-append (is_dead book) (f ∷ []) rest) in
    record {
      done = dead book so.passed ++ part.done;
      left = part.left ++ dead book rest;
      parts = parts ∙ ap (λ (l : List Filed). dead book so.passed ++ (l ++ dead book rest)) part.parts
          ∙ ap (λ (l : List Filed). dead book so.passed ++ l) (append_assoc part.done part.left (dead book rest))
          ∙ sym (append_assoc (dead book so.passed) part.done (part.left ++ dead book rest));
      happened = λ told.
          fails_behind address (dead book so.passed ++ part.done) part.left (dead book rest) before.happened now.happened
          (fails_after address (dead book so.passed) part.done part.left before.happened mid.happened now.happened (so.has.removed_are told)
          (part.happened (told_then before mid so.has.stays told)));
      stays = mail_stays_on before mid now so.has.stays part.stays;
    }

pub purging_stops : (address : List ℕ) (book : Book) (files left rest : List Filed) (f : Filed) (before mid now : Seen) (count : ℕ) (fault : ReceiveFault)
    → PurgingSoFar address book files left before mid count → left ≡ f ∷ rest → PurgeCause address book (f ∷ []) mid now fault → PurgeCause address book files before now fault
purging_stops address book files left rest f before mid now count Disk so split why = why
purging_stops address book files left rest f before mid now count Mail so split why =
    (subst (λ (n : ℕ). Rose n now.mail_faults) so.has.steady why.0, part_behind address book files left rest f before mid now count so split why.1)
purging_stops address book files left rest f before mid now count (Full end need) so split why = why
purging_stops address book files left rest f before mid now count (Long size limit) so split why = why
purging_stops address book files left rest f before mid now count Memory so split why =
    (why.0 ∙ so.has.steady, part_behind address book files left rest f before mid now count so split why.1)
