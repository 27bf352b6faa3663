-- Entries besides those that are taken.
use Rattle.std.proofs.Common.{◌≡◌, true, List, [], ◌∷◌, ◌++◌, Result, Ok, Err, refl, sym, ap, subst, ◌∙◌, append_assoc}
use Rattle.std.specs.Prelude.{IfErr, IsSome, map}
use Rattle.std.proofs.lemmas.List.{append-nil, map-append}
use Rattle.sr_book.specs.Entries.{Name}
use Rattle.sr_book.specs.declared.note.Note.{Note}
use Rattle.sr_catalog_schema.specs.Members.{user_name}
use Rattle.sr_catalog_schema.specs.Names.{named}
use Rattle.sr_database.specs.Inner.Commits.{CanCommit}
use Rattle.sr_database.specs.Views.{View}
use Rattle.sr_database_did.specs.Inner.Did.{PlaceView, Did, Commits}
use Rattle.sr_database_did.specs.Inner.Effects.{Effect, entered, End, whole, refused, failed, full, long, short, asked}
use Rattle.sr_database_did.proofs.Joins.{did_on}
use Rattle.sr_database_did.proofs.Still.{nothing_short}
use Rattle.sr_database_files.specs.declared.fault.DatabaseFault.{DatabaseFault}
use Rattle.sr_database_files.specs.declared.fault.DatabaseFault.TheVariants as store
use Rattle.sr_database_history.specs.Fitting.{FitsState}
use Rattle.sr_database_history.specs.Recorded.{Recorded, note}
use Rattle.sr_logform.specs.Inner.Entries.{IsShortEntry}
use Rattle.sr_logform.specs.declared.entry.Entry.{Entry}
use Rattle.sr_logform.specs.declared.entry.Entry.TheVariants.{Note as note_entry}
use Rattle.sr_site.specs.Seen.{Seen}
use Rattle.sr_receive.specs.Inner.Ready.{IsReady}
use Rattle.sr_receive.specs.Inner.Noting.{Enters, EntersAll, IsEndOf, NotAll, NotEntered, fault_of}
use Rattle.sr_receive_gather.specs.Inner.Faults.{fault_of_store}
use Rattle.sr_receive_gather.specs.declared.fault.ReceiveFault.{ReceiveFault}
use Rattle.sr_receive_gather.specs.declared.fault.ReceiveFault.TheVariants.{Memory}

-- a note of a user who is granted
pub note_can : (view : View) (seen : Seen) (user : Name) (what : Note) (entry : Entry) → IsReady view seen → IsSome (named user_name user view.catalog.users)
    → entry ≡ note_entry user what → CanCommit view entry (note user what)
unfolding FitsState
note_can view seen user what entry ready known is = record {
  is = sym is;
  meant = tt;
  short = subst (λ (e : Entry). IsShortEntry e) (sym is) tt;
  follows = (ready.idle, known);
}

-- ---- one commit

pub not_entered : (a b : PlaceView) (r : Recorded) (fault : DatabaseFault) (answer : ReceiveFault) → answer ≡ fault_of_store fault → Commits a b r (Err fault) → NotEntered a b r answer
not_entered a b r store.Missing answer is did = absurd did
not_entered a b r store.Exists answer is did = absurd did
not_entered a b r (store.Damaged file at) answer is did = absurd did
not_entered a b r store.Disk answer is did = record { end = refused r; is = is; of = refl; did = did }
not_entered a b r (store.Full end need) answer is did = record { end = full r end need; is = is; of = refl; did = did }
not_entered a b r (store.Long size limit) answer is did = record { end = long r size limit; is = is; of = refl; did = did }
not_entered a b r store.Memory answer is did = record { end = short []; is = is; of = refl; did = did }

-- ---- entries, one behind the other

not_all : (a b : PlaceView) (r : Recorded) (fault : ReceiveFault) (end : End) → fault ≡ fault_of end → IsEndOf r end → Did a b [] end → NotAll a b (r ∷ []) fault
not_all a b r fault whole is of did = absurd of
not_all a b r fault (refused s) is of did = record { done = []; rest = []; end = refused s; is = is; parts = ap (λ (x : Recorded). x ∷ []) (sym of); quiet = refl; did = did }
not_all a b r fault (failed hs) is of did = absurd of
not_all a b r fault (full s end need) is of did = record { done = []; rest = []; end = full s end need; is = is; parts = ap (λ (x : Recorded). x ∷ []) (sym of); quiet = refl; did = did }
not_all a b r fault (long s size limit) is of did = record { done = []; rest = []; end = long s size limit; is = is; parts = ap (λ (x : Recorded). x ∷ []) (sym of); quiet = refl; did = did }
not_all a b r fault (short hs) is of did = record { done = []; rest = r ∷ []; end = short hs; is = is; parts = refl; quiet = of; did = did }

pub one_of_all : (a b : PlaceView) (r : Recorded) (result : Result (Unit {0}) ReceiveFault) → Enters a b r result → EntersAll a b (r ∷ []) result
one_of_all a b r (Ok done) enters = enters
one_of_all a b r (Err fault) enters = not_all a b r fault enters.end enters.is enters.of enters.did

pub first_not : (a b : PlaceView) (rs more : List Recorded) (fault : ReceiveFault) → NotAll a b rs fault → NotAll a b (rs ++ more) fault
first_not a b rs more fault not = record {
  done = not.done;
  rest = not.rest ++ more;
  end = not.end;
  is = not.is;
  parts = ap (λ (l : List Recorded). l ++ more) not.parts ∙ append_assoc not.done (asked not.end ++ not.rest) more ∙ ap (λ (l : List Recorded). not.done ++ l) (append_assoc (asked not.end) not.rest more);
  quiet = not.quiet;
  did = not.did;
}

pub all_on : {A : Type 0} (a b c : PlaceView) (rs more : List Recorded) (result : Result A ReceiveFault) → Did a b (map entered rs) whole → EntersAll b c more result → EntersAll a c (rs ++ more) result
all_on a b c rs more (Ok x) one two = subst (λ (l : List Effect). Did a c l whole) (sym (map-append entered rs more)) (did_on a b c (map entered rs) (map entered more) whole one two)
all_on a b c rs more (Err fault) one two = record {
  done = rs ++ two.done;
  rest = two.rest;
  end = two.end;
  is = two.is;
  parts = ap (λ (l : List Recorded). rs ++ l) two.parts ∙ sym (append_assoc rs two.done (asked two.end ++ two.rest));
  quiet = two.quiet;
  did = subst (λ (l : List Effect). Did a c l two.end) (sym (map-append entered rs two.done)) (did_on a b c (map entered rs) (map entered two.done) two.end one two.did);
}

-- all were committed, and then memory may be wanting
pub all_then : {A : Type 0} (a b : PlaceView) (rs : List Recorded) (result : Result A ReceiveFault) → Did a b (map entered rs) whole → IfErr result (λ fault. fault ≡ Memory) → EntersAll a b rs result
all_then a b rs (Ok x) did memory = did
all_then a b rs (Err fault) did memory = record {
  done = rs;
  rest = [];
  end = short [];
  is = memory;
  parts = sym (append-nil rs);
  quiet = refl;
  did = subst (λ (l : List Effect). Did a b l (short [])) (append-nil (map entered rs)) (did_on a b b (map entered rs) [] (short []) did (nothing_short b did.state.0));
}

-- none was
pub none_for_want : (a : PlaceView) (rs : List Recorded) → a.db.log.usable ≡ true → NotAll a a rs Memory
none_for_want a rs usable = record { done = []; rest = rs; end = short []; is = refl; parts = refl; quiet = refl; did = nothing_short a usable }
