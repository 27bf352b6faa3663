-- A window of which the pieces are fetched again.
use Rattle.std.proofs.Common.{◌≡◌, ℕ, Bool, true, false, List, [], ◌∷◌, ◌++◌, Option, Some, None, refl, sym, ap, subst, ◌∙◌, append_assoc, inr}
use Rattle.std.specs.Prelude.{IfNone, IfSome, IsTrue, map, option_map}
use Rattle.std.specs.List.{AllByRecursion}
use Rattle.std.proofs.lemmas.List.{append-nil}
use Rattle.sr_book.specs.Entries.{Name}
use Rattle.sr_database.specs.Views.{View}
use Rattle.sr_database_did.specs.Inner.Did.{Did}
use Rattle.sr_database_did.specs.Inner.Effects.{whole, failed, short, calls}
use Rattle.sr_database_did.proofs.Still.{IsStill, site_still, calls_did, failed_did, short_did}
use Rattle.sr_database_meaning.specs.Inner.Events.{AreQuiet}
use Rattle.sr_logform.specs.declared.op.Transaction.{Transaction}
use Rattle.sr_mail.specs.Inboxes.{Gathered}
use Rattle.sr_mail.specs.declared.piece.Piece.{Piece}
use Rattle.sr_mail.specs.declared.window.Window.{Window}
use Rattle.sr_mail.specs.Inner.Assembled.{AreOfOneWindow}
use Rattle.sr_mail.specs.Inner.Inboxes.{IsNext}
use Rattle.sr_mail.specs.Seen.{window_of}
use Rattle.sr_msgform.specs.Messages.{message_spelling}
use Rattle.sr_msgform.specs.declared.message.Message.{Message}
use Rattle.sr_site.specs.Happenings.{Happening}
use Rattle.sr_site.specs.Seen.{Seen}
use Rattle.sr_receive_gather.specs.Fetches.{Pairs, FetchStop, FoundPairs, RefetchedInPart, refetch, refetches}
use Rattle.sr_receive_gather.specs.Inner.Fetches.{FoundAll}
use Rattle.sr_receive_gather.specs.Gathers.{IsLastFetch}
use Rattle.sr_receive_gather.specs.declared.fault.ReceiveFault.{ReceiveFault}
use Rattle.sr_receive_gather.specs.declared.fault.ReceiveFault.TheVariants.{Disk, Mail, Full, Long, Memory}
use Rattle.sr_receive.specs.Acts.{dropped, IsReadAs}
use Rattle.sr_receive.specs.Inner.Ready.{IsReady}
use Rattle.sr_receive.specs.Inner.Running.{IsOnTrial, IsReadOrNot, IsUnderTrial}
use Rattle.sr_receive.specs.Inner.Stands.{Stand, Acted, HasCome, IsDueHere, IsFetching, Loses, Stopped, publisher_in}
use Rattle.sr_receive.proofs.Acted.{quiet_both}
use Rattle.sr_receive.proofs.Acting.{acted_one, stopped_at}
use Rattle.sr_receive.proofs.Committing.{ready_did}
use Rattle.sr_receive.proofs.Leading.{first_window, firsts, pairs_filled, pairs_of_one}

-- ---- second fetches

pub refetches_on : (address : Name) (pairs : Pairs) (more before : List Happening) → refetches address pairs (more ++ before) ≡ refetches address pairs more ++ before
refetches_on address [] more before = refl
refetches_on address (p ∷ pairs) more before = refetches_on address pairs (refetch address p.0 (Some (message_spelling p.1)) ∷ more) before

pub refetches_quiet : (address : Name) (pairs : Pairs) (before : List Happening) → AreQuiet before → AreQuiet (refetches address pairs before)
refetches_quiet address [] before quiet = quiet
refetches_quiet address (p ∷ pairs) before quiet = refetches_quiet address pairs (refetch address p.0 (Some (message_spelling p.1)) ∷ before) quiet

last_quiet : (address : Name) (names : List (List ℕ)) (last : List Happening) → IsLastFetch address names last → AreQuiet last
last_quiet address names [] one = tt
last_quiet address names (step ∷ more) one =
    subst (λ (l : List Happening). AreQuiet (step ∷ l)) (sym one.0) (subst (λ (s : Happening). AreQuiet (s ∷ [])) (sym one.1.4) tt)

-- those that a fault ended
pub part_quiet : (publisher user : Name) (pieces : List Piece) (hs : List Happening) → RefetchedInPart publisher user pieces [] hs → AreQuiet hs
part_quiet publisher user pieces hs part =
    subst AreQuiet (sym part.happened)
    (quiet_both part.last (refetches publisher part.pairs []) (last_quiet publisher (map (λ (p : Piece). p.name) part.left) part.last part.one) (refetches_quiet publisher part.pairs [] tt))

pub part_on : (publisher user : Name) (pieces : List Piece) (hs before : List Happening) → RefetchedInPart publisher user pieces [] hs → RefetchedInPart publisher user pieces before (hs ++ before)
part_on publisher user pieces hs before part = record {
  pairs = part.pairs;
  left = part.left;
  parts = part.parts;
  still = part.still;
  last = part.last;
  one = part.one;
  happened = ap (λ (l : List Happening). l ++ before) part.happened ∙ append_assoc part.last (refetches publisher part.pairs []) before
      ∙ ap (λ (l : List Happening). part.last ++ l) (sym (refetches_on publisher part.pairs [] before));
}

-- what happened, where the site tells; else nothing need have
pub record HappenedInPart (publisher user : Name) (pieces : List Piece) (before now : Seen) : Type 0 where
  pub hs : List Happening
  pub part : RefetchedInPart publisher user pieces [] hs
  pub is : IsTrue before.observable → now.happened ≡ hs ++ before.happened

in_part : (b : Bool) (publisher user : Name) (pieces : List Piece) (before now : Seen) → before.observable ≡ b → (IsTrue before.observable → RefetchedInPart publisher user pieces before.happened now.happened)
    → HappenedInPart publisher user pieces before now
in_part true publisher user pieces before now tells happened =
    let part = happened tells in record {
      hs = part.last ++ refetches publisher part.pairs [];
      part = record { pairs = part.pairs; left = part.left; parts = part.parts; still = part.still; last = part.last; one = part.one; happened = refl };
      is = λ told. part.happened ∙ ap (λ (l : List Happening). part.last ++ l) (refetches_on publisher part.pairs [] before.happened)
          ∙ sym (append_assoc part.last (refetches publisher part.pairs []) before.happened);
    }
in_part false publisher user pieces before now tells happened = record {
  hs = [];
  part = record { pairs = []; left = pieces; parts = refl; still = tt; last = []; one = tt; happened = refl };
  is = λ told. let no : false ≡ true = sym tells ∙ told in absurd cc;
}

module _ (db : View) (before now : Seen) (usable : db.log.usable ≡ true) where
  -- ---- all came

  found_still : (publisher user : Name) (pieces : List Piece) (pairs : Pairs) → FoundPairs publisher user pieces before now pairs → IsStill (record { db = db; seen = before }) (record { db = db; seen = now }) (refetches publisher pairs [])
  found_still publisher user pieces pairs found =
      site_still db before now (refetches publisher pairs []) usable found.stays (refetches_quiet publisher pairs [] tt) (λ told. found.happened told ∙ refetches_on publisher pairs [] before.happened)

  pub found_did : (publisher user : Name) (pieces : List Piece) (pairs : Pairs) → FoundPairs publisher user pieces before now pairs → Did (record { db = db; seen = before }) (record { db = db; seen = now }) (calls (refetches publisher pairs [])) whole
  found_did publisher user pieces pairs found = calls_did _ _ (refetches publisher pairs []) (found_still publisher user pieces pairs found) found.steady

  -- and then there was no memory
  pub found_short : (s : Stand) (w : Window) (pairs : Pairs) → IsUnderTrial s w pairs before now → Stopped s s.inbox s.reports (record { db = db; seen = before }) (record { db = db; seen = now }) Memory
  found_short s w pairs trial =
      let publisher = publisher_in s in
      let hs = refetches publisher pairs [] in
      let pieces = map (λ (p : Piece × Message). p.0) pairs in
      stopped_at s _ _ (short hs) Memory refl (short_did _ _ hs (found_still publisher s.user pieces pairs trial.found) trial.found.steady)
      (inr (record {
        window = w;
        pieces = pieces;
        due = trial.due;
        part = record { pairs = pairs; left = []; parts = sym (append-nil pieces); still = trial.found.still; last = []; one = tt; happened = refl };
      }))

  -- ---- one did not

  pub dropped_acted : (s : Stand) (w : Window) (pieces : List Piece) (inbox : List Gathered) → IsOnTrial s w pieces before now None → Loses s.inbox inbox w
      → Acted s (record s { inbox = inbox }) (record { db = db; seen = before }) (record { db = db; seen = now }) whole
  dropped_acted s w pieces inbox trial lost =
      let publisher = publisher_in s in
      let among = trial.found_all in
      let step = refetch publisher among.piece among.found in
      let hs = step ∷ refetches publisher among.pairs [] in
      acted_one s _ _ _ (dropped w among.pairs among.piece among.found)
      (record { behind = among.behind; due = subst (λ (l : List Piece). IsDueHere s w l) among.parts trial.due; still = among.still; unlike = among.unlike; lost = lost; same = refl })
      (calls_did _ _ hs
      (site_still db before now hs usable among.stays (refetches_quiet publisher among.pairs [] tt) (λ told. among.happened told ∙ ap (λ (l : List Happening). step ∷ l) (refetches_on publisher among.pairs [] before.happened)))
      among.steady)

  -- ---- a fault ended it

  fetch_way : (s : Stand) (w : Window) (pieces : List Piece) → IsDueHere s w pieces → (h : HappenedInPart (publisher_in s) s.user pieces before now) → IsFetching s h.hs
  fetch_way s w pieces due h = record { window = w; pieces = pieces; due = due; part = h.part }

  fetch_still : (s : Stand) (pieces : List Piece) (fault : ReceiveFault) (stop : FetchStop (publisher_in s) s.user pieces before now fault) (h : HappenedInPart (publisher_in s) s.user pieces before now)
      → IsStill (record { db = db; seen = before }) (record { db = db; seen = now }) h.hs
  fetch_still s pieces fault stop h = site_still db before now h.hs usable stop.stays (part_quiet (publisher_in s) s.user pieces h.hs h.part) h.is

  pub fetch_stopped : (s : Stand) (w : Window) (pieces : List Piece) (fault : ReceiveFault) → IsDueHere s w pieces → FetchStop (publisher_in s) s.user pieces before now fault
      → Stopped s s.inbox s.reports (record { db = db; seen = before }) (record { db = db; seen = now }) fault
  fetch_stopped s w pieces Disk due stop = absurd stop.why
  fetch_stopped s w pieces Mail due stop =
      let h = in_part before.observable (publisher_in s) s.user pieces before now refl stop.happened in
      stopped_at s _ _ (failed h.hs) Mail refl (failed_did _ _ h.hs (fetch_still s pieces Mail stop h) stop.why) (fetch_way s w pieces due h)
  fetch_stopped s w pieces (Full end need) due stop = absurd stop.why
  fetch_stopped s w pieces (Long size limit) due stop = absurd stop.why
  fetch_stopped s w pieces Memory due stop =
      let h = in_part before.observable (publisher_in s) s.user pieces before now refl stop.happened in
      stopped_at s _ _ (short h.hs) Memory refl (short_did _ _ h.hs (fetch_still s pieces Memory stop h) stop.why) (inr (fetch_way s w pieces due h))

-- ---- a window on trial

pub has_come : (s : Stand) (w : Window) (pairs : Pairs) (before now : Seen) → IsUnderTrial s w pairs before now → HasCome s w pairs
has_come s w pairs before now trial = record { due = trial.due; still = trial.found.still }

pub under_trial : (s : Stand) (w : Window) (pieces : List Piece) (before now : Seen) (pairs : Pairs) → IsOnTrial s w pieces before now (Some pairs) → IsUnderTrial s w pairs before now
under_trial s w pieces before now pairs trial =
    let same = sym trial.found_all.parts in
    record { due = subst (λ (l : List Piece). IsDueHere s w l) same trial.due; found = subst (λ (l : List Piece). FoundPairs (publisher_in s) s.user l before now pairs) same trial.found_all }

pub read_or_not : {A : Type 0} (found : Option A) (items : A → List Transaction) (pairs : Pairs) (w : Window) → IfSome found (λ txs. IsReadAs pairs w (items txs)) → IfNone found ((txs : List Transaction) → ¬ (IsReadAs pairs w txs))
    → IsReadOrNot pairs w (option_map items found)
read_or_not None items pairs w some none = none
read_or_not (Some txs) items pairs w some none = some

-- what comes of pieces of one window
pub one_of_found : {A : Type 0} (found : Option A) (items : A → Pairs) (publisher user : Name) (w : Window) (pieces : List Piece) (before now : Seen) → AllByRecursion (λ p. window_of p ≡ w) pieces → FoundAll publisher user pieces before now (option_map items found)
    → IfSome found (λ pairs. AreOfOneWindow (items pairs))
one_of_found None items publisher user w pieces before now own all = tt
one_of_found (Some x) items publisher user w pieces before now own all = pairs_of_one w pieces (items x) own all.parts

pub filled_found : {A : Type 0} (found : Option A) (items : A → Pairs) (publisher user : Name) (pieces : List Piece) (before now : Seen) → ¬ (pieces ≡ []) → FoundAll publisher user pieces before now (option_map items found)
    → IfSome found (λ pairs. ¬ (items pairs ≡ []))
filled_found None items publisher user pieces before now some all = tt
filled_found (Some x) items publisher user pieces before now some all = pairs_filled pieces (items x) some all.parts

-- what is ready stays so while pieces are fetched
pub found_ready : (db : View) (before now : Seen) (publisher user : Name) (pieces : List Piece) (found : Option Pairs) → IsReady db before → FoundAll publisher user pieces before now found → IsReady db now
found_ready db before now publisher user pieces None ready among =
    ready_did _ _ _ ready
    (calls_did _ _ (refetch publisher among.piece among.found ∷ refetches publisher among.pairs [])
    (site_still db before now _ ready.usable among.stays (refetches_quiet publisher among.pairs [] tt)
    (λ told. among.happened told ∙ ap (λ (l : List Happening). refetch publisher among.piece among.found ∷ l) (refetches_on publisher among.pairs [] before.happened)))
    among.steady)
found_ready db before now publisher user pieces (Some pairs) ready found = ready_did _ _ _ ready (found_did db before now ready.usable publisher user pieces pairs found)

-- the window of the first piece is the one that is due
pub due_here : (s : Stand) (w : Window) (p : Piece) (rest slice pieces : List Piece) → s.left ≡ [] → IsNext s.inbox s.received pieces → slice ≡ pieces → slice ≡ p ∷ rest → w ≡ window_of p → IsDueHere s w pieces
due_here s w p rest slice pieces idle next same parts is =
    record { idle = idle; next = next; window_is = sym (first_window next.window w p rest pieces (sym same ∙ parts) is (firsts _ _ pieces next.own)) }
