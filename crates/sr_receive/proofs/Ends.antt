-- How a pass ended, as its contract tells it.
use Rattle.std.proofs.Common.{◌≡◌, List, [], ◌++◌, refl, sym, ap, subst, ◌∙◌, inl, inr}
use Rattle.std.specs.Prelude.{map}
use Rattle.std.proofs.lemmas.List.{map-append}
use Rattle.sr_book.specs.Entries.{Name}
use Rattle.sr_database_did.specs.Inner.Did.{PlaceView, Did}
use Rattle.sr_database_did.specs.Inner.Effects.{Effect, End, whole, refused, failed, full, long, short, asked, begun, broken, entries, trace, under_way}
use Rattle.sr_database_did.proofs.Still.{puts_quiet}
use Rattle.sr_database_history.specs.Folds.{State}
use Rattle.sr_database_history.specs.Recorded.{Recorded, taken}
use Rattle.sr_database_meaning.specs.Events.{Event, commit}
use Rattle.sr_database_meaning.specs.Inner.Events.{AreQuiet}
use Rattle.sr_database_meaning.specs.Traces.{Went}
use Rattle.sr_resolve.specs.Taking.{is_above}
use Rattle.sr_site.specs.Happenings.{Happening}
use Rattle.sr_receive_gather.specs.Fetches.{RefetchedInPart}
use Rattle.sr_receive_gather.specs.MessageFiles.{MessageFile}
use Rattle.sr_receive_gather.specs.declared.report.Report.{Report}
use Rattle.sr_receive_judged.specs.Judged.{AreDone}
use Rattle.sr_receive.specs.Acts.{ReceiveAct, PassState, stand_of}
use Rattle.sr_receive.specs.Entering.{Reached}
use Rattle.sr_receive.specs.Inner.Ready.{IsReady}
use Rattle.sr_receive.specs.Inner.Noting.{fault_of}
use Rattle.sr_receive.specs.Inner.Passes.{IsDeviceFault}
use Rattle.sr_receive.specs.Inner.Stands.{Stand, IsFetching, IsNextEntryHere, IsUnderWay, publisher_in}
use Rattle.sr_receive.specs.Passes.{HasFetched, IsMailAt, IsNextEntry, IsOfNext, IsRefused, begun_by}
use Rattle.sr_receive.proofs.Fetched.{part_on, part_quiet}
use Rattle.sr_receive.proofs.Telling.{Tells, told_due}

begun_quiet : (end : End) → AreQuiet (under_way end) → begun end ≡ map commit (broken end)
begun_quiet whole quiet = refl
begun_quiet (refused r) quiet = refl
begun_quiet (failed hs) quiet = puts_quiet hs quiet
begun_quiet (full r end need) quiet = refl
begun_quiet (long r size limit) quiet = refl
begun_quiet (short hs) quiet = puts_quiet hs quiet

broken_is : (end : End) → broken end ≡ begun_by (fault_of end) (asked end)
broken_is whole = refl
broken_is (refused r) = refl
broken_is (failed hs) = refl
broken_is (full r end need) = refl
broken_is (long r size limit) = refl
broken_is (short hs) = refl

module _ (a b : PlaceView) (effects : List Effect) where
  -- which device refused
  pub why_did : (end : End) → Did a b effects end → IsDeviceFault a.seen b.seen (fault_of end)
  why_did whole did = record { disk = did.state.1; mail = did.cause }
  why_did (refused r) did = (did.state.1, did.cause)
  why_did (failed hs) did = (did.cause, did.state.1)
  why_did (full r end need) did = record { disk = did.state.1; mail = did.cause.1 }
  why_did (long r size limit) did = record { disk = did.state.1; mail = did.cause.1 }
  why_did (short hs) did = record { disk = did.state.1; mail = did.cause }

  -- which entry was
  pub refused_did : (end : End) → Did a b effects end → IsRefused b.db (asked end) (fault_of end)
  refused_did whole did = tt
  refused_did (refused r) did = tt
  refused_did (failed hs) did = tt
  refused_did (full r end need) did = did.cause.0
  refused_did (long r size limit) did = did.cause.0
  refused_did (short hs) did = tt

  -- the entries were reached
  pub reached_did : (end : End) (rs : List Recorded) → IsReady a.db a.seen → entries effects ≡ rs → trace effects ≡ map commit (entries effects) → AreQuiet (under_way end) → Did a b effects end
      → Reached a.db b.db a.seen b.seen rs (begun_by (fault_of end) (asked end))
  reached_did end rs ready are events quiet did = subst (λ (l : List Recorded). Reached a.db b.db a.seen b.seen l (begun_by (fault_of end) (asked end))) are (subst (λ (l : List Recorded). Reached a.db b.db a.seen b.seen (entries effects) l) (broken_is end) (record {
    state = did.state;
    idle = did.pending ready.idle;
    room = did.room;
    value = did.value;
    in_force = did.in_force;
    database = λ told yes publisher es is. (did.told told publisher es is).database yes;
    went = λ told publisher es is.
        subst (λ (l : List Event). Went a.seen b.seen publisher es l) ((λ i. events i ++ begun_quiet end quiet i) ∙ sym (map-append commit (entries effects) (broken end))) (did.told told publisher es is).went;
    stays = did.stays;
  }))

-- ---- what was under way

pub quiet_way : (s : Stand) (end : End) → IsUnderWay s end → AreQuiet (under_way end)
quiet_way s whole way = tt
quiet_way s (refused r) way = tt
quiet_way s (failed hs) way = part_quiet (publisher_in s) s.user way.pieces hs way.part
quiet_way s (full r end need) way = tt
quiet_way s (long r size limit) way = tt
quiet_way s (short hs) (inl none) = subst AreQuiet (sym none) tt
quiet_way s (short hs) (inr way) = part_quiet (publisher_in s) s.user way.pieces hs way.part

module _ (publisher user : Name) (message_files : List MessageFile) (first : PassState) (reports : List Report) (acts : List ReceiveAct) (s : Stand) (tells : Tells publisher user message_files first reports acts s) where
  told_entry : (r : Recorded) → IsNextEntryHere s r → IsNextEntry user (stand_of first acts) r
  told_entry r next = record {
    t = next.t;
    dones = next.dones;
    is = next.is ∙ ap (λ (n : Name). taken n next.t.at next.dones) tells.user_is;
    next = record {
      rest = next.rest;
      left_are = sym tells.left ∙ next.left_are;
      done = subst (λ (x : State). AreDone x (is_above x user) next.t.ops next.dones) tells.state (subst (λ (n : Name). AreDone s.state (is_above s.state n) next.t.ops next.dones) tells.user_is next.done);
    };
  }

  pub told_next : (end : End) → IsUnderWay s end → IsOfNext user (stand_of first acts) (asked end)
  told_next whole way = tt
  told_next (refused r) way = told_entry r way
  told_next (failed hs) way = tt
  told_next (full r end need) way = told_entry r way
  told_next (long r size limit) way = told_entry r way
  told_next (short hs) way = tt

  told_fetching : (hs before : List Happening) → IsFetching s hs → HasFetched publisher user message_files (stand_of first acts) before (hs ++ before)
  told_fetching hs before way = record {
    window = way.window;
    pieces = way.pieces;
    idle = sym tells.left ∙ way.due.idle;
    due = told_due publisher user message_files first reports acts s way.window way.pieces tells way.due;
    part = part_on publisher user way.pieces hs before
        (subst (λ (n : Name). RefetchedInPart n user way.pieces [] hs) tells.publisher_is (subst (λ (n : Name). RefetchedInPart (publisher_in s) n way.pieces [] hs) tells.user_is way.part));
  }

  pub told_mail_at : (end : End) (before now : List Happening) → IsUnderWay s end → now ≡ under_way end ++ before → IsMailAt (fault_of end) publisher user message_files (stand_of first acts) before now
  told_mail_at whole before now way is = inl is
  told_mail_at (refused r) before now way is = is
  told_mail_at (failed hs) before now way is = subst (λ (l : List Happening). HasFetched publisher user message_files (stand_of first acts) before l) (sym is) (told_fetching hs before way)
  told_mail_at (full r end need) before now way is = is
  told_mail_at (long r size limit) before now way is = is
  told_mail_at (short hs) before now (inl none) is = inl (is ∙ ap (λ (l : List Happening). l ++ before) none)
  told_mail_at (short hs) before now (inr way) is = inr (subst (λ (l : List Happening). HasFetched publisher user message_files (stand_of first acts) before l) (sym is) (told_fetching hs before way))
