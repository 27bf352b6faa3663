-- Turns of partners in order, as far as they came.
use Rattle.std.proofs.Common.{◌≡◌, ◌+◌, ℕ, Bool, false, List, [], ◌∷◌, ◌++◌, bytes_eq, Option, refl, sym, ap, subst, inl, inr, ◌∙◌, arith, append_assoc}
use Rattle.std.specs.Prelude.{IsTrue}
use Rattle.std.specs.List.{AllByRecursion}
use Rattle.sr_book.specs.Entries.{Name}
use Rattle.sr_book.proofs.Folds.{name_test}
use Rattle.sr_database.specs.Databases.{IsDatabase}
use Rattle.sr_database.specs.Views.{View}
use Rattle.sr_database_history.specs.Recorded.{Recorded}
use Rattle.sr_receive_gather.specs.Bags.{IsPartnerMailWhere}
use Rattle.sr_receive_gather.specs.Inner.Bags.{OthersStay}
use Rattle.sr_receive.specs.Inner.Ready.{IsReady}
use Rattle.sr_receive_gather.specs.MessageFiles.{FetchedFile, message_files_from}
use Rattle.sr_receive.specs.Passes.{AreSteady as IsSteady}
use Rattle.sr_receive_gather.specs.declared.bag.PartnerMail.{PartnerMail}
use Rattle.sr_site.specs.Causes.{Stays}
use Rattle.sr_site.specs.Seen.{Seen}
use Rattle.sr_site.specs.Streams.{Output, OutputStays}
use Rattle.sr_agent.specs.Lines.{Line, alarms, line_text, lines_text}
use Rattle.sr_agent.specs.Inner.PartnerMails.{HasSome, HoldsSome}
use Rattle.sr_agent.specs.Inner.Steps.{AreOnce, HoldsAll, IsUser, KeepsPartners, MaySendTo, Told, TookPartnerPasses}
use Rattle.sr_agent.specs.declared.partner.Partner.{Partner}
use Rattle.sr_agent.specs.declared.progress.Progress.{Progress}

-- ---- texts, one after the other

pub lines_append : (one two : List Line) → lines_text (one ++ two) ≡ lines_text one ++ lines_text two
lines_append [] two = refl
lines_append (l ∷ one) two = ap (λ (t : List ℕ). line_text l ++ t) (lines_append one two) ∙ sym (append_assoc (line_text l) (lines_text one) (lines_text two))

pub sink_on : (a b c : Output) → OutputStays a b → OutputStays b c → OutputStays a c
sink_on a b c first second = record { observable = second.observable ∙ first.observable; later = omega (arith, first.later, second.later) }

pub told_on : (one two : List Line) (a b c : Output) → Told (lines_text one) a b → Told (lines_text two) b c → Told (lines_text (one ++ two)) a c
told_on one two a b c first second = record {
  taken = λ told.
      second.taken (subst (λ (t : Bool). IsTrue t) (sym first.stays.observable) told)
      ∙ ap (λ (l : List ℕ). l ++ lines_text two) (first.taken told)
      ∙ append_assoc a.taken (lines_text one) (lines_text two)
      ∙ ap (λ (l : List ℕ). a.taken ++ l) (sym (lines_append one two));
  steady = second.steady ∙ first.steady;
  stays = sink_on a b c first.stays second.stays;
}

-- ---- what holds of those that are left

pub all_users : (old new : View) (users : List Name) → KeepsPartners old new → AllByRecursion (IsUser old) users → AllByRecursion (IsUser new) users
all_users old new [] keeps are = tt
all_users old new (u ∷ users) keeps are = (keeps.users u are.0, all_users old new users keeps are.1)

pub all_may : (old new : View) (asks : List Partner) → KeepsPartners old new → AllByRecursion (MaySendTo old) asks → AllByRecursion (MaySendTo new) asks
all_may old new [] keeps are = tt
all_may old new (p ∷ asks) keeps are = (keeps.asks p are.0, all_may old new asks keeps are.1)

pub may_more : (view : View) (asks : List Partner) (p : Partner) → AllByRecursion (MaySendTo view) asks → MaySendTo view p → AllByRecursion (MaySendTo view) (asks ++ p ∷ [])
may_more view [] p are one = (one, tt)
may_more view (q ∷ asks) p are one = (are.0, may_more view asks p are.1 one)

pub still_holds : (bag bag' : List PartnerMail) (user : Name) → HoldsSome bag → OthersStay bag bag' user → HasSome bag' user → HoldsSome bag'
still_holds bag bag' user all others his other = elim (name_test user other) [
  | inl same ↦ subst (λ (n : Name). HasSome bag' n) same.1 his
  | inr differ ↦ record {
    message_files = (all other).message_files;
    dropped_windows = (all other).dropped_windows;
    has = subst (λ (s : Option PartnerMail). IsPartnerMailWhere (all other).message_files (all other).dropped_windows s) (sym (others other differ)) (all other).has;
  }
]

pub others_hold : (bag bag' : List PartnerMail) (fetched_files : List FetchedFile) (user : Name) (users : List Name) → OthersStay bag bag' user → AllByRecursion (λ other. bytes_eq user other ≡ false) users → HoldsAll bag fetched_files users
    → HoldsAll bag' fetched_files users
others_hold bag bag' fetched_files user [] stay apart holds = tt
others_hold bag bag' fetched_files user (other ∷ users) stay apart holds = (
  subst (λ (s : Option PartnerMail). IsPartnerMailWhere (message_files_from other fetched_files) [] s) (sym (stay other apart.0)) holds.0,
  others_hold bag bag' fetched_files user users stay apart.1 holds.1,
)

-- ---- the loop

-- what was done for those before these that are left
pub record TurnedSoFar (db : View) (before seen : Seen) (publisher : Name) (es : List Recorded) (fetched_files : List FetchedFile) (purge : Bool) (done left : List Name) (bag' : List PartnerMail) (asks : List Partner) (lines : List Line) : Type 0 where
  pub took : TookPartnerPasses db before seen publisher es fetched_files purge done asks lines
  pub holds : HoldsAll bag' fetched_files left
  pub once : AreOnce left

pub record IsTurning (old db : View) (before seen : Seen) (users left : List Name) (bag bag' : List PartnerMail) (purge : Bool) (progress progress' : Progress) (written written' : Output) : Type 0 where
  pub done : List Name
  pub parts : users ≡ done ++ left
  pub ready : IsReady db seen
  pub keeps : KeepsPartners old db
  pub users_are : AllByRecursion (IsUser db) left
  pub holds : HoldsSome bag'
  pub lines : List Line
  pub asks : List Partner
  pub told : Told (lines_text lines) written written'
  pub alarms_are : progress'.alarms ≡ progress.alarms + alarms lines
  pub partners_are : progress'.partners.items ≡ progress.partners.items ++ asks
  pub may : AllByRecursion (MaySendTo db) asks
  pub steady : IsSteady before seen
  pub stays : Stays before seen
  pub did : IsTrue before.observable → (publisher : Name) (es : List Recorded) (fetched_files : List FetchedFile) → IsDatabase old publisher es before → HoldsAll bag fetched_files users → AreOnce users
      → TurnedSoFar db before seen publisher es fetched_files purge done left bag' asks lines
