-- Which steps a world allows, by what is shown of it.
use Rattle.std.proofs.Common.{◌≡◌, ℕ, ◌+◌, ◌<◌, Bool, true, false, List, [], ◌∷◌, ◌++◌, length, Contains, Some, None, refl, sym, ap, subst, ◌∙◌, arith}
use Rattle.std.specs.Prelude.{slice_get}
use Rattle.std.proofs.lemmas.List.{length-append}
use Rattle.std.proofs.lemmas.Option.{slice_get_within, get_or_from_slice_get}
use Rattle.sr_base.specs.Values.{offset_from}
use Rattle.sr_book.specs.Entries.{Name}
use Rattle.sr_book.specs.Histories.{book_of, taken_end}
use Rattle.sr_book.specs.declared.note.Note.{Note as BookNote}
use Rattle.sr_book.specs.declared.note.Note.TheVariants.{Confirmed, Asked, Raised, Sent}
use Rattle.sr_book.proofs.Folds.{book_received}
use Rattle.sr_database_history.specs.Fitting.{Fits}
use Rattle.sr_database_history.specs.Folds.{size, sees, state_of, end_of}
use Rattle.sr_database_history.specs.Recorded.{Recorded, note}
use Rattle.sr_logform.specs.declared.entry.Entry.{Entry}
use Rattle.sr_logform.specs.declared.entry.Entry.TheVariants as entries
use Rattle.sr_msgform.specs.declared.message.Message.{Message}
use Rattle.sr_world.specs.Inner.Real.{IsStep}
use Rattle.sr_world.specs.Lawful.{IsLawful}
use Rattle.sr_world.specs.Real.{layers, HasSpelling}
use Rattle.sr_world.proofs.Keeping.{lawful_more}
use Rattle.sr_world_model.specs.Steps.{append, put, crash, CanAppend, CanNote}
use Rattle.sr_world_model.specs.Worlds.{World, WorldStep as Act, history, happens, IsNamed}
use Rattle.sr_world_steps.specs.declared.step.WorldStep.{WorldStep}
use Rattle.sr_world_steps.specs.declared.step.WorldStep.TheVariants as asked
use Rattle.sr_world_steps.specs.Inner.Acts.{by, Says, IsSaid, IsSent, IsAsked, IsNoStep, HasStepped}
use Rattle.sr_world_steps.specs.Inner.Commits.{CommitEnds, CommitEndsIn, MayCommit}
use Rattle.sr_world_steps.specs.Inner.Due.{Appends, IsDue, IsFoundIn, IsMadeIn, IsPutDue, TellsPutIn}
use Rattle.sr_world_steps.specs.Inner.Logs.{HasLog}
use Rattle.sr_world_steps.specs.Inner.Noted.{MayBeNoted, NewsEnds}
use Rattle.sr_world_steps.specs.Inner.Notes.{IsNews}
use Rattle.sr_world_steps.specs.Inner.Places.{Log, History, NoneIs, StandsAt, with_entry}
use Rattle.sr_world_steps.specs.Inner.Putting.{HasLawfulLog, IsLawfulLog, MayPut, TellsPut}
use Rattle.sr_world_steps.specs.Inner.Sending.{MayBeSent, SentEnds, WasSent}
use Rattle.sr_world_steps.specs.Inner.Shown.{Shown, Shows, IsShown}
use Rattle.sr_world_steps.proofs.Stepping.{has_stepped, log_of, named_at, not_named, shows_crash, shows_entry, shows_message}

-- ---- a database that is not there

-- the database of a step that is asked for
abbrev pub owner_of : WorldStep → Name
owner_of (asked.Commit at entry) = at
owner_of (asked.Take at user) = at
owner_of (asked.Note at user what place) = at
owner_of (asked.SentNote at user what) = at
owner_of (asked.Put at m) = at
owner_of (asked.Crash at) = at

owner_is : (w : World Recorded) (step : WorldStep) (act : Act Recorded) → IsAsked w step act → act.owner ≡ owner_of step
owner_is w (asked.Commit at entry) act a = ap (λ (x : Act Recorded). x.owner) a.1
owner_is w (asked.Take at user) act a = ap (λ (x : Act Recorded). x.owner) a.3
owner_is w (asked.Note at user what place) act a = ap (λ (x : Act Recorded). x.owner) a.0
owner_is w (asked.SentNote at user what) act a = ap (λ (x : Act Recorded). x.owner) a.0
owner_is w (asked.Put at m) act a = ap (λ (x : Act Recorded). x.owner) a.0
owner_is w (asked.Crash at) act a = ap (λ (x : Act Recorded). x.owner) a

pub not_there : (shown : Shown) (step : WorldStep) → NoneIs (owner_of step) shown.histories → (w : World Recorded) → Shows w shown → IsNoStep w step
not_there shown step none w shows = record {
  none = λ act a allowed. not_named w shown (owner_of step) shows none (subst (IsNamed w) (owner_is w step act a) allowed.0);
}

pub commit_not_there : (shown : Shown) (d : Name) (entry : Entry) → NoneIs d shown.histories → IsFoundIn shown (asked.Commit d entry) d entry None
unfolding IsFoundIn
commit_not_there shown d entry none = not_there shown (asked.Commit d entry) none

pub note_not_there : (shown : Shown) (d user : Name) (what : BookNote) (place : ℕ) → NoneIs d shown.histories
    → IsFoundIn shown (asked.Note d user what place) d (entries.Note user what) None
unfolding IsFoundIn
note_not_there shown d user what place none = not_there shown (asked.Note d user what place) none

pub sent_not_there : (shown : Shown) (d user : Name) (what : BookNote) → NoneIs d shown.histories
    → IsFoundIn shown (asked.SentNote d user what) d (entries.Note user what) None
unfolding IsFoundIn
sent_not_there shown d user what none = not_there shown (asked.SentNote d user what) none

pub put_not_there : (shown : Shown) (d : Name) (m : Message) → NoneIs d shown.histories → TellsPutIn shown d m false
unfolding TellsPutIn
put_not_there shown d m none = not_there shown (asked.Put d m) none

pub crash_not_there : (shown : Shown) (d : Name) → NoneIs d shown.histories → IsMadeIn shown (asked.Crash d) shown false
unfolding IsMadeIn
crash_not_there shown d none = not_there shown (asked.Crash d) none

-- ---- one that is there

pub some_log : (shown : Shown) (d : Name) (place : ℕ) (log : Log) → IsShown shown → StandsAt d shown.histories place log → HasLog d log
unfolding HasLog
some_log shown d place log s at = (history s.world d, log_of s.world shown d place log s.shows at)

lawful_log : (w : World Recorded) (shown : Shown) (d : Name) (place : ℕ) (log : Log) → Shows w shown → StandsAt d shown.histories place log → IsLawfulLog d (history w d) log
lawful_log w shown d place log shows at = record { lawful = shows.good.are_lawful d; shown = log_of w shown d place log shows at }

pub some_lawful_log : (shown : Shown) (d : Name) (place : ℕ) (log : Log) → IsShown shown → StandsAt d shown.histories place log → HasLawfulLog d log
unfolding HasLawfulLog
some_lawful_log shown d place log s at = (history s.world d, lawful_log s.world shown d place log s.shows at)

-- an entry that is allowed keeps every rule
pub its_lawful : (w : World Recorded) (d : Name) (r : Recorded) → IsStep w (by d (append r)) → IsLawful (state_of d (history w d)) (end_of (history w d)) r
its_lawful w d r allowed = ((lawful_more d (history w d) r).0 allowed.1.1).1

-- and one that keeps every rule is allowed, where it may be appended
pub is_allowed : (w : World Recorded) (shown : Shown) (d : Name) (place : ℕ) (log : Log) (r : Recorded) → Shows w shown → StandsAt d shown.histories place log
    → CanAppend layers HasSpelling w.messages d (history w d) (sees r) → IsLawful (state_of d (history w d)) (end_of (history w d)) r → IsStep w (by d (append r))
is_allowed w shown d place log r shows at can lawful =
    (named_at w shown d place log shows at, (can, (lawful_more d (history w d) r).1 (shows.good.are_lawful d, lawful)))

-- ---- commits

pub commit_none : (shown : Shown) (d : Name) (place : ℕ) (log : Log) (entry : Entry) → StandsAt d shown.histories place log
    → CommitEnds d log entry None → IsFoundIn shown (asked.Commit d entry) d entry None
unfolding CommitEnds CommitEndsIn IsFoundIn
commit_none shown d place log entry at h = λ w shows. record {
  none = λ act a allowed.
      let r : Recorded = a.0 in
      let step : IsStep w (by d (append r)) = subst (IsStep w) a.1 allowed in
      h (history w d) (log_of w shown d place log shows at) r (record { is = a.2; own = a.3; lawful = its_lawful w d r step });
}

pub commit_some : (shown : Shown) (d : Name) (place : ℕ) (log : Log) (entry : Entry) (end : ℕ) → StandsAt d shown.histories place log
    → CommitEnds d log entry (Some end) → IsFoundIn shown (asked.Commit d entry) d entry (Some (place, end))
unfolding CommitEnds CommitEndsIn IsFoundIn
commit_some shown d place log entry end at h = λ w shows.
    let one = h (history w d) (log_of w shown d place log shows at) in
    let r : Recorded = one.0 in
    let may : MayCommit (state_of d (history w d)) (end_of (history w d)) entry r = one.1 in
    let can : CanAppend layers HasSpelling w.messages d (history w d) (sees r) = subst (CanAppend layers HasSpelling w.messages d (history w d)) (sym may.own) tt in
    record {
      recorded = r;
      asked = (r, refl, may.is, may.own);
      appends = record { log = log; stands = at; allowed = is_allowed w shown d place log r shows at can may.lawful; is = may.is; ends = one.2 };
    }

-- ---- notes

pub no_message : (shown : Shown) (d user : Name) (what : BookNote) (place : ℕ) → slice_get shown.messages place ≡ None
    → IsFoundIn shown (asked.Note d user what place) d (entries.Note user what) None
unfolding IsFoundIn
no_message shown d user what place none = λ w shows. record {
  none = λ act a allowed.
      let there : slice_get shown.messages place ≡ Some a.1.message = ap (λ (ms : List Message). slice_get ms place) (sym shows.messages) ∙ a.1.there in
      absurd (cc);
}

-- what is said is news, where it may be noted
is_news : (messages : List Message) (d : Name) (rs : List Recorded) (user : Name) (what : BookNote) (m : Message) → CanNote layers messages d rs user what
    → Says (taken_end layers.sees user rs) m what → IsNews (book_of sees user rs) m what
is_news messages d rs user (Confirmed place) m can says = (says, can.2)
is_news messages d rs user (Asked count place) m can says = (says.0, says.1, can.3)
is_news messages d rs user Raised m can says = subst (λ (n : ℕ). n < m.upto.0) (sym (book_received sees user rs)) says
is_news messages d rs user (Sent end count confirm) m can says = absurd says

can_note : (messages : List Message) (d : Name) (rs : List Recorded) (user : Name) (what : BookNote) (m : Message) → Contains messages m → m.from ≡ user → m.to ≡ d
    → IsNews (book_of sees user rs) m what → CanNote layers messages d rs user what
can_note messages d rs user (Confirmed place) m among from to news = (record { message = m; among = among; sent_by = from; sent_to = to }, news.0, news.1)
can_note messages d rs user (Asked count place) m among from to news =
    (record { message = m; among = among; sent_by = from; sent_to = to }, news.0, news.1, news.2)
can_note messages d rs user Raised m among from to news =
    (record { message = m; among = among; sent_by = from; sent_to = to }, subst (λ (n : ℕ). n < m.upto.0) (book_received sees user rs) news)
can_note messages d rs user (Sent end count confirm) m among from to news = absurd news

says_so : (d : Name) (rs : List Recorded) (user : Name) (what : BookNote) (m : Message) → IsNews (book_of sees user rs) m what → Says (taken_end layers.sees user rs) m what
says_so d rs user (Confirmed place) m news = news.0
says_so d rs user (Asked count place) m news = (news.0, news.1)
says_so d rs user Raised m news = subst (λ (n : ℕ). n < m.upto.0) (book_received sees user rs) news
says_so d rs user (Sent end count confirm) m news = absurd news

same_some : (a b : Message) → Some a ≡ Some b → a ≡ b
same_some a b e = let so : Some a ≡ Some b = e in cc

pub note_none : (shown : Shown) (d user : Name) (what : BookNote) (number place : ℕ) (m : Message) (log : Log) → slice_get shown.messages number ≡ Some m
    → StandsAt d shown.histories place log
    → NewsEnds d log user what m None → IsFoundIn shown (asked.Note d user what number) d (entries.Note user what) None
unfolding NewsEnds IsFoundIn
note_none shown d user what number place m log there at h = λ w shows. record {
  none = λ act a allowed.
      let rs : List Recorded = history w d in
      let step : IsStep w (by d (append (note user what))) = subst (IsStep w) a.0 allowed in
      let said : IsSaid w d user what number = a.1 in
      let is : said.message ≡ m =
      same_some said.message m (sym said.there ∙ ap (λ (ms : List Message). slice_get ms number) shows.messages ∙ there) in
      let says : Says (taken_end layers.sees user rs) m what = subst (λ (x : Message). Says (taken_end layers.sees user rs) x what) is said.says in
      h rs (log_of w shown d place log shows at) (note user what) (record {
        may = record {
          sent_by = ap (λ (x : Message). x.from) (sym is) ∙ said.sent_by;
          sent_to = ap (λ (x : Message). x.to) (sym is) ∙ said.sent_to;
          news = is_news w.messages d rs user what m step.1.0 says;
        };
        stands = record { is = refl; fits = (its_lawful w d (note user what) step).stored };
      });
}

pub note_some : (shown : Shown) (d user : Name) (what : BookNote) (number place end : ℕ) (m : Message) (log : Log) → slice_get shown.messages number ≡ Some m
    → StandsAt d shown.histories place log
    → NewsEnds d log user what m (Some end) → IsFoundIn shown (asked.Note d user what number) d (entries.Note user what) (Some (place, end))
unfolding NewsEnds IsFoundIn
note_some shown d user what number place end m log there at h = λ w shows.
    let rs : List Recorded = history w d in
    let one = h rs (log_of w shown d place log shows at) in
    let b : MayBeNoted d rs user what m one.0 = one.1 in
    let in_world : slice_get w.messages number ≡ Some m = ap (λ (ms : List Message). slice_get ms number) shows.messages ∙ there in
    let among : Contains w.messages m = (number, slice_get_within w.messages number m in_world, get_or_from_slice_get w.messages number m m in_world) in
    let can : CanNote layers w.messages d rs user what = can_note w.messages d rs user what m among b.may.sent_by b.may.sent_to b.may.news in
    let lawful : IsLawful (state_of d rs) (end_of rs) (note user what) =
    record { stored = subst (λ (r : Recorded). Fits (state_of d rs) (end_of rs) r) b.stands.is b.stands.fits; says_so = tt } in
    let allowed : IsStep w (by d (append (note user what))) = is_allowed w shown d place log (note user what) shows at can lawful in
    let said : IsSaid w d user what number =
    record { message = m; there = in_world; sent_by = b.may.sent_by; sent_to = b.may.sent_to; says = says_so d rs user what m b.may.news } in
    record {
      recorded = note user what;
      asked = (refl, said);
      appends = record {
        log = log;
        stands = at;
        allowed = allowed;
        is = refl;
        ends = one.2 ∙ ap (λ (r : Recorded). end_of rs + (size r + 5)) b.stands.is;
      };
    }

-- ---- notes of what was sent

was_sent : (messages : List Message) (d : Name) (rs : List Recorded) (user : Name) (what : BookNote) → IsSent what → CanNote layers messages d rs user what
    → WasSent messages d rs user what
was_sent messages d rs user (Confirmed place) sent can = absurd sent
was_sent messages d rs user (Asked count place) sent can = absurd sent
was_sent messages d rs user Raised sent can = absurd sent
was_sent messages d rs user (Sent end count confirm) sent can = can

can_send : (messages : List Message) (d : Name) (rs : List Recorded) (user : Name) (what : BookNote) → WasSent messages d rs user what
    → IsSent what × CanNote layers messages d rs user what
can_send messages d rs user (Confirmed place) was = absurd was
can_send messages d rs user (Asked count place) was = absurd was
can_send messages d rs user Raised was = absurd was
can_send messages d rs user (Sent end count confirm) was = (tt, was)

pub sent_none : (shown : Shown) (messages : List Message) (d user : Name) (what : BookNote) (place : ℕ) (log : Log) → messages ≡ shown.messages → StandsAt d shown.histories place log
    → SentEnds messages d log user what None → IsFoundIn shown (asked.SentNote d user what) d (entries.Note user what) None
unfolding SentEnds IsFoundIn
sent_none shown messages d user what place log all at h = λ w shows. record {
  none = λ act a allowed.
      let rs : List Recorded = history w d in
      let step : IsStep w (by d (append (note user what))) = subst (IsStep w) a.0 allowed in
      let was : WasSent w.messages d rs user what = was_sent w.messages d rs user what a.1 step.1.0 in
      h rs (log_of w shown d place log shows at) (note user what) (record {
        sent = subst (λ (ms : List Message). WasSent ms d rs user what) (shows.messages ∙ sym all) was;
        stands = record { is = refl; fits = (its_lawful w d (note user what) step).stored };
      });
}

pub sent_some : (shown : Shown) (messages : List Message) (d user : Name) (what : BookNote) (place end : ℕ) (log : Log) → messages ≡ shown.messages → StandsAt d shown.histories place log
    → SentEnds messages d log user what (Some end) → IsFoundIn shown (asked.SentNote d user what) d (entries.Note user what) (Some (place, end))
unfolding SentEnds IsFoundIn
sent_some shown messages d user what place end log all at h = λ w shows.
    let rs : List Recorded = history w d in
    let one = h rs (log_of w shown d place log shows at) in
    let b : MayBeSent messages d rs user what one.0 = one.1 in
    let can = can_send w.messages d rs user what (subst (λ (ms : List Message). WasSent ms d rs user what) (all ∙ sym shows.messages) b.sent) in
    let lawful : IsLawful (state_of d rs) (end_of rs) (note user what) =
    record { stored = subst (λ (r : Recorded). Fits (state_of d rs) (end_of rs) r) b.stands.is b.stands.fits; says_so = tt } in
    record {
      recorded = note user what;
      asked = (refl, can.0);
      appends = record {
        log = log;
        stands = at;
        allowed = is_allowed w shown d place log (note user what) shows at can.1 lawful;
        is = refl;
        ends = one.2 ∙ ap (λ (r : Recorded). end_of rs + (size r + 5)) b.stands.is;
      };
    }

-- ---- entries that are due

pub some_due : (shown : Shown) (step : WorldStep) (d : Name) (entry copy : Entry) (place end : ℕ) → IsShown shown
    → IsFoundIn shown step d entry (Some (place, end)) → copy ≡ entry → IsDue shown copy place end
unfolding IsFoundIn
some_due shown step d entry copy place end s h same =
    let found = h s.world s.shows in
    record {
      world = s.world;
      shows = s.shows;
      owner = d;
      recorded = found.recorded;
      appends = subst (λ (e : Entry). Appends s.world shown d e place end found.recorded) (sym same) found.appends;
    }

within : (before behind : List History) (h : History) (histories : List History) (place : ℕ) → histories ≡ before ++ h ∷ behind → length before ≡ place → place < length histories
within before behind h histories place parts count =
    let long : length histories ≡ length before + length (h ∷ behind) = ap length parts ∙ length-append before (h ∷ behind) in
    omega (arith, long, count)

pub due_within : (shown : Shown) (entry : Entry) (place end : ℕ) → IsDue shown entry place end → place < length shown.histories
due_within shown entry place end due =
    let at : StandsAt due.owner shown.histories place due.appends.log = due.appends.stands in
    within at.before at.behind (due.owner, due.appends.log) shown.histories place at.parts at.count

pub due_shown : (shown : Shown) (entry : Entry) (place end : ℕ) → IsDue shown entry place end
    → IsShown (record shown { histories = with_entry place (offset_from end, entry) shown.histories })
due_shown shown entry place end due =
    let a = due.appends in
    record {
      world = happens due.world (by due.owner (append due.recorded));
      shows = shows_entry due.world shown due.owner place a.log due.recorded end entry due.shows a.stands a.allowed a.is a.ends;
    }

pub none_made : (shown now : Shown) (step : WorldStep) (d : Name) (entry : Entry) → IsFoundIn shown step d entry None → IsMadeIn shown step now false
unfolding IsFoundIn IsMadeIn
none_made shown now step d entry h = h

pub entry_made : (shown now : Shown) (step : WorldStep) (d : Name) (entry copy : Entry) (place end : ℕ)
    → IsFoundIn shown step d entry (Some (place, end)) → copy ≡ entry
    → now ≡ record shown { histories = with_entry place (offset_from end, copy) shown.histories } → IsMadeIn shown step now true
unfolding IsFoundIn IsMadeIn
entry_made shown now step d entry copy place end h same is = λ w shows.
    let found = h w shows in
    let r : Recorded = found.recorded in
    let a : Appends w shown d copy place end r = subst (λ (e : Entry). Appends w shown d e place end r) (sym same) found.appends in
    has_stepped w step (by d (append r)) now found.asked a.allowed
    (subst (Shows (happens w (by d (append r)))) (sym is) (shows_entry w shown d place a.log r end copy shows a.stands a.allowed a.is a.ends))

-- ---- puts

pub put_found : (shown : Shown) (d : Name) (place : ℕ) (log : Log) (m : Message) (may : Bool) → StandsAt d shown.histories place log → TellsPut d log m may
    → TellsPutIn shown d m may
unfolding TellsPut TellsPutIn
put_found shown d place log m true at h = λ w shows.
    let may : MayPut d (history w d) m = (h (history w d) (lawful_log w shown d place log shows at)).0 refl in
    (may.spelled, (named_at w shown d place log shows at, may.is_true))
put_found shown d place log m false at h = λ w shows. record {
  none = λ act a allowed.
      let step : IsStep w (by d (put m)) = subst (IsStep w) a.0 allowed in
      let never : false ≡ true = (h (history w d) (lawful_log w shown d place log shows at)).1 (record { spelled = a.1; is_true = step.1 }) in absurd (cc);
}

pub some_put : (shown : Shown) (d : Name) (m copy : Message) (may : Bool) → IsShown shown → TellsPutIn shown d m may → may ≡ true → copy ≡ m → IsPutDue shown d copy
unfolding TellsPutIn
some_put shown d m copy false s h never same = absurd (cc)
some_put shown d m copy true s h surely same = record {
  world = s.world;
  shows = s.shows;
  allowed = subst (λ (x : Message). IsStep s.world (by d (put x))) (sym same) (h s.world s.shows).1;
}

pub put_shown : (shown : Shown) (d : Name) (m : Message) → IsPutDue shown d m → IsShown (record shown { messages = shown.messages ++ m ∷ [] })
put_shown shown d m p = record { world = happens p.world (by d (put m)); shows = shows_message p.world shown d m p.shows p.allowed }

pub no_put : (shown now : Shown) (d : Name) (m : Message) (may : Bool) → TellsPutIn shown d m may → may ≡ false → IsMadeIn shown (asked.Put d m) now false
unfolding TellsPutIn IsMadeIn
no_put shown now d m true h never = absurd (cc)
no_put shown now d m false h never = h

pub put_made : (shown now : Shown) (d : Name) (m copy : Message) (may : Bool) → TellsPutIn shown d m may → may ≡ true → copy ≡ m
    → now ≡ record shown { messages = shown.messages ++ copy ∷ [] } → IsMadeIn shown (asked.Put d m) now true
unfolding TellsPutIn IsMadeIn
put_made shown now d m copy false h never same is = absurd (cc)
put_made shown now d m copy true h surely same is = λ w shows.
    let allowed = h w shows in
    let all : now ≡ record shown { messages = shown.messages ++ m ∷ [] } = is ∙ ap (λ (x : Message). record shown { messages = shown.messages ++ x ∷ [] }) same in
    has_stepped w (asked.Put d m) (by d (put m)) now (refl, allowed.0) allowed.1
    (subst (Shows (happens w (by d (put m)))) (sym all) (shows_message w shown d m shows allowed.1))

-- ---- crashes

pub crash_made : (shown : Shown) (d : Name) (place : ℕ) (log : Log) → StandsAt d shown.histories place log → IsMadeIn shown (asked.Crash d) shown true
unfolding IsMadeIn
crash_made shown d place log at = λ w shows.
    let allowed : IsStep w (by d crash) = (named_at w shown d place log shows at, tt) in
    has_stepped w (asked.Crash d) (by d crash) shown refl allowed (shows_crash w shown d shows allowed)

-- ---- what was made

pub was_made : (shown now : Shown) (step : WorldStep) (made : Bool) → IsMadeIn shown step now made → made ≡ true → (w : World Recorded) → Shows w shown → HasStepped w step now
unfolding IsMadeIn
was_made shown now step false h never = absurd (cc)
was_made shown now step true h surely = h

pub was_refused : (shown now : Shown) (step : WorldStep) (made : Bool) → IsMadeIn shown step now made → made ≡ false → (w : World Recorded) → Shows w shown → IsNoStep w step
unfolding IsMadeIn
was_refused shown now step true h never = absurd (cc)
was_refused shown now step false h never = h
