-- What a database may commit by itself.
use Rattle.std.proofs.Common.{◌≡◌, ℕ, ◌+◌, Bool, true, false, length, map, Option, Some, None, refl, sym, ap, subst, ◌∙◌}
use Rattle.sr_book.specs.Entries.{Name, local, from_user, noted}
use Rattle.sr_catalog_schema.specs.Catalogs.{Lists}
use Rattle.sr_database_fold.specs.Inner.Answers.{TellsOne}
use Rattle.sr_database_fold.specs.Inner.Readings.{state_in, FitsAs}
use Rattle.sr_database_history.specs.Folds.{State, next, size, sees, state_of, end_of}
use Rattle.sr_database_history.specs.Recorded.{Recorded, own, taken, ddl, sync, pass, note, done_of, entry_of}
use Rattle.sr_logform.specs.Entries.{entry_spelling}
use Rattle.sr_logform.specs.declared.entry.Entry.{Entry}
use Rattle.sr_rows.specs.Marks.{Marked}
use Rattle.sr_world_steps.specs.Inner.Booked.{end_in}
use Rattle.sr_world_steps.specs.Inner.Commits.{CommitEnds, CommitEndsIn}
use Rattle.sr_world_entries.specs.Inner.Ends.{HasRoom, IsEndOf, IsLocal}
use Rattle.sr_world_steps.specs.Inner.Places.{Log}
use Rattle.sr_world_entries.specs.Inner.Saying.{TellsSo}
use Rattle.sr_world_steps.specs.Inner.Standings.{StandsBehind}
use Rattle.sr_world_entries.proofs.Roomy.{has_room}
use Rattle.sr_world_steps.proofs.Logged.{log_ends}

-- ---- kinds

local_is : (r : Recorded) → sees r ≡ local → IsLocal (entry_of r)
local_is (own changes) e = tt
local_is (taken user at dones) e = let never : from_user user at.0 (map (λ d. (done_of d).0) dones) ≡ local = e in absurd (cc)
local_is (ddl statement) e = tt
local_is (sync user tables) e = tt
local_is (pass users only statement changes) e = tt
local_is (note user what) e = let never : noted user what ≡ local = e in absurd (cc)

is_local : (r : Recorded) → IsLocal (entry_of r) → sees r ≡ local
is_local (own changes) l = refl
is_local (taken user at dones) l = absurd l
is_local (ddl statement) l = refl
is_local (sync user tables) l = refl
is_local (pass users only statement changes) l = refl
is_local (note user what) l = absurd l

pub not_local : (d : Name) (log : Log) (entry : Entry) → ¬ (IsLocal entry)
    → CommitEnds d log entry None
unfolding CommitEnds CommitEndsIn
not_local d log entry not = λ rs g r may. not (subst IsLocal may.is (local_is r may.own))

-- ---- why it may not be committed

pub no_room : (s : State) (place : ℕ) (entry : Entry) → IsEndOf place entry None → CommitEndsIn s place entry None
unfolding CommitEndsIn IsEndOf
no_room s place entry never = λ r may. never (has_room s place r entry may.lawful.stored may.is)

pub not_so : (s : State) (place : ℕ) (entry : Entry) (so : Bool) → TellsSo s entry so → so ≡ false → CommitEndsIn s place entry None
unfolding CommitEndsIn TellsSo
not_so s place entry so tells never = λ r may.
    let surely : so ≡ true = (tells r may.lawful.stored.meant may.is).1 may.lawful.says_so in absurd (cc)

pub unfit : (s after : State) (place : ℕ) (entry : Entry) (fits : Bool) → TellsOne (FitsAs s entry) (next s) after fits → fits ≡ false → CommitEndsIn s place entry None
unfolding CommitEndsIn
unfit s after place entry true tells never = absurd (cc)
unfit s after place entry false tells never = λ r may.
    tells r (record { is = may.is; meant = may.lawful.stored.meant; fits = may.lawful.stored.state })

-- ---- and that it may

pub fit : (s after : State) (place end : ℕ) (entry : Entry) (so fits : Bool) → IsLocal entry → IsEndOf place entry (Some end) → TellsSo s entry so → so ≡ true
    → TellsOne (FitsAs s entry) (next s) after fits → fits ≡ true → CommitEndsIn s place entry (Some end)
unfolding size CommitEndsIn IsEndOf TellsSo
fit s after place end entry so false l room tells surely one is = absurd (cc)
fit s after place end entry so true l room tells surely one is =
    let r : Recorded = one.0 in
    let its : FitsAs s entry r = one.1 in
    let here : HasRoom place (entry_of r) = subst (HasRoom place) (sym its.is) room.0 in (
      r,
      record {
        is = its.is;
        own = is_local r (subst IsLocal (sym its.is) l);
        lawful = record {
          stored = record { meant = its.meant; spelled = here.spelled; short = here.short; ends = here.ends; state = its.fits };
          says_so = (tells r its.meant its.is).0 surely;
        };
      },
      room.1 ∙ ap (λ (e : Entry). place + (length (entry_spelling e) + 5)) (sym its.is),
    )

pub commit_ends : (d : Name) (log : Log) (catalog : Lists) (rows : Marked) (place : ℕ) (entry : Entry) (end : Option ℕ) → StandsBehind d log catalog rows
    → place ≡ end_in 0 log → CommitEndsIn (state_in catalog rows) place entry end → CommitEnds d log entry end
unfolding CommitEnds
commit_ends d log catalog rows place entry end behind at one = λ rs g.
    let here : place ≡ end_of rs = at ∙ log_ends d rs log g in
    subst (λ (k : ℕ). CommitEndsIn (state_of d rs) k entry end) here (subst (λ (s : State). CommitEndsIn s place entry end) (behind.state rs g) one)
