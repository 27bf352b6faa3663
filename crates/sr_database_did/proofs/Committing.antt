-- One commit, with what it came to.
use Rattle.std.proofs.Common.{◌≡◌, Bool, true, false, List, [], ◌∷◌, ◌++◌, Result, Ok, Err, refl, sym, subst, ◌∙◌, arith}
use Rattle.std.specs.Prelude.{IsTrue, IfErr, OnOk}
use Rattle.sr_base.specs.declared.offset.Offset.{Offset}
use Rattle.sr_book.specs.Entries.{Name}
use Rattle.sr_database.specs.Causes.{IsTooFar, IsTooLong}
use Rattle.sr_database.specs.Commits.{HasRoom}
use Rattle.sr_database.specs.Databases.{IsDatabase}
use Rattle.sr_database.specs.Inner.Causes.{CommitCause, IsBegun, IsSame}
use Rattle.sr_database.specs.Inner.Commits.{CanCommit}
use Rattle.sr_database.proofs.Rooms.{room_at}
use Rattle.sr_database_files.specs.declared.fault.DatabaseFault.{DatabaseFault}
use Rattle.sr_database_files.specs.declared.fault.DatabaseFault.TheVariants.{Missing, Exists, Damaged, Disk, Full, Long, Memory}
use Rattle.sr_database_history.specs.Recorded.{Recorded}
use Rattle.sr_database_meaning.specs.Events.{commit}
use Rattle.sr_database_meaning.specs.Traces.{Went}
use Rattle.sr_logform.specs.declared.entry.Entry.{Entry}
use Rattle.sr_site.specs.Causes.{Stays, DiskStays}
use Rattle.sr_site.specs.Seen.{Seen}
use Rattle.sr_database_did.specs.Inner.Did.{PlaceView, Did, Commits}
use Rattle.sr_database_did.specs.Inner.Effects.{End, full, long, short}
use Rattle.sr_database.specs.Advances.{Advances}
use Rattle.sr_database.specs.InForce.{HasLogInForce}
use Rattle.sr_database_did.proofs.Still.{same_still, still_did, nothing_short}

-- what `commit` says
pub record CommitSays (a b : PlaceView) (entry : Entry) (result : Result Offset DatabaseFault) : Type 0 where
  pub ready : OnOk result ((b.db.log.usable ≡ true) × (b.db.pending ≡ []))
  pub value : (r : Recorded) → CanCommit a.db entry r → OnOk result (Advances a.db b.db (r ∷ []))
  pub in_force : IsTrue a.seen.observable → OnOk result (HasLogInForce b.db b.seen)
  pub database : IsTrue a.seen.observable → (publisher : Name) (es : List Recorded) (r : Recorded) → IsDatabase a.db publisher es a.seen → CanCommit a.db entry r → OnOk result (IsDatabase b.db publisher (es ++ r ∷ []) b.seen)
  pub went : IsTrue a.seen.observable → (publisher : Name) (es : List Recorded) (r : Recorded) → IsDatabase a.db publisher es a.seen → CanCommit a.db entry r → IsBegun result → Went a.seen b.seen publisher es (commit r ∷ [])
  pub room : OnOk result (HasRoom a.db.log entry)
  pub stays : DiskStays a.seen b.seen
  pub steady : OnOk result (b.seen.disk_faults ≡ a.seen.disk_faults)
  pub cause : IfErr result (CommitCause a.db b.db entry a.seen b.seen)

of_disk : (before now : Seen) → DiskStays before now → Stays before now
of_disk before now stays = record { observable = stays.observable; first = stays.first; grows = stays.grows; disk = stays.later; mail = omega (arith, stays.mail_faults) }

spent : (b : Bool) → b ≡ false → b ≡ true → ⊥
spent b one two = let no : true ≡ false = sym two ∙ one in cc

same_place : (a b : PlaceView) (end : End) → IsSame a.db b.db a.seen b.seen → Did a a [] end → Did a b [] end
same_place a b end same did = subst (λ (p : PlaceView). Did a p [] end) (λ i. record { db = sym same.value i; seen = sym same.site i }) did

pub commit_did : (a b : PlaceView) (entry : Entry) (r : Recorded) (result : Result Offset DatabaseFault) → a.db.log.usable ≡ true → CanCommit a.db entry r → CommitSays a b entry result → Commits a b r result
commit_did a b entry r (Ok offset) usable can says = record {
  stays = of_disk a.seen b.seen says.stays;
  state = (says.ready.0, says.steady);
  cause = says.stays.mail_faults;
  pending = λ none. says.ready.1;
  room = (room_at a.db.log entry r a.db.log.end can.is refl says.room, tt);
  value = λ yes. says.value r can;
  in_force = λ told yes has. says.in_force told;
  told = λ told publisher es is. record { database = λ yes. says.database told publisher es r is can; went = says.went told publisher es r is can tt };
  mail = λ told. says.stays.mail;
}
commit_did a b entry r (Err Missing) usable can says = says.cause
commit_did a b entry r (Err Exists) usable can says = says.cause
commit_did a b entry r (Err (Damaged file at)) usable can says = says.cause
commit_did a b entry r (Err Disk) usable can says = record {
  stays = of_disk a.seen b.seen says.stays;
  state = (says.cause.0.spent, says.cause.0.rose);
  cause = says.stays.mail_faults;
  pending = λ none. says.cause.0.pending;
  room = tt;
  value = λ yes. absurd (spent b.db.log.usable says.cause.0.spent yes);
  in_force = λ told yes has. absurd (spent b.db.log.usable says.cause.0.spent yes);
  told = λ told publisher es is. record { database = λ yes. absurd (spent b.db.log.usable says.cause.0.spent yes); went = says.went told publisher es r is can tt };
  mail = λ told. says.stays.mail;
}
commit_did a b entry r (Err (Full end need)) usable can says =
    same_place a b (full r end need) says.cause.1 (still_did a a [] (same_still a usable) [] (full r end need) (subst (λ (e : Entry). IsTooFar a.db.log e end need) (sym can.is) says.cause.0, refl) refl refl refl (λ before. refl))
commit_did a b entry r (Err (Long size limit)) usable can says =
    same_place a b (long r size limit) says.cause.1 (still_did a a [] (same_still a usable) [] (long r size limit) (subst (λ (e : Entry). IsTooLong e size limit) (sym can.is) says.cause.0, refl) refl refl refl (λ before. refl))
commit_did a b entry r (Err Memory) usable can says = same_place a b (short []) says.cause (nothing_short a usable)
