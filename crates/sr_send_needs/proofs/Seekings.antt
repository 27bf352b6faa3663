-- The least need sought, one user after the other.
use Rattle.std.proofs.Common.{◌≡◌, ℕ, ◌≤◌, Bool, true, false, cond, List, [], ◌∷◌, ◌++◌, length, Some, IsSome, Result, Ok, Err, bytes_eq, refl, sym, ap, subst, ◌∙◌, arith, append_assoc}
use Rattle.std.specs.Prelude.{IsTrue, IfOk, map, max, min}
use Rattle.std.specs.List.{AllByRecursion}
use Rattle.std.proofs.lemmas.Slice.Eq.{bytes_eq-Decides}
use Rattle.sr_base.specs.declared.offset.Offset.{Offset}
use Rattle.sr_book.specs.Entries.{Name}
use Rattle.sr_book.specs.declared.book.Book.{Book}
use Rattle.sr_catalog_schema.specs.Catalogs.{Lists}
use Rattle.sr_catalog_schema.specs.Members.{user_name}
use Rattle.sr_catalog_schema.specs.Names.{named}
use Rattle.sr_catalog_schema.specs.declared.user.User.{User}
use Rattle.sr_database.specs.Databases.{IsDatabase, IsOf}
use Rattle.sr_database.specs.Inner.Sound.{IsSound}
use Rattle.sr_database.specs.Views.{View}
use Rattle.sr_database_files.specs.Inner.Openings.{ReadAlone}
use Rattle.sr_database_files.specs.declared.fault.DatabaseFault.{DatabaseFault}
use Rattle.sr_database_history.specs.Folds.{fresh, state_of, end_of}
use Rattle.sr_database_history.specs.Recorded.{Recorded}
use Rattle.sr_send_needs.proofs.Followed.{database_on, read_none, read_on, told_then}
use Rattle.sr_send_needs.proofs.Searches.{le-before, passed_over}
use Rattle.sr_send_needs.specs.Inner.Listing.{IsLesser}
use Rattle.sr_send_needs.specs.Inner.Searching.{HasPassed}
use Rattle.sr_scan.specs.Inner.Scanners.{Scan}
use Rattle.sr_send_needs.specs.Inner.Seeking.{AreGranted, ConfirmedButBy, HasConfirmed, SoughtTo, confirmed_by}
use Rattle.sr_send_needs.specs.Inner.Starting.{IsStart, catalog_in}
use Rattle.sr_send_needs.specs.Needs.{end_before, least_from, least_need, need_of}
use Rattle.sr_send_needs.specs.declared.start.Start.{Start}
use Rattle.sr_site.specs.Seen.{Seen}

-- ---- each user of a catalog is granted

found_behind : (before rest : List User) (u : User) → IsSome (named user_name u.name (before ++ u ∷ rest))
found_behind [] rest u = rw ((bytes_eq-Decides u.name u.name).1 refl) refl
found_behind (v ∷ before) rest u = go (bytes_eq u.name v.name) (found_behind before rest u) where
  go : (b : Bool) → IsSome (named user_name u.name (before ++ u ∷ rest)) → IsSome (cond b (Some v) (named user_name u.name (before ++ u ∷ rest)))
  go true later = refl
  go false later = later

each_granted : (all before users : List User) → all ≡ before ++ users → AllByRecursion (λ u. IsSome (named user_name u.name all)) users
each_granted all before [] parts = tt
each_granted all before (u ∷ users) parts = (
  subst (λ (us : List User). IsSome (named user_name u.name us)) (sym parts) (found_behind before users u),
  each_granted all (before ++ u ∷ []) users (parts ∙ sym (append_assoc before (u ∷ []) users)),
)

pub all_granted : (db : View) (users : List User) → users ≡ db.catalog.users → AreGranted db users
all_granted db users is = each_granted db.catalog.users [] users (sym is)

-- ---- what all have confirmed

-- with one user more
pub all_but : (db : View) (at at' : ℕ) (left all : List User) (u : User) (rest : List User) → left ≡ u ∷ rest → at' ≤ at → HasConfirmed db at' u → ConfirmedButBy db at left all → ConfirmedButBy db at' rest all
all_but db at at' left all u rest is less has so least no_more others =
    so least (omega (arith, less, no_more))
    (subst (λ (us : List User). AllByRecursion (HasConfirmed db least) us) (sym is) (record { granted = has.granted; confirmed = omega (arith, no_more, has.confirmed) }, others))

pub none_left : (db : View) (at : ℕ) (left all : List User) → length left ≡ 0 → ConfirmedButBy db at left all → AllByRecursion (HasConfirmed db at) all
none_left db at [] all is so = so at (omega arith) tt
none_left db at (u ∷ left) all is so = absurd (omega (arith, is))

-- what was confirmed up to an offset was up to one before it
pub all_before : (db : View) (at at' : ℕ) (users : List User) → at' ≤ at → AllByRecursion (HasConfirmed db at) users → AllByRecursion (HasConfirmed db at') users
all_before db at at' [] le all = tt
all_before db at at' (u ∷ users) le all = (record { granted = all.0.granted; confirmed = omega (arith, le, all.0.confirmed) }, all_before db at at' users le all.1)

-- ---- one user

-- a scanner may go on from the beginning: nothing before it lies past what he has confirmed
pub begun_for : (db : View) (start : Start) (user : Name) (sent : ℕ) (scan : Scan) (seen : Seen) → IsStart db start seen → start.at.0 ≤ sent → scan.catalog ≡ catalog_in db start.is_now → IsTrue seen.observable
    → (publisher : Name) (es : List Recorded) → IsDatabase db publisher es seen → HasPassed publisher es user sent scan start.at
begun_for db start user sent scan seen starts before catalog told publisher es database =
    let c = starts.there told publisher es database in
    record {
      done = c.done;
      left = c.left;
      parts = c.parts;
      at_is = c.at_is;
      catalog = catalog ∙ c.catalog_is;
      same =
          ap (λ (rs : List Recorded). end_before sent (fresh publisher) 0 rs user) c.parts
          ∙ passed_over sent user (fresh publisher) 0 c.done c.left (omega (arith, c.at_is, before));
    }

-- what is sought past what the book of the value says is what is sought past that of the history
pub need_is : (db : View) (publisher : Name) (es : List Recorded) (user : Name) (sent : ℕ) → IsOf db publisher es → sent ≡ confirmed_by db user
    → end_before sent (fresh publisher) 0 es user ≡ need_of publisher es db.log.base user
need_is db publisher es user sent is sent_is =
    ap (λ (m : ℕ). end_before m (fresh publisher) 0 es user) (sent_is ∙ ap (λ (b : Book). max db.log.base b.confirm_sent) (is.books user))

-- he needs nothing before the beginning
pub limit_is : (db : View) (start : Start) (user : Name) (limit : ℕ) (seen : Seen) → IsStart db start seen → start.at.0 ≤ confirmed_by db user → limit ≤ start.at.0 → IsTrue seen.observable
    → (publisher : Name) (es : List Recorded) → IsDatabase db publisher es seen → limit ≡ min limit (need_of publisher es db.log.base user)
limit_is db start user limit seen starts before le told publisher es database =
    let sent = confirmed_by db user in
    let scan : Scan = record { catalog = catalog_in db start.is_now; user = user } in
    let h = begun_for db start user sent scan seen starts before refl told publisher es database in
    let later = le-before sent user (state_of publisher h.done) (end_of h.done) h.left in
    let is = need_is db publisher es user sent database.is refl in
    omega (arith, le, later, is, h.same, h.at_is)

-- what a search says of the user of a scanner it says of the user for whom that was made
pub lesser_by : (db : View) (scanned user : Name) (sent limit : ℕ) (seen : Seen) (result : Result Offset DatabaseFault) → scanned ≡ user
    → (IsTrue seen.observable → (publisher : Name) (es : List Recorded) → IsDatabase db publisher es seen → IfOk result (λ least. least.0 ≡ min limit (end_before sent (fresh publisher) 0 es scanned))) → IfOk result (IsLesser db user sent limit seen)
lesser_by db scanned user sent limit seen (Ok least) same is = λ told publisher es database.
    is told publisher es database ∙ ap (λ (u : Name). min limit (end_before sent (fresh publisher) 0 es u)) same
lesser_by db scanned user sent limit seen (Err fault) same is = tt

-- it is his need, where the offset is what he has confirmed
pub lesser_is : (db : View) (user : Name) (sent limit : ℕ) (seen : Seen) (result : Result Offset DatabaseFault) → sent ≡ confirmed_by db user → IfOk result (IsLesser db user sent limit seen) → IsTrue seen.observable
    → (publisher : Name) (es : List Recorded) → IsDatabase db publisher es seen → IfOk result (λ least. least.0 ≡ min limit (need_of publisher es db.log.base user))
lesser_is db user sent limit seen (Ok least) sent_is is told publisher es database =
    is told publisher es database ∙ ap (λ (m : ℕ). min limit m) (need_is db publisher es user sent database.is sent_is)
lesser_is db user sent limit seen (Err fault) sent_is is told publisher es database = tt

-- ---- all users

pub seek_start : (db : View) (least : Offset) (users : List User) (seen : Seen) → IsSound db → least.0 ≡ db.log.end → SoughtTo db least users users seen seen
seek_start db least users seen sound least_is = record {
  read = read_none seen;
  steady = refl;
  from_base = omega (arith, least_is, sound.order.order);
  within = omega (arith, least_is);
  least_is = λ told publisher es database.
      let most = least_to_end publisher es db.log.base (map user_name users) in
      let end : db.log.end ≡ end_of es = database.is.end in
      omega (arith, least_is, end, most);
}
  where
    least_to_end : (publisher : Name) (es : List Recorded) (base : ℕ) (users : List Name) → least_from publisher es base users ≤ end_of es
    least_to_end publisher es base [] = omega arith
    least_to_end publisher es base (user ∷ users) = let rest = least_to_end publisher es base users in omega (arith, rest)

pub seek_on : (db : View) (least less : Offset) (left all rest : List User) (u : User) (first before now : Seen) → left ≡ u ∷ rest → SoughtTo db least left all first before → ReadAlone before now → now.disk_faults ≡ before.disk_faults
    → (db.log.base ≤ less.0) × (less.0 ≤ least.0)
    → (IsTrue before.observable → (publisher : Name) (es : List Recorded) → IsDatabase db publisher es before → less.0 ≡ min least.0 (need_of publisher es db.log.base u.name)) → SoughtTo db less rest all first now
seek_on db least less left all rest u first before now parts sought read steady within less_is = record {
  read = read_on first before now sought.read read;
  steady = steady ∙ sought.steady;
  from_base = within.0;
  within = omega (arith, within.1, sought.within);
  least_is = λ told publisher es database.
      let was = sought.least_is told publisher es database in
      let one = less_is (told_then first before sought.read told) publisher es (database_on db publisher es first before sought.read told database) in
      let split : least_from publisher es db.log.base (map user_name left) ≡ min (need_of publisher es db.log.base u.name) (least_from publisher es db.log.base (map user_name rest)) =
      ap (λ (us : List User). least_from publisher es db.log.base (map user_name us)) parts in
      omega (arith, was, one, split);
}

pub seek_end : (db : View) (least : Offset) (left : List User) (first now : Seen) (users : List User) → users ≡ db.catalog.users → length left ≡ 0 → SoughtTo db least left users first now → IsTrue first.observable
    → (publisher : Name) (es : List Recorded) → IsDatabase db publisher es first → least.0 ≡ least_need publisher es db.log.base
seek_end db least [] first now users is none sought told publisher es database =
    let was = sought.least_is told publisher es database in
    let end : db.log.end ≡ end_of es = database.is.end in
    let same : least_from publisher es db.log.base (map user_name users) ≡ least_need publisher es db.log.base =
    ap (λ (us : List User). least_from publisher es db.log.base (map user_name us)) (is ∙ ap (λ (c : Lists). c.users) database.is.catalog) in
    let within = sought.within in
    let it : least.0 ≡ least_from publisher es db.log.base (map user_name users) = omega (arith, was, end, within) in
    it ∙ same
seek_end db least (u ∷ left) first now users is none sought told publisher es database = absurd (omega (arith, none))
