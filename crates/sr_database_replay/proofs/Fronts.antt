-- The entries that bytes begin with, beside all that they spell.
use Rattle.std.proofs.Common.{◌≡◌, ◌⊎◌, inl, inr, ℕ, ◌+◌, ◌≤◌, ◌<◌, ◌^◌, List, [], ◌∷◌, ◌++◌, length, drop, refl, sym, ◌∙◌, ap, subst, arith, append_assoc}
use Rattle.std.proofs.lemmas.List.{append-nil}
use Rattle.sr_database_history.proofs.Joined.{end_from-append, end_from-more, le-end_from}
use Rattle.sr_database_history.specs.Fitting.{stored_from}
use Rattle.sr_database_history.specs.Folds.{State, next, size, end_from}
use Rattle.sr_database_history.specs.Recorded.{Recorded}
use Rattle.sr_database_meaning.proofs.Standing.{are_bodies, bodies_once, body_once}
use Rattle.sr_database_files.proofs.Damaged.{log_whole}
use Rattle.sr_database_meaning.specs.Standing.{body, bodies}
use Rattle.sr_logfile.proofs.Uniqueness.{compared, one_spelling}
use Rattle.sr_logfile.specs.Inner.Heads.{IsClosed}
use Rattle.sr_logfile.specs.Records.{header, open_records, Spells, place_in}
use Rattle.sr_snapshot.specs.Beginnings.{Beginning}
use Rattle.sr_database_replay.proofs.Records.{read_all}
use Rattle.sr_database_replay.specs.Inner.Replays.{HasRead, LacksNext}
use Rattle.sr_database_replay.specs.Inner.Stops.{AreAll, EndsNowhere, IsEndIn}

-- ---- entries in front of others

-- entries begin with these
pub record IsFront (es all : List Recorded) : Type 0 where
  pub rest : List Recorded
  pub is : all ≡ es ++ rest

front_of : (s : State) (place : ℕ) (es all : List Recorded) (more : List (List ℕ)) → stored_from s place es → stored_from s place all → bodies all ≡ bodies es ++ more → IsFront es all
front_of s place [] all more e a same = record { rest = all; is = refl }
front_of s place (x ∷ es) [] more e a same = cc
front_of s place (x ∷ es) (y ∷ all) more e a same =
    let heads : body y ≡ body x = cc in
    let tails : bodies all ≡ bodies es ++ more = cc in
    let is : y ≡ x = body_once y x a.0.meant e.0.meant a.0.spelled e.0.spelled heads in
    let on = front_of (next s x) (place + (size x + 5)) es all more e.1 (subst (λ (z : Recorded). stored_from (next s z) (place + (size z + 5)) all) is a.1) tails in
    record { rest = on.rest; is = λ i. is i ∷ on.is i }

-- of one list, entries that end no later than others are the first of these
pub record Middle (first others done left : List Recorded) : Type 0 where
  pub more : List Recorded
  pub done_is : done ≡ first ++ more
  pub others_are : others ≡ more ++ left

pub parted : (place : ℕ) (first others done left : List Recorded) → first ++ others ≡ done ++ left → end_from place first ≤ end_from place done → Middle first others done left
parted place [] others done left same order = record { more = done; done_is = refl; others_are = same }
parted place (x ∷ first) others [] left same order = absurd (omega (arith, order, le-end_from (place + (size x + 5)) first))
parted place (x ∷ first) others (y ∷ done) left same order =
    let heads : x ≡ y = cc in
    let tails : first ++ others ≡ done ++ left = cc in
    let rest = parted (place + (size y + 5)) first others done left tails (subst (λ (r : Recorded). end_from (place + (size r + 5)) first ≤ end_from (place + (size y + 5)) done) heads order) in
    record { more = rest.more; done_is = λ i. sym heads i ∷ rest.done_is i; others_are = rest.others_are }

-- the front of entries ends in front of their end
pub ends_before : (place : ℕ) (all done left : List Recorded) → all ≡ done ++ left → end_from place done ≤ end_from place all
ends_before place all done left is =
    let whole : end_from place all ≡ end_from (end_from place done) left = ap (end_from place) is ∙ end_from-append place done left in
    omega (arith, whole, le-end_from (end_from place done) left)

-- ---- bytes that begin with entries, and spell all

module _ (b : Beginning) (bytes : List ℕ) (all : List Recorded) (all_stored : stored_from b.state b.place all) (spells : Spells b.place (bodies all) bytes) where
  limit : b.place ≤ 2 ^ 62
  limit = omega (arith, spells.limit)

  module _ (es : List Recorded) (stored : stored_from b.state b.place es) where
    -- behind these stands a byte
    front_at : (rest : List ℕ) → bytes ≡ (header b.place ++ open_records (bodies es)) ++ rest → 0 < length rest → IsFront es all
    front_at [] is some = absurd (omega (arith, some))
    front_at (gate ∷ rest) is some =
        let both = compared b.place b.place (bodies es) (bodies all) gate spells.gate rest spells.rest bytes (are_bodies b.state b.place es stored) (are_bodies b.state b.place all all_stored) limit limit is spells.bytes_are in
        elim both.1 [
          | inl same ↦ front_of b.state b.place es all [] stored all_stored (sym same.0 ∙ sym (append-nil (bodies es)))
          | inr (inl longer) ↦ front_of b.state b.place es all (longer.body ∷ longer.more) stored all_stored longer.is
          | inr (inr longer) ↦ absurd (spells.closed longer.open_gate)
        ]

    pub read_front : (position : ℕ) → HasRead b.place es position bytes → IsFront es all
    read_front position read = front_at (drop (place_in b.place position) bytes) read.prefix read.some

  -- none of them is lacking
  pub never_lacks : (place : ℕ) → LacksNext b bytes place → ⊥
  never_lacks place d =
      log_whole b bytes all place all_stored spells
      (inr (inr (inr (record { all = bodies all; spells = spells; es = d.es; rest = d.rest; bytes_are = d.bytes_are; place_is = d.place_is; stored = d.stored; broken = d.broken }))))

-- behind a closed gate there are no more
pub all_closed : (b : Beginning) (es : List Recorded) (position : ℕ) (bytes : List ℕ) → b.place ≤ 2 ^ 62 → stored_from b.state b.place es → HasRead b.place es position bytes → IsClosed (drop (place_in b.place position) bytes) → AreAll b es bytes
all_closed b es position bytes limit stored read closed all all_stored spells =
    bodies_once b.state b.place all es all_stored stored (one_spelling bytes b.place b.place (bodies all) (bodies es) spells (read_all b es position bytes limit stored read closed)).1

-- ---- an offset that parts no entries

-- all entries but the last end before an offset
pub record EndsPast (place : ℕ) (es : List Recorded) (keep : ℕ) : Type 0 where
  pub front : List Recorded
  pub r : Recorded
  pub is : es ≡ front ++ r ∷ []
  pub short : end_from place front < keep

-- or there are none
abbrev pub IsNear : ℕ → List Recorded → ℕ → Type 0
IsNear place es keep = (es ≡ []) ⊎ EndsPast place es keep

-- entries that are all end before it
pub all_before : (b : Beginning) (es : List Recorded) (keep : ℕ) (bytes : List ℕ) → end_from b.place es < keep → AreAll b es bytes → EndsNowhere b keep bytes
all_before b es keep bytes short are all all_stored spells ends =
    let same_end : end_from b.place all ≡ end_from b.place es = ap (end_from b.place) (are all all_stored spells) in
    omega (arith, short, ends.keep_is, ends_before b.place all ends.done ends.left ends.parts, same_end)

-- the last of those that were read ends past it, and the one before did not come to it
module _ (b : Beginning) (es : List Recorded) (keep : ℕ) (near : EndsPast b.place es keep) (past : keep < end_from b.place es) (all : List Recorded) (front : IsFront es all) (ends : IsEndIn b.place all keep) where
  same : near.front ++ (near.r ∷ front.rest) ≡ ends.done ++ ends.left
  same = sym (append_assoc near.front (near.r ∷ []) front.rest) ∙ ap (λ (l : List Recorded). l ++ front.rest) (sym near.is) ∙ sym front.is ∙ ends.parts

  no_end : (more : List Recorded) → ends.done ≡ near.front ++ more → near.r ∷ front.rest ≡ more ++ ends.left → ⊥
  no_end [] done_is others =
      let same_end : end_from b.place ends.done ≡ end_from b.place near.front = ap (end_from b.place) (done_is ∙ append-nil near.front) in
      omega (arith, near.short, ends.keep_is, same_end)
  no_end (q ∷ ms) done_is others =
      let heads : near.r ≡ q = cc in
      let here : end_from b.place es ≡ end_from b.place near.front + (size near.r + 5) = ap (end_from b.place) near.is ∙ end_from-more b.place near.front near.r in
      let there : end_from b.place ends.done ≡ end_from (end_from b.place near.front + (size q + 5)) ms = ap (end_from b.place) done_is ∙ end_from-append b.place near.front (q ∷ ms) in
      omega (arith, past, ends.keep_is, here, there, le-end_from (end_from b.place near.front + (size q + 5)) ms, ap size heads)

  never_there : ⊥
  never_there =
      let order : end_from b.place near.front ≤ end_from b.place ends.done = omega (arith, near.short, ends.keep_is) in
      let m = parted b.place near.front (near.r ∷ front.rest) ends.done ends.left same order in
      no_end m.more m.done_is m.others_are

pub passed_nowhere : (b : Beginning) (es : List Recorded) (position keep : ℕ) (bytes : List ℕ) → b.place ≤ keep → keep < position → position ≡ end_from b.place es → stored_from b.state b.place es → HasRead b.place es position bytes → IsNear b.place es keep
    → EndsNowhere b keep bytes
passed_nowhere b es position keep bytes from past at stored read (inl none) all all_stored spells ends =
    let start : end_from b.place es ≡ b.place = ap (end_from b.place) none in
    omega (arith, from, past, at, start)
passed_nowhere b es position keep bytes from past at stored read (inr near) all all_stored spells ends =
    never_there b es keep near (let later : keep < end_from b.place es = omega (arith, past, at) in later) all (read_front b bytes all all_stored spells es stored position read) ends
