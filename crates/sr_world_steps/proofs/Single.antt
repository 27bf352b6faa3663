-- One world is shown.
use Rattle.std.proofs.Common.{◌≡◌, ℕ, ◌+◌, Bool, true, List, [], ◌∷◌, map, refl, sym, ap, subst, ◌∙◌, inl, inr}
use Rattle.std.specs.Prelude.{if◌then◌else◌}
use Rattle.std.specs.Str.{bytes_eq}
use Rattle.std.specs.List.{AllByRecursion}
use Rattle.std.proofs.lemmas.Slice.Eq.{bytes_eq-Decides}
use Rattle.sr_base.specs.Values.{offset_from}
use Rattle.sr_base.specs.declared.offset.Offset.{Offset}
use Rattle.sr_book.specs.Entries.{Name}
use Rattle.sr_book.proofs.Folds.{name_test}
use Rattle.sr_database_history.specs.Fitting.{stored_from}
use Rattle.sr_database_history.specs.Folds.{State, fresh, next, size}
use Rattle.sr_database_history.specs.Recorded.{Recorded, entry_of, IsRecorded}
use Rattle.sr_database_history.proofs.Once.{entry_once}
use Rattle.sr_logform.specs.Rules.{AreDistinct}
use Rattle.sr_logform.specs.declared.entry.Entry.{Entry}
use Rattle.sr_world.proofs.Keeping.{stored_of}
use Rattle.sr_world_model.specs.Worlds.{World, history, history_in}
use Rattle.sr_world_steps.specs.Inner.Logs.{logged_from}
use Rattle.sr_world_steps.specs.Inner.Places.{History}
use Rattle.sr_world_steps.specs.Inner.Shown.{Shown, Shows, logged, names_of}

recorded_from : (s : State) (place : ℕ) (rs : List Recorded) → stored_from s place rs → AllByRecursion IsRecorded rs
recorded_from s place [] stored = tt
recorded_from s place (r ∷ rs) stored = (stored.0.meant, recorded_from (next s r) (place + (size r + 5)) rs stored.1)

-- the entries of a log are those of one history
same_entries : (place other : ℕ) (rs qs : List Recorded) → AllByRecursion IsRecorded rs → AllByRecursion IsRecorded qs → logged_from place rs ≡ logged_from other qs → rs ≡ qs
same_entries place other [] [] a b e = refl
same_entries place other [] (q ∷ qs) a b e =
    let never : [] ≡ (offset_from (other + (size q + 5)), entry_of q) ∷ logged_from (other + (size q + 5)) qs = e in absurd (cc)
same_entries place other (r ∷ rs) [] a b e =
    let never : (offset_from (place + (size r + 5)), entry_of r) ∷ logged_from (place + (size r + 5)) rs ≡ [] = e in absurd (cc)
same_entries place other (r ∷ rs) (q ∷ qs) a b e =
    let cons : (offset_from (place + (size r + 5)), entry_of r) ∷ logged_from (place + (size r + 5)) rs
    ≡ (offset_from (other + (size q + 5)), entry_of q) ∷ logged_from (other + (size q + 5)) qs = e in
    let one : (offset_from (place + (size r + 5)), entry_of r) ≡ (offset_from (other + (size q + 5)), entry_of q) = cc in
    let rest : logged_from (place + (size r + 5)) rs ≡ logged_from (other + (size q + 5)) qs = cc in
    let same : r ≡ q = entry_once r q a.0 b.0 (ap (λ (p : Offset × Entry). p.1) one) in
    let more : rs ≡ qs = same_entries (place + (size r + 5)) (other + (size q + 5)) rs qs a.1 b.1 rest in
    λ i. same i ∷ more i

-- a name that is not there has no entry
no_history : (hs : List (Name × List Recorded)) (d : Name) → AllByRecursion (λ other. ¬ (d ≡ other)) (map (λ h. h.0) hs) → history_in d hs ≡ []
no_history [] d none = refl
no_history (h ∷ hs) d none = elim (name_test d h.0) [
  | inl t ↦ absurd (none.0 t.1)
  | inr t ↦ rw t (no_history hs d none.1)
]

-- where no name stands twice, each history is that of its name
each_recorded : (hs : List (Name × List Recorded)) → AreDistinct (map (λ h. h.0) hs) → ((d : Name) → AllByRecursion IsRecorded (history_in d hs))
    → AllByRecursion (λ h. AllByRecursion IsRecorded h.1) hs
each_recorded [] distinct all = tt
each_recorded (h ∷ hs) distinct all =
    let test : bytes_eq h.0 h.0 ≡ true = (bytes_eq-Decides h.0 h.0).1 refl in
    let first : AllByRecursion IsRecorded h.1 = subst (λ (b : Bool). AllByRecursion IsRecorded (if b then h.1 else history_in h.0 hs)) test (all h.0) in (
      first,
      each_recorded hs distinct.1 (λ d. elim (name_test d h.0) [
        | inl t ↦ subst (AllByRecursion IsRecorded) (sym (ap (λ (n : Name). history_in n hs) t.1 ∙ no_history hs h.0 distinct.0)) tt
        | inr t ↦ subst (λ (b : Bool). AllByRecursion IsRecorded (if b then h.1 else history_in d hs)) t (all d)
      ]),
    )

same_histories : (hs ks : List (Name × List Recorded)) → AllByRecursion (λ h. AllByRecursion IsRecorded h.1) hs → AllByRecursion (λ h. AllByRecursion IsRecorded h.1) ks
    → map logged hs ≡ map logged ks → hs ≡ ks
same_histories [] [] a b e = refl
same_histories [] (k ∷ ks) a b e = let never : [] ≡ logged k ∷ map logged ks = e in absurd (cc)
same_histories (h ∷ hs) [] a b e = let never : logged h ∷ map logged hs ≡ [] = e in absurd (cc)
same_histories (h ∷ hs) (k ∷ ks) a b e =
    let cons : logged h ∷ map logged hs ≡ logged k ∷ map logged ks = e in
    let one : logged h ≡ logged k = cc in
    let rest : map logged hs ≡ map logged ks = cc in
    let name : h.0 ≡ k.0 = ap (λ (p : History). p.0) one in
    let entries : h.1 ≡ k.1 = same_entries 0 0 h.1 k.1 a.0 b.0 (ap (λ (p : History). p.1) one) in
    let more : hs ≡ ks = same_histories hs ks a.1 b.1 rest in
    λ i. (name i, entries i) ∷ more i

names_are : (hs : List (Name × List Recorded)) → map (λ (h : History). h.0) (map logged hs) ≡ map (λ (h : Name × List Recorded). h.0) hs
names_are [] = refl
names_are (h ∷ hs) = ap (λ (names : List Name). h.0 ∷ names) (names_are hs)

all_recorded : (w : World Recorded) (shown : Shown) → AreDistinct (names_of shown) → Shows w shown → AllByRecursion (λ h. AllByRecursion IsRecorded h.1) w.histories
all_recorded w shown distinct shows =
    each_recorded w.histories
    (subst AreDistinct (ap (λ (hs : List History). map (λ (h : History). h.0) hs) (sym shows.histories) ∙ names_are w.histories) distinct)
    (λ d. recorded_from (fresh d) 0 (history w d) (stored_of d (history w d) (shows.good.are_lawful d)))

pub one_world : (w v : World Recorded) (shown : Shown) → AreDistinct (names_of shown) → Shows w shown → Shows v shown → w ≡ v
one_world w v shown distinct a b =
    let histories : w.histories ≡ v.histories =
    same_histories w.histories v.histories (all_recorded w shown distinct a) (all_recorded v shown distinct b) (a.histories ∙ sym b.histories) in
    let messages : w.messages ≡ v.messages = a.messages ∙ sym b.messages in
    λ i. record { histories = histories i; messages = messages i }
