-- Steps of a world, on what is shown of it.
use Rattle.std.proofs.Common.{◌≡◌, ℕ, zero, suc, ◌+◌, ◌<◌, Bool, true, List, [], ◌∷◌, ◌++◌, map, length, get_or, Contains, refl, sym, ap, subst, ◌∙◌, inl, inr, arith}
use Rattle.std.specs.Prelude.{if◌then◌else◌}
use Rattle.std.specs.Str.{bytes_eq}
use Rattle.std.proofs.lemmas.List.Elements.{Contains-append_right}
use Rattle.std.proofs.lemmas.Slice.Eq.{bytes_eq-Decides}
use Rattle.sr_base.specs.declared.offset.Offset.{Offset}
use Rattle.sr_base.specs.Values.{offset_from}
use Rattle.sr_book.specs.Entries.{Name}
use Rattle.sr_book.proofs.Folds.{name_test}
use Rattle.sr_database_history.specs.Folds.{size, end_from, end_of}
use Rattle.sr_database_history.specs.Recorded.{Recorded, entry_of}
use Rattle.sr_logform.specs.declared.entry.Entry.{Entry}
use Rattle.sr_msgform.specs.declared.message.Message.{Message}
use Rattle.sr_world.specs.Inner.Real.{IsStep}
use Rattle.sr_world.specs.Real.{layers, HasSpelling, LawfulHistory}
use Rattle.sr_world.proofs.Keeping.{real_laws, stored_of}
use Rattle.sr_world_model.specs.Steps.{DatabaseStep, append, put, crash, history_after}
use Rattle.sr_world_model.specs.Worlds.{World, WorldStep as Act, history_in, history, histories_after, happens, fresh_world, IsNamed}
use Rattle.sr_world_model.proofs.Good.{stays, fresh}
use Rattle.sr_world_untouched.proofs.All.{keys_agree}
use Rattle.sr_world_steps.specs.declared.step.WorldStep.{WorldStep}
use Rattle.sr_world_steps.specs.Inner.Acts.{by, IsAsked, HasStepped}
use Rattle.sr_world_steps.specs.Inner.Logs.{IsLog, logged_from}
use Rattle.sr_world_steps.specs.Inner.Places.{Log, History, NoneIs, StandsAt, with_entry}
use Rattle.sr_world_steps.specs.Inner.Shown.{Shown, Shows, IsShown, logged}

-- a name is itself
same_name : (a : Name) → bytes_eq a a ≡ true
same_name a = (bytes_eq-Decides a a).1 refl

-- ---- finding

-- the first database of a name has the history of that name
its_history : (hs : List (Name × List Recorded)) (before behind : List History) (d : Name) (log : Log) → map logged hs ≡ before ++ (d, log) ∷ behind → NoneIs d before
    → (logged_from 0 (history_in d hs) ≡ log) × Contains (map (λ h. h.0) hs) d
its_history [] [] behind d log e none = let never : [] ≡ (d, log) ∷ behind = e in absurd (cc)
its_history [] (b ∷ before) behind d log e none = let never : [] ≡ b ∷ (before ++ (d, log) ∷ behind) = e in absurd (cc)
its_history (h ∷ hs) [] behind d log e none =
    let cons : logged h ∷ map logged hs ≡ (d, log) ∷ behind = e in
    let one : logged h ≡ (d, log) = cc in
    let name : h.0 ≡ d = ap (λ (p : History). p.0) one in
    let test : bytes_eq d h.0 ≡ true = subst (λ (n : Name). bytes_eq d n ≡ true) (sym name) (same_name d) in
    (rw test (ap (λ (p : History). p.1) one), (0, omega arith, name))
its_history (h ∷ hs) (b ∷ before) behind d log e none =
    let cons : logged h ∷ map logged hs ≡ b ∷ (before ++ (d, log) ∷ behind) = e in
    let one : logged h ≡ b = cc in
    let rest : map logged hs ≡ before ++ (d, log) ∷ behind = cc in
    let more = its_history hs before behind d log rest none.1 in
    let other : h.0 ≡ d → ⊥ = λ same. none.0 (sym (ap (λ (p : History). p.0) one) ∙ same) in
    elim (name_test d h.0) [
      | inl t ↦ absurd (other (sym t.1))
      | inr t ↦ (rw t more.0, Contains-append_right (h.0 ∷ []) (map (λ (x : Name × List Recorded). x.0) hs) d more.1)
    ]

none_at : (hs : List (Name × List Recorded)) (d : Name) (k : ℕ) → NoneIs d (map logged hs) → k < length (map (λ h. h.0) hs) → get_or (map (λ h. h.0) hs) k d ≡ d → ⊥
none_at [] d k none within is = absurd (omega (arith, within))
none_at (h ∷ hs) d zero none within is = none.0 is
none_at (h ∷ hs) d (suc k) none within is = none_at hs d k none.1 (omega (arith, within)) is

pub not_named : (w : World Recorded) (shown : Shown) (d : Name) → Shows w shown → NoneIs d shown.histories → ¬ (IsNamed w d)
not_named w shown d shows none named =
    none_at w.histories d named.0 (subst (NoneIs d) (sym shows.histories) none) named.1 named.2

pub named_at : (w : World Recorded) (shown : Shown) (d : Name) (place : ℕ) (log : Log) → Shows w shown → StandsAt d shown.histories place log → IsNamed w d
named_at w shown d place log shows at = (its_history w.histories at.before at.behind d log (shows.histories ∙ at.parts) at.others).1

pub log_of : (w : World Recorded) (shown : Shown) (d : Name) (place : ℕ) (log : Log) → Shows w shown → StandsAt d shown.histories place log → IsLog d (history w d) log
log_of w shown d place log shows at = record {
  stored = stored_of d (history w d) (shows.good.are_lawful d);
  logged = (its_history w.histories at.before at.behind d log (shows.histories ∙ at.parts) at.others).0;
}

-- ---- a step of an entry

logged_from-more : (place : ℕ) (rs : List Recorded) (r : Recorded)
    → logged_from place (rs ++ r ∷ []) ≡ logged_from place rs ++ (offset_from (end_from place rs + (size r + 5)), entry_of r) ∷ []
logged_from-more place [] r = refl
logged_from-more place (x ∷ rs) r = ap (λ (l : Log). (offset_from (place + (size x + 5)), entry_of x) ∷ l) (logged_from-more (place + (size x + 5)) rs r)

with_at : (before behind : List History) (d : Name) (log : Log) (item : Offset × Entry)
    → with_entry (length before) item (before ++ (d, log) ∷ behind) ≡ before ++ (d, log ++ item ∷ []) ∷ behind
with_at [] behind d log item = refl
with_at (b ∷ before) behind d log item = ap (λ (l : List History). b ∷ l) (with_at before behind d log item)

shown_more : (hs : List (Name × List Recorded)) (before behind : List History) (d : Name) (log : Log) (r : Recorded) (mine : List Recorded)
    → map logged hs ≡ before ++ (d, log) ∷ behind → NoneIs d before → history_in d hs ≡ mine
    → map logged (histories_after hs d (append r)) ≡ before ++ (d, log ++ (offset_from (end_from 0 mine + (size r + 5)), entry_of r) ∷ []) ∷ behind
shown_more [] [] behind d log r mine e none is = let never : [] ≡ (d, log) ∷ behind = e in absurd (cc)
shown_more [] (b ∷ before) behind d log r mine e none is = let never : [] ≡ b ∷ (before ++ (d, log) ∷ behind) = e in absurd (cc)
shown_more (h ∷ hs) [] behind d log r mine e none is =
    let cons : logged h ∷ map logged hs ≡ (d, log) ∷ behind = e in
    let one : logged h ≡ (d, log) = cc in
    let rest : map logged hs ≡ behind = cc in
    let name : h.0 ≡ d = ap (λ (p : History). p.0) one in
    let logs : logged_from 0 h.1 ≡ log = ap (λ (p : History). p.1) one in
    let test : bytes_eq d h.0 ≡ true = subst (λ (n : Name). bytes_eq d n ≡ true) (sym name) (same_name d) in
    let own : h.1 ≡ mine = subst (λ (b : Bool). (if b then h.1 else history_in d hs) ≡ mine) test is in
    let item : Offset × Entry = (offset_from (end_from 0 mine + (size r + 5)), entry_of r) in
    let more : logged_from 0 (h.1 ++ r ∷ []) ≡ log ++ item ∷ [] =
    logged_from-more 0 h.1 r ∙ (λ i. logs i ++ (offset_from (end_from 0 (own i) + (size r + 5)), entry_of r) ∷ []) in
    rw test (λ i. (name i, more i) ∷ rest i)
shown_more (h ∷ hs) (b ∷ before) behind d log r mine e none is =
    let cons : logged h ∷ map logged hs ≡ b ∷ (before ++ (d, log) ∷ behind) = e in
    let one : logged h ≡ b = cc in
    let rest : map logged hs ≡ before ++ (d, log) ∷ behind = cc in
    let other : h.0 ≡ d → ⊥ = λ same. none.0 (sym (ap (λ (p : History). p.0) one) ∙ same) in
    elim (name_test d h.0) [
      | inl t ↦ absurd (other (sym t.1))
      | inr t ↦
          let own : history_in d hs ≡ mine = subst (λ (b : Bool). (if b then h.1 else history_in d hs) ≡ mine) t is in
          let more = shown_more hs before behind d log r mine rest none.1 own in
          rw t (λ i. one i ∷ more i)
    ]

-- the world behind an entry is shown with the entry in its log
pub shows_entry : (w : World Recorded) (shown : Shown) (d : Name) (place : ℕ) (log : Log) (r : Recorded) (end : ℕ) (entry : Entry) → Shows w shown
    → StandsAt d shown.histories place log → IsStep w (by d (append r)) → entry_of r ≡ entry → end ≡ end_of (history w d) + (size r + 5)
    → Shows (happens w (by d (append r))) (record shown { histories = with_entry place (offset_from end, entry) shown.histories })
shows_entry w shown d place log r end entry shows at allowed is ends =
    let now = shown_more w.histories at.before at.behind d log r (history w d) (shows.histories ∙ at.parts) at.others refl in
    let item : (offset_from (end_of (history w d) + (size r + 5)), entry_of r) ≡ (offset_from end, entry) =
    ap (λ (n : ℕ). (offset_from n, entry_of r)) (sym ends) ∙ ap (λ (e : Entry). (offset_from end, e)) is in
    let there : with_entry place (offset_from end, entry) shown.histories ≡ at.before ++ (d, log ++ (offset_from end, entry) ∷ []) ∷ at.behind =
    ap (λ (k : ℕ). with_entry k (offset_from end, entry) shown.histories) (sym at.count)
    ∙ ap (with_entry (length at.before) (offset_from end, entry)) at.parts
    ∙ with_at at.before at.behind d log (offset_from end, entry) in
    record {
      histories = now ∙ ap (λ (x : Offset × Entry). at.before ++ (d, log ++ x ∷ []) ∷ at.behind) item ∙ sym there;
      messages = shows.messages;
      good = stays layers HasSpelling LawfulHistory real_laws w (by d (append r)) shows.good allowed;
    }

-- ---- a message put, and a crash

same_histories : (hs : List (Name × List Recorded)) (d : Name) (s : DatabaseStep Recorded) → ((es : List Recorded) → history_after es s ≡ es) → histories_after hs d s ≡ hs
same_histories [] d s same = refl
same_histories (h ∷ hs) d s same = elim (name_test d h.0) [
  | inl t ↦ rw t.0 (λ i. (h.0, same h.1 i) ∷ hs)
  | inr t ↦ rw t (ap (λ (l : List (Name × List Recorded)). h ∷ l) (same_histories hs d s same))
]

pub shows_message : (w : World Recorded) (shown : Shown) (d : Name) (m : Message) → Shows w shown → IsStep w (by d (put m))
    → Shows (happens w (by d (put m))) (record shown { messages = shown.messages ++ m ∷ [] })
shows_message w shown d m shows allowed = record {
  histories = ap (map logged) (same_histories w.histories d (put m) (λ es. refl)) ∙ shows.histories;
  messages = ap (λ (l : List Message). l ++ m ∷ []) shows.messages;
  good = stays layers HasSpelling LawfulHistory real_laws w (by d (put m)) shows.good allowed;
}

pub shows_crash : (w : World Recorded) (shown : Shown) (d : Name) → Shows w shown → IsStep w (by d crash) → Shows (happens w (by d crash)) shown
shows_crash w shown d shows allowed = record {
  histories = ap (map logged) (same_histories w.histories d crash (λ es. refl)) ∙ shows.histories;
  messages = shows.messages;
  good = stays layers HasSpelling LawfulHistory real_laws w (by d crash) shows.good allowed;
}

-- ---- at first

fresh_logged : (names : List Name) → map logged (map (λ name. (name, [])) names) ≡ map (λ name. (name, [])) names
fresh_logged [] = refl
fresh_logged (n ∷ names) = ap (λ (l : List History). (n, []) ∷ l) (fresh_logged names)

pub shows_fresh : (names : List Name) (shown : Shown) → shown.histories ≡ map (λ name. (name, [])) names → shown.messages ≡ [] → Shows (fresh_world names) shown
shows_fresh names shown histories messages = record {
  histories = fresh_logged names ∙ sym histories;
  messages = sym messages;
  good = fresh layers HasSpelling LawfulHistory real_laws names;
}

pub fresh_shown : (names : List Name) (shown : Shown) → shown.histories ≡ map (λ name. (name, [])) names → shown.messages ≡ [] → IsShown shown
fresh_shown names shown histories messages = record { world = fresh_world names; shows = shows_fresh names shown histories messages }

-- ---- what was done

pub has_stepped : (w : World Recorded) (step : WorldStep) (act : Act Recorded) (now : Shown) → IsAsked w step act → IsStep w act → Shows (happens w act) now
    → HasStepped w step now
has_stepped w step act now asked allowed shows = record { act = act; asked = asked; allowed = allowed; shows = shows; keys = keys_agree (happens w act) shows.good }
