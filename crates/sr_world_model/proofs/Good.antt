use Rattle.std.proofs.Common.{◌≡◌, ℕ, ◌≤◌, ◌⊎◌, Contains, List, [], ◌∷◌, ◌++◌, map, refl, sym, ap, ◌∙◌, subst, inl, inr, arith, le_refl}
use Rattle.std.proofs.lemmas.List.{append_cancel_left}
use Rattle.sr_book.specs.Entries.{Name, from_user}
use Rattle.sr_book.specs.Histories.{taken, taken_end}
use Rattle.sr_book.proofs.Folds.{name_test}
use Rattle.sr_msgform.specs.declared.message.Message.{Message}
use Rattle.sr_world_model.specs.Layers.{Layers, end_of}
use Rattle.sr_world_model.specs.Inner.Layers.{Laws}
use Rattle.sr_world_model.specs.Steps.{DatabaseStep, append, put, crash, CanDo, history_after}
use Rattle.sr_world_model.specs.Truth.{IsTrueOf}
use Rattle.sr_world_model.specs.Worlds.{World, WorldStep, history_in, history, histories_after, happens, after_all, IsGood}
use Rattle.sr_world_model.specs.Worlds.{fresh_world}
use Rattle.sr_world_model.specs.Inner.Worlds.{IsAllowed, AreAllowed}
use Rattle.sr_world_model.proofs.Sound.{AreGood, IsSound, append_sound, take_sound, taken_stands}
use Rattle.sr_world_model.proofs.Lines.{HasMore, histories_kept, message_kept}

-- a step changes the history of its database alone
pub history_in-histories_after : {Entry : Type 0} (hs : List (Name × List Entry)) (d : Name) (database_step : DatabaseStep Entry) (x : Name) →
    (history_in x (histories_after hs d database_step) ≡ history_in x hs)
    ⊎ ((x ≡ d) × (history_in x (histories_after hs d database_step) ≡ history_after (history_in x hs) database_step))
history_in-histories_after [] d database_step x = inl refl
history_in-histories_after (h ∷ hs) d database_step x =
    elim (name_test d h.0) [
      | inl of ↦ elim (name_test x h.0) [
        | inl t ↦ rw (of.0, t.0) (inr (t.1 ∙ sym of.1, refl))
        | inr t ↦ rw (of.0, t) (inl refl)
      ]
      | inr not_of ↦ elim (name_test x h.0) [
        | inl t ↦ rw (not_of, t.0) (inl refl)
        | inr t ↦ rw (not_of, t) (history_in-histories_after hs d database_step x)
      ]
    ]

-- a message put or a crash changes no history
unchanged : {Entry : Type 0} (hs : List (Name × List Entry)) (d : Name) (database_step : DatabaseStep Entry) (x : Name) →
    history_after (history_in x hs) database_step ≡ history_in x hs → history_in x (histories_after hs d database_step) ≡ history_in x hs
unchanged hs d database_step x same = elim (history_in-histories_after hs d database_step x) [ inl is ↦ is | inr is ↦ is.1 ∙ same ]

module _ {Entry Ops : Type 0} (p : Layers Entry Ops) (HasSpelling : (ℕ × Ops) → Type 0) (lawful : Name → List Entry →
    Type 0) (laws : Laws p HasSpelling lawful) where
  to_histories : (w : World Entry) → IsGood p lawful w → AreGood p lawful (history w) w.messages
  to_histories w good = record { are_lawful = good.are_lawful; in_step = good.in_step; books = good.books; are_true = good.messages }

  from_histories : (w : World Entry) → AreGood p lawful (history w) w.messages → IsGood p lawful w
  from_histories w good = record { are_lawful = good.are_lawful; in_step = good.in_step; books = good.books; messages = good.are_true }

  changes : (w : World Entry) (d : Name) (e : Entry) → IsGood p lawful w → CanDo p HasSpelling lawful w.messages d (history w d) (append e) → (x : Name) →
      (history_in x (histories_after w.histories d (append e)) ≡ history w x)
      ⊎ HasMore p lawful (history w) x (history_in x (histories_after w.histories d (append e)))
  changes w d e good can x =
      elim (history_in-histories_after w.histories d (append e) x) [
        | inl same ↦ inl same
        | inr more ↦
            let is : history_in x (histories_after w.histories d (append e)) ≡ history w d ++ e ∷ []
            = more.1 ∙ ap (λ name. history w name ++ e ∷ []) more.0 in
            inr (record {
              entry = e;
              joined = more.1;
              is_lawful = rw is (subst (λ name. lawful name (history w d ++ e ∷ [])) (sym more.0) can.1);
              sound = subst (λ name. IsSound p (history w) name (p.sees e)) (sym more.0)
                  (append_sound p HasSpelling lawful laws (history w) w.messages (to_histories w good) d (p.sees e) can.0);
            })
      ]

  -- what a database does, where it may, keeps a good world good
  pub database_step_kept : (w : World Entry) (d : Name) (database_step : DatabaseStep Entry) → IsGood p lawful w → CanDo p HasSpelling lawful w.messages d (history w d) database_step →
      IsGood p lawful (happens w (record { owner = d; database_step = database_step }))
  database_step_kept w d (append e) good can =
      from_histories (happens w (record { owner = d; database_step = append e }))
      (histories_kept p HasSpelling lawful laws (history w) w.messages (to_histories w good)
      (λ x. history_in x (histories_after w.histories d (append e))) (changes w d e good can))
  database_step_kept w d (put m) good can =
      let new : Name → List Entry = λ x. history_in x (histories_after w.histories d (put m)) in
      let same : (x : Name) → new x ≡ history w x = λ x. unchanged w.histories d (put m) x refl in
      let kept : AreGood p lawful new w.messages
      = histories_kept p HasSpelling lawful laws (history w) w.messages (to_histories w good) new (λ x. inl (same x)) in
      let t : IsTrueOf p m.from (new m.from) m = rw (same m.from) (subst (λ name. IsTrueOf p name (history w name) m) (sym can.sent_by) can) in
      from_histories (happens w (record { owner = d; database_step = put m })) (message_kept p HasSpelling lawful laws new w.messages kept m t)
  database_step_kept w d crash good can =
      from_histories (happens w (record { owner = d; database_step = crash }))
      (histories_kept p HasSpelling lawful laws (history w) w.messages (to_histories w good)
      (λ x. history_in x (histories_after w.histories d crash)) (λ x. inl (unchanged w.histories d crash x refl)))

  -- each step keeps each line of a good world
  pub stays : (w : World Entry) (act : WorldStep Entry) → IsGood p lawful w → IsAllowed p HasSpelling lawful w act → IsGood p lawful (happens w act)
  stays w act good allowed = database_step_kept w act.owner act.database_step good allowed.1

  pub stay : (w : World Entry) (acts : List (WorldStep Entry)) → IsGood p lawful w → AreAllowed p HasSpelling lawful w acts → IsGood p lawful (after_all w acts)
  stay w [] good allowed = good
  stay w (act ∷ acts) good allowed = stay (happens w act) acts (stays w act good allowed.0) allowed.1

  empty : (names : List Name) (d : Name) → history_in {Entry = Entry} d (map (λ name. (name, [])) names) ≡ []
  empty [] d = refl
  empty (name ∷ names) d = elim (name_test d name) [ inl t ↦ rw t.0 refl | inr t ↦ rw t (empty names d) ]

  nothing_is_good : AreGood p lawful (λ d. []) []
  nothing_is_good = record {
    are_lawful = λ d. laws.lawful_none d;
    in_step = λ d user. record { rest = []; taken_first = laws.given_none user d; confirmed = le_refl 0 };
    books = λ d user. record { confirmed_sent = le_refl 0; sent_stands = le_refl 0; confirmed_received = le_refl 0; asks_rise = tt };
    are_true = λ m among. absurd (omega (arith, among.1));
  }

  -- a fresh world is good
  pub fresh : (names : List Name) → IsGood p lawful (fresh_world names)
  fresh names = from_histories (fresh_world names)
      (histories_kept p HasSpelling lawful laws (λ d. []) [] nothing_is_good (λ d. history_in d (map (λ name. (name, [])) names)) (λ d. inl (empty names d)))

  -- two takes of one partner that are allowed are one entry
  pub one_take : (w : World Entry) (d user : Name) (e f : Entry) (place place' : ℕ) (ops ops' : Ops) → IsGood p lawful w →
      p.sees e ≡ from_user user place ops → p.sees f ≡ from_user user place' ops' →
      CanDo p HasSpelling lawful w.messages d (history w d) (append e) → CanDo p HasSpelling lawful w.messages d (history w d) (append f) → e ≡ f
  one_take w d user e f place place' ops ops' good is is' can can' =
      let good' = to_histories w good in
      let take = take_sound p HasSpelling lawful laws (history w) w.messages good' d user place ops (rw is at can.0) in
      let take' = take_sound p HasSpelling lawful laws (history w) w.messages good' d user place' ops' (rw is' at can'.0) in
      let same : (place, ops) ∷ take.0 ≡ (place', ops') ∷ take'.0
      = append_cancel_left (taken p.sees user (history w d)) ((place, ops) ∷ take.0) ((place', ops') ∷ take'.0) (sym take.1 ∙ take'.1) in
      let first : ◌≡◌ {A = ℕ × Ops} (place', ops') (place, ops) = cc in
      let is'' : p.sees f ≡ from_user user place ops = is' ∙ ap (λ (tx : ℕ × Ops). from_user user tx.0 tx.1) first in
      laws.judged_once d (history w d) e f user place ops is is'' can.1 can'.1

  -- no message confirms or asks for what its receiver does not have
  pub confirm_stands : (w : World Entry) (m : Message) → IsGood p lawful w → Contains w.messages m → m.confirm.0 ≤ end_of p (history w m.to)
  confirm_stands w m good among =
      omega (arith, (good.messages m among).confirm, taken_stands p HasSpelling lawful laws (history w) w.messages (to_histories w good) m.from m.to)

  pub ask_stands : (w : World Entry) (m : Message) → IsGood p lawful w → Contains w.messages m → m.ask_offset.0 ≤ end_of p (history w m.to)
  ask_stands w m good among =
      omega (arith, (good.messages m among).ask_offset, taken_stands p HasSpelling lawful laws (history w) w.messages (to_histories w good) m.from m.to)

  pub taken_within : (w : World Entry) (d user : Name) → IsGood p lawful w → taken_end p.sees user (history w d) ≤ end_of p (history w user)
  taken_within w d user good = taken_stands p HasSpelling lawful laws (history w) w.messages (to_histories w good) d user
