use Rattle.std.proofs.Common.{◌≡◌, ◌↔◌, ℕ, ◌+◌, List, [], ◌∷◌, ◌++◌, Option, Some, None, All, refl, sym, ap, ◌∙◌, append_assoc, append-nil}
use Rattle.std.proofs.lemmas.List.Elements.{All-nil, All-cons, All-append}
use Rattle.sr_book.specs.Entries.{Name, from_user}
use Rattle.sr_world_model.specs.Layers.{transaction, end_from}
use Rattle.sr_world_model.specs.Inner.Layers.{Laws}
use Rattle.sr_world_model.specs.Machines.{Machine, state_from, lawful_from, lawful_by, given_from, layers_of}
use Rattle.sr_world_model.specs.Inner.Machines.{StepLaws}

module _ {State Entry Ops : Type 0} (m : Machine State Entry Ops) where
  pub state_from-append : (s : State) (es fs : List Entry) → state_from m s (es ++ fs) ≡ state_from m (state_from m s es) fs
  state_from-append s [] fs = refl
  state_from-append s (e ∷ es) fs = state_from-append (m.next s e) es fs

  pub state_from-more : (s : State) (es : List Entry) (e : Entry) → state_from m s (es ++ e ∷ []) ≡ m.next (state_from m s es) e
  state_from-more s es e = state_from-append s es (e ∷ [])

  pub given_from-append : (s : State) (place : ℕ) (user : Name) (es fs : List Entry) → given_from m s place user (es ++ fs)
      ≡ given_from m s place user es ++ given_from m (state_from m s es) (end_from (layers_of m) place es) user fs
  given_from-append s place user [] fs = refl
  given_from-append s place user (e ∷ es) fs =
      ap (λ txs. transaction (place + (m.size e + 5)) (m.gives s e user) ++ txs)
      (given_from-append (m.next s e) (place + (m.size e + 5)) user es fs)
      ∙ sym (append_assoc (transaction (place + (m.size e + 5)) (m.gives s e user))
      (given_from m (m.next s e) (place + (m.size e + 5)) user es)
      (given_from m (state_from m (m.next s e) es) (end_from (layers_of m) (place + (m.size e + 5)) es) user fs))

  pub given_from-more : (s : State) (place : ℕ) (user : Name) (es : List Entry) (e : Entry) →
      given_from m s place user (es ++ e ∷ [])
      ≡ given_from m s place user es ++ transaction (end_from (layers_of m) place (es ++ e ∷ [])) (m.gives (state_from m s es) e user)
  given_from-more s place user [] e = append-nil (transaction (place + (m.size e + 5)) (m.gives s e user))
  given_from-more s place user (f ∷ es) e =
      ap (λ txs. transaction (place + (m.size f + 5)) (m.gives s f user) ++ txs)
      (given_from-more (m.next s f) (place + (m.size f + 5)) user es e)
      ∙ sym (append_assoc (transaction (place + (m.size f + 5)) (m.gives s f user))
      (given_from m (m.next s f) (place + (m.size f + 5)) user es)
      (transaction (end_from (layers_of m) (place + (m.size f + 5)) (es ++ e ∷ [])) (m.gives (state_from m (m.next s f) es) e user)))

  module _ (Fits : State → ℕ → Entry → Type 0) where
    -- of a lawful history that is joined of two the first is lawful, and the second goes on from it
    pub lawful_parts : (s : State) (place : ℕ) (es fs : List Entry) → lawful_from m Fits s place (es ++ fs) →
        lawful_from m Fits s place es × lawful_from m Fits (state_from m s es) (end_from (layers_of m) place es) fs
    lawful_parts s place [] fs lawful = (tt, lawful)
    lawful_parts s place (e ∷ es) fs lawful =
        let parts = lawful_parts (m.next s e) (place + (m.size e + 5)) es fs lawful.1 in
        ((lawful.0, parts.0), parts.1)

    pub lawful_whole : (s : State) (place : ℕ) (es fs : List Entry) → lawful_from m Fits s place es →
        lawful_from m Fits (state_from m s es) (end_from (layers_of m) place es) fs → lawful_from m Fits s place (es ++ fs)
    lawful_whole s place [] fs prefix back = back
    lawful_whole s place (e ∷ es) fs prefix back = (prefix.0, lawful_whole (m.next s e) (place + (m.size e + 5)) es fs prefix.1 back)

    pub lawful_from-append : (s : State) (place : ℕ) (es fs : List Entry) → lawful_from m Fits s place (es ++ fs)
        ↔ (lawful_from m Fits s place es × lawful_from m Fits (state_from m s es) (end_from (layers_of m) place es) fs)
    lawful_from-append s place es fs = (lawful_parts s place es fs, λ both. lawful_whole s place es fs both.0 both.1)

    pub lawful_from-more : (s : State) (place : ℕ) (es : List Entry) (e : Entry) → lawful_from m Fits s place (es ++ e ∷ [])
        ↔ (lawful_from m Fits s place es × Fits (state_from m s es) (end_from (layers_of m) place es) e)
    lawful_from-more s place es e = (
      λ lawful. let parts = lawful_parts s place es (e ∷ []) lawful in (parts.0, parts.1.0),
      λ both. lawful_whole s place es (e ∷ []) both.0 (both.1, tt),
    )

    module _ (HasSpelling : (ℕ × Ops) → Type 0) (Holds : State → Type 0) (laws : StepLaws m HasSpelling Fits Holds) where
      pub holds_from : (s : State) (place : ℕ) (es : List Entry) → Holds s → lawful_from m Fits s place es → Holds (state_from m s es)
      holds_from s place [] holds lawful = holds
      holds_from s place (e ∷ es) holds lawful =
          holds_from (m.next s e) (place + (m.size e + 5)) es (laws.kept s place e holds lawful.0) lawful.1

      -- what an entry gives is fit
      gave_fit : (s : State) (place : ℕ) (e : Entry) (user : Name) (gave : Option Ops) → m.gives s e user ≡ gave →
          Holds s → Fits s place e → All HasSpelling (transaction (place + (m.size e + 5)) gave)
      gave_fit s place e user None is holds fits = All-nil HasSpelling
      gave_fit s place e user (Some ops) is holds fits =
          All-cons HasSpelling (place + (m.size e + 5), ops) [] (laws.gives_fit s place e user ops holds fits is)
          (All-nil HasSpelling)

      given_fit : (s : State) (place : ℕ) (user : Name) (es : List Entry) → Holds s → lawful_from m Fits s place es →
          All HasSpelling (given_from m s place user es)
      given_fit s place user [] holds lawful = All-nil HasSpelling
      given_fit s place user (e ∷ es) holds lawful =
          All-append HasSpelling (transaction (place + (m.size e + 5)) (m.gives s e user))
          (given_from m (m.next s e) (place + (m.size e + 5)) user es)
          (gave_fit s place e user (m.gives s e user) refl holds lawful.0)
          (given_fit (m.next s e) (place + (m.size e + 5)) user es (laws.kept s place e holds lawful.0) lawful.1)

      judged_once : (s : State) (place : ℕ) (es : List Entry) (e f : Entry) (user : Name) (at : ℕ) (ops : Ops) →
          m.sees e ≡ from_user user at ops → m.sees f ≡ from_user user at ops →
          lawful_from m Fits s place (es ++ e ∷ []) → lawful_from m Fits s place (es ++ f ∷ []) → e ≡ f
      judged_once s place es e f user at ops is is' lawful lawful' =
          laws.judged_once (state_from m s es) (end_from (layers_of m) place es) e f user at ops is is'
          (lawful_parts s place es (e ∷ []) lawful).1.0 (lawful_parts s place es (f ∷ []) lawful').1.0

      -- the laws of one step are the laws of the whole history
      pub whole_laws : Laws (layers_of m) HasSpelling (lawful_by m Fits)
      whole_laws = record {
        given_none = λ d user. refl;
        given_more = λ d user es e. (m.gives (state_from m (m.fresh d) es) e user, given_from-more (m.fresh d) 0 user es e);
        lawful_none = λ d. tt;
        given_fit = λ d user es lawful. given_fit (m.fresh d) 0 user es (laws.at_first d) lawful;
        encoded_once = laws.encoded_once;
        judged_once = λ d. judged_once (m.fresh d) 0;
      }
