-- Looking for a whole window that goes on past what was taken.
use Rattle.std.proofs.Common.{◌≡◌, ◌↔◌, ℕ, Bool, true, false, List, [], ◌∷◌, Contains, IsTrue, inl, inr, refl, sym, subst}
use Rattle.sr_book.specs.Entries.{Name}
use Rattle.sr_msgform.specs.declared.message.Message.{Message}
use Rattle.sr_world_steps.specs.Inner.Past.{GoesPast, SomePast}
use Rattle.sr_world_steps.proofs.Chained.{AreLeft, left_head}
use Rattle.sr_world_steps.proofs.Reaching.{contains_cases, none_contained}

-- where one is among all, it is among those that are left
abbrev pub StillPast : List Message → Name → Name → ℕ → List Message → Type 0
StillPast messages sender receiver taken left = SomePast messages messages sender receiver taken → SomePast messages left sender receiver taken

pub past_rest : (messages left rest : List Message) (sender receiver : Name) (taken : ℕ) (m : Message) (past : Bool) → StillPast messages sender receiver taken left
    → left ≡ m ∷ rest → (IsTrue past ↔ GoesPast messages sender receiver taken m) → past ≡ false → StillPast messages sender receiver taken rest
past_rest messages left rest sender receiver taken m past still split h never = λ some.
    let one : SomePast messages left sender receiver taken = still some in
    elim (contains_cases m rest one.message (subst (λ (l : List Message). Contains l one.message) split one.among)) [
      | inl same ↦
          let surely : past ≡ true = h.1 (subst (GoesPast messages sender receiver taken) (sym same) one.goes) in
          absurd (cc)
      | inr later ↦ record { message = one.message; among = later; goes = one.goes }
    ]

pub past_here : (messages left rest : List Message) (sender receiver : Name) (taken : ℕ) (m : Message) (past : Bool) → AreLeft messages left → left ≡ m ∷ rest
    → (IsTrue past ↔ GoesPast messages sender receiver taken m) → past ≡ true → (IsTrue true ↔ SomePast messages messages sender receiver taken)
past_here messages left rest sender receiver taken m past are split h surely =
    (λ _. record { message = m; among = left_head messages left rest m are split; goes = h.0 surely }, λ _. refl)

pub past_none : (messages left : List Message) (sender receiver : Name) (taken : ℕ) → StillPast messages sender receiver taken left → left ≡ []
    → (IsTrue false ↔ SomePast messages messages sender receiver taken)
past_none messages left sender receiver taken still none = (
  λ (never : false ≡ true). absurd (cc),
  λ some.
      let one : SomePast messages left sender receiver taken = still some in
      absurd (none_contained one.message (subst (λ (l : List Message). Contains l one.message) none one.among)),
)
