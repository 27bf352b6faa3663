-- When a statement may be executed, and what is answered.
use Rattle.std.specs.Prelude.{◌≡◌, ◌≢◌, Option, IfSome, Result, Ok, Err, MatchResult}
use Rattle.sr_catalog_schema.specs.declared.fault.DmlFault.{DmlFault}
use Rattle.sr_catalog_schema.specs.declared.fault.DmlFault.TheVariants.{Memory}

-- the answer is the one that is meant, unless there is no memory
abbrev pub Answers : {A : Type 0} → Result A DmlFault → Result A DmlFault → Type 0
Answers result meant = MatchResult result (λ x. meant ≡ Ok x) (λ fault. fault ≢ Memory → meant ≡ Err fault)

-- what is answered is good, or else the fault is the one that is meant, unless there is no memory
abbrev pub Tells : {A B : Type 0} → Result A DmlFault → (A → Type 0) → Result B DmlFault → Type 0
Tells result IsGood meant = MatchResult result IsGood (λ fault. fault ≢ Memory → meant ≡ Err fault)

-- what is answered stands for the answer that is meant, unless there is no memory
abbrev pub AnswersBy : {A B : Type 0} → Result A DmlFault → (A → B) → Result B DmlFault → Type 0
AnswersBy result stands_for meant = MatchResult result (λ x. meant ≡ Ok (stands_for x)) (λ fault. fault ≢ Memory → meant ≡ Err fault)

-- the answer is the one that is meant, unless there is none, or no memory
abbrev pub MayAnswer : {A : Type 0} → Result (Option A) DmlFault → Result A DmlFault → Type 0
MayAnswer result meant = MatchResult result (λ found. IfSome found (λ x. meant ≡ Ok x)) (λ fault. fault ≢ Memory → meant ≡ Err fault)
