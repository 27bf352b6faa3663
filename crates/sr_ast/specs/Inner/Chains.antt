-- The actions of a trigger as a chain, without where they lie in memory.
-- Here is what no contract of the program says by itself.
use Rattle.std.specs.Prelude.{◌≡◌, ℕ, ◌+◌, List, [], ◌∷◌, Option, ◌⊎◌, refl}
use Rattle.std.proofs.Common.{inl, inr, ap, ◌∙◌}
use Rattle.std.specs.Coded.{Coded, code_by, coded×, coded⊎, coded_ℕ, coded_list, coded_option}
use base.Stored.{coded_unit}
use Rattle.sr_ast.specs.Terms.{Term}
use Rattle.sr_ast.specs.Inner.Terms.{term_code}
use Rattle.sr_ast.specs.Chains.{Chain}
use Rattle.sr_ast.specs.Chains.Chain.{done, set, insert, when, choose}

-- how many actions a chain has at all levels, and a little more
abbrev pub chain_size : Chain → ℕ
chain_size done = 1
chain_size (set t n v rest) = chain_size rest + 1
chain_size (insert t cs vs rest) = chain_size rest + 1
chain_size (when c taken rest) = chain_size taken + chain_size rest + 1
chain_size (choose c taken other rest) = chain_size taken + chain_size other + chain_size rest + 1

-- The rest of this file tells chains apart by their postfix notation, for the toolchain: a list of marks.
abbrev pub Mark : Type 0
Mark = Unit {0} ⊎ ((Option (List ℕ) × (List ℕ × Term)) ⊎ ((List ℕ × (List (List ℕ) × List Term)) ⊎ (Term ⊎ Term)))

abbrev pub marks : Chain → List Mark → List Mark
marks done rest = inl tt ∷ rest
marks (set t n v next) rest = marks next (inr (inl (t, (n, v))) ∷ rest)
marks (insert t cs vs next) rest = marks next (inr (inr (inl (t, (cs, vs)))) ∷ rest)
marks (when c taken next) rest = marks taken (marks next (inr (inr (inr (inl c))) ∷ rest))
marks (choose c taken other next) rest = marks taken (marks other (marks next (inr (inr (inr (inr c))) ∷ rest)))

abbrev pub with_set : Option (List ℕ) → List ℕ → Term → List Chain → List Chain
with_set t n v [] = []
with_set t n v (next ∷ stack) = set t n v next ∷ stack

abbrev pub with_insert : List ℕ → List (List ℕ) → List Term → List Chain → List Chain
with_insert t cs vs [] = []
with_insert t cs vs (next ∷ stack) = insert t cs vs next ∷ stack

abbrev pub with_when : Term → List Chain → List Chain
with_when c [] = []
with_when c (next ∷ []) = []
with_when c (next ∷ taken ∷ stack) = when c taken next ∷ stack

abbrev pub with_choose : Term → List Chain → List Chain
with_choose c [] = []
with_choose c (next ∷ []) = []
with_choose c (next ∷ other ∷ []) = []
with_choose c (next ∷ other ∷ taken ∷ stack) = choose c taken other next ∷ stack

abbrev pub with_mark : Mark → List Chain → List Chain
with_mark (inl u) stack = done ∷ stack
with_mark (inr (inl (t, (n, v)))) stack = with_set t n v stack
with_mark (inr (inr (inl (t, (cs, vs))))) stack = with_insert t cs vs stack
with_mark (inr (inr (inr (inl c)))) stack = with_when c stack
with_mark (inr (inr (inr (inr c)))) stack = with_choose c stack

abbrev pub chained : List Mark → List Chain → List Chain
chained [] stack = stack
chained (mark ∷ more) stack = chained more (with_mark mark stack)

pub chained-marks : (a : Chain) (rest : List Mark) (stack : List Chain) → chained (marks a rest) stack ≡ chained rest (a ∷ stack)
chained-marks done rest stack = refl
chained-marks (set t n v next) rest stack = chained-marks next (inr (inl (t, (n, v))) ∷ rest) stack
chained-marks (insert t cs vs next) rest stack = chained-marks next (inr (inr (inl (t, (cs, vs)))) ∷ rest) stack
chained-marks (when c taken next) rest stack =
    chained-marks taken (marks next (inr (inr (inr (inl c))) ∷ rest)) stack ∙ chained-marks next (inr (inr (inr (inl c))) ∷ rest) (taken ∷ stack)
chained-marks (choose c taken other next) rest stack =
    chained-marks taken (marks other (marks next (inr (inr (inr (inr c))) ∷ rest))) stack
    ∙ (chained-marks other (marks next (inr (inr (inr (inr c))) ∷ rest)) (taken ∷ stack) ∙ chained-marks next (inr (inr (inr (inr c))) ∷ rest) (other ∷ taken ∷ stack))

abbrev pub last_chain : List Chain → Chain
last_chain [] = done
last_chain (a ∷ stack) = a

abbrev pub marks_code : Coded (List Mark)
marks_code =
    coded_list
    (coded⊎ coded_unit
    (coded⊎ (coded× (coded_option (coded_list coded_ℕ)) (coded× (coded_list coded_ℕ) term_code))
    (coded⊎ (coded× (coded_list coded_ℕ) (coded× (coded_list (coded_list coded_ℕ)) (coded_list term_code))) (coded⊎ term_code term_code))))

abbrev pub chain_code : Coded Chain
chain_code = code_by (List Mark) marks_code (λ a. marks a []) (λ m. last_chain (chained m [])) (λ a. ap last_chain (chained-marks a [] []))
