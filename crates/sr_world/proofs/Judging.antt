-- What a taken transaction comes to is settled by the state before it.
use Rattle.std.proofs.Common.{◌≡◌, ℕ, Bool, List, [], ◌∷◌, map, refl, sym, ap, subst, ◌∙◌}
use Rattle.sr_base.specs.declared.offset.Offset.{Offset}
use Rattle.sr_book.specs.Entries.{Name, local, from_user, noted}
use Rattle.sr_database_history.specs.Folds.{State, after_done, sees}
use Rattle.sr_database_history.specs.Recorded.{Done, Recorded, own, taken, ddl, sync, pass, note}
use Rattle.sr_logform.specs.declared.op.Op.{Op}
use Rattle.sr_resolve.specs.Judging.{IsStatementOf}
use Rattle.sr_resolve.specs.Taking.{op_of, done_judged, IsDoneJudged, AreJudged, is_above}
use Rattle.sr_resolve.proofs.Once.{one_statement}
use Rattle.sr_world.specs.Lawful.{SaysSo}

one_done : (s : State) (above : Bool) (d e : Done) → IsDoneJudged s above d → IsDoneJudged s above e → op_of d ≡ op_of e → d ≡ e
one_done s above d e j k same =
    let carried : IsStatementOf k.statement (op_of d) = subst (λ (o : Op). IsStatementOf k.statement o) (sym same) k.carried in
    let one : j.statement ≡ k.statement = one_statement (op_of d) j.statement k.statement j.carried carried in
    j.done_is
    ∙ ap (done_judged s above (op_of d)) one
    ∙ ap (λ (o : Op). done_judged s above o k.statement) same
    ∙ sym k.done_is

dones_once : (s : State) (above : Bool) (ds es : List Done) → AreJudged s above ds → AreJudged s above es → map op_of ds ≡ map op_of es → ds ≡ es
dones_once s above [] [] j k same = refl
dones_once s above [] (e ∷ es) j k same = let no : [] ≡ op_of e ∷ map op_of es = same in cc
dones_once s above (d ∷ ds) [] j k same = let no : op_of d ∷ map op_of ds ≡ [] = same in cc
dones_once s above (d ∷ ds) (e ∷ es) j k same =
    let cons : op_of d ∷ map op_of ds ≡ op_of e ∷ map op_of es = same in
    let first : op_of d ≡ op_of e = cc in
    let rest : map op_of ds ≡ map op_of es = cc in
    let one : d ≡ e = one_done s above d e j.0 k.0 first in
    let others : ds ≡ es = dones_once (after_done d s) above ds es j.1
    (subst (λ (x : Done). AreJudged (after_done x s) above es) (sym one) k.1) rest in
    λ i. one i ∷ others i

-- two takes of one transaction in one state are one entry
taken_once : (s : State) (u v user : Name) (a b : Offset) (at : ℕ) (ops : List Op) (ds es : List Done)
    → sees (taken u a ds) ≡ from_user user at ops → sees (taken v b es) ≡ from_user user at ops
    → AreJudged s (is_above s u) ds → AreJudged s (is_above s v) es → taken u a ds ≡ taken v b es
taken_once s u v user a b at ops ds es p q j k =
    let left : from_user u a.0 (map op_of ds) ≡ from_user user at ops = p in
    let right : from_user v b.0 (map op_of es) ≡ from_user user at ops = q in
    let names : u ≡ v = cc in
    let places : a.0 ≡ b.0 = cc in
    let lists : map op_of ds ≡ map op_of es = cc in
    let offsets : a ≡ b = ap (λ (n : ℕ). record { 0 = n }) places in
    let dones : ds ≡ es = dones_once s (is_above s u) ds es j (subst (λ (n : Name). AreJudged s (is_above s n) es) (sym names) k) lists in
    λ i. taken (names i) (offsets i) (dones i)

from_taken : (s : State) (u user : Name) (a : Offset) (at : ℕ) (ops : List Op) (ds : List Done) (f : Recorded)
    → sees (taken u a ds) ≡ from_user user at ops → sees f ≡ from_user user at ops → SaysSo s (taken u a ds) → SaysSo s f → taken u a ds ≡ f
from_taken s u user a at ops ds (own changes) p q j k = let no : local ≡ from_user user at ops = q in cc
from_taken s u user a at ops ds (taken v b es) p q j k = taken_once s u v user a b at ops ds es p q j k
from_taken s u user a at ops ds (ddl statement) p q j k = let no : local ≡ from_user user at ops = q in cc
from_taken s u user a at ops ds (sync to tables) p q j k = let no : local ≡ from_user user at ops = q in cc
from_taken s u user a at ops ds (pass users only statement changes) p q j k = let no : local ≡ from_user user at ops = q in cc
from_taken s u user a at ops ds (note about what) p q j k = let no : noted about what ≡ from_user user at ops = q in cc

pub same_taken : (s : State) (e f : Recorded) (user : Name) (at : ℕ) (ops : List Op)
    → sees e ≡ from_user user at ops → sees f ≡ from_user user at ops → SaysSo s e → SaysSo s f → e ≡ f
same_taken s (own changes) f user at ops p q j k = let no : local ≡ from_user user at ops = p in cc
same_taken s (taken u a ds) f user at ops p q j k = from_taken s u user a at ops ds f p q j k
same_taken s (ddl statement) f user at ops p q j k = let no : local ≡ from_user user at ops = p in cc
same_taken s (sync to tables) f user at ops p q j k = let no : local ≡ from_user user at ops = p in cc
same_taken s (pass users only statement changes) f user at ops p q j k = let no : local ≡ from_user user at ops = p in cc
same_taken s (note about what) f user at ops p q j k = let no : noted about what ≡ from_user user at ops = p in cc
