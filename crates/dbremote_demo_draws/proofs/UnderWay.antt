-- The scripts of a block, as they grow.
use Rattle.std.proofs.Common.{◌≡◌, ◌∙◌, ℕ, zero, suc, ◌≤◌, ◌<◌, ◌-◌, ◌+◌, Bool, true, false, List, [], ◌∷◌, ◌++◌, arith, refl, sym, ap, subst, append_assoc}
use Rattle.std.specs.Prelude.{nat_eq, if◌then◌else◌}
use Rattle.std.proofs.lemmas.List.{append-nil}
use Rattle.dbremote_demo_draws.specs.DrawnStatements.{all_drawn, drawn, script_at, state_behind, third_state, transaction}
use Rattle.dbremote_demo_draws.specs.Names.{number_of_site}
use Rattle.dbremote_demo_draws.specs.Inner.Scripts.{IsScripts, IsWithOne}
use Rattle.dbremote_demo_draws.specs.declared.statements.Drawn.{Drawn}
use Rattle.dbremote_demo_draws.specs.declared.drawing.Scripts.{Scripts}
use Rattle.dbremote_demo_draws.specs.declared.demo_site.DemoSite.{DemoSite}
use Rattle.dbremote_demo_draws.specs.declared.demo_site.DemoSite.TheVariants.{Cons, R1, R2, R3}

-- with the scripts of the statements that are left they are those of all
pub record IsUnderWay (x first end x' i : ℕ) (scripts : Scripts) : Type 0 where
  pub within : i ≤ end
  pub state : state_behind x' (end - i) ≡ state_behind x (end - first)
  pub cons : scripts.cons.items ++ script_at Cons (all_drawn x' i (end - i)) ≡ script_at Cons (all_drawn x first (end - first))
  pub r1 : scripts.r1.items ++ script_at R1 (all_drawn x' i (end - i)) ≡ script_at R1 (all_drawn x first (end - first))
  pub r2 : scripts.r2.items ++ script_at R2 (all_drawn x' i (end - i)) ≡ script_at R2 (all_drawn x first (end - first))
  pub r3 : scripts.r3.items ++ script_at R3 (all_drawn x' i (end - i)) ≡ script_at R3 (all_drawn x first (end - first))

-- one is left, and those behind it
one_left : (i end : ℕ) → i < end → end - i ≡ suc (end - (i + 1))
one_left i end less = omega (arith, less)

none_left : (i end : ℕ) → end ≤ i → end - i ≡ zero
none_left i end past = omega (arith, past)

chosen : (b : Bool) (text rest : List ℕ) → (if b then text ++ rest else rest) ≡ (if b then text ++ [] else []) ++ rest
chosen true text rest = ap (λ (t : List ℕ). t ++ rest) (sym (append-nil text))
chosen false text rest = refl

split_one : (o : DemoSite) (d : Drawn) (ds : List Drawn) → script_at o (d ∷ ds) ≡ script_at o (d ∷ []) ++ script_at o ds
split_one o d ds = chosen (nat_eq (number_of_site d.at) (number_of_site o)) (transaction d.statement) (script_at o ds)

-- the script of a database, with one statement more
demo_site_more : (o : DemoSite) (x' i m n : ℕ) (had has total : List ℕ) → n ≡ suc m → has ≡ had ++ script_at o (drawn x' i ∷ []) → had ++ script_at o (all_drawn x' i n) ≡ total
    → has ++ script_at o (all_drawn (third_state x') (i + 1) m) ≡ total
demo_site_more o x' i m n had has total e is all =
    let rest = script_at o (all_drawn (third_state x') (i + 1) m) in
    let whole : had ++ script_at o (all_drawn x' i (suc m)) ≡ total = subst (λ (k : ℕ). had ++ script_at o (all_drawn x' i k) ≡ total) e all in
    ap (λ (s : List ℕ). s ++ rest) is ∙ (append_assoc had (script_at o (drawn x' i ∷ [])) rest
    ∙ (ap (λ (s : List ℕ). had ++ s) (sym (split_one o (drawn x' i) (all_drawn (third_state x') (i + 1) m))) ∙ whole))

demo_site_end : (o : DemoSite) (x' i n : ℕ) (had total : List ℕ) → n ≡ zero → had ++ script_at o (all_drawn x' i n) ≡ total → had ≡ total
demo_site_end o x' i n had total e all = sym (append-nil had) ∙ subst (λ (k : ℕ). had ++ script_at o (all_drawn x' i k) ≡ total) e all

state_more : (x' m n y : ℕ) → n ≡ suc m → state_behind x' n ≡ y → state_behind (third_state x') m ≡ y
state_more x' m n y e is = subst (λ (k : ℕ). state_behind x' k ≡ y) e is

state_end : (x' n y : ℕ) → n ≡ zero → state_behind x' n ≡ y → x' ≡ y
state_end x' n y e is = subst (λ (k : ℕ). state_behind x' k ≡ y) e is

pub one_more : (x first end x' i : ℕ) (old new : Scripts) → IsUnderWay x first end x' i old → i < end → IsWithOne (drawn x' i) old new
    → IsUnderWay x first end (third_state x') (i + 1) new
one_more x first end x' i old new way less with = record {
  within = omega (arith, less);
  state = state_more x' (end - (i + 1)) (end - i) (state_behind x (end - first)) (one_left i end less) way.state;
  cons = demo_site_more Cons x' i (end - (i + 1)) (end - i) old.cons.items new.cons.items (script_at Cons (all_drawn x first (end - first))) (one_left i end less) with.cons way.cons;
  r1 = demo_site_more R1 x' i (end - (i + 1)) (end - i) old.r1.items new.r1.items (script_at R1 (all_drawn x first (end - first))) (one_left i end less) with.r1 way.r1;
  r2 = demo_site_more R2 x' i (end - (i + 1)) (end - i) old.r2.items new.r2.items (script_at R2 (all_drawn x first (end - first))) (one_left i end less) with.r2 way.r2;
  r3 = demo_site_more R3 x' i (end - (i + 1)) (end - i) old.r3.items new.r3.items (script_at R3 (all_drawn x first (end - first))) (one_left i end less) with.r3 way.r3;
}

pub all_in : (x first end x' i : ℕ) (scripts : Scripts) → IsUnderWay x first end x' i scripts → end ≤ i → IsScripts (all_drawn x first (end - first)) scripts
all_in x first end x' i scripts way past = record {
  cons = demo_site_end Cons x' i (end - i) scripts.cons.items (script_at Cons (all_drawn x first (end - first))) (none_left i end past) way.cons;
  r1 = demo_site_end R1 x' i (end - i) scripts.r1.items (script_at R1 (all_drawn x first (end - first))) (none_left i end past) way.r1;
  r2 = demo_site_end R2 x' i (end - i) scripts.r2.items (script_at R2 (all_drawn x first (end - first))) (none_left i end past) way.r2;
  r3 = demo_site_end R3 x' i (end - i) scripts.r3.items (script_at R3 (all_drawn x first (end - first))) (none_left i end past) way.r3;
}

pub state_in : (x first end x' i : ℕ) (scripts : Scripts) → IsUnderWay x first end x' i scripts → end ≤ i → x' ≡ state_behind x (end - first)
state_in x first end x' i scripts way past = state_end x' (end - i) (state_behind x (end - first)) (none_left i end past) way.state
