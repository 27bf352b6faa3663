-- An entry in the log is that of one recorded entry.
use Rattle.std.proofs.Common.{◌≡◌, ℕ, List, [], ◌∷◌, ◌++◌, map, refl, sym, ap, subst}
use Rattle.std.specs.List.{AllByRecursion}
use Rattle.sr_ast.specs.Layout.{printed}
use Rattle.sr_ast.specs.declared.stmt.Stmt.{Stmt}
use Rattle.sr_parse_grammar.specs.Meanings.{IsWritten}
use Rattle.sr_ast.specs.NormalForms.{IsNormal}
use Rattle.sr_parse_grammar.proofs.Meaning.{written_once}
use Rattle.sr_parse_grammar.proofs.Stated.{printed-is_written}
use Rattle.sr_logform.specs.Entries.{entry_spelling, IsEntry}
use Rattle.sr_logform.specs.Inner.EntryLaws.{entry_format}
use Rattle.sr_logform.proofs.Once.{spells_once}
use Rattle.sr_logform.specs.declared.op.Op.{Op}
use Rattle.sr_logform.specs.declared.op.Op.TheVariants as ops
use Rattle.sr_logform.specs.declared.outcome.Outcome.{Outcome}
use Rattle.sr_logform.specs.declared.outcome.Outcome.TheVariants as outcomes
use Rattle.sr_database_history.specs.Recorded.{Done, plain, ran, conflict, clash, done_of, IsLawfulDone, IsNoExec}
use Rattle.sr_database_history.specs.Recorded.{Recorded, own, taken, ddl, sync, pass, note, entry_of, IsRecorded}

-- a text is printed by one statement in normal form at most
printed_once : (s t : Stmt) → IsNormal s → IsNormal t → printed s ≡ printed t → s ≡ t
printed_once s t n m same =
    let scripts : s ∷ [] ≡ t ∷ [] = written_once (printed t) (s ∷ []) (t ∷ [])
    (subst (λ (text : List ℕ). IsWritten text (s ∷ [])) same (printed-is_written s n)) (printed-is_written t m) in
    cc

-- an op that is no Exec is not the Exec of a text
no_exec : {A : Type 0} (op : Op) (text : List ℕ) → IsNoExec op → op ≡ ops.Exec text → A
no_exec op text n is = absurd (subst IsNoExec is n)

op_is : (d e : Op × Outcome) → d ≡ e → d.0 ≡ e.0
op_is d e same = ap (λ (x : Op × Outcome). x.0) same

outcome_is : (d e : Op × Outcome) → d ≡ e → d.1 ≡ e.1
outcome_is d e same = ap (λ (x : Op × Outcome). x.1) same

pub done_once : (a b : Done) → IsLawfulDone a → IsLawfulDone b → done_of a ≡ done_of b → a ≡ b
done_once (plain p cs) (plain q ds) n m same =
    let op : p ≡ q = op_is _ _ same in
    let outcome : outcomes.Plain cs ≡ outcomes.Plain ds = outcome_is _ _ same in
    cc
done_once (plain p cs) (ran s ds) n m same = no_exec p (printed s) n (op_is _ _ same)
done_once (ran s cs) (plain q ds) n m same = no_exec q (printed s) m (sym (op_is _ _ same))
done_once (ran s cs) (ran t ds) n m same =
    let op : ops.Exec (printed s) ≡ ops.Exec (printed t) = op_is _ _ same in
    let texts : printed s ≡ printed t = cc in
    let is : s ≡ t = printed_once s t n.0 m.0 texts in
    let outcome : outcomes.Plain cs ≡ outcomes.Plain ds = outcome_is _ _ same in
    cc
done_once (conflict p i b a) (conflict q j c d) n m same =
    let op : p ≡ q = op_is _ _ same in
    let outcome : outcomes.Conflict i b a ≡ outcomes.Conflict j c d = outcome_is _ _ same in
    cc
done_once (clash p k) (clash q l) n m same =
    let op : p ≡ q = op_is _ _ same in
    let outcome : outcomes.Clash k ≡ outcomes.Clash l = outcome_is _ _ same in
    cc
done_once a b n m same = let outcome : (done_of a).1 ≡ (done_of b).1 = outcome_is _ _ same in cc

pub dones_once : (xs ys : List Done) → AllByRecursion IsLawfulDone xs → AllByRecursion IsLawfulDone ys → map done_of xs ≡ map done_of ys → xs ≡ ys
dones_once [] [] n m same = refl
dones_once [] (y ∷ ys) n m same = cc
dones_once (x ∷ xs) [] n m same = cc
dones_once (x ∷ xs) (y ∷ ys) n m same =
    let heads : done_of x ≡ done_of y = cc in
    let tails : map done_of xs ≡ map done_of ys = cc in
    let is : x ≡ y = done_once x y n.0 m.0 heads in
    let are : xs ≡ ys = dones_once xs ys n.1 m.1 tails in
    cc

pub entry_once : (a b : Recorded) → IsRecorded a → IsRecorded b → entry_of a ≡ entry_of b → a ≡ b
entry_once (own cs) (own ds) n m same = cc
entry_once (taken u at xs) (taken v bt ys) n m same =
    let lists : map done_of xs ≡ map done_of ys = cc in
    let are : xs ≡ ys = dones_once xs ys n m lists in
    cc
entry_once (ddl s) (ddl t) n m same =
    let texts : printed s ≡ printed t = cc in
    let is : s ≡ t = printed_once s t n.0 m.0 texts in
    cc
entry_once (sync u xs) (sync v ys) n m same = cc
entry_once (pass us o s cs) (pass vs q t ds) n m same =
    let texts : printed s ≡ printed t = cc in
    let is : s ≡ t = printed_once s t n.0 m.0 texts in
    cc
entry_once (note u x) (note v y) n m same = cc
entry_once a b n m same = cc

-- bytes begin with one recorded entry at most
pub bytes_once : (a b : Recorded) (rest more : List ℕ) → IsRecorded a → IsRecorded b → IsEntry (entry_of a) → IsEntry (entry_of b)
    → entry_spelling (entry_of a) ++ rest ≡ entry_spelling (entry_of b) ++ more → (a ≡ b) × (rest ≡ more)
bytes_once a b rest more n m fit fit' same =
    let both = (spells_once entry_format).no_other (entry_of a) (entry_of b) rest more fit fit' same in
    (entry_once a b n m both.0, both.1)
