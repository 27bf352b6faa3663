-- The statement in normal form that prints a text is the one that the text spells.
use Rattle.std.proofs.Common.{◌≡◌, ℕ, List, [], ◌∷◌, Option, Some, None, Ok, Err, IfSome, inl, inr, sym, subst, ap, ◌∙◌}
use Rattle.sr_ast.specs.Layout.{printed}
use Rattle.sr_ast.specs.declared.stmt.Stmt.{Stmt}
use Rattle.sr_parse_grammar.specs.Meanings.{IsWritten}
use Rattle.sr_parse_grammar.specs.Inner.Faults.{IsRead, Answers}
use Rattle.sr_parse_grammar.specs.declared.fault.ParseFault.{ParseFault}
use Rattle.sr_parse_grammar.specs.declared.fault.ParseFault.TheVariants.{Refused}
use Rattle.sr_parse_grammar.proofs.Stated.{printed-is_written}
use Rattle.sr_parse_grammar.proofs.Meaning.{written_once}
use Rattle.sr_parse_grammar.proofs.Closed.{written-normal}
use Rattle.sr_parse.specs.Prints.{Prints}

-- the text that a statement prints spells it
pub prints-spells : (s : Stmt) (text : List ℕ) → Prints s text → IsWritten text (s ∷ [])
prints-spells s text p = subst (λ (t : List ℕ). IsWritten t (s ∷ [])) p.prints (printed-is_written s p.normal)

one_of_one : (s t : Stmt) → s ∷ [] ≡ t ∷ [] → s ≡ t
one_of_one s t same = cc

-- a text is printed by one statement at most
pub prints_once : (text : List ℕ) (s t : Stmt) → Prints s text → Prints t text → s ≡ t
prints_once text s t p q =
    one_of_one s t (written_once text (s ∷ []) (t ∷ []) (prints-spells s text p) (prints-spells t text q))

script_answered : (script : List Stmt) (s : Stmt) → Answers (Ok script) (s ∷ []) → script ≡ s ∷ []
script_answered script s (inl e) = cc
script_answered script s (inr e) = absurd (cc)

refused_never : (fault : ParseFault) (at : ℕ) (s : Stmt) → fault ≡ Refused at → Answers (Err fault) (s ∷ []) → ⊥
refused_never fault at s is (inl e) = cc
refused_never fault at s is (inr e) = cc

-- the script that is read from the text that a statement prints is this statement alone
prints-script : (text : List ℕ) (script : List Stmt) (s : Stmt) → IsRead text (Ok script) → Prints s text → script ≡ s ∷ []
prints-script text script s read p = script_answered script s (read (s ∷ []) (prints-spells s text p))

-- no statement prints a text that is refused
pub refused-none : (text : List ℕ) (fault : ParseFault) (at : ℕ) → IsRead text (Err fault) → fault ≡ Refused at → (s : Stmt) → ¬ (Prints s text)
refused-none text fault at read is s p = refused_never fault at s is (read (s ∷ []) (prints-spells s text p))

-- no statement prints a text whose script is not one statement
pub script-none : (text : List ℕ) (script items : List Stmt) → IsRead text (Ok script) → items ≡ script → ((x : Stmt) → ¬ (items ≡ x ∷ []))
    → (s : Stmt) → ¬ (Prints s text)
script-none text script items read same never s p = never s (same ∙ prints-script text script s read p)

-- no statement prints a text whose one statement prints another
pub other-none : (text : List ℕ) (script items : List Stmt) (stmt : Stmt) → IsRead text (Ok script) → items ≡ script → items ≡ stmt ∷ []
    → ¬ (printed stmt ≡ text) → (s : Stmt) → ¬ (Prints s text)
other-none text script items stmt read same is differs s p =
    let one : stmt ≡ s = one_of_one stmt s (sym is ∙ same ∙ prints-script text script s read p) in
    differs (ap (λ (x : Stmt). printed x) one ∙ p.prints)

-- the one statement of a script that a text spells prints it, where its printed text is this one
pub stmt-prints : (text : List ℕ) (script items : List Stmt) (stmt : Stmt) (found : Option Stmt) → IsWritten text script → items ≡ script
    → items ≡ stmt ∷ [] → IfSome found (λ s. s ≡ stmt) → IfSome found (λ _. printed stmt ≡ text) → IfSome found (λ s. Prints s text)
stmt-prints text script items stmt None written same is copied prints = tt
stmt-prints text script items stmt (Some s) written same is copied prints =
    let one : IsWritten text (stmt ∷ []) = subst (λ (l : List Stmt). IsWritten text l) (sym same ∙ is) written in
    let found : Prints stmt text = record { normal = (written-normal text (stmt ∷ []) one).0; prints = prints } in
    subst (λ (x : Stmt). Prints x text) (sym copied) found
