-- The statements of a recorded entry are those of its texts, and an entry gives one list of ops.
use Rattle.std.proofs.Common.{◌≡◌, ℕ, true, false, List, [], ◌∷◌, map, Option, Some, None, refl, sym, ap, ap₂, ◌∙◌}
use Rattle.std.specs.List.{AllByRecursion}
use Rattle.sr_ast.specs.Layout.{printed}
use Rattle.sr_ast.specs.declared.stmt.Stmt.{Stmt}
use Rattle.sr_book.specs.Entries.{Name}
use Rattle.sr_ast.specs.NormalForms.{IsNormal}
use Rattle.sr_database_history.specs.Recorded.{Done, plain, ran, conflict, clash, done_of, IsLawfulDone, IsNoExec}
use Rattle.sr_database_history.specs.Recorded.{Recorded, own, taken, ddl, sync, pass, note, entry_of, IsRecorded}
use Rattle.sr_logform.specs.declared.change.Change.{Change}
use Rattle.sr_logform.specs.declared.entry.Entry.{Entry}
use Rattle.sr_logform.specs.declared.op.Op.{Op}
use Rattle.sr_logform.specs.declared.op.Op.TheVariants.{Insert, Remove, Set, Clear, Exec}
use Rattle.sr_logform.specs.declared.outcome.Clash.{Clash as Why}
use Rattle.sr_logform.specs.declared.outcome.Outcome.TheVariants.{Plain, Conflict, Clash}
use Rattle.sr_base.specs.declared.value.Value.{Value as Cell}
use Rattle.sr_parse.proofs.Prints.{prints_once}
use Rattle.sr_catalog_schema.specs.Catalogs.{Lists}
use Rattle.sr_scan.specs.Inner.Images.{told}
use Rattle.sr_scan.specs.Inner.Meanings.{text_done, texts_of, IsMeant, AreMeant, IsGiven, meant_done, meant_by}

-- what a text is, is one
one_meaning : (t : Option (List ℕ)) (m n : Option Stmt) → IsMeant t m → IsMeant t n → m ≡ n
one_meaning None m n a b = a ∙ sym b
one_meaning (Some text) None None a b = refl
one_meaning (Some text) None (Some s) a b = absurd (a s b)
one_meaning (Some text) (Some s) None a b = absurd (b s a)
one_meaning (Some text) (Some s) (Some t) a b = ap Some (prints_once text s t a b)

one_each : (texts : List (Option (List ℕ))) (ms ns : List (Option Stmt)) → AreMeant texts ms → AreMeant texts ns → ms ≡ ns
one_each [] [] [] a b = refl
one_each [] [] (n ∷ ns) a b = absurd b
one_each [] (m ∷ ms) ns a b = absurd a
one_each (t ∷ texts) [] ns a b = absurd a
one_each (t ∷ texts) (m ∷ ms) [] a b = absurd b
one_each (t ∷ texts) (m ∷ ms) (n ∷ ns) a b = ap₂ (λ x xs. x ∷ xs) (one_meaning t m n a.0 b.0) (one_each texts ms ns a.1 b.1)

pub given_once : (c : Lists) (e : Entry) (user : Name) (one other : List Op) → IsGiven c e user one → IsGiven c e user other → one ≡ other
given_once c e user one other a b = a.gives ∙ (ap (λ m. told c e m user) (one_each (texts_of e) a.meant b.meant a.are b.are) ∙ sym b.gives)

-- the texts of a recorded entry are those of its statements
no_text : (op : Op) (changes : List Change) → IsNoExec op → text_done op (Plain changes) ≡ None
no_text (Insert table values) changes n = refl
no_text (Remove table key) changes n = refl
no_text (Set table key columns) changes n = refl
no_text (Clear table) changes n = refl
no_text (Exec text) changes n = absurd n

no_text_met : (op : Op) (inserts : List Change) (before after : List Cell) → text_done op (Conflict inserts before after) ≡ None
no_text_met (Insert table values) inserts before after = refl
no_text_met (Remove table key) inserts before after = refl
no_text_met (Set table key columns) inserts before after = refl
no_text_met (Clear table) inserts before after = refl
no_text_met (Exec text) inserts before after = refl

no_text_clash : (op : Op) (why : Why) → text_done op (Clash why) ≡ None
no_text_clash (Insert table values) why = refl
no_text_clash (Remove table key) why = refl
no_text_clash (Set table key columns) why = refl
no_text_clash (Clear table) why = refl
no_text_clash (Exec text) why = refl

none_meant : (t : Option (List ℕ)) → t ≡ None → IsMeant t None
none_meant None e = refl
none_meant (Some text) e = cc

done_meant : (d : Done) → IsLawfulDone d → IsMeant (text_done (done_of d).0 (done_of d).1) (meant_done d)
done_meant (plain op changes) n = none_meant (text_done op (Plain changes)) (no_text op changes n)
done_meant (ran statement changes) n = record { normal = n.0; prints = refl }
done_meant (conflict op inserts before after) n = none_meant (text_done op (Conflict inserts before after)) (no_text_met op inserts before after)
done_meant (clash op why) n = none_meant (text_done op (Clash why)) (no_text_clash op why)

dones_meant : (dones : List Done) → AllByRecursion IsLawfulDone dones → AreMeant (map (λ p. text_done p.0 p.1) (map done_of dones)) (map meant_done dones)
dones_meant [] n = tt
dones_meant (d ∷ dones) n = (done_meant d n.0, dones_meant dones n.1)

statement_meant : (statement : Stmt) → IsNormal statement → IsMeant (Some (printed statement)) (Some statement)
statement_meant statement n = record { normal = n; prints = refl }

are_meant : (r : Recorded) → IsRecorded r → AreMeant (texts_of (entry_of r)) (meant_by r)
are_meant (own changes) n = tt
are_meant (taken user at dones) n = dones_meant dones n
are_meant (ddl statement) n = (statement_meant statement n.0, tt)
are_meant (sync user tables) n = tt
are_meant (pass users true statement changes) n = tt
are_meant (pass users false statement changes) n = (statement_meant statement n.0, tt)
are_meant (note user what) n = tt

pub meant_is : (r : Recorded) (meant : List (Option Stmt)) → IsRecorded r → AreMeant (texts_of (entry_of r)) meant → meant ≡ meant_by r
meant_is r meant n are = one_each (texts_of (entry_of r)) meant (meant_by r) are (are_meant r n)
