-- What each kind of entry comes to.
use Rattle.std.proofs.Common.{◌≡◌, Result, Ok, Err, OnOk, ℕ, Bool, true, false, cond, List, [], ◌∷◌, Option, Some, None, flat_map, bytes_eq, refl, sym, ap, ◌∙◌}
use Rattle.std.specs.BTreeMap as tree
use Rattle.sr_base.specs.Order.{name_cmp}
use Rattle.sr_base.specs.declared.offset.Offset.{Offset}
use Rattle.sr_base.specs.declared.value.Value.{Value as Cell}
use Rattle.sr_book.specs.declared.note.Note.{Note as BookNote}
use Rattle.sr_logform.specs.declared.change.Change.{Change}
use Rattle.sr_logform.specs.declared.entry.Entry.{Entry}
use Rattle.sr_logform.specs.declared.entry.Entry.TheVariants.{Own, From, Ddl, Sync, Pass, Note}
use Rattle.sr_logform.specs.declared.op.Op.{Op}
use Rattle.sr_logform.specs.declared.op.Op.TheVariants.{Exec}
use Rattle.sr_logform.specs.declared.op.Transaction.{Transaction}
use Rattle.sr_logform.specs.declared.outcome.Outcome.{Outcome}
use Rattle.sr_ast.specs.declared.stmt.Stmt.{Stmt}
use Rattle.sr_publish.specs.SubscribedTables.{SubscribedTable, subscribed_table_of}
use Rattle.sr_catalog_schema.specs.Catalogs.{Lists}
use Rattle.sr_catalog_schema.specs.Firsts.{has}
use Rattle.sr_scan.specs.Inner.Changed.{or_before, LeavesBehind, AreTaken, IsTold}
use Rattle.sr_scan.specs.Given.{table_synced}
use Rattle.sr_scan.specs.Inner.Images.{SubscribedTables, changes_told, catalog_behind, told}
use Rattle.sr_scan.specs.Inner.Meanings.{IsMeant, IsGiven}
use Rattle.sr_scan.specs.Inner.Scanners.{Scan, Follows, transaction_of, IsFed}
use Rattle.sr_scan.specs.Inner.Views.{AreViews}

abbrev Views : Type 0
Views = tree.BTreeMap (List ℕ) SubscribedTable

pub own_told : (c : Lists) (user : List ℕ) (views : Views) (changes : List Change) (ops : List Op) → AreViews c user views
    → ops ≡ changes_told (tree.get name_cmp views) changes → IsTold c (Own changes) user ops None
unfolding told
own_told c user views changes ops v e = record { meant = []; are = tt; gives = e ∙ ap (λ (f : SubscribedTables). changes_told f changes) v.same; catalog = refl }

pub from_told : (c : Lists) (user from : List ℕ) (at : Offset) (taken : List (Op × Outcome)) (ops : List Op) (behind : Option Lists)
    → AreTaken (bytes_eq from user) c user taken ops behind → IsTold c (From from at taken) user ops behind
unfolding told
from_told c user from at taken ops behind t = record { meant = t.meant; are = t.are; gives = t.gives; catalog = t.catalog }

pub statement_told : (c : Lists) (user text : List ℕ) (behind : Option Lists) → LeavesBehind c (Some text) behind → IsTold c (Ddl text) user [] behind
unfolding told
statement_told c user text behind b = record { meant = b.meant ∷ []; are = (b.is, tt); gives = refl; catalog = b.catalog }

pub sync_told : (c : Lists) (user to : List ℕ) (tables : List (List ℕ × List (List Cell))) (ops : List Op)
    → ops ≡ cond (bytes_eq to user) (flat_map (table_synced c user) tables) [] → IsTold c (Sync to tables) user ops None
unfolding told
sync_told c user to tables ops e = record { meant = []; are = tt; gives = e; catalog = refl }

pass_is : (c : Lists) (user : List ℕ) (views : Views) (users : List (List ℕ)) (only : Bool) (text : List ℕ) (changes : List Change) (ops : List Op) → AreViews c user views
    → ops ≡ cond (has users user) (Exec text ∷ []) (cond only [] (changes_told (tree.get name_cmp views) changes))
    → ops ≡ cond (has users user) (Exec text ∷ []) (cond only [] (changes_told (subscribed_table_of c user) changes))
pass_is c user views users only text changes ops v e = e ∙ ap (λ (f : SubscribedTables). cond (has users user) (Exec text ∷ []) (cond only [] (changes_told f changes))) v.same

pub pass_only_told : (c : Lists) (user : List ℕ) (views : Views) (users : List (List ℕ)) (only : Bool) (text : List ℕ) (changes : List Change) (ops : List Op) → AreViews c user views
    → only ≡ true → ops ≡ cond (has users user) (Exec text ∷ []) (cond only [] (changes_told (tree.get name_cmp views) changes)) → IsTold c (Pass users only text changes) user ops None
unfolding told
pass_only_told c user views users true text changes ops v is e = record { meant = []; are = tt; gives = e; catalog = refl }
pass_only_told c user views users false text changes ops v is e = cc

pub pass_told : (c : Lists) (user : List ℕ) (views : Views) (users : List (List ℕ)) (only : Bool) (text : List ℕ) (changes : List Change) (ops : List Op) (behind : Option Lists)
    → AreViews c user views → only ≡ false → ops ≡ cond (has users user) (Exec text ∷ []) (cond only [] (changes_told (tree.get name_cmp views) changes))
    → LeavesBehind c (Some text) behind → IsTold c (Pass users only text changes) user ops behind
unfolding told
pass_told c user views users true text changes ops behind v is e b = cc
pass_told c user views users false text changes ops behind v is e b = record {
  meant = b.meant ∷ [];
  are = (b.is, tt);
  gives = pass_is c user views users false text changes ops v e;
  catalog = b.catalog;
}

pub note_told : (c : Lists) (user about : List ℕ) (note : BookNote) → IsTold c (Note about note) user [] None
unfolding told
note_told c user about note = record { meant = []; are = tt; gives = refl; catalog = refl }

pub given_from_told : (c : Lists) (e : Entry) (user : List ℕ) (ops : List Op) (behind : Option Lists) → IsTold c e user ops behind → IsGiven c e user ops
given_from_told c e user ops behind t = record { meant = t.meant; are = t.are; gives = t.gives }

pub fed_from_told : (old new : Scan) (at : Offset) (e : Entry) (ops : List Op) (behind : Option Lists) (found : Option Transaction) → IsTold old.catalog e old.user ops behind
    → new.catalog ≡ or_before behind old.catalog → new.user ≡ old.user → found ≡ transaction_of at ops → IsFed old at e found new
fed_from_told old new at e ops behind found t c u f = record {
  meant = t.meant;
  are = t.are;
  gives = f ∙ ap (transaction_of at) t.gives;
  catalog = c ∙ t.catalog;
  user = u;
}

pub fed_by_own : (old new : Scan) (at : Offset) (changes : List Change) (ops : List Op) (found : Option Transaction) → IsTold old.catalog (Own changes) old.user ops None
    → new ≡ old → found ≡ transaction_of at ops → IsFed old at (Own changes) found new
fed_by_own old new at changes ops found t e f = fed_from_told old new at (Own changes) ops None found t (ap (λ s. s.catalog) e) (ap (λ s. s.user) e) f

-- ---- a statement on the catalog, in its place

pub fed_by_statement : (old new : Scan) (at : Offset) (text : List ℕ) → Follows old text new → IsFed old at (Ddl text) None new
unfolding told
fed_by_statement old new at text f = record { meant = f.meant ∷ []; are = (f.is, tt); gives = refl; catalog = f.catalog; user = f.user }

pub followed_none : (s : Scan) (text : List ℕ) → IsMeant (Some text) None → Follows s text s
followed_none s text none = record { meant = None; is = none; catalog = refl; user = refl }

pub followed_so : {A E : Type 0} (old new : Scan) (text : List ℕ) (meant : Option Stmt) (x : Stmt) (r : Result A E) → IsMeant (Some text) meant → meant ≡ Some x
    → OnOk r (new.catalog ≡ catalog_behind old.catalog (Some x)) → new.user ≡ old.user → OnOk r (Follows old text new)
followed_so old new text meant x (Err e) is so h u = tt
followed_so old new text meant x (Ok done) is so h u = record { meant = meant; is = is; catalog = h ∙ ap (catalog_behind old.catalog) (sym so); user = u }

-- ---- a change of a book

pub fed_by_note : (s : Scan) (at : Offset) (about : List ℕ) (note : BookNote) → IsFed s at (Note about note) None s
unfolding told
fed_by_note s at about note = record { meant = []; are = tt; gives = refl; catalog = refl; user = refl }
