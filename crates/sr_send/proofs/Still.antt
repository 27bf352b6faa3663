-- Entries of which no statement ran leave the catalog as it is.
use Rattle.std.proofs.Common.{◌≡◌, ℕ, Bool, true, false, List, [], ◌∷◌, Option, None, refl, sym, subst}
use Rattle.std.specs.Prelude.{IsTrue, map}
use Rattle.std.specs.List.{AllByRecursion}
use Rattle.sr_ast.specs.declared.stmt.Stmt.{Stmt}
use Rattle.sr_base.specs.declared.offset.Offset.{Offset}
use Rattle.sr_logform.specs.declared.change.Change.{Change}
use Rattle.sr_logform.specs.declared.entry.Entry.{Entry}
use Rattle.sr_logform.specs.declared.entry.Entry.TheVariants.{Pass}
use Rattle.sr_logform.specs.declared.op.Transaction.{Transaction}
use Rattle.sr_catalog_schema.specs.Catalogs.{Lists}
use Rattle.sr_scan.specs.Inner.Images.{catalog_after}
use Rattle.sr_scan.specs.Inner.Meanings.{texts_of, IsMeant, AreMeant}
use Rattle.sr_scan.specs.Inner.Scanners.{Scan, IsFed}
use Rattle.sr_send.specs.Inner.Passing.{RunsNothing, IsPassed}

-- no statement for any of the texts
abbrev none_of : List (Option (List ℕ)) → List (Option Stmt)
none_of texts = map (λ _. None) texts

are_none : (texts : List (Option (List ℕ))) → AllByRecursion (λ text. text ≡ None) texts → AreMeant texts (none_of texts)
are_none [] all = tt
are_none (text ∷ texts) all = (subst (λ (t : Option (List ℕ)). IsMeant t None) (sym all.0) refl, are_none texts all.1)

after_none : (c : Lists) (texts : List (Option (List ℕ))) → catalog_after c (none_of texts) ≡ c
after_none c [] = refl
after_none c (text ∷ texts) = after_none c texts

pub passed_still : (s : Scan) (e : Entry) → RunsNothing e → IsPassed s e s
passed_still s e nothing = record {
  meant = none_of (texts_of e);
  are = are_none (texts_of e) nothing;
  catalog = sym (after_none s.catalog (texts_of e));
  user = refl;
}

pub passed_fed : (old new : Scan) (at : Offset) (e : Entry) (found : Option Transaction) → IsFed old at e found new → IsPassed old e new
passed_fed old new at e found fed = record { meant = fed.meant; are = fed.are; catalog = fed.catalog; user = fed.user }

pub pass_runs_nothing : (users : List (List ℕ)) (only : Bool) (text : List ℕ) (changes : List Change) → IsTrue only → RunsNothing (Pass users only text changes)
pass_runs_nothing users true text changes is = tt
pass_runs_nothing users false text changes is = absurd cc
