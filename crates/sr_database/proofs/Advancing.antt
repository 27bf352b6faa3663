-- How a value advances by entries: one after the other, and what holds of it then.
use Rattle.std.proofs.Common.{◌≡◌, ℕ, ◌≤◌, ◌^◌, List, [], ◌++◌, refl, sym, ◌∙◌, ap, subst, arith, append_assoc}
use Rattle.std.proofs.lemmas.List.{append-nil}
use Rattle.sr_base.specs.Fields.{IsName}
use Rattle.sr_book.specs.Books.{new_book}
use Rattle.sr_book.specs.Entries.{Name}
use Rattle.sr_book.specs.Histories.{book_from}
use Rattle.sr_book.specs.declared.book.Book.{Book}
use Rattle.sr_book.proofs.Folds.{book_from-append}
use Rattle.sr_catalog_schema.specs.Catalogs.{Lists}
use Rattle.sr_catalog_script_laws.specs.Scripts.{IsSpellable}
use Rattle.sr_database_files.specs.Books.{book_in}
use Rattle.sr_database_history.specs.Fitting.{Stored, stored_from}
use Rattle.sr_database_history.specs.Folds.{State, fresh, state_from, state_of, end_from, end_of, sees}
use Rattle.sr_database_history.specs.Inner.Laws.{Holds}
use Rattle.sr_database_history.specs.Recorded.{Recorded}
use Rattle.sr_database_history.proofs.Joined.{state_from-append, end_from-append, le-end_from, stored_from-append}
use Rattle.sr_database_history.proofs.Kept.{held_from, stored_holds}
use Rattle.sr_database_meaning.proofs.Beginnings.{publisher_from, ends_within}
use Rattle.sr_database.specs.Advances.{Advances}
use Rattle.sr_database.specs.Databases.{IsBased, IsOf}
use Rattle.sr_database.specs.Inner.Sound.{IsSound}
use Rattle.sr_database.specs.Views.{View, committed}
use Rattle.sr_database.proofs.Based.{base_within}
use Rattle.sr_database.proofs.Commits.{committed_is}

-- ---- one after the other

pub none_advanced : (view : View) → Advances view view []
none_advanced view = record { fit = tt; state = refl; books = λ user. refl; pending = λ are. are; base_catalog = refl; base = refl; end = refl }

-- where nothing was done to the value it is the same
pub same_advanced : (old new : View) → new ≡ old → Advances old new []
same_advanced old new same = subst (λ (v : View). Advances old v []) (sym same) (none_advanced old)

pub advanced_then : (a b c : View) (es fs : List Recorded) → Advances a b es → Advances b c fs → Advances a c (es ++ fs)
advanced_then a b c es fs one two =
    record {
      fit = (stored_from-append (committed a) a.log.end es fs).1 (one.fit, subst (λ (s : State). stored_from s (end_from a.log.end es) fs) one.state (subst (λ (n : ℕ). stored_from (committed b) n fs) one.end two.fit));
      state = two.state ∙ ap (λ (s : State). state_from s fs) one.state ∙ sym (state_from-append (committed a) es fs);
      books = λ user. two.books user ∙ ap (λ (b : Book). book_from sees user b fs) (one.books user) ∙ sym (book_from-append sees user (book_in a.books user) es fs);
      pending = λ are. two.pending (one.pending are);
      base_catalog = two.base_catalog ∙ one.base_catalog;
      base = two.base ∙ one.base;
      end = two.end ∙ ap (λ (n : ℕ). end_from n fs) one.end ∙ sym (end_from-append a.log.end es fs);
    }

-- ---- what holds of it

pub advanced_sound : (old new : View) (es : List Recorded) → Advances old new es → IsSound old → IsSound new
advanced_sound old new es on sound =
    record {
      name = subst (λ (n : Name). IsName n) (sym (ap (λ (s : State). s.catalog.publisher) on.state ∙ publisher_from (committed old) es)) sound.name;
      holds = subst (λ (s : State). Holds s) (sym on.state) (held_from (committed old) old.log.end es sound.holds on.fit);
      pending = on.pending sound.pending;
      base_catalog = subst (λ (c : Lists). IsSpellable c) (sym on.base_catalog) sound.base_catalog;
      order = record {
        order = omega (arith, sound.order.order, on.base, on.end, le-end_from old.log.end es);
        limit = omega (arith, on.end, ends_within (committed old) old.log.end es limit on.fit);
      };
    }
  where
    limit : old.log.end ≤ 2 ^ 62
    limit = sound.order.limit

-- the log begins where it did, behind entries of the longer history
based_then : (base : ℕ) (catalog : Lists) (publisher : Name) (es fs : List Recorded) (new_base : ℕ) (new_catalog : Lists) → IsBased base catalog publisher es → new_base ≡ base → new_catalog ≡ catalog → IsBased new_base new_catalog publisher (es ++ fs)
based_then base catalog publisher es fs new_base new_catalog is same also =
    record {
      done = is.done;
      left = is.left ++ fs;
      parts = ap (λ (l : List Recorded). l ++ fs) is.parts ∙ append_assoc is.done is.left fs;
      base_is = same ∙ is.base_is;
      catalog_is = also ∙ is.catalog_is;
      snapshot = is.snapshot;
      is_snapshot = is.is_snapshot;
    }

-- a value of a history is that of the history with the entries
pub advanced_of : (old new : View) (publisher : Name) (es fs : List Recorded) → Advances old new fs → IsOf old publisher es → IsOf new publisher (es ++ fs)
advanced_of old new publisher es fs on is =
    record {
      name = is.name;
      stored = (stored_from-append (fresh publisher) 0 es fs).1 (is.stored, subst (λ (s : State). stored_from s (end_of es) fs) (committed_is old publisher es is) (subst (λ (n : ℕ). stored_from (committed old) n fs) is.end on.fit));
      catalog = ap (λ (s : State). s.catalog) states;
      marked = ap (λ (s : State). s.rows) states;
      pending = on.pending is.pending;
      books = λ user. on.books user ∙ ap (λ (b : Book). book_from sees user b fs) (is.books user) ∙ sym (book_from-append sees user new_book es fs);
      based = based_then old.log.base old.base_catalog publisher es fs new.log.base new.base_catalog is.based on.base on.base_catalog;
      end = on.end ∙ ap (λ (n : ℕ). end_from n fs) is.end ∙ sym (end_from-append 0 es fs);
    }
  where
    states : committed new ≡ state_of publisher (es ++ fs)
    states = on.state ∙ ap (λ (s : State). state_from s fs) (committed_is old publisher es is) ∙ sym (state_from-append (fresh publisher) es fs)

-- of the same history, where no entry was committed
pub advanced_still : (old new : View) (publisher : Name) (es : List Recorded) → Advances old new [] → IsOf old publisher es → IsOf new publisher es
advanced_still old new publisher es on is = subst (λ (l : List Recorded). IsOf new publisher l) (append-nil es) (advanced_of old new publisher es [] on is)

-- ---- the value of a history is sound

pub sound_of : (view : View) (publisher : Name) (es : List Recorded) → IsOf view publisher es → IsSound view
sound_of view publisher es is =
    record {
      name = subst (λ (n : Name). IsName n) (sym (ap (λ (c : Lists). c.publisher) is.catalog ∙ publisher_from (fresh publisher) es)) is.name;
      holds = subst (λ (s : State). Holds s) (sym (committed_is view publisher es is)) (stored_holds publisher es is.stored);
      pending = is.pending;
      base_catalog = subst (λ (c : Lists). IsSpellable c) (sym based.catalog_is) base_holds.catalog;
      order = record {
        order = omega (arith, base_within view.log.base view.base_catalog publisher es based, is.end);
        limit = omega (arith, is.end, ends_within (fresh publisher) 0 es zero is.stored);
      };
    }
  where
    based : IsBased view.log.base view.base_catalog publisher es
    based = is.based

    base_stored : Stored publisher based.done
    base_stored = ((stored_from-append (fresh publisher) 0 based.done based.left).0 (subst (λ (l : List Recorded). Stored publisher l) based.parts is.stored)).0

    base_holds : Holds (state_of publisher based.done)
    base_holds = stored_holds publisher based.done base_stored

    zero : 0 ≤ 2 ^ 62
    zero = omega arith
