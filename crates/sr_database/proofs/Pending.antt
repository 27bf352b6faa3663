-- What pending changes leave of a value, put in and taken back.
use Rattle.std.proofs.Common.{◌≡◌, Bool, true, false, nat_eq, List, [], ◌++◌, length, refl, sym, ◌∙◌, ap, subst}
use Rattle.std.specs.Prelude.{IsTrue}
use Rattle.std.specs.List.{AllByRecursion}
use Rattle.sr_database_files.specs.Books.{BookMap}
use Rattle.sr_exec_dml.specs.Applying.{applied}
use Rattle.sr_exec_dml.specs.FittingChanges.{ChangesFit}
use Rattle.sr_database_history.specs.Folds.{State}
use Rattle.sr_logfile.specs.Log.{Log}
use Rattle.sr_logform.specs.Outcomes.{IsShortChange}
use Rattle.sr_logform.specs.declared.change.Change.{Change}
use Rattle.sr_rows.specs.Marks.{Marked, RowMap}
use Rattle.sr_rows.specs.Inner.Steps.{at_mark}
use Rattle.sr_catalog_schema.specs.Catalogs.{Lists}
use Rattle.sr_database.specs.Advances.{Advances}
use Rattle.sr_database.specs.Databases.{ArePending}
use Rattle.sr_database.specs.Inner.Sound.{IsSound}
use Rattle.sr_database.specs.Views.{View}
use Rattle.sr_database.proofs.Advancing.{advanced_sound}
use Rattle.sr_database.proofs.Values.{pending_more, none_pending}

-- a value that can be used is sound, inside
pub sound_inside : (inside view : View) → inside ≡ view → view.log.usable ≡ true → (IsTrue inside.log.usable → IsSound inside) → IsSound inside
sound_inside inside view is usable has = has (ap (λ (v : View). v.log.usable) is ∙ usable)

-- so it is as it is seen
pub sound_seen : (inside view : View) → inside ≡ view → view.log.usable ≡ true → (IsTrue inside.log.usable → IsSound inside) → IsSound view
sound_seen inside view is usable has = subst IsSound is (sound_inside inside view is usable has)

-- a list that was seen not to be empty is not
pub some_there : (changes list : List Change) (empty : Bool) → list ≡ changes → empty ≡ nat_eq (length list) 0 → empty ≡ false → ¬ (changes ≡ [])
some_there changes list empty same test no_end none =
    let all : true ≡ false = sym (ap (λ (l : List Change). nat_eq (length l) 0) (same ∙ none)) ∙ sym test ∙ no_end in
    cc

abbrev state_with : Lists → RowMap → State
state_with catalog rows = record { catalog = catalog; rows = rows }

module _ (catalog base_catalog : Lists) (rows new_rows : Marked) (pending : List Change) (books : BookMap) (log : Log) where
  abbrev pub before : View
  before = record { catalog = catalog; base_catalog = base_catalog; rows = rows; pending = pending; books = books; log = log }

  -- with other rows and other pending changes
  abbrev pub behind : List Change → View
  behind new_pending = record { catalog = catalog; base_catalog = base_catalog; rows = new_rows; pending = new_pending; books = books; log = log }

  advanced_rows : (new_pending : List Change) → new_rows.marked ≡ rows.marked → (ArePending catalog rows pending → ArePending catalog new_rows new_pending) → Advances before (behind new_pending) []
  advanced_rows new_pending marked are =
      record { fit = tt; state = ap (λ (m : RowMap). state_with catalog m) marked; books = λ user. refl; pending = are; base_catalog = refl; base = refl; end = refl }

  module _ (changes new_pending : List Change) (some : ¬ (changes ≡ [])) (short : AllByRecursion IsShortChange changes) (fit : ChangesFit catalog rows.rows changes)
      (rows_are : new_rows.rows ≡ applied catalog changes rows.rows) (marked : new_rows.marked ≡ rows.marked) (put : new_pending ≡ pending ++ changes) where
    pub put_advanced : Advances before (behind new_pending) []
    put_advanced =
        advanced_rows new_pending marked (λ are. subst (λ (p : List Change). ArePending catalog new_rows p) (sym put) (pending_more catalog rows new_rows pending changes are some short fit rows_are marked))

    pub put_sound : IsSound before → IsSound (behind new_pending)
    put_sound sound = advanced_sound before (behind new_pending) [] put_advanced sound

  module _ (new_pending : List Change) (rows_are : new_rows.rows ≡ rows.marked) (marked : new_rows.marked ≡ rows.marked) (trail : new_rows.trail ≡ []) (none : new_pending ≡ []) where
    back_at_mark : new_rows ≡ at_mark rows.marked
    back_at_mark = λ i. record { rows = rows_are i; marked = marked i; trail = trail i }

    pub back_advanced : Advances before (behind new_pending) []
    back_advanced =
        advanced_rows new_pending marked
        (λ are. subst (λ (p : List Change). ArePending catalog new_rows p) (sym none) (subst (λ (m : Marked). ArePending catalog m []) (sym back_at_mark) (none_pending catalog rows.marked)))

    pub back_sound : IsSound before → IsSound (behind new_pending)
    back_sound sound = advanced_sound before (behind new_pending) [] back_advanced sound
