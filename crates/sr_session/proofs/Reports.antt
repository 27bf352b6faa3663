-- What was committed endures: also behind a commit that the disk refused.
use Rattle.std.proofs.Common.{◌≡◌, ◌⊎◌, List, [], ◌∷◌, ◌++◌, map, length, refl, sym, ap, subst, ◌∙◌, inl, inr, arith, append_assoc, length-append}
use Rattle.std.specs.Prelude.{IsTrue}
use Rattle.std.proofs.lemmas.List.{append-nil}
use Rattle.sr_book.specs.Entries.{Name}
use Rattle.sr_database_history.specs.Recorded.{Recorded}
use Rattle.sr_site.specs.Images.{IsSettled}
use Rattle.sr_site.specs.Seen.{Seen}
use Rattle.sr_database_meaning.specs.Events.{Event, commit, put, commits}
use Rattle.sr_database_meaning.specs.Standing.{StandsAs}
use Rattle.sr_database_meaning.specs.Traces.{Went}
use Rattle.sr_database_meaning.proofs.Going.{told_images}
use Rattle.sr_database.specs.Databases.{IsDatabase}
use Rattle.sr_database.specs.Views.{View}
use Rattle.sr_session_script.specs.Acts.{ScriptAct, entries_of}
use Rattle.sr_session.specs.Reached.{Reached}
use Rattle.sr_session.specs.Reports.{Endures}
use Rattle.sr_session.proofs.Reaching.{commits_of, stands_as}

-- two lists with one more item each are the same only where they are themselves
same_prefix : {A : Type 0} (xs ys : List A) (x y : A) → xs ++ x ∷ [] ≡ ys ++ y ∷ [] → xs ≡ ys
same_prefix [] [] x y same = refl
same_prefix [] (b ∷ ys) x y same = absurd (omega (arith, ap length same, length-append ys (y ∷ [])))
same_prefix (a ∷ xs) [] x y same = absurd (omega (arith, ap length same, length-append xs (x ∷ [])))
same_prefix (a ∷ xs) (b ∷ ys) x y same =
    let first : a ≡ b = cc in
    let rest : xs ++ x ∷ [] ≡ ys ++ y ∷ [] = cc in
    ap (λ (z : _). z ∷ xs) first ∙ ap (λ (l : List _). b ∷ l) (same_prefix xs ys x y rest)

commits_last : (events : List Event) (r : Recorded) → commits (events ++ commit r ∷ []) ≡ commits events ++ r ∷ []
commits_last [] r = refl
commits_last (commit q ∷ events) r = ap (λ (rs : List Recorded). q ∷ rs) (commits_last events r)
commits_last (put address name bytes ∷ events) r = commits_last events r

-- a history for which all stands
pub settled_endures : (publisher : Name) (es : List Recorded) (now : Seen) → IsSettled (StandsAs publisher es) now → Endures publisher es now
settled_endures publisher es now settled image there = ([], subst (λ (rs : List Recorded). StandsAs publisher rs image) (sym (append-nil es)) (settled image there))

-- with entries behind it
pub endures_less : (publisher : Name) (es added : List Recorded) (now : Seen) → Endures publisher (es ++ added) now → Endures publisher es now
endures_less publisher es added now endures image there =
    let found = endures image there in
    (added ++ found.0, subst (λ (rs : List Recorded). StandsAs publisher rs image) (append_assoc es added found.0) found.1)

-- entries that were committed, before the commit of one more was begun
pub commits_endure : (before now : Seen) (publisher : Name) (es entries : List Recorded) (r : Recorded) → Went before now publisher es (map commit (entries ++ r ∷ [])) → Endures publisher (es ++ entries) now
commits_endure before now publisher es entries r went image there =
    let whole = entries ++ r ∷ [] in
    let all : commits (map commit whole) ≡ whole = commits_of whole in
    elim (told_images before now publisher es (map commit whole) went image there) [
      | inl stands ↦ (r ∷ [], subst (λ (rs : List Recorded). StandsAs publisher rs image) (ap (λ (rs : List Recorded). es ++ rs) all ∙ sym (append_assoc es entries (r ∷ []))) stands)
      | inr lacks ↦
          let last : entries ++ r ∷ [] ≡ commits lacks.others ++ lacks.last ∷ [] = sym all ∙ ap commits lacks.is ∙ commits_last lacks.others lacks.last in (
            [],
            subst (λ (rs : List Recorded). StandsAs publisher rs image)
                (ap (λ (rs : List Recorded). es ++ rs) (sym (same_prefix entries (commits lacks.others) r lacks.last last)) ∙ sym (append-nil (es ++ entries))) lacks.stands,
          )
    ]

-- the acts of a script
pub acts_endure : (old new : View) (before now : Seen) (acts : List ScriptAct) (broken : List Recorded) (publisher : Name) (es : List Recorded) → Reached old new before now acts broken
    → IsTrue before.observable → IsDatabase old publisher es before → Endures publisher (es ++ entries_of acts) now
acts_endure old new before now acts [] publisher es reached told database =
    settled_endures publisher (es ++ entries_of acts) now (stands_as new publisher (es ++ entries_of acts) now (reached.database told reached.state.0 publisher es database))
acts_endure old new before now acts (r ∷ []) publisher es reached told database = commits_endure before now publisher es (entries_of acts) r (reached.went told publisher es database)
acts_endure old new before now acts (r ∷ other ∷ rs) publisher es reached told database = absurd reached.state
