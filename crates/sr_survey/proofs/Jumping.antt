-- Who has a survey goes on to the next place, and tells it by the catalog of now.
use Rattle.std.proofs.Common.{◌≡◌, ◌⊎◌, ℕ, ◌<◌, ◌≤◌, Bool, true, false, cond, sym, List, [], ◌∷◌, ◌++◌, Option, Some, None, refl, ap, subst, arith, ⊎_elim, ◌∙◌}
use Rattle.sr_ast.specs.declared.stmt.Stmt.{Stmt}
use Rattle.sr_book.specs.Entries.{Name}
use Rattle.sr_catalog_schema.specs.Catalogs.{Lists}
use Rattle.sr_database_history.proofs.Joined.{stored_from-append}
use Rattle.sr_database_history.proofs.Kept.{stored_holds}
use Rattle.sr_database_history.specs.Fitting.{Fits, Stored}
use Rattle.sr_database_history.specs.Folds.{fresh, state_of, end_of}
use Rattle.sr_database_history.specs.Recorded.{Recorded, entry_of}
use Rattle.sr_logform.specs.declared.entry.Entry.{Entry}
use Rattle.sr_logform.specs.declared.entry.Entry.TheVariants.{Own, From, Ddl, Sync, Pass, Note}
use Rattle.sr_logform.specs.declared.op.Op.TheVariants.{Exec}
use Rattle.sr_publish.specs.SubscribedTables.{subscribed_table_of}
use Rattle.sr_scan.proofs.Agreeing.{told_same}
use Rattle.sr_scan.proofs.Meant.{meant_is}
use Rattle.sr_scan.specs.Given.{gives}
use Rattle.sr_scan.specs.Inner.Images.{changes_told, told}
use Rattle.sr_scan.specs.Inner.Meanings.{texts_of, AreMeant}
use Rattle.sr_survey.proofs.Alike.{told_own, told_view, told_pass, told_taken}
use Rattle.sr_survey.proofs.Concerned.{none_meant}
use Rattle.sr_survey.proofs.Splits.{past_end}
use Rattle.sr_survey.specs.Inner.Alike.{ShowsAlike}
use Rattle.sr_survey.specs.Inner.Concerning.{names_user, runs}
use Rattle.sr_survey.specs.Inner.Following.{since_of}
use Rattle.sr_survey.specs.Inner.Surveyed.{IsListed, IsNext, IsBefore, HasSurveyed, place_of}
use Rattle.sr_survey.specs.declared.survey.Survey.{Survey}
use Rattle.sr_survey_places.specs.declared.place.Place.{Place}

-- ---- up to the next place

pub jumped : (publisher user : Name) (es first rest : List Recorded) (r : Recorded) (s : Survey) (sent : ℕ) (o : Option Place) → HasSurveyed publisher es s → IsNext s user sent o → es ≡ first ++ r ∷ rest
    → s.begin ≤ end_of first → sent < end_of (first ++ r ∷ []) → IsBefore (end_of (first ++ r ∷ [])) o → gives (state_of publisher first) r user ≡ []
jumped publisher user es first rest r s sent o has next e begun late before =
    ⊎_elim (λ listed. absurd (not_listed o next before listed)) (λ given. given) (has.covers user first rest r e begun) where
      not_listed : (o : Option Place) → IsNext s user sent o → IsBefore (end_of (first ++ r ∷ [])) o → IsListed s user (place_of first r) → ⊥
      not_listed None next before listed =
          let early : end_of (first ++ r ∷ []) ≤ sent = next (place_of first r) listed in
          let past : sent < end_of (first ++ r ∷ []) = late in
          absurd (omega arith)
      not_listed (Some p) next before listed =
          let no_less : p.end ≤ end_of (first ++ r ∷ []) = next.2 (place_of first r) listed late in
          let less : end_of (first ++ r ∷ []) < p.end = before in
          absurd (omega arith)

-- ---- by the catalog of now

-- two catalogs that show a user the same tell the same of an entry in which no statement ran
entry_alike : (c d : Lists) (user : Name) (e : Entry) (meant : List (Option Stmt)) → ShowsAlike c d user → runs e ≡ false → AreMeant (texts_of e) meant → told d e meant user ≡ told c e meant user
unfolding told
entry_alike c d user (Own changes) [] alike still are = told_own c d user changes alike
entry_alike c d user (Own changes) (m ∷ meant) alike still are = absurd are
entry_alike c d user (From from at ops) meant alike still are = told_taken c d user from at ops meant alike (none_meant ops meant are still)
entry_alike c d user (Ddl text) meant alike still are = refl
entry_alike c d user (Sync to tables) [] alike still are = told_view c d user to tables alike
entry_alike c d user (Sync to tables) (m ∷ meant) alike still are = absurd are
entry_alike c d user (Pass users only text changes) meant alike still are = told_pass c d user text users only changes meant alike
entry_alike c d user (Note about what) meant alike still are = refl

-- by any two catalogs the same is told of a statement that is passed on to the user
named_alike : (c d : Lists) (user : Name) (e : Entry) (meant : List (Option Stmt)) → names_user user e ≡ true → told d e meant user ≡ told c e meant user
unfolding told
named_alike c d user (Own changes) meant named = cc
named_alike c d user (From from at ops) meant named = cc
named_alike c d user (Ddl text) meant named = refl
named_alike c d user (Sync to tables) meant named = cc
named_alike c d user (Pass users only text changes) meant named =
    ap (λ (b : Bool). cond b (Exec text ∷ []) (cond only [] (changes_told (subscribed_table_of d user) changes))) named
    ∙ sym (ap (λ (b : Bool). cond b (Exec text ∷ []) (cond only [] (changes_told (subscribed_table_of c user) changes))) named)
named_alike c d user (Note about what) meant named = refl

-- an entry of a history fits after those before it
fits_there : (publisher : Name) (es first rest : List Recorded) (r : Recorded) → Stored publisher es → es ≡ first ++ r ∷ rest → Stored publisher first × Fits (state_of publisher first) (end_of first) r
fits_there publisher es first rest r stored e =
    let both = (stored_from-append (fresh publisher) 0 first (r ∷ rest)).0 (subst (λ (rs : List Recorded). Stored publisher rs) e stored) in
    (both.0, both.1.0)

-- where no statement touched a user since, none ran in an entry from there on
still_there : (publisher user : Name) (es first rest : List Recorded) (r : Recorded) (s : Survey) → HasSurveyed publisher es s → es ≡ first ++ r ∷ rest → s.begin ≤ end_of first → since_of s user ≤ end_of first
    → (b : Bool) → runs (entry_of r) ≡ b → b ≡ false
still_there publisher user es first rest r s has e begun since true run =
    let moved : end_of (first ++ r ∷ []) ≤ since_of s user = has.each user first rest r e begun run in
    let past : end_of first < end_of (first ++ r ∷ []) = past_end first r in
    let was : since_of s user ≤ end_of first = since in
    absurd (omega arith)
still_there publisher user es first rest r s has e begun since false run = refl

pub told_now : (publisher user : Name) (es first rest : List Recorded) (r : Recorded) (s : Survey) (meant : List (Option Stmt)) → Stored publisher es → HasSurveyed publisher es s → es ≡ first ++ r ∷ rest
    → s.begin ≤ end_of first → since_of s user ≤ end_of first → AreMeant (texts_of (entry_of r)) meant → told s.catalog (entry_of r) meant user ≡ gives (state_of publisher first) r user
told_now publisher user es first rest r s meant stored has e begun since are =
    let before = fits_there publisher es first rest r stored e in
    let c = (state_of publisher first).catalog in
    let still = still_there publisher user es first rest r s has e begun since (runs (entry_of r)) refl in
    entry_alike c s.catalog user (entry_of r) meant (has.shows user first (r ∷ rest) e since) still are
    ∙ ap (λ m. told c (entry_of r) m user) (meant_is r meant before.1.meant are)
    ∙ told_same (state_of publisher first) (end_of first) r user (stored_holds publisher first before.0) before.1

pub told_named : (publisher user : Name) (es first rest : List Recorded) (r : Recorded) (c : Lists) (meant : List (Option Stmt)) → Stored publisher es → es ≡ first ++ r ∷ rest → names_user user (entry_of r) ≡ true
    → AreMeant (texts_of (entry_of r)) meant → told c (entry_of r) meant user ≡ gives (state_of publisher first) r user
told_named publisher user es first rest r c meant stored e named are =
    let before = fits_there publisher es first rest r stored e in
    let there = (state_of publisher first).catalog in
    named_alike there c user (entry_of r) meant named
    ∙ ap (λ m. told there (entry_of r) m user) (meant_is r meant before.1.meant are)
    ∙ told_same (state_of publisher first) (end_of first) r user (stored_holds publisher first before.0) before.1
