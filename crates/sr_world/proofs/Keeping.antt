-- The laws of the layers.
use Rattle.std.proofs.Common.{◌≡◌, ◌↔◌, ℕ, ◌+◌, List, [], ◌∷◌, ◌++◌, All, refl, ap, subst, ◌∙◌}
use Rattle.std.proofs.lemmas.List.Elements.{All-nil, All-append}
use Rattle.sr_book.specs.declared.note.Note.{Note}
use Rattle.sr_book.specs.Entries.{Name, local, from_user, noted}
use Rattle.sr_database_history.specs.Fitting.{Knows, FitsState, stored_from}
use Rattle.sr_database_history.specs.Folds.{State, fresh, next, size, sees, state_from, end_from}
use Rattle.sr_database_history.specs.Folds as folds
use Rattle.sr_database_history.specs.Inner.Laws.{Holds}
use Rattle.sr_database_history.specs.Recorded.{Recorded, own, taken, ddl, sync, pass, note}
use Rattle.sr_database_history.proofs.Granted.{stays_known}
use Rattle.sr_database_history.proofs.Kept.{fresh_holds, stays_held}
use Rattle.sr_logform.specs.declared.op.Op.{Op}
use Rattle.sr_world_model.specs.Layers.{transaction}
use Rattle.sr_world_model.specs.Inner.Layers.{Laws}
use Rattle.sr_world_model.specs.Layers as layered
use Rattle.sr_world_model.specs.Machines.{lawful_from, given_from}
use Rattle.sr_world_model.specs.Inner.Machines.{GrantLaws}
use Rattle.sr_world_model.specs.Machines as machines
use Rattle.sr_world_model.proofs.Machinery.{given_from-more, lawful_from-more}
use Rattle.sr_catalog_script_laws.proofs.Made.{new_made}
use Rattle.sr_scan.proofs.Agreeing.{told_same}
use Rattle.sr_scan.proofs.Spelling.{spelled_told}
use Rattle.sr_scan.proofs.Strict.{IsGood, entry_good}
use Rattle.sr_scan.specs.Given.{gives, with_transaction, given_from as gave_from}
use Rattle.sr_scan.specs.Inner.Laws.{HaveSpellings}
use Rattle.sr_world.specs.Lawful.{IsLawful}
use Rattle.sr_world.specs.Real.{some_ops, machine, layers, HasSpelling, LawfulHistory}
use Rattle.sr_world.proofs.Bodies.{one_fits, encoded_once}
use Rattle.sr_world.proofs.Judging.{same_taken}

-- what is lawful may stand in a log
stored_on : (s : State) (place : ℕ) (rs : List Recorded) → lawful_from machine IsLawful s place rs → stored_from s place rs
stored_on s place [] l = tt
stored_on s place (r ∷ rs) l = (l.0.stored, stored_on (next s r) (place + (size r + 5)) rs l.1)

-- what is given from a state on has a spelling
fits_on : (s : State) (place : ℕ) (user : Name) (rs : List Recorded) → Holds s → IsGood s.catalog → lawful_from machine IsLawful s place rs
    → All HasSpelling (given_from machine s place user rs)
fits_on s place user [] h g l = All-nil HasSpelling
fits_on s place user (r ∷ rs) h g l =
    let fits = l.0.stored in
    let spelled : HaveSpellings (gives s r user) = subst HaveSpellings (told_same s place r user h fits) (spelled_told s place r user g fits) in
    All-append HasSpelling (transaction (place + (size r + 5)) (some_ops (gives s r user))) (given_from machine (next s r) (place + (size r + 5)) user rs)
    (one_fits (place + (size r + 5)) (gives s r user) fits.ends spelled)
    (fits_on (next s r) (place + (size r + 5)) user rs (stays_held s place r h fits) (entry_good s r fits.meant fits.state g) l.1)

once : (d : Name) (es : List Recorded) (e f : Recorded) (user : Name) (place : ℕ) (ops : List Op)
    → sees e ≡ from_user user place ops → sees f ≡ from_user user place ops
    → LawfulHistory d (es ++ e ∷ []) → LawfulHistory d (es ++ f ∷ []) → e ≡ f
once d es e f user place ops p q l m =
    let le = (lawful_from-more machine IsLawful (fresh d) 0 es e).0 l in
    let lf = (lawful_from-more machine IsLawful (fresh d) 0 es f).0 m in
    same_taken (machines.state_from machine (fresh d) es) e f user place ops p q le.1.says_so lf.1.says_so

pub real_laws : Laws layers HasSpelling LawfulHistory
real_laws = record {
  given_none = λ d user. refl;
  given_more = λ d user es e. (some_ops (gives (machines.state_from machine (fresh d) es) e user), given_from-more machine (fresh d) 0 user es e);
  lawful_none = λ d. tt;
  given_fit = λ d user es l. fits_on (fresh d) 0 user es (fresh_holds d) (record { made = new_made d; strict = tt }) l;
  encoded_once = encoded_once;
  judged_once = once;
}

-- ---- grants

taken_knows : (s : State) (r : Recorded) (user : Name) (at : ℕ) (ops : List Op) → FitsState s r → sees r ≡ from_user user at ops → Knows s user
unfolding FitsState
taken_knows s (own changes) user at ops f e = let no : local ≡ from_user user at ops = e in cc
taken_knows s (taken u a dones) user at ops f e = let same : u ≡ user = cc in subst (λ (n : Name). Knows s n) same f.0
taken_knows s (ddl statement) user at ops f e = let no : local ≡ from_user user at ops = e in cc
taken_knows s (sync to tables) user at ops f e = let no : local ≡ from_user user at ops = e in cc
taken_knows s (pass users only statement changes) user at ops f e = let no : local ≡ from_user user at ops = e in cc
taken_knows s (note about what) user at ops f e = let no : noted about what ≡ from_user user at ops = e in cc

noted_knows : (s : State) (r : Recorded) (user : Name) (what : Note) → FitsState s r → sees r ≡ noted user what → Knows s user
unfolding FitsState
noted_knows s (own changes) user what f e = let no : local ≡ noted user what = e in cc
noted_knows s (taken u a dones) user what f e = let no : sees (taken u a dones) ≡ noted user what = e in cc
noted_knows s (ddl statement) user what f e = let no : local ≡ noted user what = e in cc
noted_knows s (sync to tables) user what f e = let no : local ≡ noted user what = e in cc
noted_knows s (pass users only statement changes) user what f e = let no : local ≡ noted user what = e in cc
noted_knows s (note about other) user what f e = let same : about ≡ user = cc in subst (λ (n : Name). Knows s n) same f

pub real_grants : GrantLaws machine IsLawful Knows
real_grants = record {
  stays = λ s place e user fits known. stays_known s e user known;
  taken_behind = λ s place e user at ops fits sees_it. taken_knows s e user at ops fits.stored.state sees_it;
  noted_behind = λ s place e user what fits sees_it. noted_knows s e user what fits.stored.state sees_it;
}

-- ---- what the world sees of a history

pub stored_of : (d : Name) (rs : List Recorded) → LawfulHistory d rs → stored_from (fresh d) 0 rs
stored_of d rs l = stored_on (fresh d) 0 rs l

one_given : (end : ℕ) (ops : List Op) (rest : List (ℕ × List Op)) → transaction end (some_ops ops) ++ rest ≡ with_transaction end ops rest
one_given end [] rest = refl
one_given end (op ∷ ops) rest = refl

gave : (s : State) (place : ℕ) (user : Name) (rs : List Recorded) → given_from machine s place user rs ≡ gave_from s place rs user
gave s place user [] = refl
gave s place user (r ∷ rs) =
    ap (λ txs. transaction (place + (size r + 5)) (some_ops (gives s r user)) ++ txs) (gave (next s r) (place + (size r + 5)) user rs)
    ∙ one_given (place + (size r + 5)) (gives s r user) (gave_from (next s r) (place + (size r + 5)) rs user)

pub given_same : (d user : Name) (rs : List Recorded) → given_from machine (fresh d) 0 user rs ≡ gave_from (fresh d) 0 rs user
given_same d user rs = gave (fresh d) 0 user rs

end_on : (place : ℕ) (rs : List Recorded) → layered.end_from layers place rs ≡ end_from place rs
end_on place [] = refl
end_on place (r ∷ rs) = end_on (place + (size r + 5)) rs

pub end_same : (rs : List Recorded) → layered.end_from layers 0 rs ≡ end_from 0 rs
end_same rs = end_on 0 rs

state_on : (s : State) (rs : List Recorded) → machines.state_from machine s rs ≡ state_from s rs
state_on s [] = refl
state_on s (r ∷ rs) = state_on (next s r) rs

pub state_same : (d : Name) (rs : List Recorded) → machines.state_from machine (fresh d) rs ≡ state_from (fresh d) rs
state_same d rs = state_on (fresh d) rs

-- with one entry more a history is lawful exactly where the shorter one is and the entry keeps every rule behind it
pub lawful_more : (d : Name) (rs : List Recorded) (r : Recorded)
    → LawfulHistory d (rs ++ r ∷ []) ↔ (LawfulHistory d rs × IsLawful (folds.state_of d rs) (folds.end_of rs) r)
lawful_more d rs r =
    let both = lawful_from-more machine IsLawful (fresh d) 0 rs r in
    let behind = subst (λ (s : State). LawfulHistory d (rs ++ r ∷ []) ↔ (LawfulHistory d rs × IsLawful s (layered.end_from layers 0 rs) r))
    (state_same d rs) both in
    subst (λ (n : ℕ). LawfulHistory d (rs ++ r ∷ []) ↔ (LawfulHistory d rs × IsLawful (folds.state_of d rs) n r)) (end_same rs) behind
