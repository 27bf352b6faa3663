-- How far a script came: no entry, and one stretch behind another.
use Rattle.std.proofs.Common.{◌≡◌, true, ℕ, List, [], ◌∷◌, ◌++◌, map, refl, sym, ap, subst, ◌∙◌, append_assoc, le_refl}
use Rattle.std.specs.Prelude.{IsTrue}
use Rattle.std.proofs.lemmas.List.{append-nil}
use Rattle.sr_book.specs.Entries.{Name}
use Rattle.sr_database_history.specs.Recorded.{Recorded}
use Rattle.sr_logfile.specs.Log.{Log}
use Rattle.sr_site.specs.Causes.{DiskStays, Rose}
use Rattle.sr_site.specs.Files.{Files}
use Rattle.sr_site.specs.Inner.Growing.{disk_stays_on}
use Rattle.sr_site.specs.Images.{IsSettled}
use Rattle.sr_site.specs.Seen.{Seen}
use Rattle.sr_database_meaning.specs.Generations.{log_of}
use Rattle.sr_database_meaning.specs.Events.{Event, commit, commits}
use Rattle.sr_database_meaning.specs.Standing.{StandsFor, StandsAs}
use Rattle.sr_database_meaning.specs.Traces.{Went}
use Rattle.sr_database_meaning.proofs.Going.{nothing}
use Rattle.sr_database_meaning.proofs.Joining.{joined}
use Rattle.sr_database.specs.Advances.{Advances}
use Rattle.sr_database.specs.Broken.{IsBroken}
use Rattle.sr_database.specs.Databases.{IsOf, IsHeld, IsDatabase}
use Rattle.sr_database.specs.Rooms.{HaveRoom}
use Rattle.sr_database.specs.Views.{View}
use Rattle.sr_database.proofs.Advancing.{advanced_still, advanced_then}
use Rattle.sr_database.proofs.InForce.{in_force_still}
use Rattle.sr_database.proofs.Rooms.{rooms_on}
use Rattle.sr_session_script.specs.Acts.{ScriptAct, entries_of, end_behind, text_from}
use Rattle.sr_session_script.proofs.Joins.{entries_of-append, end_behind-append, text_from-append}
use Rattle.sr_session.specs.Reached.{Reached}
use Rattle.sr_session.specs.Inner.Steps.{Came}

-- ---- a value that keeps its log

abbrev HeldBy : Log → Name → List Recorded → Files → Type 0
HeldBy log publisher es files = (stands : StandsFor publisher es log.base files) × (log_of stands.generation ≡ log.file)

held_along : (old new : View) (publisher : Name) (es : List Recorded) (files : Files) → new.log ≡ old.log → IsHeld old publisher es files → IsHeld new publisher es files
held_along old new publisher es files same held =
    let by : HeldBy old.log publisher es files = (held.stands, held.log_is) in
    let along : HeldBy new.log publisher es files = subst (λ (log : Log). HeldBy log publisher es files) (sym same) by in
    record { stands = along.0; log_is = along.1 }

pub database_along : (old new : View) (publisher : Name) (es : List Recorded) (seen : Seen) → new.log ≡ old.log → IsOf new publisher es
    → IsDatabase old publisher es seen → IsDatabase new publisher es seen
database_along old new publisher es seen same is database = record {
  is = is;
  held = held_along old new publisher es seen.files same database.held;
  settled = λ image left. held_along old new publisher es image same (database.settled image left);
}

pub stands_as : (view : View) (publisher : Name) (es : List Recorded) (seen : Seen) → IsDatabase view publisher es seen → IsSettled (StandsAs publisher es) seen
stands_as view publisher es seen database = λ image left. record { base = view.log.base; stands = (database.settled image left).stands }

pub still : (seen : Seen) → DiskStays seen seen
still seen = record { observable = refl; first = refl; grows = λ moment there. there; mail = refl; mail_faults = refl; later = le_refl seen.disk_faults }

no_more : (es : List Recorded) (acts : List ScriptAct) → entries_of acts ≡ [] → es ≡ es ++ entries_of acts
no_more es acts none = sym (ap (λ rs. es ++ rs) none ∙ append-nil es)

-- acts without an entry, on a value that keeps its log
pub reached_still : (old new : View) (seen : Seen) (acts : List ScriptAct) → entries_of acts ≡ [] → end_behind old.log.end acts ≡ old.log.end
    → new.log ≡ old.log → old.log.usable ≡ true → Advances old new []
    → Reached old new seen seen acts []
reached_still old new seen acts none ends same usable on = record {
  state = (ap (λ (log : Log). log.usable) same ∙ usable, refl);
  room = subst (λ (rs : List Recorded). HaveRoom old.log.base old.log.end rs) (sym none) tt;
  value = λ yes. subst (λ (rs : List Recorded). Advances old new rs) (sym none) on;
  end = λ yes. ap (λ (log : Log). log.end) same ∙ sym ends;
  in_force = λ told yes has. in_force_still old new seen seen same on refl (λ image there. there) has;
  database = λ told yes publisher es database.
      subst (λ (rs : List Recorded). IsDatabase new publisher rs seen) (no_more es acts none) (database_along old new publisher es seen same (advanced_still old new publisher es on database.is) database);
  went = λ told publisher es database.
      subst (λ (rs : List Recorded). Went seen seen publisher es (map commit (rs ++ []))) (sym none) (nothing seen publisher es (stands_as old publisher es seen database));
  attached = λ told. refl;
  stays = still seen;
}

-- ---- one stretch behind another

pub commits_of : (rs : List Recorded) → commits (map commit rs) ≡ rs
commits_of [] = refl
commits_of (r ∷ rs) = ap (λ qs. r ∷ qs) (commits_of rs)

map-append : (rs qs : List Recorded) → map commit (rs ++ qs) ≡ map commit rs ++ map commit qs
map-append [] qs = refl
map-append (r ∷ rs) qs = ap (λ items. commit r ∷ items) (map-append rs qs)

broken_on : (broken : List Recorded) (middle new : View) (first second third : Seen) → IsBroken [] middle first second → IsBroken broken new second third → IsBroken broken new first third
broken_on [] middle new first second third one two = (two.0, two.1 ∙ one.1)
broken_on (r ∷ []) middle new first second third one two = (two.0, subst (λ (count : ℕ). Rose count third.disk_faults) one.1 two.1)
broken_on (r ∷ other ∷ rs) middle new first second third one two = two

entries_on : (es : List Recorded) (acts more : List ScriptAct) → (es ++ entries_of acts) ++ entries_of more ≡ es ++ entries_of (acts ++ more)
entries_on es acts more = append_assoc es (entries_of acts) (entries_of more) ∙ ap (λ rs. es ++ rs) (sym (entries_of-append acts more))

trace_on : (acts more : List ScriptAct) (broken : List Recorded) → map commit (entries_of acts ++ []) ++ map commit (entries_of more ++ broken) ≡ map commit (entries_of (acts ++ more) ++ broken)
trace_on acts more broken =
    ap (λ rs. map commit rs ++ map commit (entries_of more ++ broken)) (append-nil (entries_of acts))
    ∙ sym (map-append (entries_of acts) (entries_of more ++ broken))
    ∙ ap (λ rs. map commit rs) (sym (append_assoc (entries_of acts) (entries_of more) broken) ∙ ap (λ rs. rs ++ broken) (sym (entries_of-append acts more)))

told_later : (first second : Seen) → DiskStays first second → IsTrue first.observable → IsTrue second.observable
told_later first second stays told = subst (λ b. IsTrue b) (sym stays.observable) told

pub reached_on : (a b c : View) (first second third : Seen) (acts more : List ScriptAct) (broken : List Recorded)
    → Reached a b first second acts [] → Reached b c second third more broken → Reached a c first third (acts ++ more) broken
reached_on a b c first second third acts more broken one two = record {
  state = broken_on broken b c first second third one.state two.state;
  room =
      let grown = one.value one.state.0 in
      subst (λ (rs : List Recorded). HaveRoom a.log.base a.log.end rs) (sym (entries_of-append acts more))
      (rooms_on a.log.base b.log.base a.log.end (entries_of acts) (entries_of more) grown.base one.room (subst (λ (n : ℕ). HaveRoom b.log.base n (entries_of more)) grown.end two.room));
  value = λ yes.
      subst (λ (rs : List Recorded). Advances a c rs) (sym (entries_of-append acts more))
      (advanced_then a b c (entries_of acts) (entries_of more) (one.value one.state.0) (two.value yes));
  end = λ yes. two.end yes ∙ ap (λ place. end_behind place more) (one.end one.state.0) ∙ sym (end_behind-append a.log.end acts more);
  in_force = λ told yes has. two.in_force (told_later first second one.stays told) yes (one.in_force told one.state.0 has);
  database = λ told yes publisher es database.
      subst (λ (rs : List Recorded). IsDatabase c publisher rs third) (entries_on es acts more)
      (two.database (told_later first second one.stays told) yes publisher (es ++ entries_of acts) (one.database told one.state.0 publisher es database));
  went = λ told publisher es database.
      let behind : Went second third publisher (es ++ commits (map commit (entries_of acts ++ []))) (map commit (entries_of more ++ broken)) =
      subst (λ (rs : List Recorded). Went second third publisher (es ++ rs) (map commit (entries_of more ++ broken))) (sym (commits_of (entries_of acts ++ []) ∙ append-nil (entries_of acts)))
      (two.went (told_later first second one.stays told) publisher (es ++ entries_of acts) (one.database told one.state.0 publisher es database)) in
      subst (λ (items : List Event). Went first third publisher es items) (trace_on acts more broken)
      (joined first second third publisher es (map commit (entries_of acts ++ [])) (map commit (entries_of more ++ broken)) (one.went told publisher es database) behind);
  attached = λ told. two.attached (told_later first second one.stays told) ∙ one.attached told;
  stays = disk_stays_on first second third one.stays two.stays;
}

pub came_on : (a b c : View) (first second third : Seen) (l0 l1 l2 : List ℕ) (acts more : List ScriptAct) (broken : List Recorded)
    → Came a b first second l0 l1 acts [] → Came b c second third l1 l2 more broken → Came a c first third l0 l2 (acts ++ more) broken
came_on a b c first second third l0 l1 l2 acts more broken one two = record {
  reached = reached_on a b c first second third acts more broken one.reached two.reached;
  said =
      two.said
      ∙ ap (λ l. l ++ text_from b.log.end more) one.said
      ∙ append_assoc l0 (text_from a.log.end acts) (text_from b.log.end more)
      ∙ ap (λ place. l0 ++ (text_from a.log.end acts ++ text_from place more)) (one.reached.end one.reached.state.0)
      ∙ ap (λ text. l0 ++ text) (sym (text_from-append a.log.end acts more));
}
