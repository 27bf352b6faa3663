-- The receive pass as it was made, or left out; and the partners that it finds.
use Rattle.std.proofs.Common.{◌≡◌, Bool, true, false, cond, ℕ, List, [], ◌∷◌, ◌++◌, map, bytes_eq, refl, sym, ap, subst, ◌∙◌, append_assoc}
use Rattle.std.specs.Prelude.{IsTrue, IsSome, Option, Some}
use Rattle.std.specs.List.{AllByRecursion}
use Rattle.sr_book.specs.Entries.{Name}
use Rattle.sr_book.proofs.Folds.{same_name}
use Rattle.sr_database.specs.Databases.{IsDatabase, IsOf}
use Rattle.sr_database.specs.Views.{View}
use Rattle.sr_database_history.specs.Folds.{state_of}
use Rattle.sr_database_history.specs.Recorded.{Recorded}
use Rattle.sr_database_history.proofs.Kept.{stored_holds}
use Rattle.sr_database_meaning.specs.Events.{commit}
use Rattle.sr_receive.specs.Passes.{AreSteady as IsSteady}
use Rattle.sr_catalog_schema.specs.Catalogs.{Lists}
use Rattle.sr_catalog_schema.specs.Members.{user_name}
use Rattle.sr_catalog_schema.specs.Names.{named}
use Rattle.sr_catalog_schema.specs.declared.user.User.{User}
use Rattle.sr_site.specs.Causes.{Stays}
use Rattle.sr_site.specs.Seen.{Seen}
use Rattle.sr_site.specs.Streams.{Output}
use Rattle.sr_agent.specs.Lines.{Line, alarms, lines_text}
use Rattle.sr_agent.specs.Runs.{Receives, after_receiving, asked, nothing_done, quiet, taken_entries}
use Rattle.sr_agent.specs.Inner.Steps.{AreOnce, IsQuietPass, IsUser, MadeWhere, MaySendTo, TookAll, Told}
use Rattle.sr_agent.specs.PartnerPasses.{gathering_lines, partners}
use Rattle.sr_agent.specs.declared.options.Options.{Options}
use Rattle.sr_agent.specs.declared.partner.Partner.{Partner}
use Rattle.sr_agent.specs.declared.progress.Progress.{Progress}
use Rattle.sr_agent.proofs.Based.{base_stays}
use Rattle.sr_agent.proofs.Once.{users_once}
use Rattle.sr_agent.proofs.Reaching.{gathered_run, reaches_none, reaches_partner_passes}
use Rattle.sr_agent.proofs.Wholes.{Received}
use Rattle.sr_agent.proofs.Written.{still_site, still_steady, still_told}

-- ---- the partners

some_if : (b : Bool) (v : User) (o : Option User) → IsSome o → IsSome (cond b (Some v) o)
some_if true v o some = refl
some_if false v o some = some

found : (prefix : List User) (u : User) (rest : List User) → IsSome (named user_name u.name (prefix ++ u ∷ rest))
found [] u rest = subst (λ (b : Bool). IsSome (cond b (Some u) (named user_name u.name rest))) (sym (same_name u.name)) refl
found (v ∷ prefix) u rest = some_if (bytes_eq u.name v.name) v (named user_name u.name (prefix ++ u ∷ rest)) (found prefix u rest)

all_from : (view : View) (prefix rest : List User) → view.catalog.users ≡ prefix ++ rest → AllByRecursion (IsUser view) (map user_name rest)
all_from view prefix [] is = tt
all_from view prefix (u ∷ rest) is = (
  subst (λ (users : List User). IsSome (named user_name u.name users)) (sym is) (found prefix u rest),
  all_from view (prefix ++ u ∷ []) rest (is ∙ sym (append_assoc prefix (u ∷ []) rest)),
)

pub are_users : (view : View) (names : List Name) → names ≡ map user_name view.catalog.users → AllByRecursion (IsUser view) names
are_users view names names_are = subst (λ (l : List Name). AllByRecursion (IsUser view) l) (sym names_are) (all_from view [] view.catalog.users refl)

pub names_of_history : (view : View) (publisher : Name) (es : List Recorded) (names : List Name) → IsOf view publisher es → names ≡ map user_name view.catalog.users → names ≡ partners publisher es
names_of_history view publisher es names is names_are = names_are ∙ ap (λ (c : Lists). map user_name c.users) is.catalog

pub names_once : (view : View) (publisher : Name) (es : List Recorded) (names : List Name) → IsOf view publisher es → names ≡ map user_name view.catalog.users → AreOnce names
names_once view publisher es names is names_are =
    subst (λ (l : List Name). AreOnce l) (sym (names_of_history view publisher es names is names_are)) (users_once (state_of publisher es).catalog (stored_holds publisher es is.stored).catalog.made)

pub quiet_may : (view : View) (users : List Name) → AllByRecursion (IsUser view) users → AllByRecursion (MaySendTo view) (map quiet users)
quiet_may view [] are = tt
quiet_may view (user ∷ users) are = (record { user = are.0; raised = λ asks. let no : false ≡ true = asks in absurd (cc) }, quiet_may view users are.1)

-- ---- the pass

pub record HasMade (old new : View) (before now : Seen) (options : Options) (users : List Name) (asks : List Partner) (count : ℕ) (written written' : Output) : Type 0 where
  pub lines : List Line
  pub told : Told (lines_text lines) written written'
  pub alarms_are : count ≡ alarms lines
  pub may : AllByRecursion (MaySendTo new) asks
  pub steady : IsSteady before now
  pub stays : Stays before now
  pub did : IsTrue before.observable → (publisher : Name) (es : List Recorded) → IsDatabase old publisher es before → users ≡ partners publisher es → AreOnce users
      → Received old.log.base new before now publisher es options asks lines

-- left out
received_off : (view : View) (seen : Seen) (publisher : Name) (es : List Recorded) (options : Options) (users : List Name) (asks : List Partner) → options.receive ≡ false → IsDatabase view publisher es seen
    → users ≡ partners publisher es → asks ≡ map quiet users → Received view.log.base view seen seen publisher es options asks []
received_off view seen publisher es options users asks off database users_are asks_are =
    let reaches = reaches_none view seen publisher es options database in
    record {
      run = nothing_done;
      none = refl;
      receives = subst (λ (b : Bool). Receives b publisher es nothing_done) (sym off) (record { gathered_is = refl; none = refl });
      database = reaches.database;
      base_is = refl;
      went = reaches.went;
      mail = reaches.mail;
      steady = reaches.steady;
      removals = reaches.removals;
      asks_are = asks_are ∙ ap (λ (l : List Name). map quiet l) users_are ∙ sym (ap (λ (b : Bool). asked b publisher es nothing_done) off);
      lines_are = refl;
    }

made_off : (old new : View) (before now : Seen) (options : Options) (users : List Name) (written written' : Output) (progress : Progress) → AllByRecursion (IsUser old) users → options.receive ≡ false
    → IsQuietPass old new before now users written written' progress → HasMade old new before now options users progress.partners.items progress.alarms written written'
made_off old new before now options users written written' progress are off pass = record {
  lines = [];
  told = subst (λ (o : Output). Told (lines_text []) written o) (sym pass.silent) (still_told written);
  alarms_are = pass.no_alarm;
  may = subst (λ (ps : List Partner). AllByRecursion (MaySendTo new) ps) (sym pass.partners_are) (subst (λ (v : View). AllByRecursion (MaySendTo v) (map quiet users)) (sym pass.same) (quiet_may old users are));
  steady = subst (λ (s : Seen). IsSteady before s) (sym pass.still) (still_steady before);
  stays = subst (λ (s : Seen). Stays before s) (sym pass.still) (still_site before);
  did = λ told publisher es database users_are once.
      subst (λ (v : View). Received old.log.base v before now publisher es options progress.partners.items []) (sym pass.same)
      (subst (λ (s : Seen). Received old.log.base old before s publisher es options progress.partners.items []) (sym pass.still)
      (received_off old before publisher es options users progress.partners.items off database users_are pass.partners_are));
}

-- made
received_on : (old new : View) (before now : Seen) (publisher : Name) (es : List Recorded) (options : Options) (users : List Name) (asks : List Partner) (lines : List Line) → options.receive ≡ true
    → users ≡ partners publisher es → IsDatabase old publisher es before → TookAll new before now publisher es options.purge users asks lines → Received old.log.base new before now publisher es options asks lines
received_on old new before now publisher es options users asks lines on users_are database all =
    let g = all.gathered.gathering in
    let run = gathered_run g all.took.partner_passes in
    let reaches = reaches_partner_passes all.view new before all.seen now publisher es options all.bag all.first users asks all.behind all.gathered all.took in
    record {
      run = run;
      none = refl;
      receives = subst (λ (b : Bool). Receives b publisher es run) (sym on)
          (record { gathering = g; gathered_is = refl; is = all.gathered.is; are = all.took.are; whose = all.took.whose ∙ users_are });
      database = reaches.database;
      base_is = base_stays old new before now publisher es (after_receiving publisher es run) (map commit (taken_entries publisher es run)) database reaches.went reaches.database;
      went = reaches.went;
      mail = reaches.mail;
      steady = reaches.steady;
      removals = reaches.removals;
      asks_are = all.took.asks_are ∙ sym (ap (λ (b : Bool). asked b publisher es run) on);
      lines_are =
          all.lines_are ∙ ap (λ (ls : List Line). ls ++ all.behind) all.gathered.lines_are
          ∙ ap (λ (ls : List Line). gathering_lines g ++ ls) all.took.lines_are;
    }

pub made_where : (b : Bool) (old new : View) (before now : Seen) (options : Options) (users : List Name) (written written' : Output) (progress : Progress) → AllByRecursion (IsUser old) users → options.receive ≡ b
    → MadeWhere b options.purge old new before now users written written' progress → HasMade old new before now options users progress.partners.items progress.alarms written written'
made_where false old new before now options users written written' progress are off pass = made_off old new before now options users written written' progress are off pass
made_where true old new before now options users written written' progress are on pass = record {
  lines = pass.lines;
  told = pass.told;
  alarms_are = pass.alarms_are;
  may = pass.may;
  steady = pass.steady;
  stays = pass.stays;
  did = λ told publisher es database users_are once. received_on old new before now publisher es options users progress.partners.items pass.lines on users_are database (pass.did told publisher es database once);
}
