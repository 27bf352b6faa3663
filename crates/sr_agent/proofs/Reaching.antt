-- How far a run came, from what its passes say.
use Rattle.std.proofs.Common.{◌≡◌, ℕ, List, [], ◌∷◌, ◌++◌, map, refl, sym, ap, subst, ◌∙◌}
use Rattle.std.specs.Prelude.{Some, Ok}
use Rattle.std.proofs.lemmas.List.{append-nil}
use Rattle.sr_book.specs.Entries.{Name}
use Rattle.sr_database.specs.Databases.{IsDatabase}
use Rattle.sr_database.specs.Views.{View}
use Rattle.sr_database_history.specs.Recorded.{Recorded}
use Rattle.sr_receive.specs.Passes.{AreSteady as IsSteady}
use Rattle.sr_receive_gather.specs.declared.bag.PartnerMail.{PartnerMail}
use Rattle.sr_site.specs.Happenings.{Happening, listed, mail_in}
use Rattle.sr_site.specs.Seen.{Seen}
use Rattle.sr_database_meaning.specs.Events.{Event, commit}
use Rattle.sr_database_meaning.specs.Traces.{Went}
use Rattle.sr_database_meaning.proofs.Going.{nothing, told_same}
use Rattle.sr_database_meaning.proofs.Joining.{joined}
use Rattle.sr_agent.specs.Agents.{CameSoFar}
use Rattle.sr_agent.specs.Deliveries.{AreBased, Delivery, deliveries_events, with_puts}
use Rattle.sr_agent.specs.Lines.{Line}
use Rattle.sr_agent.specs.Removals.{RemovesInRun}
use Rattle.sr_agent.specs.Runs.{Run, after_receiving, nothing_done, received_mail, taken_entries}
use Rattle.sr_agent.specs.Inner.Steps.{HasGatheredAll, TookDeliveries, TookPartnerPasses}
use Rattle.sr_agent.specs.PartnerPasses.{Gathering, PartnerPass, partner_passes_entries, partner_passes_mail}
use Rattle.sr_agent.specs.declared.options.Options.{Options}
use Rattle.sr_agent.specs.declared.partner.Partner.{Partner}
use Rattle.sr_agent.proofs.DoneWith.{removes_none, removes_on}
use Rattle.sr_agent.proofs.Joints.{commits_of, settled_as, steady_on}
use Rattle.sr_agent.proofs.Unremoved.{fetches_same, none_removed, puts_same, removals_in}
use Rattle.sr_agent.proofs.Wholes.{history_is}

-- what a receive pass comes to, up to where it came
pub record Reaches (new : View) (before now : Seen) (publisher : Name) (es : List Recorded) (options : Options) (run : Run) : Type 0 where
  pub database : IsDatabase new publisher (after_receiving publisher es run) now
  pub went : Went before now publisher es (map commit (taken_entries publisher es run))
  pub mail : mail_in now.happened ≡ received_mail publisher es options.purge run (mail_in before.happened)
  pub steady : IsSteady before now
  pub removals : RemovesInRun publisher before now

-- a run with these deliveries, and with none
abbrev pub with_deliveries : Run → List Delivery → Run
with_deliveries run deliveries = record run { deliveries = deliveries }

-- ---- the receive pass

pub nothing_more : (view : View) (publisher : Name) (es : List Recorded) (seen : Seen) → IsDatabase view publisher es seen → IsDatabase view publisher (es ++ []) seen
nothing_more view publisher es seen database = subst (λ (rs : List Recorded). IsDatabase view publisher rs seen) (sym (append-nil es)) database

pub reaches_none : (view : View) (seen : Seen) (publisher : Name) (es : List Recorded) (options : Options) → IsDatabase view publisher es seen → Reaches view seen seen publisher es options nothing_done
reaches_none view seen publisher es options database = record {
  database = nothing_more view publisher es seen database;
  went = nothing seen publisher es (settled_as view publisher es seen database);
  mail = refl;
  steady = record { disk = refl; mail = refl };
  removals = removes_none seen.first publisher seen.happened seen.happened;
}

-- the mail was gathered
abbrev pub gathered_run : Gathering → List PartnerPass → Run
gathered_run g partner_passes = record { gathered = Some g; partner_passes = partner_passes; deliveries = [] }

pub reaches_mail : (view : View) (before now : Seen) (publisher : Name) (es : List Recorded) (options : Options) (bag : List PartnerMail) (lines : List Line)
    (gathered : HasGatheredAll view before now publisher es bag lines) → Reaches view before now publisher es options (gathered_run gathered.gathering [])
reaches_mail view before now publisher es options bag lines gathered = record {
  database = nothing_more view publisher es now gathered.database;
  went = gathered.went;
  mail = gathered.mail;
  steady = gathered.steady;
  removals = none_removed before.first before.happened before now publisher es [] gathered.went
      (ap removals_in gathered.mail ∙ fetches_same publisher gathered.gathering.fetched_files (listed publisher gathered.gathering.folder (Ok gathered.gathering.listing) ∷ mail_in before.happened));
}

pub went_behind_mail : (before seen now : Seen) (publisher : Name) (es : List Recorded) (events : List Event) → Went before seen publisher es [] → Went seen now publisher es events → Went before now publisher es events
went_behind_mail before seen now publisher es events one two =
    joined before seen now publisher es [] events one (subst (λ (rs : List Recorded). Went seen now publisher rs events) (sym (append-nil es)) two)

-- and partners had their partners' passes
pub reaches_partner_passes : (old new : View) (before seen now : Seen) (publisher : Name) (es : List Recorded) (options : Options) (bag : List PartnerMail) (first : List Line) (users : List Name) (asks : List Partner) (lines : List Line)
    (gathered : HasGatheredAll old before seen publisher es bag first) (took : TookPartnerPasses new seen now publisher es gathered.gathering.fetched_files options.purge users asks lines)
    → Reaches new before now publisher es options (gathered_run gathered.gathering took.partner_passes)
reaches_partner_passes old new before seen now publisher es options bag first users asks lines gathered took = record {
  database = took.database;
  went = went_behind_mail before seen now publisher es (map commit (partner_passes_entries publisher es gathered.gathering.fetched_files took.partner_passes)) gathered.went took.went;
  mail = took.mail ∙ ap (λ (l : List Happening). partner_passes_mail publisher es gathered.gathering.fetched_files options.purge took.partner_passes l) gathered.mail;
  steady = steady_on before seen now gathered.steady took.steady;
  removals = removes_on before.first seen.first publisher before.happened before.happened seen.happened now.happened (told_same before seen publisher es [] gathered.went).1
      (reaches_mail old before seen publisher es options bag first gathered).removals (took.removals before.happened gathered.came);
}

-- ---- and the send pass

abbrev pub took_none : (view : View) (seen : Seen) (publisher : Name) (es : List Recorded) (limit : ℕ) → IsDatabase view publisher es seen → TookDeliveries view.log.base view seen seen publisher es limit [] []
took_none view seen publisher es limit database = record {
  deliveries = [];
  based = tt;
  whom = refl;
  are = tt;
  database = nothing_more view publisher es seen database;
  base_is = refl;
  steady = record { disk = refl; mail = refl };
  went = nothing seen publisher es (settled_as view publisher es seen database);
  mail = refl;
  lines_are = refl;
}

pub came_behind : (base : ℕ) (middle new : View) (before seen now : Seen) (publisher : Name) (es : List Recorded) (options : Options) (run : Run) (limit : ℕ) (to : List Partner) (lines : List Line)
    → Reaches middle before seen publisher es options run → middle.log.base ≡ base → (took : TookDeliveries middle.log.base new seen now publisher (after_receiving publisher es run) limit to lines)
    → CameSoFar base new before now publisher es options (with_deliveries run took.deliveries)
came_behind base middle new before seen now publisher es options run limit to lines reaches same took =
    let added = taken_entries publisher es run in
    let events = deliveries_events publisher (es ++ added) took.deliveries in
    record {
      database = subst (λ (rs : List Recorded). IsDatabase new publisher rs now) (history_is es added events) took.database;
      went = joined before seen now publisher es (map commit added) events reaches.went
          (subst (λ (rs : List Recorded). Went seen now publisher (es ++ rs) events) (sym (commits_of added)) took.went);
      mail = took.mail ∙ ap (λ (l : List Happening). with_puts events l) reaches.mail;
      steady = steady_on before seen now reaches.steady took.steady;
      removals = removes_on before.first seen.first publisher before.happened before.happened seen.happened now.happened (told_same before seen publisher es (map commit added) reaches.went).1 reaches.removals
          (none_removed seen.first before.happened seen now publisher (es ++ added) events took.went (ap removals_in took.mail ∙ puts_same events (mail_in seen.happened)));
      base_is = took.base_is ∙ same;
      based = subst (λ (n : ℕ). AreBased n took.deliveries) same took.based;
    }

-- nothing was sent
pub came_alone : (base : ℕ) (view : View) (before now : Seen) (publisher : Name) (es : List Recorded) (options : Options) (run : Run) → Reaches view before now publisher es options run → view.log.base ≡ base
    → CameSoFar base view before now publisher es options (with_deliveries run [])
came_alone base view before now publisher es options run reaches same =
    came_behind base view view before now now publisher es options run 0 [] [] reaches same (took_none view now publisher (after_receiving publisher es run) 0 reaches.database)
