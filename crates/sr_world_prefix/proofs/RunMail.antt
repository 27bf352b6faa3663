-- What happens to the mail in a run, up to the fault that ended it.
use Rattle.std.proofs.Common.{◌≡◌, ℕ, Bool, List, [], ◌∷◌, ◌++◌, Option, Result, Ok, Err, sym, ap, subst, ◌∙◌, inl, inr, append_assoc}
use Rattle.std.specs.Prelude.{◌⊎◌}
use Rattle.std.specs.List.{AllByRecursion}
use Rattle.sr_book.specs.Entries.{Name}
use Rattle.sr_database.specs.Views.{View}
use Rattle.sr_database_history.specs.Folds.{books_of}
use Rattle.sr_database_history.specs.Recorded.{Recorded}
use Rattle.sr_receive.specs.Acts.{mail_after}
use Rattle.sr_receive_gather.specs.Gathers.{fetches}
use Rattle.sr_receive_gather.specs.MessageFiles.{FetchedFile}
use Rattle.sr_receive_gather.specs.Purges.{PurgeCause}
use Rattle.sr_receive_gather.specs.declared.bag.Filed.{Filed}
use Rattle.sr_receive_gather.specs.declared.fault.ReceiveFault.{ReceiveFault}
use Rattle.sr_receive_gather.specs.declared.fault.ReceiveFault.TheVariants as receives
use Rattle.sr_send.specs.Passes.{NoteRefused, SendCause, Unnoted}
use Rattle.sr_send.specs.declared.fault.SendFault.{SendFault}
use Rattle.sr_send.specs.declared.fault.SendFault.TheVariants as sends
use Rattle.sr_site.specs.Happenings.{Happening, Grows, listed, mail_in}
use Rattle.sr_site.specs.Seen.{Seen}
use Rattle.sr_site.specs.Streams.{Output}
use Rattle.sr_database_meaning.specs.Events.{Event}
use Rattle.sr_agent.specs.Agents.{CameSoFar, Did}
use Rattle.sr_agent.specs.Ends.{HasTold}
use Rattle.sr_agent.specs.Deliveries.{with_puts}
use Rattle.sr_agent.specs.Lines.{Line}
use Rattle.sr_agent.specs.Runs.{IsReceiving, Run, after_run, fetched_files_of, mail_of, received_mail, sent_events}
use Rattle.sr_agent.specs.Stops.{RemovedInPart, untouched, begun}
use Rattle.sr_agent.specs.Stops.{StopsAt, at_first, gathering, behind_gathering, in_partner_pass, sending, in_delivery, PartnerPassStop, in_message_files, behind_message_files}
use Rattle.sr_agent.specs.PartnerPasses.{Gathering, PartnerPass, files_of, gathering_mail, partner_pass_entries, partner_passes_mail}
use Rattle.sr_agent.specs.declared.fault.AgentFault.{AgentFault}
use Rattle.sr_agent.specs.declared.options.Options.{Options}
use Rattle.sr_world_prefix.proofs.Mail.{AllSince, GoesOn, acts_mail_on, grows_on, mail_of_on, puts_on, since_parts, partner_passes_mail_on, under_puts, under_partner_passes}

received_mail_on : (publisher : Name) (es : List Recorded) (purge : Bool) (run : Run) (before : List Happening)
    → received_mail publisher es purge run before ≡ received_mail publisher es purge run [] ++ before
received_mail_on publisher es purge run before =
    ap (partner_passes_mail publisher es (fetched_files_of run.gathered) purge run.partner_passes) (mail_of_on publisher run.gathered [] before)
    ∙ partner_passes_mail_on publisher es (fetched_files_of run.gathered) purge run.partner_passes (mail_of publisher run.gathered []) before

run_mail_on : (publisher : Name) (es : List Recorded) (purge : Bool) (run : Run) (before : List Happening) → with_puts (sent_events publisher es run) (received_mail publisher es purge run before)
    ≡ with_puts (sent_events publisher es run) (received_mail publisher es purge run []) ++ before
run_mail_on publisher es purge run before =
    ap (with_puts (sent_events publisher es run)) (received_mail_on publisher es purge run before)
    ∙ puts_on (sent_events publisher es run) (received_mail publisher es purge run []) before

-- behind a partner's pass files may have been removed
purge_goes : (address : Name) (files : List Filed) (between now : Seen) (t : PartnerPass) (es : List Recorded) (why : ReceiveFault)
    → PurgeCause address (books_of t.user es) files between now why → GoesOn (mail_in between.happened) (mail_in now.happened)
purge_goes address files between now t es receives.Disk cause = absurd cause
purge_goes address files between now t es receives.Mail cause = grows_on between.happened now.happened cause.1.stays.grows
purge_goes address files between now t es (receives.Full end need) cause = absurd cause
purge_goes address files between now t es (receives.Long size limit) cause = absurd cause
purge_goes address files between now t es receives.Memory cause = grows_on between.happened now.happened cause.1.stays.grows

pub removed_goes : (publisher : Name) (es : List Recorded) (fetched_files : List FetchedFile) (t : PartnerPass) (between now : Seen) (fault : AgentFault) (purge : Bool) (whole : Type 0)
    → RemovedInPart publisher es fetched_files t between now fault purge whole
    → GoesOn (mail_in between.happened) (mail_in now.happened)
removed_goes publisher es fetched_files t between now fault purge whole (untouched same untold) = record { more = []; is = ap (λ (s : Seen). mail_in s.happened) same }
removed_goes publisher es fetched_files t between now fault purge whole (begun on all why cause is) = purge_goes publisher (files_of fetched_files t) between now t (es ++ partner_pass_entries publisher es fetched_files t) why cause

-- and files may have been put
either_grows : (old new : View) (before now : Seen) (user : Name) (limit : ℕ) (ask : Bool) → Unnoted old new before now user limit ask ⊎ NoteRefused old new before now user limit ask
    → Grows before.happened now.happened
either_grows old new before now user limit ask (inl one) = one.stays.grows
either_grows old new before now user limit ask (inr one) = one.stays.grows

send_grows : (old new : View) (before now : Seen) (user : Name) (limit : ℕ) (ask : Bool) (why : SendFault) → SendCause old new before now user limit ask why → Grows before.happened now.happened
send_grows old new before now user limit ask sends.Disk cause = either_grows old new before now user limit ask cause.1
send_grows old new before now user limit ask sends.Mail cause = cause.1.stays.grows
send_grows old new before now user limit ask (sends.Full end need) cause = cause.1.stays.grows
send_grows old new before now user limit ask (sends.Long size longest) cause = cause.1.stays.grows
send_grows old new before now user limit ask sends.Memory cause = cause.stays.grows

-- ---- where a run ends before its end

-- in a partner's pass the mail goes on
partner_pass_goes : (publisher : Name) (there : List Recorded) (fetched_files : List FetchedFile) (whose : Name) (db new : View) (seen now : Seen) (events : List Event) (lines : List Line) (fault : AgentFault) (purge : Bool) (whole : Type 0)
    → PartnerPassStop publisher there fetched_files whose db new seen now events lines fault purge whole → GoesOn (mail_in seen.happened) (mail_in now.happened)
partner_pass_goes publisher there fetched_files whose db new seen now events lines fault purge whole (in_message_files stop) = grows_on seen.happened now.happened stop.reached.stays.grows
partner_pass_goes publisher there fetched_files whose db new seen now events lines fault purge whole (behind_message_files stop) =
    let then : List Happening = mail_in seen.happened in
    let goes = removed_goes publisher there fetched_files stop.partner_pass stop.between now fault purge whole stop.removed in
    record {
      more = goes.more ++ mail_after publisher stop.partner_pass.acts [];
      is =
          goes.is ∙ ap (λ (l : List Happening). goes.more ++ l) (stop.mail ∙ acts_mail_on publisher stop.partner_pass.acts [] then)
          ∙ sym (append_assoc goes.more (mail_after publisher stop.partner_pass.acts []) then);
    }

same_mail : (seen now : Seen) → now ≡ seen → GoesOn (mail_in seen.happened) (mail_in now.happened)
same_mail seen now same = record { more = []; is = ap (λ (s : Seen). mail_in s.happened) same }

pub stop_goes : (publisher : Name) (es : List Recorded) (options : Options) (run : Run) (db new : View) (seen now : Seen) (events : List Event) (lines : List Line) (fault : AgentFault) (whole : Type 0)
    → StopsAt publisher es options run db new seen now events lines fault whole → GoesOn (mail_in seen.happened) (mail_in now.happened)
stop_goes publisher es options run db new seen now events lines fault whole (at_first is_run is_new is_now is_events is_lines untold) = same_mail seen now is_now
stop_goes publisher es options run db new seen now events lines fault whole (gathering asked_for is_run is_new is_events stop) =
    grows_on seen.happened now.happened stop.part.stays.grows
stop_goes publisher es options run db new seen now events lines fault whole (behind_gathering left upto none is_new is_now is_events is_lines untold) = same_mail seen now is_now
stop_goes publisher es options run db new seen now events lines fault whole (in_partner_pass whose left upto stop) =
    partner_pass_goes publisher (after_run publisher es run) (fetched_files_of run.gathered) whose db new seen now events lines fault options.purge whole stop
stop_goes publisher es options run db new seen now events lines fault whole (sending left upto newest earlier newest_is is_new is_now is_events is_lines untold) = same_mail seen now is_now
stop_goes publisher es options run db new seen now events lines fault whole (in_delivery partner left upto is_lines stop) =
    grows_on seen.happened now.happened (send_grows db new seen now partner.user options.length partner.ask stop.why stop.cause)

-- ---- whatever a run did, the mail goes on

both_go : (first middle last : List Happening) → GoesOn first middle → GoesOn middle last → GoesOn first last
both_go first middle last one two =
    record { more = two.more ++ one.more; is = two.is ∙ ap (λ (l : List Happening). two.more ++ l) one.is ∙ sym (append_assoc two.more one.more first) }

came_goes : (publisher : Name) (es : List Recorded) (options : Options) (run : Run) (base : ℕ) (db : View) (before seen : Seen) → CameSoFar base db before seen publisher es options run
    → GoesOn (mail_in before.happened) (mail_in seen.happened)
came_goes publisher es options run base db before seen came = record {
  more = with_puts (sent_events publisher es run) (received_mail publisher es options.purge run []);
  is = came.mail ∙ run_mail_on publisher es options.purge run (mail_in before.happened);
}

pub did_goes : (publisher : Name) (es : List Recorded) (options : Options) (base : ℕ) (new : View) (before now : Seen) (written written' : Output) (lines : List Line) (result : Result ℕ AgentFault)
    → Did base new before now written written' publisher es options lines result → GoesOn (mail_in before.happened) (mail_in now.happened)
did_goes publisher es options base new before now written written' lines (Ok count) ran = came_goes publisher es options ran.run base new before now ran.came
did_goes publisher es options base new before now written written' lines (Err fault) ran =
    both_go (mail_in before.happened) (mail_in ran.seen.happened) (mail_in now.happened) (came_goes publisher es options ran.run base ran.db before ran.seen ran.came)
    (stop_goes publisher es options ran.run ran.db new ran.seen now ran.events ran.told fault (HasTold lines written written') ran.stops)

-- ---- what is so of all mail of a run is so of what its first steps received, and of what came since

pub record MailParts (P : Happening → Type 0) (publisher : Name) (es : List Recorded) (purge : Bool) (run : Run) (seen now : Seen) : Type 0 where
  pub mail : AllByRecursion P (received_mail publisher es purge run [])
  pub since : AllSince P (mail_in seen.happened) (mail_in now.happened)

pub mail_parts : (P : Happening → Type 0) (publisher : Name) (es : List Recorded) (options : Options) (run : Run) (base : ℕ) (db : View) (before seen now : Seen)
    → AllSince P (mail_in before.happened) (mail_in now.happened) → CameSoFar base db before seen publisher es options run → GoesOn (mail_in seen.happened) (mail_in now.happened)
    → MailParts P publisher es options.purge run seen now
mail_parts P publisher es options run base db before seen now all came goes =
    let events : List Event = sent_events publisher es run in
    let first : List Happening = with_puts events (received_mail publisher es options.purge run []) in
    let both = since_parts P (mail_in before.happened) (mail_in seen.happened) (mail_in now.happened) first goes.more all
    (came.mail ∙ run_mail_on publisher es options.purge run (mail_in before.happened)) goes.is in
    record {
      mail = under_puts P events (received_mail publisher es options.purge run []) both.1;
      since = record { more = goes.more; is = goes.is; each = both.0 };
    }

-- so of what it gathered
pub gathered_mail : (P : Happening → Type 0) (publisher : Name) (es : List Recorded) (purge : Bool) (run : Run) (users : List Name) (r : IsReceiving publisher es run users)
    → AllByRecursion P (received_mail publisher es purge run [])
    → AllByRecursion P (fetches publisher r.gathering.fetched_files (listed publisher r.gathering.folder (Ok r.gathering.listing) ∷ []))
gathered_mail P publisher es purge run users r mail =
    let all : AllByRecursion P (partner_passes_mail publisher es r.gathering.fetched_files purge run.partner_passes (gathering_mail publisher r.gathering []))
    = subst (λ (o : Option Gathering). AllByRecursion P (partner_passes_mail publisher es (fetched_files_of o) purge run.partner_passes (mail_of publisher o []))) r.gathered_is mail in
    under_partner_passes P publisher es r.gathering.fetched_files purge run.partner_passes (gathering_mail publisher r.gathering []) all
