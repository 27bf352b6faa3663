-- What a run leaves in step with its partners.
use Rattle.std.proofs.Common.{◌≡◌, ℕ, Bool, true, false, List, [], ◌∷◌, ◌++◌, Result, Ok, Err, inl, inr, sym, ap, subst, ◌∙◌, append_assoc}
use Rattle.std.specs.Prelude.{IsTrue}
use Rattle.sr_book.specs.Entries.{Name}
use Rattle.sr_database.proofs.Alike.{database_in}
use Rattle.sr_database.specs.Databases.{IsDatabase}
use Rattle.sr_database.specs.Views.{View}
use Rattle.sr_database_history.specs.Fitting.{Stored}
use Rattle.sr_database_history.specs.Folds.{state_of}
use Rattle.sr_database_history.specs.Recorded.{Recorded}
use Rattle.sr_catalog_schema.specs.Catalogs.{Lists}
use Rattle.sr_database_files.proofs.Beside.{rests_each}
use Rattle.sr_database_meaning.specs.Restarts.{StandsAtEither}
use Rattle.sr_ast.specs.declared.stmt.Stmt.{Stmt}
use Rattle.sr_send_needs.specs.Needs.{least_need}
use Rattle.sr_session.specs.Runs.{RanScript}
use Rattle.sr_session.specs.declared.fault.SessionFault.{SessionFault}
use Rattle.sr_site.specs.Causes.{Stays}
use Rattle.sr_site.specs.Files.{Files}
use Rattle.sr_site.specs.Happenings.{Grows, Happening, Throughout}
use Rattle.sr_site.specs.Inner.Growing.{throughout_each}
use Rattle.sr_site.specs.Images.{IsImage, IsSettled, MayLeave, RestsThroughout}
use Rattle.sr_site.specs.Seen.{Seen}
use Rattle.sr_site.specs.Streams.{Output}
use Rattle.sr_agent.specs.Agents.{Did, DidWhere, RanAgent, RestartedAndDid}
use Rattle.sr_agent.specs.Lines.{Line}
use Rattle.sr_agent.specs.declared.fault.AgentFault.{AgentFault}
use Rattle.sr_agent.specs.declared.options.Options.{Options}
use Rattle.sr_agent.proofs.Images.{some_image}
use Rattle.sr_agent.proofs.Restarted.{stop_rests}
use Rattle.sr_agent.proofs.Values.{publisher_is}
use Rattle.sr_world_prefix.specs.Forging.{NoneForged}
use Rattle.sr_world_prefix.specs.Keeping.{KeepsPartner}
use Rattle.sr_world_prefix.specs.Partners.{ArePartners, StandInStep}
use Rattle.sr_world_prefix.proofs.Came.{Unforged}
use Rattle.sr_world_prefix.proofs.Mail.{AllSince, goes_on, mail_since, since_parts}
use Rattle.sr_world_prefix.proofs.Moments.{on_layers, went_rests}
use Rattle.sr_world_prefix.proofs.OwnActs.{script_kept}
use Rattle.sr_world_prefix.proofs.Whole.{did_on}

pub own_publisher : (view : View) (publisher : Name) (es : List Recorded) (seen : Seen) → IsDatabase view publisher es seen → (state_of publisher es).catalog.publisher ≡ publisher
own_publisher view publisher es seen database = ap (λ (c : Lists). c.publisher) (sym database.is.catalog) ∙ publisher_is view publisher es database.is

pub run_kept : (publisher user : Name) (es us : List Recorded) (options : Options) (base : ℕ) (old new : View) (before now : Seen) (written written' : Output) (lines : List Line) (result : Result ℕ AgentFault) → IsTrue before.observable
    → IsDatabase old publisher es before → Stored user us → ArePartners publisher user es us → NoneForged publisher user us before now → Did base new before now written written' publisher es options lines result
    → RestsThroughout (StandInStep publisher user us) before now
run_kept publisher user es us options base old new before now written written' lines result told database stored partners none did =
    let all = mail_since (Unforged publisher user us) before.happened now.happened none.more none.is none.each in
    let kept = did_on publisher user us es options stored (own_publisher old publisher es before database) (on_layers publisher user us es partners.took) base new before now written written' lines result told all did in
    went_rests publisher user us es before now kept.trace partners kept.along kept.went

-- the log begun anew: the history stays, and so does what it has of the partner's
either_in_step : (publisher user : Name) (es us : List Recorded) (base keep : ℕ) → ArePartners publisher user es us → (image : Files) → StandsAtEither publisher es base keep image → StandInStep publisher user us image
either_in_step publisher user es us base keep partners image (inl stands) = record { es = es; stands = record { base = base; stands = stands }; partners = partners }
either_in_step publisher user es us base keep partners image (inr stands) = record { es = es; stands = record { base = keep; stands = stands }; partners = partners }

either_kept : (publisher user : Name) (es us : List Recorded) (base keep : ℕ) (before now : Seen) → ArePartners publisher user es us → RestsThroughout (StandsAtEither publisher es base keep) before now
    → RestsThroughout (StandInStep publisher user us) before now
either_kept publisher user es us base keep before now partners rests =
    rests_each (StandsAtEither publisher es base keep) (StandInStep publisher user us) before now (either_in_step publisher user es us base keep partners) rests

-- ---- from an earlier moment on

now_rests : (P : List Happening → Type 0) (before more : List Happening) → Throughout P before more → P (more ++ before)
now_rests P before [] h = h
now_rests P before (step ∷ more) h = h.0

both_rest : (P : List Happening → Type 0) (before first more : List Happening) → Throughout P before first → Throughout P (first ++ before) more → Throughout P before (more ++ first)
both_rest P before first [] h k = h
both_rest P before first (step ∷ more) h k = (subst P (ap (λ (l : List Happening). step ∷ l) (sym (append_assoc more first before))) k.0, both_rest P before first more h k.1)

-- every crash leaves files for which this holds, by what happened
abbrev Leaves : (Files → Type 0) → Files → List Happening → Type 0
Leaves holds first moment = (image : Files) → MayLeave first moment image → holds image

pub rests_on : (holds : Files → Type 0) (before middle now : Seen) → middle.first ≡ before.first → RestsThroughout holds before middle → RestsThroughout holds middle now → RestsThroughout holds before now
rests_on holds before middle now same one two =
    let at : Throughout (Leaves holds before.first) (one.more ++ before.happened) two.more
    = subst (λ (l : List Happening). Throughout (Leaves holds before.first) l two.more) one.is
    (subst (λ (f : Files). Throughout (Leaves holds f) middle.happened two.more) same two.moments) in
    record {
      more = two.more ++ one.more;
      is = two.is ∙ ap (λ (l : List Happening). two.more ++ l) one.is ∙ sym (append_assoc two.more one.more before.happened);
      moments = both_rest (Leaves holds before.first) before.happened one.more two.more one.moments at;
    }

-- what is left stays left, where nothing was changed
pub rests_still : (holds : Files → Type 0) (before middle : Seen) → IsSettled holds before → RestsThroughout (IsImage before) before middle → RestsThroughout holds before middle
rests_still holds before middle settled still = record {
  more = still.more;
  is = still.is;
  moments = throughout_each (Leaves (IsImage before) before.first) (Leaves holds before.first) (λ moment leaves image there. settled image (leaves image there)) before.happened still.more still.moments;
}

-- an image of a later moment at which nothing was changed was one before
pub was_image : (before middle : Seen) (image : Files) → middle.first ≡ before.first → RestsThroughout (IsImage before) before middle → IsImage middle image → IsImage before image
was_image before middle image same still there =
    let last : Leaves (IsImage before) before.first (still.more ++ before.happened) = now_rests (Leaves (IsImage before) before.first) before.happened still.more still.moments in
    let then : MayLeave before.first (still.more ++ before.happened) image
    = subst (λ (l : List Happening). MayLeave before.first l image) still.is (subst (λ (f : Files). MayLeave f middle.happened image) same there) in
    last image then

-- what was opened is the database of a history that stood before
record WasThere (publisher user : Name) (us : List Recorded) (view : View) (opened : Seen) : Type 0 where
  es : List Recorded
  own : IsDatabase view publisher es opened
  partners : ArePartners publisher user es us

opened_partners : (publisher user owner : Name) (us es : List Recorded) (view : View) (before opened : Seen) → opened.first ≡ before.first → RestsThroughout (IsImage before) before opened
    → IsDatabase view owner es opened → IsSettled (StandInStep publisher user us) before → WasThere publisher user us view opened
opened_partners publisher user owner us es view before opened same still database settled =
    let some = some_image opened.first opened.happened in
    let stood : StandInStep publisher user us some.0 = settled some.0 (was_image before opened some.0 same still some.1) in
    record { es = stood.es; own = database_in view owner publisher es stood.es stood.stands.base some.0 opened database some.1 stood.stands.stands; partners = stood.partners }

pub untouched_kept : (publisher user : Name) (us : List Recorded) (before now : Seen) → RestsThroughout (IsImage before) before now → KeepsPartner publisher user us before now
untouched_kept publisher user us before now still settled none = rests_still (StandInStep publisher user us) before now settled still

-- none forged of a run is none of its later part
none_behind : (publisher user : Name) (us : List Recorded) (before middle now : Seen) → Grows before.happened middle.happened → Grows middle.happened now.happened → NoneForged publisher user us before now
    → NoneForged publisher user us middle now
none_behind publisher user us before middle now first then none =
    let early = goes_on before.happened middle.happened first in
    let later = goes_on middle.happened now.happened then in
    let all : AllSince (Unforged publisher user us) before.happened now.happened = record { more = none.more; is = none.is; each = none.each } in
    let each = since_parts (Unforged publisher user us) before.happened middle.happened now.happened early.more later.more all early.is later.is in
    record { more = later.more; is = later.is; each = each.0 }

-- with a restart or without
module _ (publisher user : Name) (es us : List Recorded) (options : Options) (old new : View) (before now : Seen) (written written' : Output) (lines : List Line) (told : IsTrue before.observable)
    (database : IsDatabase old publisher es before) (stored : Stored user us) (partners : ArePartners publisher user es us) (none : NoneForged publisher user us before now) where
  anew_kept : (result : Result ℕ AgentFault) → RestartedAndDid old new before now written written' publisher es options lines result → RestsThroughout (StandInStep publisher user us) before now
  anew_kept result ran =
      let middle_told : IsTrue ran.middle.observable = subst (λ (b : Bool). IsTrue b) (sym ran.restart.stays.observable) told in
      rests_on (StandInStep publisher user us) before ran.middle now ran.restart.stays.first
      (either_kept publisher user es us old.log.base (least_need publisher es old.log.base) before ran.middle partners ran.restart.moments)
      (run_kept publisher user es us options ran.between.log.base ran.between new ran.middle now ran.said written' ran.rest result middle_told ran.restart.database stored partners
      (none_behind publisher user us before ran.middle now ran.restart.stays.grows ran.stays.grows none) ran.did)

  all_kept : (b : Bool) (result : Result ℕ AgentFault) → DidWhere b old new before now written written' publisher es options lines result → RestsThroughout (StandInStep publisher user us) before now
  all_kept false result ran = run_kept publisher user es us options old.log.base old new before now written written' lines result told database stored partners none ran
  all_kept true (Ok count) ran = anew_kept (Ok count) ran
  all_kept true (Err fault) (inl ran) = anew_kept (Err fault) ran
  all_kept true (Err fault) (inr stop) =
      either_kept publisher user es us old.log.base (least_need publisher es old.log.base) before now partners (stop_rests publisher es old new before now lines fault database stop)

-- a run of the agent on a database that was opened
pub agent_kept : (publisher user owner : Name) (es us : List Recorded) (options : Options) (view new : View) (before opened now : Seen) (written written' : Output) (result : Result ℕ AgentFault)
    → IsTrue before.observable → Stays before now → RestsThroughout (IsImage before) before opened → IsDatabase view owner es opened → Stored user us
    → RanAgent view new opened now written written' options result → KeepsPartner publisher user us before now
agent_kept publisher user owner es us options view new before opened now written written' result told stays still database stored ran settled none =
    let same : opened.first ≡ before.first = sym ran.ended.site.first ∙ stays.first in
    let still_told : IsTrue opened.observable = subst (λ (b : Bool). IsTrue b) (sym (sym ran.ended.site.observable ∙ stays.observable)) told in
    let there = opened_partners publisher user owner us es view before opened same still database settled in
    let later = goes_on opened.happened now.happened ran.ended.site.grows in
    let all : AllSince (Unforged publisher user us) before.happened now.happened = record { more = none.more; is = none.is; each = none.each } in
    let each = since_parts (Unforged publisher user us) before.happened opened.happened now.happened still.more later.more all still.is later.is in
    let behind : NoneForged publisher user us opened now = record { more = later.more; is = later.is; each = each.0 } in
    let ran_on = all_kept publisher user there.es us options view new opened now written written' ran.lines still_told there.own stored there.partners behind options.restart result (ran.did still_told publisher there.es there.own) in
    rests_on (StandInStep publisher user us) before opened now same (rests_still (StandInStep publisher user us) before opened settled still) ran_on

-- a run of a script on one
pub script_run_kept : (publisher user owner : Name) (es us : List Recorded) (view new : View) (before opened now : Seen) (written written' : Output) (statements : List Stmt)
    (result : Result ℕ SessionFault) → IsTrue before.observable → Stays before now → RestsThroughout (IsImage before) before opened → IsDatabase view owner es opened
    → RanScript view new opened now written written' statements result → KeepsPartner publisher user us before now
script_run_kept publisher user owner es us view new before opened now written written' statements result told stays still database ran settled none =
    let same : opened.first ≡ before.first = sym ran.reached.stays.first ∙ stays.first in
    let still_told : IsTrue opened.observable = subst (λ (b : Bool). IsTrue b) (sym (sym ran.reached.stays.observable ∙ stays.observable)) told in
    let there = opened_partners publisher user owner us es view before opened same still database settled in
    let ran_on = script_kept publisher user there.es us view new opened now written written' statements result still_told there.own there.partners ran in
    rests_on (StandInStep publisher user us) before opened now same (rests_still (StandInStep publisher user us) before opened settled still) ran_on
