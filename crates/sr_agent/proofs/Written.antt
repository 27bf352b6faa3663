-- What was written, and how a run ends, of steps after steps that were told whole.
use Rattle.std.proofs.Common.{◌≡◌, ◌+◌, ℕ, Bool, true, cond, List, [], ◌++◌, refl, sym, ap, subst, ◌∙◌, append_assoc, le_refl}
use Rattle.std.specs.Prelude.{IsTrue, Result, Ok, Err}
use Rattle.std.proofs.lemmas.List.{append-nil}
use Rattle.std.proofs.lemmas.Grind.{flat_map-append}
use Rattle.std.proofs.lemmas.List.Sums.{sum_by-append}
use Rattle.sr_database.specs.Views.{View}
use Rattle.sr_receive.specs.Passes.{AreSteady as IsSteady}
use Rattle.sr_session.specs.Said.{IsPrefix, WrotePrefix}
use Rattle.sr_session.proofs.Stretches.{outputs_on}
use Rattle.sr_site.specs.Causes.{Rose, Stays}
use Rattle.sr_site.specs.Inner.Growing.{stays_on}
use Rattle.sr_site.specs.Seen.{Seen}
use Rattle.sr_site.specs.Streams.{Output, OutputStays}
use Rattle.sr_agent.specs.Ends.{CountEnd, Ended, HasTold, Wrote}
use Rattle.sr_agent.specs.Lines.{Line, alarms, is_alarm_line, line_text, lines_text}
use Rattle.sr_agent.specs.Inner.Steps.{Told}
use Rattle.sr_agent.specs.declared.fault.AgentFault.{AgentFault}
use Rattle.sr_agent.specs.declared.fault.AgentFault.TheVariants.{Disk, Mail, Sink, Full, Long, Memory}

-- ---- lines after lines

pub texts_on : (first behind : List Line) → lines_text (first ++ behind) ≡ lines_text first ++ lines_text behind
texts_on first behind = flat_map-append line_text first behind

pub alarms_on : (first behind : List Line) → alarms (first ++ behind) ≡ alarms first + alarms behind
alarms_on first behind = sum_by-append (λ (l : Line). cond (is_alarm_line l) 1 0) first behind

-- ---- what was written

all_behind : (first behind : List Line) (old middle new : List ℕ) → middle ≡ old ++ lines_text first → new ≡ middle ++ lines_text behind → new ≡ old ++ lines_text (first ++ behind)
all_behind first behind old middle new one two =
    two ∙ ap (λ (l : List ℕ). l ++ lines_text behind) one ∙ append_assoc old (lines_text first) (lines_text behind) ∙ ap (λ (l : List ℕ). old ++ l) (sym (texts_on first behind))

prefix_behind : (first behind : List Line) (old middle new : List ℕ) → middle ≡ old ++ lines_text first → WrotePrefix (lines_text behind) middle new → WrotePrefix (lines_text (first ++ behind)) old new
prefix_behind first behind old middle new one two = record {
  written = lines_text first ++ two.written;
  prefix = (
    two.prefix.0,
    texts_on first behind ∙ ap (λ (l : List ℕ). lines_text first ++ l) two.prefix.1 ∙ sym (append_assoc (lines_text first) two.written two.prefix.0),
  );
  new_is = two.new_is ∙ ap (λ (l : List ℕ). l ++ two.written) one ∙ append_assoc old (lines_text first) two.written;
}

wrote_behind : (first behind : List Line) (old middle new : List ℕ) (fault : AgentFault) → middle ≡ old ++ lines_text first → Wrote (lines_text behind) middle new (Err fault)
    → Wrote (lines_text (first ++ behind)) old new (Err fault)
wrote_behind first behind old middle new Disk one two = all_behind first behind old middle new one two
wrote_behind first behind old middle new Mail one two = all_behind first behind old middle new one two
wrote_behind first behind old middle new Sink one two = prefix_behind first behind old middle new one two
wrote_behind first behind old middle new (Full end need) one two = all_behind first behind old middle new one two
wrote_behind first behind old middle new (Long size limit) one two = all_behind first behind old middle new one two
wrote_behind first behind old middle new Memory one two = all_behind first behind old middle new one two

-- nothing was written
pub wrote_none : (old : List ℕ) → old ≡ old ++ lines_text []
wrote_none old = sym (append-nil old)

-- ---- counts

rose_from : (a b c : ℕ) → b ≡ a → Rose b c → Rose a c
rose_from a b c same rose = subst (λ (n : ℕ). Rose n c) same rose

counts_behind : (before seen now : Seen) (written between written' : Output) (fault : AgentFault) → IsSteady before seen → between.faults ≡ written.faults → CountEnd seen now between written' (Err fault)
    → CountEnd before now written written' (Err fault)
counts_behind before seen now written between written' Disk steady same ends = (rose_from before.disk_faults seen.disk_faults now.disk_faults steady.disk ends.0, ends.1 ∙ steady.mail, ends.2 ∙ same)
counts_behind before seen now written between written' Mail steady same ends = (rose_from before.mail_faults seen.mail_faults now.mail_faults steady.mail ends.0, ends.1 ∙ steady.disk, ends.2 ∙ same)
counts_behind before seen now written between written' Sink steady same ends = rose_from written.faults between.faults written'.faults same ends
counts_behind before seen now written between written' (Full end need) steady same ends = (ends.0 ∙ steady.disk, ends.1 ∙ steady.mail, ends.2 ∙ same)
counts_behind before seen now written between written' (Long size limit) steady same ends = (ends.0 ∙ steady.disk, ends.1 ∙ steady.mail, ends.2 ∙ same)
counts_behind before seen now written between written' Memory steady same ends = (ends.0 ∙ steady.disk, ends.1 ∙ steady.mail, ends.2 ∙ same)

-- ---- ends

pub told_output : (old new : Output) → OutputStays old new → IsTrue old.observable → IsTrue new.observable
told_output old new stays told = subst (λ (b : Bool). IsTrue b) (sym stays.observable) told

-- ---- lines that were written whole, whatever came after them

pub has_told : (lines : List Line) (old new : Output) → Told (lines_text lines) old new → HasTold lines old new
has_told lines old new told tells = ([], told.taken tells ∙ sym (append-nil (old.taken ++ lines_text lines)))

wrote_on : (lines : List Line) (old new : List ℕ) (fault : AgentFault) → Wrote (lines_text lines) old new (Err fault) → IsPrefix old new
wrote_on lines old new Disk wrote = (lines_text lines, wrote)
wrote_on lines old new Mail wrote = (lines_text lines, wrote)
wrote_on lines old new Sink wrote = (wrote.written, wrote.new_is)
wrote_on lines old new (Full end need) wrote = (lines_text lines, wrote)
wrote_on lines old new (Long size limit) wrote = (lines_text lines, wrote)
wrote_on lines old new Memory wrote = (lines_text lines, wrote)

-- a step that a fault ended leaves those before it
pub told_before : (first behind : List Line) (written between written' : Output) (fault : AgentFault) → Told (lines_text first) written between
    → (IsTrue between.observable → Wrote (lines_text behind) between.taken written'.taken (Err fault)) → HasTold first written written'
told_before first behind written between written' fault told wrote tells =
    let more = wrote_on behind between.taken written'.taken fault (wrote (told_output written between told.stays tells)) in
    (more.0, more.1 ∙ ap (λ (l : List ℕ). l ++ more.0) (told.taken tells))

-- and lines after them
pub told_behind : (first behind : List Line) (written between written' : Output) → Told (lines_text first) written between → HasTold behind between written' → HasTold (first ++ behind) written written'
told_behind first behind written between written' told has tells =
    let more = has (told_output written between told.stays tells) in
    (more.0, more.1 ∙ ap (λ (l : List ℕ). l ++ more.0) (all_behind first behind written.taken between.taken (between.taken ++ lines_text behind) (told.taken tells) refl))

-- a step that a fault ended, after steps that were told whole
pub ended_behind : (new : View) (before seen now : Seen) (written between written' : Output) (first behind : List Line) (fault : AgentFault) → Told (lines_text first) written between → IsSteady before seen
    → Stays before seen → Ended new seen now between written' behind (Err fault) → Ended new before now written written' (first ++ behind) (Err fault)
ended_behind new before seen now written between written' first behind fault told steady stays ended = record {
  wrote = λ tells. wrote_behind first behind written.taken between.taken written'.taken fault (told.taken tells) (ended.wrote (told_output written between told.stays tells));
  counts = counts_behind before seen now written between written' fault steady told.steady ended.counts;
  usable = ended.usable;
  pending = ended.pending;
  site = stays_on before seen now stays ended.site;
  sink = outputs_on written between written' told.stays ended.sink;
}

-- a step that came to its end or that a fault ended, after steps that were told whole
pub ended_after : (result : Result ℕ AgentFault) (new : View) (before seen now : Seen) (written between written' : Output) (first behind : List Line) → Told (lines_text first) written between → IsSteady before seen
    → Stays before seen → Ended new seen now between written' behind result → Ended new before now written written' (first ++ behind) result
ended_after (Ok count) new before seen now written between written' first behind told steady stays ended = record {
  wrote = λ tells. all_behind first behind written.taken between.taken written'.taken (told.taken tells) (ended.wrote (told_output written between told.stays tells));
  counts = (ended.counts.0 ∙ steady.disk, ended.counts.1 ∙ steady.mail, ended.counts.2 ∙ told.steady);
  usable = ended.usable;
  pending = ended.pending;
  site = stays_on before seen now stays ended.site;
  sink = outputs_on written between written' told.stays ended.sink;
}
ended_after (Err fault) new before seen now written between written' first behind told steady stays ended = ended_behind new before seen now written between written' first behind fault told steady stays ended

pub told_on : (first behind : List Line) (written between written' : Output) → Told (lines_text first) written between → Told (lines_text behind) between written' → Told (lines_text (first ++ behind)) written written'
told_on first behind written between written' one two = record {
  taken = λ tells. all_behind first behind written.taken between.taken written'.taken (one.taken tells) (two.taken (told_output written between one.stays tells));
  steady = two.steady ∙ one.steady;
  stays = outputs_on written between written' one.stays two.stays;
}

pub still_told : (written : Output) → Told (lines_text []) written written
still_told written = record { taken = λ tells. wrote_none written.taken; steady = refl; stays = record { observable = refl; later = le_refl written.faults } }

pub still_site : (seen : Seen) → Stays seen seen
still_site seen = record { observable = refl; first = refl; grows = λ moment there. there; disk = le_refl seen.disk_faults; mail = le_refl seen.mail_faults }

pub still_steady : (seen : Seen) → IsSteady seen seen
still_steady seen = record { disk = refl; mail = refl }

-- nothing was done for want of memory
pub ended_at_once : (view : View) (seen : Seen) (written : Output) → view.log.usable ≡ true → view.pending ≡ [] → Ended view seen seen written written [] (Err Memory)
ended_at_once view seen written usable pending = record {
  wrote = λ tells. wrote_none written.taken;
  counts = (refl, refl, refl);
  usable = usable;
  pending = pending;
  site = still_site seen;
  sink = record { observable = refl; later = le_refl written.faults };
}
