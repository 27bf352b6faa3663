-- Where the logs of the four begin: at 0, for each was made, and no run begins the log that is in force anew.
use Rattle.std.proofs.Common.{◌≡◌, ℕ, ◌^◌, ◌≤◌, Bool, true, false, List, ◌++◌, Result, Ok, Err, sym, subst, arith}
use Rattle.std.specs.Prelude.{IsTrue}
use Rattle.dbremote_command.proofs.Cases.{AsksFor, order_holds_for}
use Rattle.dbremote_command.specs.Complete.{AreDatabase}
use Rattle.dbremote_command.specs.Outside.{Outside}
use Rattle.dbremote_command.specs.Runs.{RanOrder}
use Rattle.dbremote_command.specs.declared.order.Order.{Order}
use Rattle.dbremote_demo_draws.specs.Places.{disk_at}
use Rattle.dbremote_demo_draws.specs.declared.demo_site.DemoSite.{DemoSite}
use Rattle.dbremote_demo_draws.specs.declared.demo_sites.DemoSites.{DemoSites}
use Rattle.sr_agent.specs.Agents.{Did, DidWhere}
use Rattle.sr_agent.specs.Lines.{Line}
use Rattle.sr_agent.specs.Runs.{trace_of}
use Rattle.sr_agent.specs.declared.fault.AgentFault.{AgentFault}
use Rattle.sr_agent.specs.declared.options.Options.{Options}
use Rattle.sr_book.specs.Entries.{Name}
use Rattle.sr_database.specs.Views.{View}
use Rattle.sr_database_history.specs.Recorded.{Recorded}
use Rattle.sr_database_meaning.proofs.Going.{told_base, told_same}
use Rattle.sr_database_meaning.proofs.Resting.{rests_end}
use Rattle.sr_database_meaning.proofs.Standing.{one_generation}
use Rattle.sr_database_files.proofs.Damaged.{same_base}
use Rattle.sr_database_meaning.specs.Bases.{HasBase}
use Rattle.sr_database_meaning.specs.Events.{Event}
use Rattle.sr_database_meaning.specs.Generations.{Generation, log_of}
use Rattle.sr_database_meaning.specs.Standing.{StandsFor, bodies}
use Rattle.sr_database_meaning.specs.Traces.{Went}
use Rattle.sr_logfile.proofs.Uniqueness.{has_header}
use Rattle.sr_logfile.specs.Records.{HasHeader, Spells}
use Rattle.sr_memsite.specs.Meaning.{begun}
use Rattle.sr_site.specs.Causes.{Stays}
use Rattle.sr_site.specs.Files.{Files, bytes_of}
use Rattle.sr_site.specs.Images.{IsImage, IsSettled, RestsThroughout}
use Rattle.sr_site.specs.Seen.{Seen}
use Rattle.sr_site.specs.Streams.{Output}

-- ---- the base of files

headed : (base : ℕ) (all : List (List ℕ)) (bytes : List ℕ) → Spells base all bytes → HasHeader base bytes
headed base all bytes s = has_header base all s.gate bytes s.rest (let le : base ≤ 2 ^ 62 = let limit = s.limit in omega arith in le) s.bytes_are

-- files that stand for a history have the base at which its log begins
pub base_of : (publisher : Name) (es : List Recorded) (base : ℕ) (files : Files) → StandsFor publisher es base files → HasBase base files
base_of publisher es base files s = record {
  generation = s.generation;
  root = s.root;
  header = headed base (bodies s.left) (bytes_of files (log_of s.generation)) s.log;
}

-- and no other
pub stands_at : (publisher : Name) (es : List Recorded) (base other : ℕ) (files : Files) → StandsFor publisher es base files → HasBase other files → StandsFor publisher es other files
stands_at publisher es base other files s has =
    let one : has.generation ≡ s.generation = one_generation files has.generation s.generation has.root s.root in
    let there : HasHeader other (bytes_of files (log_of s.generation)) = subst (λ (g : Generation). HasHeader other (bytes_of files (log_of g))) one has.header in
    let same : base ≡ other = same_base other base (bytes_of files (log_of s.generation)) there (headed base (bodies s.left) (bytes_of files (log_of s.generation)) s.log) in
    subst (λ (n : ℕ). StandsFor publisher es n files) same s

-- ---- an order on a log that begins at 0

-- no log is begun anew
abbrev pub KeepsLog : Options → Type 0
KeepsLog options = options.restart ≡ false

abbrev pub IsAtZero : Seen → Type 0
IsAtZero seen = IsSettled (HasBase 0) seen

opened_at_zero : (before opened : Seen) → IsAtZero before → opened.first ≡ before.first → RestsThroughout (IsImage before) before opened → IsAtZero opened
opened_at_zero before opened zero same still image there = zero image (rests_end (IsImage before) before opened same still image there)

went_at_zero : (before now : Seen) (owner : Name) (es : List Recorded) (trace : List Event) → IsAtZero before → Went before now owner es trace → IsAtZero now
went_at_zero before now owner es trace zero went = rests_end (HasBase 0) before now (told_same before now owner es trace went).1 (told_base before now owner es trace went 0 zero)

did_at_zero : (owner : Name) (es : List Recorded) (options : Options) (base : ℕ) (new : View) (before now : Seen) (written written' : Output) (lines : List Line) (result : Result ℕ AgentFault) → IsAtZero before
    → Did base new before now written written' owner es options lines result → IsAtZero now
did_at_zero owner es options base new before now written written' lines (Ok count) zero whole = went_at_zero before now owner es (trace_of owner es whole.run) zero whole.came.went
did_at_zero owner es options base new before now written written' lines (Err fault) zero part = went_at_zero before now owner es (trace_of owner es part.run ++ part.events) zero part.went

module _ (old new : Outside) (told : IsTrue old.site.observable) (stays : Stays old.site new.site) (read : IsImage old.site old.site.files) (stood : IsSettled AreDatabase old.site) (zero : IsAtZero old.site) where
  pub order_at_zero : (order : Order) (status : ℕ) → AsksFor KeepsLog order → RanOrder order old new status → IsAtZero new.site
  order_at_zero =
      order_holds_for old new told stays read stood IsAtZero KeepsLog
      (record {
        still = λ site still quiet. opened_at_zero old.site site zero quiet.first still;
        agent = λ owner es options view view' opened site written written' result keeps on still quiet database did.
            let still_told : IsTrue opened.observable = subst (λ (b : Bool). IsTrue b) (sym quiet.observable) told in
            did_at_zero owner es options view.log.base view' opened site written written' did.lines result (opened_at_zero old.site opened zero quiet.first still)
            (subst (λ (b : Bool). DidWhere b view view' opened site written written' owner es options did.lines result) keeps (did.did still_told owner es database));
        script = λ owner es view view' opened site written written' statements result on still quiet database did.
            let still_told : IsTrue opened.observable = subst (λ (b : Bool). IsTrue b) (sym quiet.observable) told in
            went_at_zero opened site owner es _ (opened_at_zero old.site opened zero quiet.first still)
            (did.reached.went still_told owner es database);
      })

-- ---- all four

-- the log of each that was made begins at 0, whatever a crash leaves of it
abbrev pub KeepsAll : (DemoSite → Bool) → DemoSites → Type 0
KeepsAll made demo_sites = (d : DemoSite) → made d ≡ true → IsAtZero (begun (disk_at d demo_sites))
