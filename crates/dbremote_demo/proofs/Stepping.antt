-- One run more: the world goes on by its steps, and what it leaves stands for the histories of that.
use Rattle.std.proofs.Common.{◌≡◌, ◌⊎◌, ℕ, Bool, true, false, map, List, [], ◌∷◌, ◌++◌, refl, sym, ap, subst, ◌∙◌, inl, inr, append-nil, arith}
use Rattle.std.proofs.lemmas.List.{append_cancel_right, map-append}
use Rattle.std.proofs.lemmas.List.Elements.{Contains-append_left, Contains-append_right}
use Rattle.std.specs.List.{AllByRecursion}
use Rattle.std.specs.Prelude.{Contains}
use Rattle.dbremote_command.proofs.Cases.{AgentFinds, AsksFor, order_done, order_steps}
use Rattle.dbremote_command.proofs.Statuses.{told_never_one, told_never_zero}
use Rattle.dbremote_command.specs.Complete.{AreDatabase}
use Rattle.dbremote_command.specs.Outside.{Outside}
use Rattle.dbremote_demo.proofs.Bases.{IsAtZero, KeepsAll, KeepsLog, base_of, order_at_zero}
use Rattle.dbremote_demo.proofs.Lying.{AllLie, IsOneOf, came_known, lies_since, noted_since}
use Rattle.dbremote_demo.proofs.Tasks.{ended_task, other_disk, own_disk, task_as_happened, task_order, task_truthful, which}
use Rattle.dbremote_demo.specs.GoodWorlds.{demo_begins, demo_names, demo_world, put_at}
use Rattle.dbremote_demo.specs.Runs.{RanTask, Task, begun_at, having, making_of, outside_of}
use Rattle.dbremote_demo_draws.specs.Names.{text_of}
use Rattle.dbremote_demo_draws.specs.Places.{disk_at}
use Rattle.dbremote_demo_draws.specs.declared.demo_site.DemoSite.{DemoSite}
use Rattle.dbremote_demo_draws.specs.declared.demo_site.DemoSite.TheVariants.{Cons, R1, R2, R3}
use Rattle.dbremote_demo_draws.specs.declared.demo_sites.DemoSites.{DemoSites}
use Rattle.sr_book.specs.Entries.{Name}
use Rattle.sr_database_history.specs.Recorded.{Recorded}
use Rattle.sr_database_meaning.proofs.Going.{none_put}
use Rattle.sr_database_meaning.specs.Events.{PutFile, puts_in}
use Rattle.sr_database_meaning.specs.Standing.{StandsFor}
use Rattle.sr_memsite_disk.proofs.Standing.{standing_is_image}
use Rattle.sr_memsite.specs.Disks.{Disk}
use Rattle.sr_memsite.specs.Handing.{AreAsHappened, IsTruthful, handing}
use Rattle.sr_memsite.specs.Meaning.{begun}
use Rattle.sr_msgform.specs.Messages.{IsMessage, message_spelling}
use Rattle.sr_msgform.specs.declared.message.Message.{Message}
use Rattle.sr_send.specs.Posting.{PutSucceeded}
use Rattle.sr_site.specs.Causes.{Rose}
use Rattle.sr_site.specs.Files.{Files}
use Rattle.sr_site.specs.Happenings.{Happening}
use Rattle.sr_site.specs.Images.{IsImage, IsSettled, MayLeave}
use Rattle.sr_site.specs.Seen.{Seen}
use Rattle.sr_world_model.specs.Runs.{WorldRun}
use Rattle.sr_world_model.specs.Worlds.{World, IsNamed, acts_by, after_all, history}
use Rattle.sr_world.specs.Real.{AreRunsIn, IsGoodWorld}
use Rattle.sr_world_prefix.proofs.Kept.{as_it_stands}
use Rattle.sr_world_prefix.specs.Kept.{StandsKeeping}
use Rattle.sr_world_runs.proofs.Chaining.{contains_first, contains_later}
use Rattle.sr_world_runs.proofs.Keeping.{new_keeps}
use Rattle.sr_world_runs.proofs.Living.{are_more, files_more, first_of_fresh, named_runs, others_all, runs_more}
use Rattle.sr_world_runs.proofs.NextRuns.{by_files, good_there, history_all, messages_there}
use Rattle.sr_world_runs.proofs.Resting.{none_mail}
use Rattle.sr_world_runs.proofs.Settled.{SettlesBehind, settled_behind}
use Rattle.sr_world_runs.specs.Inner.Worlds.{CallsInOrder}
use Rattle.sr_world_runs.specs.Worlds.{AreFiles, IsFaithfulThroughout, on_one, RestsBehind, put_in}

-- ---- the four

pub one_of_four : (d : DemoSite) → Contains demo_names (text_of d)
one_of_four Cons = contains_first (text_of Cons) (text_of R1 ∷ text_of R2 ∷ text_of R3 ∷ [])
one_of_four R1 = contains_later (text_of Cons) (text_of R1) (text_of R1 ∷ text_of R2 ∷ text_of R3 ∷ []) (contains_first (text_of R1) (text_of R2 ∷ text_of R3 ∷ []))
one_of_four R2 =
    contains_later (text_of Cons) (text_of R2) (text_of R1 ∷ text_of R2 ∷ text_of R3 ∷ [])
    (contains_later (text_of R1) (text_of R2) (text_of R2 ∷ text_of R3 ∷ []) (contains_first (text_of R2) (text_of R3 ∷ [])))
one_of_four R3 =
    contains_later (text_of Cons) (text_of R3) (text_of R1 ∷ text_of R2 ∷ text_of R3 ∷ [])
    (contains_later (text_of R1) (text_of R3) (text_of R2 ∷ text_of R3 ∷ []) (contains_later (text_of R2) (text_of R3) (text_of R3 ∷ []) (contains_first (text_of R3) [])))

-- ---- so far

-- a database was made, and all that a crash may leave of it stands for its history in the world; or it was not, and has none there
abbrev pub Stands : World Recorded → Bool → DemoSite → Disk → Type 0
Stands w true d disk = IsSettled (StandsKeeping (text_of d) (history w (text_of d))) (begun disk)
Stands w false d disk = history w (text_of d) ≡ []

pub stands_same : (w there : World Recorded) (b : Bool) (d : DemoSite) (disk other : Disk) → history there (text_of d) ≡ history w (text_of d) → other ≡ disk → Stands w b d disk → Stands there b d other
stands_same w there true d disk other same is stands =
    subst (λ (x : Disk). IsSettled (StandsKeeping (text_of d) (history there (text_of d))) (begun x)) (sym is)
    (subst (λ (rs : List Recorded). IsSettled (StandsKeeping (text_of d) rs) (begun disk)) (sym same) stands)
stands_same w there false d disk other same is none = same ∙ none

-- the runs so far lead to a good world; those that were made stand for their histories there, in logs that begin at 0; and each file that lies in a folder is
-- one of its messages
pub record SoFar (made : DemoSite → Bool) (demo_sites : DemoSites) : Type 0 where
  pub runs : List (WorldRun Recorded)
  pub are : AreRunsIn demo_begins runs
  pub good : IsGoodWorld (demo_world runs)
  pub each : (d : DemoSite) → Stands (demo_world runs) (made d) d (disk_at d demo_sites)
  pub zero : KeepsAll made demo_sites
  pub put_files : List PutFile
  pub put : AreFiles put_files (demo_world runs).messages
  pub lies : AllLie (IsOneOf (demo_world runs).messages) demo_sites.mail.files
  pub noted : demo_sites.mail.puts ≡ map put_at put_files

pub all_lie_more : (P Q : List ℕ → Type 0) → ((bytes : List ℕ) → P bytes → Q bytes) → (files : List (List ℕ × List ℕ × List ℕ)) → AllByRecursion (λ (f : List ℕ × List ℕ × List ℕ). P f.2) files
    → AllByRecursion (λ (f : List ℕ × List ℕ × List ℕ). Q f.2) files
all_lie_more P Q goes [] all = tt
all_lie_more P Q goes (f ∷ files) all = (goes f.2 all.0, all_lie_more P Q goes files all.1)

-- a read gives what a crash might leave
pub read_there : (d : DemoSite) (demo_sites : DemoSites) → IsImage (begun_at d demo_sites) (begun_at d demo_sites).files
read_there d demo_sites = standing_is_image (disk_at d demo_sites).first (handing demo_sites.mail ∷ (disk_at d demo_sites).happened)

-- a database that was made is there
module _ (made : DemoSite → Bool) (old : DemoSites) (d : DemoSite) (so : SoFar made old) (is : made d ≡ true) where
  pub stood_there : IsSettled (StandsKeeping (text_of d) (history (demo_world so.runs) (text_of d))) (begun (disk_at d old))
  stood_there = subst (λ (b : Bool). Stands (demo_world so.runs) b d (disk_at d old)) is (so.each d)

  pub all_there : IsSettled AreDatabase (begun_at d old)
  all_there = λ image left. record {
    publisher = text_of d;
    es = history (demo_world so.runs) (text_of d);
    stand = as_it_stands (text_of d) (history (demo_world so.runs) (text_of d)) image (stood_there image left);
  }

  pub database_there : AreDatabase (begun_at d old).files
  database_there = all_there (begun_at d old).files (read_there d old)

-- ---- one task more

module _ (made : DemoSite → Bool) (old new : DemoSites) (task : Task) (so : SoFar made old) (status : ℕ) (lines : List ℕ) (ran : RanTask task old new status lines) (well : (status ≡ 0) ⊎ (status ≡ 1))
    (finds : AgentFinds task.order (begun_at task.demo_site old).files) where
  abbrev d : DemoSite
  d = task.demo_site

  abbrev name : Name
  name = text_of d

  abbrev w : World Recorded
  w = demo_world so.runs

  abbrev before : Seen
  before = begun_at d old

  abbrev now : Seen
  now = ran.site

  abbrev ended : Outside
  ended = ended_task old new task status lines ran

  abbrev order : CallsInOrder before now
  order = task_order old new task status lines ran finds

  abbrev since : List Happening
  since = order.more

  done : AllByRecursion PutSucceeded since
  done = order_done (outside_of task old) ended refl task.order status ran.ran finds well since order.is

  as_happened : AreAsHappened (since ++ handing old.mail ∷ (disk_at d old).happened) new.mail
  as_happened = task_as_happened old new task status lines ran finds

  truthful : IsTruthful (since ++ handing old.mail ∷ (disk_at d old).happened)
  truthful = task_truthful old new task status lines ran finds

  lies_then : (P : List ℕ → Type 0) → AllLie P old.mail.files → AllByRecursion (λ (l : PutFile). P l.2) (puts_in since) → AllLie P new.mail.files
  lies_then P lies puts = lies_since P old.mail (disk_at d old).happened lies since order.calls puts new.mail as_happened

  noted_then : new.mail.puts ≡ map put_at (so.put_files ++ puts_in since)
  noted_then =
      noted_since old.mail (disk_at d old).happened since order.calls done new.mail as_happened
      ∙ ap (λ (l : List (List ℕ × List ℕ)). l ++ map put_at (puts_in since)) so.noted ∙ sym (map-append put_at so.put_files (puts_in since))

  steady : ¬ (Rose before.disk_faults now.disk_faults)
  steady rose = elim ran.tells.disk [
    | inl same ↦ omega (arith, rose, same)
    | inr faulty ↦ elim faulty [
      | inl five ↦ elim well [ inl zero_is ↦ omega (arith, five, zero_is) | inr one_is ↦ omega (arith, five, one_is) ]
      | inr seven ↦ elim well [ inl zero_is ↦ omega (arith, seven, zero_is) | inr one_is ↦ omega (arith, seven, one_is) ]
    ]
  ]

  named : IsNamed w name
  named = named_runs demo_begins so.runs name (subst (λ (l : List Name). Contains l name) (sym (first_of_fresh demo_names)) (one_of_four d))

  -- ---- on a database that was made

  module _ (is : made d ≡ true) (keeps : AsksFor KeepsLog task.order) where
    stood : IsSettled (StandsKeeping name (history w name)) (begun (disk_at d old))
    stood = stood_there made old d so is

    went : IsFaithfulThroughout w name before now
    went =
        order_steps task.order (outside_of task old) ended status ran.ran ran.stays (read_there d old) w name refl so.good named
        (on_one stood)
        (record {
          more = since;
          is = order.is;
          each = came_known w.messages name old.mail (disk_at d old).happened so.lies since order.calls order.puts_come_last truthful;
        })

    same_since : went.more ≡ since
    same_since = append_cancel_right went.more since before.happened (sym went.is ∙ order.is)

    behind : SettlesBehind w.messages name (history w name) (puts_in went.more) (λ (image : Files). MayLeave before.first (went.more ++ before.happened) image)
    behind = settled_behind w name before now ran.stays.first (λ image left. as_it_stands name (history w name) image (stood image left)) went steady

    abbrev rest : RestsBehind w.messages name (history w name) (puts_in went.more) (λ (image : Files). MayLeave before.first (went.more ++ before.happened) image)
    rest = behind.rest

    abbrev q : WorldRun Recorded
    q = record { owner = name; known = w.messages; database_steps = rest.database_steps }

    abbrev there : World Recorded
    there = after_all w (acts_by name rest.database_steps)

    messages_are : there.messages ≡ w.messages ++ put_in rest.database_steps
    messages_are = messages_there w name (puts_in went.more) before.first (went.more ++ before.happened) rest

    -- each message of the world before, and each file that was put
    one_more : (bytes : List ℕ) → IsOneOf w.messages bytes → IsOneOf there.messages bytes
    one_more bytes one = record {
      message = one.message;
      among = subst (λ (ms : List Message). Contains ms one.message) (sym messages_are) (Contains-append_left w.messages (put_in rest.database_steps) one.message one.among);
      is = one.is;
      spelled = one.spelled;
    }

    put_ones : (more : List Message) → AllByRecursion IsMessage more → ((m : Message) → Contains more m → Contains there.messages m)
        → AllByRecursion (λ (m : Message). IsOneOf there.messages (message_spelling m)) more
    put_ones [] spelled among = tt
    put_ones (m ∷ more) spelled among = (
      record { message = m; among = among m (contains_first m more); is = spelled.0; spelled = refl },
      put_ones more spelled.1 (λ x has. among x (contains_later m x more has)),
    )

    puts_one : AllByRecursion (λ (l : PutFile). IsOneOf there.messages l.2) (puts_in since)
    puts_one =
        subst (λ (more : List Happening). AllByRecursion (λ (l : PutFile). IsOneOf there.messages l.2) (puts_in more)) same_since
        (by_files (IsOneOf there.messages) (puts_in went.more) (put_in rest.database_steps) rest.put
        (put_ones (put_in rest.database_steps) rest.spelled
        (λ m has. subst (λ (ms : List Message). Contains ms m) (sym messages_are) (Contains-append_right w.messages (put_in rest.database_steps) m has))))

    lies_there : AllLie (IsOneOf there.messages) new.mail.files
    lies_there = lies_then (IsOneOf there.messages) (all_lie_more (IsOneOf w.messages) (IsOneOf there.messages) one_more _ so.lies) puts_one

    -- the files of each stand for its history there
    own_stands : IsSettled (StandsKeeping name (history there name)) (begun (disk_at d new))
    own_stands = λ image left.
        let at_now : MayLeave now.first now.happened image = subst (λ (x : Disk). MayLeave x.first x.happened image) (own_disk old new task status lines ran) left in
        let at_first : MayLeave before.first now.happened image = subst (λ (f : Files). MayLeave f now.happened image) ran.stays.first at_now in
        subst (λ (rs : List Recorded). StandsKeeping name rs image) (sym (history_all w name rest.database_steps named))
        (behind.all image (subst (λ (h : List Happening). MayLeave before.first h image) went.is at_first))

    each_there : (x : DemoSite) → Stands there (made x) x (disk_at x new)
    each_there x = elim (which x d) [
      | inl same ↦ subst (λ (y : DemoSite). Stands there (made y) y (disk_at y new)) (sym same) (subst (λ (b : Bool). Stands there b d (disk_at d new)) (sym is) own_stands)
      | inr another ↦ stands_same w there (made x) x (disk_at x old) (disk_at x new) (others_all w name (text_of x) rest.database_steps another.named) (other_disk old new task status lines ran x another) (so.each x)
    ]

    -- and its log begins where it began
    own_zero : IsAtZero (begun (disk_at d new))
    own_zero = λ image left.
        order_at_zero (outside_of task old) ended refl ran.stays (read_there d old) (all_there made old d so is) (so.zero d is) task.order status keeps ran.ran image
        (subst (λ (x : Disk). MayLeave x.first x.happened image) (own_disk old new task status lines ran) left)

    zero_there : KeepsAll made new
    zero_there x made_x = elim (which x d) [
      | inl same ↦ subst (λ (y : DemoSite). IsAtZero (begun (disk_at y new))) (sym same) own_zero
      | inr another ↦ subst (λ (k : Disk). IsAtZero (begun k)) (sym (other_disk old new task status lines ran x another)) (so.zero x made_x)
    ]

    -- a run on a database that was made
    pub one_more_ran : SoFar made new
    one_more_ran =
        let e : demo_world (so.runs ++ q ∷ []) ≡ there = runs_more demo_names demo_begins so.runs q in
        record {
          runs = so.runs ++ q ∷ [];
          are = are_more demo_names demo_begins so.runs q so.are (record { named = named; had_been_put = λ m has. has; can = rest.may }, tt);
          good = subst IsGoodWorld (sym e) (good_there w name (puts_in went.more) before.first (went.more ++ before.happened) rest so.good named);
          each = λ x. subst (λ (v : World Recorded). Stands v (made x) x (disk_at x new)) (sym e) (each_there x);
          zero = zero_there;
          put_files = so.put_files ++ puts_in since;
          put = subst (λ (v : World Recorded). AreFiles (so.put_files ++ puts_in since) v.messages) (sym e)
              (files_more so.put_files (puts_in since) w.messages (put_in rest.database_steps) so.put
              (subst (λ (more : List Happening). AreFiles (puts_in more) (put_in rest.database_steps)) same_since rest.put)
              ∙ ap (map message_spelling) (sym messages_are));
          lies = subst (λ (v : World Recorded). AllLie (IsOneOf v.messages) new.mail.files) (sym e) lies_there;
          noted = noted_then;
        }

-- ---- a database more

module _ (made then : DemoSite → Bool) (old new : DemoSites) (d : DemoSite) (so : SoFar made old) (status : ℕ) (lines : List ℕ) (ran : RanTask (making_of d) old new status lines)
    (well : (status ≡ 0) ⊎ (status ≡ 1)) where
  abbrev world : World Recorded
  world = demo_world so.runs

  made_here : IsSettled (StandsFor (text_of d) [] 0) (begun (disk_at d new))
  made_here = elim ran.ran.ended [
    | inl all ↦ λ image left.
        let at_now : MayLeave ran.site.first ran.site.happened image
        = subst (λ (x : Disk). MayLeave x.first x.happened image) (own_disk old new (making_of d) status lines ran) left in
        all.made.settled refl image at_now
    | inr by ↦ elim well [
      | inl zero_is ↦ absurd (told_never_zero by.fault by.between (having lines ran.faults) status by.line zero_is)
      | inr one_is ↦ absurd (told_never_one by.fault by.between (having lines ran.faults) status by.line one_is)
    ]
  ]

  here : IsSettled (StandsKeeping (text_of d) []) (begun (disk_at d new))
  here = λ image left. new_keeps (text_of d) image (record { base = 0; stands = made_here image left })

  here_zero : IsAtZero (begun (disk_at d new))
  here_zero = λ image left. base_of (text_of d) [] 0 image (made_here image left)

  pub one_more_made : made d ≡ false → then d ≡ true → ((x : DemoSite) → (x ≡ d) ⊎ (then x ≡ made x)) → SoFar then new
  one_more_made new_is then_is others =
      let none : puts_in (task_order old new (making_of d) status lines ran tt).more ≡ []
      = none_put (task_order old new (making_of d) status lines ran tt).more
      (none_mail (begun_at d old) ran.site (task_order old new (making_of d) status lines ran tt).more (task_order old new (making_of d) status lines ran tt).is ran.ran.no_mail) in
      record {
        runs = so.runs;
        are = so.are;
        good = so.good;
        each = λ x. elim (which x d) [
          | inl same ↦
              subst (λ (y : DemoSite). Stands world (then y) y (disk_at y new)) (sym same)
              (subst (λ (b : Bool). Stands world b d (disk_at d new)) (sym then_is)
              (subst (λ (rs : List Recorded). IsSettled (StandsKeeping (text_of d) rs) (begun (disk_at d new)))
              (sym (subst (λ (b : Bool). Stands world b d (disk_at d old)) new_is (so.each d))) here))
          | inr another ↦
              let stays : then x ≡ made x = elim (others x) [ inl same ↦ absurd (another.named (ap text_of same)) | inr is ↦ is ] in
              subst (λ (b : Bool). Stands world b x (disk_at x new)) (sym stays)
              (stands_same world world (made x) x (disk_at x old) (disk_at x new) refl (other_disk old new (making_of d) status lines ran x another) (so.each x))
        ];
        zero = λ x then_x. elim (which x d) [
          | inl same ↦ subst (λ (y : DemoSite). IsAtZero (begun (disk_at y new))) (sym same) here_zero
          | inr another ↦
              let stays : then x ≡ made x = elim (others x) [ inl same ↦ absurd (another.named (ap text_of same)) | inr is ↦ is ] in
              subst (λ (k : Disk). IsAtZero (begun k)) (sym (other_disk old new (making_of d) status lines ran x another)) (so.zero x (sym stays ∙ then_x))
        ];
        put_files = so.put_files;
        put = so.put;
        lies = lies_then made old new (making_of d) so status lines ran well tt (IsOneOf world.messages) so.lies
            (subst (λ (l : List PutFile). AllByRecursion (λ (f : PutFile). IsOneOf world.messages f.2) l) (sym none) tt);
        noted = noted_then made old new (making_of d) so status lines ran well tt
            ∙ ap (λ (l : List PutFile). map put_at (so.put_files ++ l)) none ∙ ap (map put_at) (append-nil so.put_files);
      }
