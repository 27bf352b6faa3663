-- Message files that are done with, and their removals.
use Rattle.std.proofs.Common.{◌≡◌, ℕ, Bool, true, false, cond, List, [], ◌∷◌, ◌++◌, map, filter, flat_map, bytes_eq, refl, sym, ap, subst, inl, inr, ◌∙◌, append_assoc}
use Rattle.std.proofs.lemmas.Bool.{and_parts, leb-true}
use Rattle.std.proofs.lemmas.Slice.Eq.{bytes_eq-Decides}
use Rattle.std.specs.Prelude.{nat_le, ◌&&◌}
use Rattle.std.specs.List.{AllByRecursion}
use Rattle.sr_book.specs.Entries.{Name}
use Rattle.sr_mail_cut.proofs.Lists.{AllByRecursion-map}
use Rattle.sr_database_history.specs.Folds.{books_of}
use Rattle.sr_database_history.specs.Recorded.{Recorded}
use Rattle.sr_receive_gather.specs.Bags.{filed_of}
use Rattle.sr_receive_gather.specs.MessageFiles.{FetchedFile, MessageFile, message_file_of, message_files_from}
use Rattle.sr_receive_gather.specs.Purges.{Removes, dead, is_dead, removals}
use Rattle.sr_receive_gather.specs.declared.bag.Filed.{Filed}
use Rattle.sr_site.specs.Files.{Files}
use Rattle.sr_site.specs.Happenings.{Happening, removed}
use Rattle.sr_site.specs.Images.{MayLeave}
use Rattle.sr_site.specs.Seen.{Seen}
use Rattle.sr_database_meaning.specs.Events.{Event}
use Rattle.sr_database_meaning.specs.Standing.{StandsAs}
use Rattle.sr_database_meaning.specs.Traces.{Went}
use Rattle.sr_database_meaning.proofs.Going.{told_same}
use Rattle.sr_agent.specs.Inner.Coming.{HaveCome, RemovesOfCome}
use Rattle.sr_agent.specs.Removals.{AreDoneWith, CameAs, HappenedSince, IsDoneWith, RemovesBehind}

-- ---- what came stays so

happened_still : (begun now more : List Happening) (step : Happening) → HappenedSince begun now step → HappenedSince begun (more ++ now) step
happened_still begun now more step since = record {
  later = more ++ since.later;
  earlier = since.earlier;
  is = ap (λ (l : List Happening). more ++ l) since.is ∙ sym (append_assoc more since.later (step ∷ (since.earlier ++ begun)));
}

came_still : (publisher : Name) (begun now more : List Happening) (l : MessageFile) → CameAs publisher begun now l → CameAs publisher begun (more ++ now) l
came_still publisher begun now more l came = record { spelled = came.spelled; to = came.to; there = happened_still begun now more _ came.there }

pub come_then : (first : Files) (publisher : Name) (begun before now : List Happening) (fetched_files : List FetchedFile) → RemovesBehind first publisher begun before now → HaveCome publisher begun before fetched_files
    → HaveCome publisher begun now fetched_files
come_then first publisher begun before now fetched_files behind come =
    subst (λ (l : List Happening). HaveCome publisher begun l fetched_files) (sym behind.is)
    (AllByRecursion-map (CameAs publisher begun before) (CameAs publisher begun (behind.more ++ before)) (flat_map message_file_of fetched_files) (λ l came. came_still publisher begun before behind.more l came) come)

-- ---- one after the other

pub removes_none : (first : Files) (publisher : Name) (begun now : List Happening) → RemovesBehind first publisher begun now now
removes_none first publisher begun now = record { more = []; is = refl; are = tt }

are_both : (first : Files) (publisher : Name) (begun before more later : List Happening) → AreDoneWith first publisher begun before more → AreDoneWith first publisher begun (more ++ before) later
    → AreDoneWith first publisher begun before (later ++ more)
are_both first publisher begun before more [] one two = one
are_both first publisher begun before more (removed address name done ∷ later) one two = (
  subst (λ (l : List Happening). IsDoneWith first publisher address name begun l) (sym (append_assoc later more before)) two.0,
  are_both first publisher begun before more later one two.1,
)
are_both first publisher begun before more (step ∷ later) one two = are_both first publisher begun before more later one two

pub removes_both : (first : Files) (publisher : Name) (begun before middle now : List Happening) → RemovesBehind first publisher begun before middle → RemovesBehind first publisher begun middle now
    → RemovesBehind first publisher begun before now
removes_both first publisher begun before middle now one two = record {
  more = two.more ++ one.more;
  is = two.is ∙ ap (λ (l : List Happening). two.more ++ l) one.is ∙ sym (append_assoc two.more one.more before);
  are = are_both first publisher begun before one.more two.more one.are (subst (λ (l : List Happening). AreDoneWith first publisher begun l two.more) one.is two.are);
}

-- where the same files stood at first
pub removes_on : (first first' : Files) (publisher : Name) (begun before middle now : List Happening) → first' ≡ first → RemovesBehind first publisher begun before middle → RemovesBehind first' publisher begun middle now
    → RemovesBehind first publisher begun before now
removes_on first first' publisher begun before middle now same one two =
    removes_both first publisher begun before middle now one (subst (λ (f : Files). RemovesBehind f publisher begun middle now) same two)

-- a part of a run, and then another
pub removes_then : (before middle now : Seen) (publisher : Name) (es : List Recorded) (events : List Event) (fetched_files : List FetchedFile) → Went before middle publisher es events → RemovesOfCome publisher fetched_files before middle
    → RemovesOfCome publisher fetched_files middle now → RemovesOfCome publisher fetched_files before now
removes_then before middle now publisher es events fetched_files went one two begun come =
    let first = one begun come in
    removes_on before.first middle.first publisher begun before.happened middle.happened now.happened (told_same before middle publisher es events went).1 first
    (two begun (come_then before.first publisher begun before.happened middle.happened fetched_files first come))

-- ---- removals in order

module _ (first : Files) (publisher address : Name) (begun : List Happening) where
  -- a file of this name is done with
  abbrev pub IsDone : List Happening → Filed → Type 0
  IsDone now f = IsDoneWith first publisher address f.name begun now

  still_done : (now : List Happening) (name : List ℕ) (done : Bool) (f : Filed) → IsDone now f → IsDone (removed address name done ∷ now) f
  still_done now name done f is = record {
    own = is.own;
    message = is.message;
    came = came_still publisher begun now (removed address name done ∷ []) (f.name, is.message) is.came;
    es = is.es;
    settled = is.settled;
    received = is.received;
    confirmed = is.confirmed;
    answered = is.answered;
  }

  done_behind : (files : List Filed) (before : List Happening) (f : Filed) → IsDone before f → IsDone (removals address files before) f
  done_behind [] before f is = is
  done_behind (other ∷ files) before f is = done_behind files (removed address other.name true ∷ before) f (still_done before other.name true f is)

  one_removed : (before : List Happening) (f : Filed) (done : Bool) → IsDone before f → RemovesBehind first publisher begun before (removed address f.name done ∷ before)
  one_removed before f done is = record { more = removed address f.name done ∷ []; is = refl; are = (is, tt) }

  removed_in_order : (files : List Filed) (before : List Happening) → AllByRecursion (IsDone before) files → RemovesBehind first publisher begun before (removals address files before)
  removed_in_order [] before are = removes_none first publisher begun before
  removed_in_order (f ∷ files) before are =
      let one = removed address f.name true ∷ before in
      removes_both first publisher begun before one (removals address files one) (one_removed before f true are.0)
      (removed_in_order files one (AllByRecursion-map (IsDone before) (IsDone one) files (λ other is. still_done before f.name true other is) are.1))

  pub all_removed : (files : List Filed) (before now : List Happening) → now ≡ removals address files before → AllByRecursion (IsDone before) files → RemovesBehind first publisher begun before now
  all_removed files before now is are = subst (λ (l : List Happening). RemovesBehind first publisher begun before l) (sym is) (removed_in_order files before are)

  all_front : (done left : List Filed) (before : List Happening) → AllByRecursion (IsDone before) (done ++ left) → AllByRecursion (IsDone before) done
  all_front [] left before are = tt
  all_front (f ∷ done) left before are = (are.0, all_front done left before are.1)

  all_behind : (done left : List Filed) (before : List Happening) → AllByRecursion (IsDone before) (done ++ left) → AllByRecursion (IsDone before) left
  all_behind [] left before are = are
  all_behind (f ∷ done) left before are = all_behind done left before are.1

  -- and one more at most was begun
  pub some_removed : (done left : List Filed) (before now : List Happening) → Removes address done left before now → AllByRecursion (IsDone before) (done ++ left) → RemovesBehind first publisher begun before now
  some_removed done [] before now is are = all_removed done before now is (all_front done [] before are)
  some_removed done (f ∷ left) before now (inl is) are = all_removed done before now is (all_front done (f ∷ left) before are)
  some_removed done (f ∷ left) before now (inr is) are =
      let earlier = removals address done before in
      subst (λ (l : List Happening). RemovesBehind first publisher begun before l) (sym is)
      (removes_both first publisher begun before earlier (removed address f.name false ∷ earlier) (removed_in_order done before (all_front done (f ∷ left) before are))
      (one_removed earlier f false (done_behind done before f (all_behind done (f ∷ left) before are).0)))

  -- ---- the dead files of a partner

  module _ (user : Name) (now : List Happening) (es : List Recorded) (own : address ≡ publisher) (settled : (image : Files) → MayLeave first now image → StandsAs publisher es image) where
    done_with : (l : MessageFile) → CameAs publisher begun now l → user ≡ l.1.from → is_dead (books_of user es) (filed_of l) ≡ true → IsDone now (filed_of l)
    done_with l came his over =
        let book = books_of user es in
        let all = and_parts (nat_le l.1.upto.0 book.log_received && nat_le l.1.confirm.0 book.confirm_sent) (nat_le l.1.ask_count book.resend_count) over in
        let two = and_parts (nat_le l.1.upto.0 book.log_received) (nat_le l.1.confirm.0 book.confirm_sent) all.0 in
        record {
          own = own;
          message = l.1;
          came = came;
          es = es;
          settled = settled;
          received = rw (sym his) (leb-true l.1.upto.0 book.log_received two.0);
          confirmed = rw (sym his) (leb-true l.1.confirm.0 book.confirm_sent two.1);
          answered = rw (sym his) (leb-true l.1.ask_count book.resend_count all.1);
        }

    where_dead : (f : Filed) (files : List Filed) (b : Bool) → (b ≡ true → IsDone now f) → AllByRecursion (IsDone now) files → AllByRecursion (IsDone now) (cond b (f ∷ files) files)
    where_dead f files true is are = (is refl, are)
    where_dead f files false is are = are

    where_his : (l : MessageFile) (ls : List MessageFile) (b : Bool) → (b ≡ true → is_dead (books_of user es) (filed_of l) ≡ true → IsDone now (filed_of l)) → AllByRecursion (IsDone now) (dead (books_of user es) (map filed_of ls))
        → AllByRecursion (IsDone now) (dead (books_of user es) (map filed_of (cond b (l ∷ ls) ls)))
    where_his l ls true is are = where_dead (filed_of l) (dead (books_of user es) (map filed_of ls)) (is_dead (books_of user es) (filed_of l)) (is refl) are
    where_his l ls false is are = are

    dead_done : (ls : List MessageFile) → AllByRecursion (CameAs publisher begun now) ls → AllByRecursion (IsDone now) (dead (books_of user es) (map filed_of (filter (λ (l : MessageFile). bytes_eq user l.1.from) ls)))
    dead_done [] come = tt
    dead_done (l ∷ ls) come =
        where_his l (filter (λ (l : MessageFile). bytes_eq user l.1.from) ls) (bytes_eq user l.1.from) (λ his over. done_with l come.0 ((bytes_eq-Decides user l.1.from).0 his) over) (dead_done ls come.1)

    pub dead_are_done : (fetched_files : List FetchedFile) → HaveCome publisher begun now fetched_files → AllByRecursion (IsDone now) (dead (books_of user es) (map filed_of (message_files_from user fetched_files)))
    dead_are_done fetched_files come = dead_done (flat_map message_file_of fetched_files) come
