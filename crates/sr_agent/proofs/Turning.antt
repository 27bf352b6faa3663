-- A partner's pass, from what its passes say.
use Rattle.std.proofs.Common.{◌≡◌, Bool, true, false, ℕ, List, [], ◌∷◌, ◌++◌, map, ap, subst, ◌∙◌}
use Rattle.std.specs.Prelude.{IsTrue}
use Rattle.std.specs.List.{AllByRecursion}
use Rattle.std.proofs.lemmas.List.{append-nil}
use Rattle.sr_book.specs.Entries.{Name}
use Rattle.sr_book.specs.declared.book.Book.{Book}
use Rattle.sr_database.specs.Databases.{IsDatabase}
use Rattle.sr_database.specs.Views.{View}
use Rattle.sr_database_files.specs.Books.{book_in}
use Rattle.sr_database_history.specs.Folds.{books_of}
use Rattle.sr_database_history.specs.Recorded.{Recorded}
use Rattle.sr_mail.specs.declared.window.Window.{Window}
use Rattle.sr_receive.specs.Acts.{ReceiveAct, PassState, stand_of, AreActs, IsAtRest, entries_of, mail_after, taken_in}
use Rattle.sr_receive_gather.specs.Bags.{filed_of}
use Rattle.sr_receive_gather.specs.Greatest.{has_gap, raises}
use Rattle.sr_receive_gather.specs.MessageFiles.{FetchedFile, message_files_from}
use Rattle.sr_receive.specs.Passes.{act_reports, first_notes, first_of, gap_report, note_entries}
use Rattle.sr_receive.specs.Inner.Passes.{Passed}
use Rattle.sr_receive_gather.specs.Purges.{dead, removals}
use Rattle.sr_receive_gather.specs.Inner.Purges.{HasPurged}
use Rattle.sr_receive_gather.specs.declared.bag.Filed.{Filed}
use Rattle.sr_receive.specs.declared.receiving.Received.{Received}
use Rattle.sr_receive_gather.specs.declared.report.Report.{Report}
use Rattle.sr_site.specs.Happenings.{Happening, mail_in}
use Rattle.sr_site.specs.Seen.{Seen}
use Rattle.sr_database_meaning.specs.Events.{commit}
use Rattle.sr_database_meaning.specs.Traces.{Went}
use Rattle.sr_database_meaning.proofs.Going.{told_same}
use Rattle.sr_agent.specs.Lines.{Line, received, report_lines}
use Rattle.sr_agent.specs.Inner.PartnerMails.{Behind}
use Rattle.sr_agent.specs.Inner.Steps.{TookPartnerPass, partner_pass_said}
use Rattle.sr_agent.specs.Inner.Coming.{HaveCome}
use Rattle.sr_agent.specs.Removals.{RemovesBehind}
use Rattle.sr_agent.specs.PartnerPasses.{PartnerPass, IsPartnerPass, asks_in, beginning, ending, files_of, partner_pass_entries, partner_pass_lines}
use Rattle.sr_agent.proofs.DoneWith.{IsDone, all_removed, come_then, dead_are_done, removes_on}
use Rattle.sr_agent.proofs.Joints.{settled_as, steady_on, still_there, went_quiet, went_still}
use Rattle.sr_agent.proofs.Removing.{are_removed, mail_removed}
use Rattle.sr_agent.proofs.Unremoved.{after_same, none_removed, removals_in}
use Rattle.sr_agent.proofs.Values.{beginning_is, publisher_is}

-- the entries of a pass
abbrev pub done_entries : Name → Book → List Filed → List ReceiveAct → ℕ → List Recorded
done_entries user book files acts end = first_notes user book files ++ (entries_of user acts ++ note_entries user (raises end files))

-- the partner's pass that a pass was
abbrev pub partner_pass_of : Name → List ReceiveAct → PartnerPass
partner_pass_of user acts = record { user = user; acts = acts }

-- a pass, said of the history
module _ (old new : View) (before now : Seen) (publisher : Name) (es : List Recorded) (fetched_files : List FetchedFile) (user : Name) (dropped_windows : List Window) (reports : List Report) (answer : Received)
    (database : IsDatabase old publisher es before) (passed : Passed old new before now user (message_files_from user fetched_files) [] dropped_windows [] reports answer) where
  stand_is : first_of old (book_in old.books user) [] ≡ beginning publisher es user
  stand_is = beginning_is old publisher es user database.is

  pub partner_pass_are : IsPartnerPass publisher es fetched_files (partner_pass_of user passed.acts)
  partner_pass_are = record {
    are = subst (λ (s : PassState). AreActs publisher user (message_files_from user fetched_files) s passed.acts) stand_is
        (subst (λ (p : Name). AreActs p user (message_files_from user fetched_files) (first_of old (book_in old.books user) []) passed.acts) (publisher_is old publisher es database.is) passed.are);
    rest = subst (λ (s : PassState). IsAtRest (message_files_from user fetched_files) (stand_of s passed.acts)) stand_is passed.rest;
  }

  pub end_is : answer.end.0 ≡ (ending publisher es (partner_pass_of user passed.acts)).received
  end_is = passed.end ∙ ap (λ (s : PassState). (stand_of s passed.acts).received) stand_is

  pub entries_are : done_entries user (book_in old.books user) (map filed_of (message_files_from user fetched_files)) passed.acts answer.end.0 ≡ partner_pass_entries publisher es fetched_files (partner_pass_of user passed.acts)
  entries_are =
      ap (λ (b : Book). done_entries user b (map filed_of (message_files_from user fetched_files)) passed.acts answer.end.0) (database.is.books user)
      ∙ ap (λ (n : ℕ). done_entries user (books_of user es) (map filed_of (message_files_from user fetched_files)) passed.acts n) end_is

  pub ask_is : answer.ask ≡ asks_in publisher es fetched_files (partner_pass_of user passed.acts)
  ask_is = passed.ask ∙ ap (λ (n : ℕ). has_gap n (map filed_of (message_files_from user fetched_files))) end_is

  pub said_is : partner_pass_said user answer (act_reports user passed.acts) (gap_report user answer.end.0 (map filed_of (message_files_from user fetched_files))) ≡ partner_pass_lines publisher es fetched_files (partner_pass_of user passed.acts)
  said_is =
      ap (λ (took : ℕ). report_lines (act_reports user passed.acts) ++ received user took answer.end.0 ∷ report_lines (gap_report user answer.end.0 (map filed_of (message_files_from user fetched_files)))) passed.took
      ∙ ap (λ (n : ℕ). report_lines (act_reports user passed.acts) ++ received user (taken_in passed.acts) n ∷ report_lines (gap_report user n (map filed_of (message_files_from user fetched_files)))) end_is

-- ---- and then dead files were removed, or not

pub behind_partner_pass : (old new : View) (before middle : Seen) (publisher : Name) (es : List Recorded) (fetched_files : List FetchedFile) (user : Name) (dropped_windows : List Window) (reports : List Report) (answer : Received)
    → IsTrue before.observable → (database : IsDatabase old publisher es before) (passed : Passed old new before middle user (message_files_from user fetched_files) [] dropped_windows [] reports answer)
    → Behind new before middle publisher es fetched_files (partner_pass_of user passed.acts)
behind_partner_pass old new before middle publisher es fetched_files user dropped_windows reports answer told database passed =
    let are = entries_are old new before middle publisher es fetched_files user dropped_windows reports answer database passed in
    let entries = done_entries user (book_in old.books user) (map filed_of (message_files_from user fetched_files)) passed.acts answer.end.0 in
    record {
      is = partner_pass_are old new before middle publisher es fetched_files user dropped_windows reports answer database passed;
      database = subst (λ (rs : List Recorded). IsDatabase new publisher (es ++ rs) middle) are (passed.reached.database told passed.reached.state.0 publisher es database);
      went = subst (λ (rs : List Recorded). Went before middle publisher es (map commit rs)) (append-nil entries ∙ are) (passed.reached.went told publisher es database);
      mail = passed.mail told ∙ ap (λ (p : Name). mail_after p passed.acts (mail_in before.happened)) (publisher_is old publisher es database.is);
      steady = record { disk = passed.reached.state.1; mail = passed.steady };
    }

-- nothing was removed before
pub behind_removes : (new : View) (before middle : Seen) (publisher : Name) (es : List Recorded) (fetched_files : List FetchedFile) (t : PartnerPass) → Behind new before middle publisher es fetched_files t → (begun : List Happening)
    → RemovesBehind before.first publisher begun before.happened middle.happened
behind_removes new before middle publisher es fetched_files t behind begun =
    none_removed before.first begun before middle publisher es (map commit (partner_pass_entries publisher es fetched_files t)) behind.went (ap removals_in behind.mail ∙ after_same publisher t.acts (mail_in before.happened))

-- dead files may be removed: they are done with
pub purge_removes : (new : View) (before middle : Seen) (now : List Happening) (publisher : Name) (es : List Recorded) (fetched_files : List FetchedFile) (t : PartnerPass) (address : Name) (book : Book) (files : List Filed)
    → Behind new before middle publisher es fetched_files t → address ≡ publisher → book ≡ books_of t.user (es ++ partner_pass_entries publisher es fetched_files t) → files ≡ files_of fetched_files t
    → ((begun : List Happening) → AllByRecursion (IsDone middle.first publisher address begun middle.happened) (dead book files) → RemovesBehind middle.first publisher begun middle.happened now) → (begun : List Happening)
    → HaveCome publisher begun before.happened fetched_files → RemovesBehind before.first publisher begun before.happened now
purge_removes new before middle now publisher es fetched_files t address book files behind address_is book_is files_are purged begun come =
    let there = es ++ partner_pass_entries publisher es fetched_files t in
    let first = behind_removes new before middle publisher es fetched_files t behind begun in
    let done = dead_are_done middle.first publisher address begun t.user middle.happened there address_is (settled_as new publisher there middle behind.database) fetched_files
    (come_then before.first publisher begun before.happened middle.happened fetched_files first come) in
    removes_on before.first middle.first publisher begun before.happened middle.happened now
    (told_same before middle publisher es (map commit (partner_pass_entries publisher es fetched_files t)) behind.went).1 first
    (purged begun (rw (book_is, files_are) done))

-- nothing was removed
pub took_quietly : (new : View) (before now : Seen) (publisher : Name) (es : List Recorded) (fetched_files : List FetchedFile) (user : Name) (t : PartnerPass) (ask : Bool) (lines : List Line) → t.user ≡ user
    → Behind new before now publisher es fetched_files t → ask ≡ asks_in publisher es fetched_files t → lines ≡ partner_pass_lines publisher es fetched_files t → TookPartnerPass new before now publisher es fetched_files false user ask lines
took_quietly new before now publisher es fetched_files user t ask lines whose behind ask_is lines_are = record {
  partner_pass = t;
  user_is = whose;
  is = behind.is;
  database = behind.database;
  steady = behind.steady;
  went = behind.went;
  mail = behind.mail;
  removals = λ begun come. behind_removes new before now publisher es fetched_files t behind begun;
  ask_is = ask_is;
  lines_are = lines_are;
}

-- the dead files of this book were removed, from the folder of this address
pub took_and_purged : (new : View) (before middle now : Seen) (publisher : Name) (es : List Recorded) (fetched_files : List FetchedFile) (user : Name) (t : PartnerPass) (ask : Bool) (lines : List Line) (address : Name) (book : Book)
    (files : List Filed) (count : ℕ) → t.user ≡ user → IsTrue middle.observable → Behind new before middle publisher es fetched_files t → ask ≡ asks_in publisher es fetched_files t → lines ≡ partner_pass_lines publisher es fetched_files t
    → address ≡ publisher → book ≡ books_of t.user (es ++ partner_pass_entries publisher es fetched_files t) → files ≡ files_of fetched_files t → HasPurged address book files middle now count
    → TookPartnerPass new before now publisher es fetched_files true user ask lines
took_and_purged new before middle now publisher es fetched_files user t ask lines address book files count whose told behind ask_is lines_are address_is book_is files_are purged =
    let added = partner_pass_entries publisher es fetched_files t in
    let removal = are_removed address (dead book files) middle.happened in
    let happened : now.happened ≡ removal.more ++ middle.happened = purged.removed_are told ∙ removal.is in
    record {
      partner_pass = t;
      user_is = whose;
      is = behind.is;
      database = still_there new publisher (es ++ added) middle now removal.more purged.stays happened removal.quiet behind.database;
      steady = steady_on before middle now behind.steady (record { disk = purged.stays.disk_faults; mail = purged.steady });
      went = went_still before middle now publisher es added behind.went (went_quiet new publisher (es ++ added) middle now removal.more purged.stays happened removal.quiet behind.database);
      mail =
          ap (λ (l : List Happening). mail_in l) (purged.removed_are told)
          ∙ mail_removed address (dead book files) middle.happened
          ∙ ap (λ (l : List Happening). removals address (dead book files) l) behind.mail
          ∙ ap (λ (a : Name). removals a (dead book files) (mail_after publisher t.acts (mail_in before.happened))) address_is
          ∙ ap (λ (b : Book). removals publisher (dead b files) (mail_after publisher t.acts (mail_in before.happened))) book_is
          ∙ ap (λ (fs : List Filed). removals publisher (dead (books_of t.user (es ++ added)) fs) (mail_after publisher t.acts (mail_in before.happened))) files_are;
      removals = purge_removes new before middle now.happened publisher es fetched_files t address book files behind address_is book_is files_are
          (λ begun done. all_removed middle.first publisher address begun (dead book files) middle.happened now.happened (purged.removed_are told) done);
      ask_is = ask_is;
      lines_are = lines_are;
    }
