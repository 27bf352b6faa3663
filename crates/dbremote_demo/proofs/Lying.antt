-- What lies in the folders was put there: what is so of the bytes of each file stays so, and what a fetch gives is known.
use Rattle.std.proofs.Common.{◌≡◌, ℕ, Bool, true, false, cond, map, List, [], ◌∷◌, ◌++◌, take, drop, Contains, Option, Some, None, Ok, Err, refl, sym, ap, subst, ◌∙◌, append_assoc, append-nil, take-append-drop}
use Rattle.std.proofs.lemmas.List.{map-append}
use Rattle.std.specs.BTreeMap.{is_at, insert_entry}
use Rattle.std.specs.List.{AllByRecursion}
use Rattle.std.specs.Map.{lookup, remove_entry}
use Rattle.std.specs.Option.{option_map}
use Rattle.std.specs.Ordering.{match_ordering}
use Rattle.std.specs.Prelude.{if◌then◌else◌, is_some}
use Rattle.std.specs.declared.cmp.Ordering.{Ordering}
use Rattle.std.specs.declared.cmp.Ordering.TheVariants.{Less, Equal, Greater}
use Rattle.dbremote_demo.proofs.Prefixes.{prefix_message}
use Rattle.dbremote_demo.specs.GoodWorlds.{put_at}
use Rattle.dbremote_demo_draws.specs.Draws.{next_state}
use Rattle.dbremote_demo_draws.specs.Losses.{Lost, and_more, is_lost, some_lost, without}
use Rattle.sr_book.specs.Entries.{Name}
use Rattle.sr_database_meaning.specs.Events.{PutFile, puts_in}
use Rattle.sr_memsite.specs.Handing.{AreAsHappened, IsTruthful, handing}
use Rattle.sr_memsite_mail.specs.Folders.{Folders, place, shown, file_at, laid, after_put, without_file, files_shown}
use Rattle.sr_memsite_mail.specs.Places.{place_cmp}
use Rattle.sr_memsite_mail.specs.StoredFile.{StoredFile}
use Rattle.sr_memsite_mail.specs.declared.place.Place.{Place}
use Rattle.sr_msgform.specs.Messages.{IsMessage, message_spelling}
use Rattle.sr_msgform.specs.declared.message.Message.{Message}
use Rattle.sr_send.specs.Posting.{PutSucceeded}
use Rattle.sr_site.specs.Happenings.{Happening, attached, wrote, cut_to, synced, listed, fetched, sent, removed, handed_over, IsCall}
use Rattle.sr_world_runs.specs.Worlds.{CameKnown, IsKnown, PutsComeLast}

abbrev Stored : Type 0
Stored = Place × StoredFile

abbrev Lain : Type 0
Lain = List ℕ × List ℕ × List ℕ

-- ---- in lists of files

module _ (P : List ℕ → Type 0) where
  -- it is so of the bytes of each file that is not held back
  abbrev pub AllLie : List Stored → Type 0
  AllLie files = AllByRecursion (λ (f : Lain). P f.2) (files_shown files)

  abbrev All : List Lain → Type 0
  All files = AllByRecursion (λ (f : Lain). P f.2) files

  tail_lies : (held : Bool) (f : Lain) (files : List Lain) → All (cond held files (f ∷ files)) → All files
  tail_lies true f files all = all
  tail_lies false f files all = all.1

  tail_changes : (held : Bool) (f : Lain) (files more : List Lain) → (All files → All more) → All (cond held files (f ∷ files)) → All (cond held more (f ∷ more))
  tail_changes true f files more goes all = goes all
  tail_changes false f files more goes all = (all.0, goes all.1)

  by_order : (o : Ordering) (a b c : List Stored) → AllLie a → AllLie b → AllLie c → AllLie (match_ordering o a b c)
  by_order Less a b c one two three = one
  by_order Equal a b c one two three = two
  by_order Greater a b c one two three = three

  laid_there : (at : Place) (bytes : List ℕ) → P bytes → (files : List Stored) → AllLie files → AllLie (insert_entry place_cmp files at (laid bytes))
  laid_there at bytes is [] all = (is, tt)
  laid_there at bytes is (e ∷ files) all =
      let f : Lain = (e.0.address, e.0.name, e.1.bytes) in
      let new : List Stored = insert_entry place_cmp files at (laid bytes) in
      by_order (place_cmp at e.0) ((at, laid bytes) ∷ e ∷ files) ((e.0, laid bytes) ∷ files) (e ∷ new) (is, all) (is, tail_lies e.1.held f (files_shown files) all)
      (tail_changes e.1.held f (files_shown files) (files_shown new) (laid_there at bytes is files) all)

  by_test : (b : Bool) (one other : List Stored) → AllLie one → AllLie other → AllLie (cond b one other)
  by_test true one other a b = a
  by_test false one other a b = b

  pub taken_away : (test : Place → Bool) (files : List Stored) → AllLie files → AllLie (remove_entry test files)
  taken_away test [] all = tt
  taken_away test (e ∷ files) all =
      let f : Lain = (e.0.address, e.0.name, e.1.bytes) in
      let new : List Stored = remove_entry test files in
      by_test (test e.0) files (e ∷ new) (tail_lies e.1.held f (files_shown files) all)
      (tail_changes e.1.held f (files_shown files) (files_shown new) (taken_away test files) all)

  -- a file that is found
  shown_so : (held : Bool) (stored bytes : List ℕ) (f : Lain) (files : List Lain) → f.2 ≡ stored → shown (Some (record { bytes = stored; held = held })) ≡ Some bytes → All (cond held files (f ∷ files)) → P bytes
  shown_so true stored bytes f files same is all = absurd cc
  shown_so false stored bytes f files same is all = let here : stored ≡ bytes = cc in subst P (same ∙ here) all.0

  found_by : (b : Bool) (e : Stored) (later : Option StoredFile) (files : List Stored) (bytes : List ℕ) → (shown later ≡ Some bytes → AllLie files → P bytes) → AllLie (e ∷ files)
      → shown (cond b (Some e.1) later) ≡ Some bytes → P bytes
  found_by true e later files bytes goes all is = shown_so e.1.held e.1.bytes bytes (e.0.address, e.0.name, e.1.bytes) (files_shown files) refl is all
  found_by false e later files bytes goes all is = goes is (tail_lies e.1.held (e.0.address, e.0.name, e.1.bytes) (files_shown files) all)

  found_in : (test : Place → Bool) (files : List Stored) (bytes : List ℕ) → AllLie files → shown (lookup test files) ≡ Some bytes → P bytes
  found_in test [] bytes all is = absurd cc
  found_in test (e ∷ files) bytes all is = found_by (test e.0) e (lookup test files) files bytes (λ later rest. found_in test files bytes rest later) all is

  pub found_there : (folders : Folders) (at : Place) (bytes : List ℕ) → AllLie folders.files → file_at folders at ≡ Some bytes → P bytes
  found_there folders at bytes all is = found_in (is_at (place_cmp at)) folders.files bytes all is

  put_there : (folders : Folders) (at : Place) (bytes : List ℕ) → P bytes → AllLie folders.files → AllLie (after_put folders at bytes).files
  put_there folders at bytes is all = laid_there at bytes is folders.files all

  removed_by : (b : Bool) (folders : Folders) (at : Place) → AllLie folders.files → AllLie (cond b (without_file folders at) folders).files
  removed_by true folders at all = taken_away (is_at (place_cmp at)) folders.files all
  removed_by false folders at all = all

  -- ---- since folders were handed over

  last_of : (files : List PutFile) (file : PutFile) → AllByRecursion (λ (l : PutFile). P l.2) (files ++ file ∷ []) → AllByRecursion (λ (l : PutFile). P l.2) files × P file.2
  last_of [] file all = (tt, all.0)
  last_of (f ∷ files) file all = let rest = last_of files file all.1 in ((all.0, rest.0), rest.1)

  module _ (old : Folders) (before : List Happening) (lies : AllLie old.files) where
    pub lies_since : (more : List Happening) → AllByRecursion IsCall more → AllByRecursion (λ (l : PutFile). P l.2) (puts_in more) → (folders : Folders)
        → AreAsHappened (more ++ handing old ∷ before) folders → AllLie folders.files
    lies_since [] calls puts folders was = subst (λ (files : List Lain). All files) (sym was.0) lies
    lies_since (attached name folder went ∷ more) calls puts folders was = lies_since more calls.1 puts folders was
    lies_since (wrote file at bytes went after ∷ more) calls puts folders was = lies_since more calls.1 puts folders was
    lies_since (cut_to file to went after ∷ more) calls puts folders was = lies_since more calls.1 puts folders was
    lies_since (synced file went after ∷ more) calls puts folders was = lies_since more calls.1 puts folders was
    lies_since (listed address names listing ∷ more) calls puts folders was = lies_since more calls.1 puts folders was
    lies_since (fetched address name limit came ∷ more) calls puts folders was = lies_since more calls.1 puts folders was
    lies_since (sent address name bytes true ∷ more) calls puts folders was =
        let both = last_of (puts_in more) (address, name, bytes) puts in
        subst (λ (f : Folders). AllLie f.files) (sym was.2) (put_there was.0 (place address name) bytes both.1 (lies_since more calls.1 both.0 was.0 was.1))
    lies_since (sent address name bytes false ∷ more) calls puts folders was = lies_since more calls.1 (last_of (puts_in more) (address, name, bytes) puts).0 folders was
    lies_since (removed address name true ∷ more) calls puts folders was =
        subst (λ (f : Folders). AllLie f.files) (sym was.2)
        (removed_by (is_some (file_at was.0 (place address name))) was.0 (place address name) (lies_since more calls.1 puts was.0 was.1))
    lies_since (removed address name false ∷ more) calls puts folders was = lies_since more calls.1 puts folders was
    lies_since (handed_over files noted ∷ more) calls puts folders was = absurd calls.0

-- what was put is noted
removed_notes : (b : Bool) (folders : Folders) (at : Place) → (cond b (without_file folders at) folders).puts ≡ folders.puts
removed_notes true folders at = refl
removed_notes false folders at = refl

pub noted_since : (old : Folders) (before more : List Happening) → AllByRecursion IsCall more → AllByRecursion PutSucceeded more → (folders : Folders) → AreAsHappened (more ++ handing old ∷ before) folders
    → folders.puts ≡ old.puts ++ map put_at (puts_in more)
noted_since old before [] calls done folders was = was.1 ∙ sym (append-nil old.puts)
noted_since old before (attached name folder went ∷ more) calls done folders was = noted_since old before more calls.1 done.1 folders was
noted_since old before (wrote file at bytes went after ∷ more) calls done folders was = noted_since old before more calls.1 done.1 folders was
noted_since old before (cut_to file to went after ∷ more) calls done folders was = noted_since old before more calls.1 done.1 folders was
noted_since old before (synced file went after ∷ more) calls done folders was = noted_since old before more calls.1 done.1 folders was
noted_since old before (listed address names listing ∷ more) calls done folders was = noted_since old before more calls.1 done.1 folders was
noted_since old before (fetched address name limit came ∷ more) calls done folders was = noted_since old before more calls.1 done.1 folders was
noted_since old before (sent address name bytes true ∷ more) calls done folders was =
    ap (λ (f : Folders). f.puts) was.2
    ∙ ap (λ (l : List (List ℕ × List ℕ)). l ++ (address, name) ∷ []) (noted_since old before more calls.1 done.1 was.0 was.1)
    ∙ append_assoc old.puts (map put_at (puts_in more)) ((address, name) ∷ [])
    ∙ ap (λ (l : List (List ℕ × List ℕ)). old.puts ++ l) (sym (map-append put_at (puts_in more) ((address, name, bytes) ∷ [])))
noted_since old before (sent address name bytes false ∷ more) calls done folders was = absurd (cc done.0)
noted_since old before (removed address name true ∷ more) calls done folders was =
    ap (λ (f : Folders). f.puts) was.2 ∙ removed_notes (is_some (file_at was.0 (place address name))) was.0 (place address name) ∙ noted_since old before more calls.1 done.1 was.0 was.1
noted_since old before (removed address name false ∷ more) calls done folders was = noted_since old before more calls.1 done.1 folders was
noted_since old before (handed_over files noted ∷ more) calls done folders was = absurd calls.0

-- ---- messages that are lost

lost_by : (P : List ℕ → Type 0) (b : Bool) (one other : Lost) → AllLie P one.mail.files → AllLie P other.mail.files → AllLie P (if b then and_more 1 one else other).mail.files
lost_by P true one other a b = a
lost_by P false one other a b = b

pub lost_lies : (P : List ℕ → Type 0) (x : ℕ) (puts : List (List ℕ × List ℕ)) (mail : Folders) → AllLie P mail.files → AllLie P (some_lost x puts mail).mail.files
lost_lies P x [] mail lies = lies
lost_lies P x (put ∷ puts) mail lies =
    lost_by P (is_lost (next_state x)) (some_lost (next_state x) puts (without put mail)) (some_lost (next_state x) puts mail)
    (lost_lies P (next_state x) puts (without put mail) (taken_away P (is_at (place_cmp (place put.0 put.1))) mail.files lies)) (lost_lies P (next_state x) puts mail lies)

same_notes : (b : Bool) (one other : Lost) (noted : List (List ℕ × List ℕ)) → one.mail.puts ≡ noted → other.mail.puts ≡ noted → (if b then and_more 1 one else other).mail.puts ≡ noted
same_notes true one other noted a b = a
same_notes false one other noted a b = b

pub lost_noted : (x : ℕ) (puts : List (List ℕ × List ℕ)) (mail : Folders) → (some_lost x puts mail).mail.puts ≡ mail.puts
lost_noted x [] mail = refl
lost_noted x (put ∷ puts) mail =
    same_notes (is_lost (next_state x)) (some_lost (next_state x) puts (without put mail)) (some_lost (next_state x) puts mail) mail.puts
    (lost_noted (next_state x) puts (without put mail)) (lost_noted (next_state x) puts mail)

-- ---- what a fetch gives is known

-- bytes are those of one of these messages
pub record IsOneOf (messages : List Message) (bytes : List ℕ) : Type 0 where
  pub message : Message
  pub among : Contains messages message
  pub is : IsMessage message
  pub spelled : bytes ≡ message_spelling message

first_known : (messages : List Message) (receiver : Name) (limit : ℕ) (bytes : List ℕ) → IsOneOf messages bytes → IsKnown messages receiver (take limit bytes)
first_known messages receiver limit bytes one = λ m is e to.
    let whole : message_spelling m ++ drop limit bytes ≡ message_spelling one.message
    = ap (λ (l : List ℕ). l ++ drop limit bytes) (sym e) ∙ take-append-drop limit bytes ∙ one.spelled in
    subst (λ (x : Message). Contains messages x) (sym (prefix_message m one.message (drop limit bytes) is one.is whole)) one.among

module _ (messages : List Message) (receiver : Name) (old : Folders) (before : List Happening) (lies : AllLie (IsOneOf messages) old.files) where
  came_from : (limit : ℕ) (folders : Folders) (at : Place) (bytes : List ℕ) (found : Option (List ℕ)) → file_at folders at ≡ found → AllLie (IsOneOf messages) folders.files
      → Some bytes ≡ option_map (take limit) found → IsKnown messages receiver bytes
  came_from limit folders at bytes None is all came = absurd cc
  came_from limit folders at bytes (Some whole) is all came =
      let same : bytes ≡ take limit whole = cc in
      subst (λ (l : List ℕ). IsKnown messages receiver l) (sym same) (first_known messages receiver limit whole (found_there (IsOneOf messages) folders at whole all is))

  none_put : (more : List Happening) → puts_in more ≡ [] → AllByRecursion (λ (l : PutFile). IsOneOf messages l.2) (puts_in more)
  none_put more none = subst (λ (l : List PutFile). AllByRecursion (λ (f : PutFile). IsOneOf messages f.2) l) (sym none) tt

  pub came_known : (more : List Happening) → AllByRecursion IsCall more → PutsComeLast more → IsTruthful (more ++ handing old ∷ before)
      → AllByRecursion (CameKnown messages receiver) more
  came_known [] calls last truthful = tt
  came_known (attached name folder went ∷ more) calls last truthful = (tt, came_known more calls.1 last truthful)
  came_known (wrote file at bytes went after ∷ more) calls last truthful = (tt, came_known more calls.1 last truthful)
  came_known (cut_to file to went after ∷ more) calls last truthful = (tt, came_known more calls.1 last truthful)
  came_known (synced file went after ∷ more) calls last truthful = (tt, came_known more calls.1 last truthful)
  came_known (listed address names listing ∷ more) calls last truthful = (tt, came_known more calls.1 last.1 truthful)
  came_known (fetched address name limit (Ok (Some bytes)) ∷ more) calls last truthful =
      let folders : Folders = truthful.0.0 in (
        came_from limit folders (place address name) bytes (file_at folders (place address name)) refl
            (lies_since (IsOneOf messages) old before lies more calls.1 (none_put more last.0) folders truthful.0.1) truthful.0.2,
        came_known more calls.1 last.1 truthful.1,
      )
  came_known (fetched address name limit (Ok None) ∷ more) calls last truthful = (tt, came_known more calls.1 last.1 truthful.1)
  came_known (fetched address name limit (Err fault) ∷ more) calls last truthful = (tt, came_known more calls.1 last.1 truthful)
  came_known (sent address name bytes went ∷ more) calls last truthful = (tt, came_known more calls.1 last truthful)
  came_known (removed address name went ∷ more) calls last truthful = (tt, came_known more calls.1 last.1 truthful)
  came_known (handed_over files noted ∷ more) calls last truthful = absurd calls.0
