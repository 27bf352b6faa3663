-- A record of a log that is read again: its body, its entry, and whether this may stand there.
use Rattle.std.proofs.Common.{◌≡◌, ◌≢◌, ℕ, ◌+◌, ◌≤◌, ◌<◌, ◌^◌, List, [], ◌∷◌, ◌++◌, length, take, drop, sym, ◌∙◌, ap, subst, arith, length-append}
use Rattle.std.proofs.lemmas.List.{drop-drop, take_at, length-drop}
use Rattle.sr_book.specs.Entries.{booked}
use Rattle.sr_book.specs.declared.book.Book.{Book}
use Rattle.sr_book.proofs.Folds.{book_from-append}
use Rattle.sr_database_files.specs.Books.{BookMap, listed}
use Rattle.sr_exec_dml.specs.Fitting.{RowsFit}
use Rattle.sr_database_fold.specs.Inner.Readings.{state_in, FitsAs}
use Rattle.sr_database_history.specs.Fitting.{FitsState, Fits, stored_from}
use Rattle.sr_database_history.specs.Folds.{State, next, state_from, size, end_from, sees}
use Rattle.sr_database_history.specs.Recorded.{Recorded, entry_of}
use Rattle.sr_database_history.proofs.Joined.{state_from-more, end_from-more, stored_from-more}
use Rattle.sr_database_history.proofs.Kept.{held_from}
use Rattle.sr_logfile.specs.Inner.Heads.{HasWhole}
use Rattle.sr_logfile.specs.Records.{record_of, place_in}
use Rattle.sr_logform.specs.Entries.{entry_spelling, IsEntry}
use Rattle.sr_logform.specs.Inner.EntryLaws.{entry_format}
use Rattle.sr_logform.specs.Limits.{longest_body}
use Rattle.sr_logform.specs.declared.entry.Entry.{Entry}
use Rattle.sr_logform.proofs.Once.{spells_once}
use Rattle.sr_rows.specs.Marks.{Marked, RowMap}
use Rattle.sr_rows.specs.Inner.Steps.{at_mark}
use Rattle.sr_catalog_schema.specs.Catalogs.{Lists}
use Rattle.sr_database_meaning.specs.Standing.{body}
use Rattle.sr_database_meaning.proofs.Standing.{size_is}
use Rattle.sr_snapshot.specs.Beginnings.{Beginning}
use Rattle.sr_database_replay.specs.Inner.Replays.{IsReplayed, BeginsWith, HasRead, IsOneMore, IsNone, piece, LacksNext}
use Rattle.sr_database_replay.specs.Inner.Books.{BooksFollow}
use Rattle.sr_database_replay.proofs.Records.{other_record}

-- ---- what was read so far

module _ (catalog : Lists) (rows : Marked) (books : BookMap) (position : ℕ) (b : Beginning) (es : List Recorded) (is : IsReplayed catalog rows books position b es) where
  pub state_is : state_in catalog rows ≡ state_from b.state es
  state_is = λ i. record { catalog = is.catalog_is i; rows = ap (λ (m : Marked). m.rows) is.rows_are i }

  pub replay_fit : RowsFit catalog rows.rows
  replay_fit = subst (λ (s : State). RowsFit s.catalog s.rows) (sym state_is) (held_from b.state b.place es (record { rows = is.begins.rows; catalog = is.begins.catalog }) is.stored).rows

  pub replay_fresh : rows ≡ at_mark rows.rows
  replay_fresh = is.rows_are ∙ ap (λ (m : RowMap). at_mark m) (sym (ap (λ (m : Marked). m.rows) is.rows_are))

  -- an entry that is too long may not stand there
  pub too_long : (entry : Entry) (count : ℕ) → length (entry_spelling entry) ≡ count → longest_body entry < count → IsNone b es entry
  too_long entry count sized long r same fits =
      let short : size r ≤ longest_body entry = subst (λ (e : Entry). size r ≤ longest_body e) same fits.short in
      absurd (omega (arith, short, size_is r, ap (λ (e : Entry). length (entry_spelling e)) same))

  -- nor may one that is meant by none that fits
  pub unfit : (entry : Entry) → ((r : Recorded) → ¬ (FitsAs (state_in catalog rows) entry r)) → IsNone b es entry
  unfit entry none r same fits = none r (record { is = same; meant = fits.meant; fits = subst (λ (s : State). FitsState s r) (sym state_is) fits.state })

  -- one that fits may stand there
  pub one_more_read : (entry : Entry) (count : ℕ) (new_catalog : Lists) (new_rows : Marked) (new_books : BookMap) (r : Recorded) → IsEntry entry → length (entry_spelling entry) ≡ count → count ≤ longest_body entry → position + (count + 5) ≤ 2 ^ 62
      → FitsAs (state_in catalog rows) entry r → state_in new_catalog new_rows ≡ next (state_in catalog rows) r → new_rows ≡ at_mark new_rows.rows → BooksFollow books new_books r
      → IsOneMore new_catalog new_rows new_books (position + (count + 5)) b es entry
  one_more_read entry count new_catalog new_rows new_books r spelled sized short room fits state fresh_rows follow =
      record {
        r = r;
        entry_is = fits.is;
        fits = fits_there;
        is = record {
          begins = is.begins;
          stored = (stored_from-more b.state b.place es r).1 (is.stored, fits_there);
          catalog_is = ap (λ (s : State). s.catalog) states;
          rows_are = fresh_rows ∙ ap (λ (s : State). at_mark s.rows) states;
          books_are = λ user. follow user ∙ ap (λ (k : Book). booked user k (sees r)) (is.books_are user) ∙ sym (book_from-append sees user (listed b.books user) es (r ∷ []));
          position_is = omega (arith, is.position_is, end_from-more b.place es r, size_here);
        };
      }
    where
      size_here : size r ≡ count
      size_here = size_is r ∙ ap (λ (e : Entry). length (entry_spelling e)) fits.is ∙ sized

      fits_there : Fits (state_from b.state es) (end_from b.place es) r
      fits_there =
          record {
            meant = fits.meant;
            spelled = subst IsEntry (sym fits.is) spelled;
            short = subst (λ (e : Entry). size r ≤ longest_body e) (sym fits.is) (let le : size r ≤ longest_body entry = omega (arith, size_here) in le);
            ends = omega (arith, size_here, is.position_is);
            state = subst (λ (s : State). FitsState s r) state_is fits.fits;
          }

      states : state_in new_catalog new_rows ≡ state_from b.state (es ++ r ∷ [])
      states = state ∙ ap (λ (s : State). next s r) state_is ∙ sym (state_from-more b.state es r)

-- ---- the body of a whole record

module _ (base position : ℕ) (bytes : List ℕ) (end : ℕ) (whole : HasWhole position (drop (place_in base position) bytes) end) where
  pub whole_is : drop (place_in base position) bytes ≡ 1 ∷ (record_of whole.body ++ whole.begins.gate ∷ whole.begins.more)
  whole_is = whole.bytes_are ∙ ap (λ (l : List ℕ). 1 ∷ l) whole.begins.rest_is

  behind_length : drop (place_in base position + 5) bytes ≡ whole.body ++ whole.begins.gate ∷ whole.begins.more
  behind_length =
      sym (drop-drop 5 (place_in base position) bytes) ∙ ap (drop 5) whole_is

  pub piece_is : (count : ℕ) → count ≡ length whole.body → piece (place_in base position + 5) count bytes ≡ whole.body
  piece_is count is = ap (take count) behind_length ∙ take_at whole.body (whole.begins.gate ∷ whole.begins.more) count (sym is)

  pub body_there : (count : ℕ) → count ≡ length whole.body → place_in base position + 5 + count ≤ length bytes
  body_there count is =
      omega (arith, length-drop (place_in base position + 5) bytes, ap length behind_length, length-append whole.body (whole.begins.gate ∷ whole.begins.more))

  -- the entry of the record
  module _ (b : Beginning) (es : List Recorded) (count : ℕ) (sized : count ≡ length whole.body) (place : ℕ) (stored : stored_from b.state b.place es) (base_is : base ≡ b.place) (at : position ≡ end_from b.place es) (place_is : place ≡ place_in base position)
      (read : HasRead base es position bytes) where
    -- no entry spells it
    pub unspelled : ((e : Entry) → IsEntry e → piece (place_in base position + 5) count bytes ≢ entry_spelling e) → LacksNext b bytes place
    unspelled none = other_record b es base position place bytes stored base_is at place_is read end whole
        (λ r same fits. none (entry_of r) fits.spelled (piece_is count sized ∙ sym same))

    -- the entry that does may not stand there
    pub unfitting : (entry : Entry) → IsEntry entry → piece (place_in base position + 5) count bytes ≡ entry_spelling entry → IsNone b es entry → LacksNext b bytes place
    unfitting entry spelled is none = other_record b es base position place bytes stored base_is at place_is read end whole
        (λ r same fits. none r (one_entry r same fits.spelled) fits)
      where
        one_entry : (r : Recorded) → body r ≡ whole.body → IsEntry (entry_of r) → entry_of r ≡ entry
        one_entry r same fit =
            ((spells_once entry_format).no_other (entry_of r) entry [] [] fit spelled (ap (λ (l : List ℕ). l ++ []) (same ∙ sym (piece_is count sized) ∙ is))).0

  -- the entry that does begins there
  pub begins_there : (r : Recorded) (entry : Entry) (count : ℕ) → count ≡ length whole.body → entry_of r ≡ entry → piece (place_in base position + 5) count bytes ≡ entry_spelling entry → BeginsWith r (drop (place_in base position) bytes)
  begins_there r entry count sized same is =
      record {
        gate = whole.begins.gate;
        more = whole.begins.more;
        is = whole_is ∙ ap (λ (l : List ℕ). 1 ∷ (record_of l ++ whole.begins.gate ∷ whole.begins.more)) (sym (piece_is count sized) ∙ is ∙ ap entry_spelling (sym same));
      }
