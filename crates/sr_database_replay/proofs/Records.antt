-- The records of a log, read one after the other behind its base.
use Rattle.std.proofs.Common.{◌≡◌, ℕ, ◌+◌, ◌≤◌, ◌^◌, List, [], ◌∷◌, ◌++◌, length, drop, refl, sym, ◌∙◌, ap, subst, arith}
use Rattle.std.proofs.lemmas.List.{append-nil, drop_at, map-append}
use Rattle.std.specs.FinMap as map
use Rattle.sr_catalog_schema.specs.Catalogs.{Lists}
use Rattle.sr_database_files.specs.Books.{BookMap, book_in, kept_books}
use Rattle.sr_database_history.specs.Fitting.{Fits, stored_from}
use Rattle.sr_database_history.specs.Folds.{state_from, end_from}
use Rattle.sr_database_history.specs.Recorded.{Recorded}
use Rattle.sr_database_files.specs.Damage.{BeginsEntry}
use Rattle.sr_database_meaning.specs.Standing.{body, bodies}
use Rattle.sr_database_meaning.proofs.Standing.{ends_are, within, is_body, are_bodies, size_is}
use Rattle.sr_logfile.specs.Inner.Heads.{IsClosed, HasWhole, IsBroken}
use Rattle.sr_logfile.specs.Records.{header, open_records, HasHeader, Spells, place_in}
use Rattle.sr_logfile.proofs.Commits.{length-prefix}
use Rattle.sr_logfile.proofs.Records.{prefix-push}
use Rattle.sr_logfile.proofs.Uniqueness.{same_record}
use Rattle.sr_rows.specs.Inner.Steps.{at_mark}
use Rattle.sr_rows.specs.Marks.{Marked}
use Rattle.sr_snapshot.specs.Beginnings.{Beginning, IsBeginning}
use Rattle.sr_database_replay.specs.Inner.Replays.{IsReplayed, BeginsWith, HasRead, LacksNext}

-- ---- nothing was read so far

pub replayed_none : (catalog : Lists) (rows : Marked) (books : BookMap) (b : Beginning) → IsBeginning b → catalog ≡ b.state.catalog → rows ≡ at_mark b.state.rows → books ≡ kept_books map.empty b.books → IsReplayed catalog rows books b.place b []
replayed_none catalog rows books b begins c r k =
    record {
      begins = begins;
      stored = tt;
      catalog_is = c;
      rows_are = r;
      books_are = λ user. ap (λ (x : BookMap). book_in x user) k;
      position_is = refl;
    }

-- ---- records, one after the other

pub bodies_more : (es : List Recorded) (r : Recorded) → bodies (es ++ r ∷ []) ≡ bodies es ++ body r ∷ []
bodies_more es r = map-append body es (r ∷ [])

-- the place of a position, where these entries were read behind a base
prefix_length : (base : ℕ) (es : List Recorded) (position : ℕ) → position ≡ end_from base es → length (header base ++ open_records (bodies es)) ≡ place_in base position
prefix_length base es position is = omega (arith, is, length-prefix base (bodies es), ends_are base es)

pub read_none : (base : ℕ) (bytes : List ℕ) → HasHeader base bytes → HasRead base [] base bytes
read_none base bytes has =
    record {
      prefix = has.bytes_are ∙ ap (λ (l : List ℕ). l ++ has.gate ∷ has.rest) (sym (append-nil (header base))) ∙ ap (λ (l : List ℕ). (header base ++ []) ++ l) (sym behind);
      some = omega (arith, ap length behind);
    }
  where
    behind : drop (place_in base base) bytes ≡ has.gate ∷ has.rest
    behind = ap (drop (place_in base base)) has.bytes_are ∙ drop_at (header base) (has.gate ∷ has.rest) (place_in base base) (let e : 16 ≡ place_in base base = omega arith in e)

pub read_more : (es : List Recorded) (r : Recorded) (base position end : ℕ) (bytes : List ℕ) → end ≡ end_from base (es ++ r ∷ []) → HasRead base es position bytes → BeginsWith r (drop (place_in base position) bytes) → HasRead base (es ++ r ∷ []) end bytes
read_more es r base position end bytes is read begins = record { prefix = whole ∙ ap (λ (l : List ℕ). prefix ++ l) (sym behind); some = omega (arith, ap length behind) }
  where
    prefix : List ℕ
    prefix = header base ++ open_records (bodies (es ++ r ∷ []))

    whole : bytes ≡ (header base ++ open_records (bodies (es ++ r ∷ []))) ++ begins.gate ∷ begins.more
    whole = read.prefix ∙ ap (λ (l : List ℕ). (header base ++ open_records (bodies es)) ++ l) begins.is ∙ prefix-push base (bodies es) (body r) (begins.gate ∷ begins.more)
        ∙ ap (λ (l : List (List ℕ)). (header base ++ open_records l) ++ begins.gate ∷ begins.more) (sym (bodies_more es r))

    long : length (header base ++ open_records (bodies (es ++ r ∷ []))) ≡ place_in base end
    long = prefix_length base (es ++ r ∷ []) end is

    behind : drop (place_in base end) bytes ≡ begins.gate ∷ begins.more
    behind = ap (drop (place_in base end)) whole ∙ drop_at (header base ++ open_records (bodies (es ++ r ∷ []))) (begins.gate ∷ begins.more) (place_in base end) long

pub read_all : (b : Beginning) (es : List Recorded) (position : ℕ) (bytes : List ℕ) → b.place ≤ 2 ^ 62 → stored_from b.state b.place es → HasRead b.place es position bytes → IsClosed (drop (place_in b.place position) bytes) → Spells b.place (bodies es) bytes
read_all b es position bytes limit stored read closed =
    record {
      gate = closed.gate;
      rest = closed.rest;
      bytes_are = read.prefix ∙ ap (λ (l : List ℕ). (header b.place ++ open_records (bodies es)) ++ l) closed.bytes_are;
      closed = closed.closed;
      all_bodies = are_bodies b.state b.place es stored;
      limit = within b.state b.place es limit stored;
    }

-- ---- a record that may not stand there

module _ (b : Beginning) (es : List Recorded) (base position place : ℕ) (bytes : List ℕ) (stored : stored_from b.state b.place es) (base_is : base ≡ b.place) (at : position ≡ end_from b.place es) (is : place ≡ place_in base position)
    (read : HasRead base es position bytes) where
  lacking : (rest : List ℕ) → drop (place_in base position) bytes ≡ 1 ∷ rest → ((r : Recorded) → BeginsEntry (state_from b.state es) (end_from b.place es) r rest → ⊥) → LacksNext b bytes place
  lacking rest open_gate broken =
      record {
        es = es;
        rest = rest;
        bytes_are = subst (λ (n : ℕ). bytes ≡ (header n ++ open_records (bodies es)) ++ 1 ∷ rest) base_is (read.prefix ∙ ap (λ (l : List ℕ). (header base ++ open_records (bodies es)) ++ l) open_gate);
        place_is = is ∙ ap (λ (n : ℕ). place_in n position) base_is ∙ sym (prefix_length b.place es position at);
        stored = stored;
        broken = broken;
      }

  -- no whole record
  pub broken_record : IsBroken position (drop (place_in base position) bytes) → LacksNext b bytes place
  broken_record broken =
      lacking (drop 1 (drop (place_in base position) bytes)) (broken.some read.some)
      (λ r begins. broken.broken (body r) (record {
        gate = begins.gate;
        more = begins.more;
        rest_is = begins.rest_is;
        is_body = is_body (state_from b.state es) (end_from b.place es) r begins.fits;
        limit = omega (arith, begins.fits.ends, size_is r, at);
      }))

  -- a whole record of another body than that of an entry that may stand there
  pub other_record : (end : ℕ) → (whole : HasWhole position (drop (place_in base position) bytes) end) → ((r : Recorded) → body r ≡ whole.body → ¬ (Fits (state_from b.state es) (end_from b.place es) r)) → LacksNext b bytes place
  other_record end whole none =
      lacking whole.rest whole.bytes_are (λ r begins. none r (same_body r begins) begins.fits)
    where
      same_body : (r : Recorded) → BeginsEntry (state_from b.state es) (end_from b.place es) r whole.rest → body r ≡ whole.body
      same_body r begins =
          (same_record (body r) whole.body (begins.gate ∷ begins.more) (whole.begins.gate ∷ whole.begins.more) (is_body (state_from b.state es) (end_from b.place es) r begins.fits) whole.begins.is_body (sym begins.rest_is ∙ whole.begins.rest_is)).0
