-- A part of a file that is copied behind the header of another, piece by piece.
use Rattle.std.proofs.Common.{◌≡◌, ◌≢◌, ◌+◌, ◌-◌, ◌≤◌, ℕ, List, [], ◌∷◌, ◌++◌, length, take, drop, sym, ◌∙◌, ap, subst, append_assoc, arith}
use Rattle.std.proofs.Math.Seq.{take-add}
use Rattle.std.proofs.lemmas.List.{drop-drop, take_all}
use Rattle.std.specs.Prelude.{IsTrue}
use Rattle.sr_logfile_carry.proofs.Files.{stays}
use Rattle.sr_logfile_carry.proofs.Steps.{told_then, told_before, only_on, has_as, has_on, has_written, its_bytes, settled_on}
use Rattle.sr_logfile_carry.specs.Inner.Carrying.{HasNow, HasSettled, bytes_in}
use Rattle.sr_logfile_carry.specs.Inner.Touching.{OnlyOn}
use Rattle.sr_logfile_carry.specs.declared.copying.Part.{Part}
use Rattle.sr_site.specs.Files.{Files, bytes_of, with_bytes, overwritten}
use Rattle.sr_site.specs.Reads.{HasRead}
use Rattle.sr_site.specs.Seen.{Seen}
use Rattle.sr_site.specs.declared.file.File.{File}

-- ---- one piece

pub read_piece : (bytes : List ℕ) (at wanted count : ℕ) (buffer : List ℕ) → HasRead bytes at wanted count buffer → wanted ≤ count → length buffer ≡ wanted → buffer ≡ take wanted (drop at bytes)
read_piece bytes at wanted count buffer read all long = sym (take_all count buffer (omega (arith, long))) ∙ read.prefix

-- it was read, and written at the end of the other file
pub piece_copied : (from into : File) (at to wanted count : ℕ) (piece : List ℕ) (before middle now : Seen) → OnlyOn into before middle → middle.disk_faults ≡ before.disk_faults → (IsTrue before.observable → middle.files ≡ before.files)
    → (IsTrue before.observable → HasRead (bytes_of before.files from) at wanted count piece) → length piece ≤ count → length piece ≡ wanted → OnlyOn into middle now → now.disk_faults ≡ middle.disk_faults
    → (IsTrue before.observable → to ≡ length (bytes_of before.files into)) → (IsTrue middle.observable → now.files ≡ with_bytes middle.files into (overwritten (bytes_of middle.files into) to piece))
    → HasNow into (bytes_of before.files into ++ take wanted (drop at (bytes_of before.files from))) before now
piece_copied from into at to wanted count piece before middle now only_first steady_first same read all long only steady place written =
    let its : IsTrue before.observable → bytes_of middle.files into ≡ bytes_of before.files into = λ told. ap (λ (f : Files). bytes_of f into) (same told) in
    has_as into (bytes_of middle.files into ++ piece) (bytes_of before.files into ++ take wanted (drop at (bytes_of before.files from))) before now
    (λ told. ap (λ (l : List ℕ). l ++ piece) (its told) ∙ ap (λ (l : List ℕ). bytes_of before.files into ++ l) (read_piece (bytes_of before.files from) at wanted count piece (read told) (omega (arith, all, long)) long))
    (has_on into (bytes_of middle.files into ++ piece) before middle now only_first steady_first
    (has_written into to piece middle now only steady (λ told. let told_first = told_before into before middle only_first told in place told_first ∙ sym (ap (λ (l : List ℕ). length l) (its told_first))) written))

-- ---- piece by piece

-- the bytes up to a place, and those behind it
pieces_join : (bytes : List ℕ) (at place more : ℕ) → at ≤ place → take (place - at) (drop at bytes) ++ take more (drop place bytes) ≡ take (place + more - at) (drop at bytes)
pieces_join bytes at place more order =
    ap (λ (l : List ℕ). take (place - at) (drop at bytes) ++ take more l) (ap (λ (n : ℕ). drop n bytes) (at_place at place order) ∙ sym (drop-drop (place - at) at bytes))
    ∙ sym (take-add (place - at) more (drop at bytes))
    ∙ ap (λ (n : ℕ). take n (drop at bytes)) (sum at place more order)
  where
    at_place : (at place : ℕ) → at ≤ place → place ≡ at + (place - at)
    at_place at place order = omega arith

    sum : (at place more : ℕ) → at ≤ place → (place - at) + more ≡ place + more - at
    sum at place more order = omega arith

-- the part is copied up to a place
pub record Copying (part : Part) (into : File) (place : ℕ) (first now : Seen) : Type 0 where
  pub order : part.at ≤ place
  pub within : place ≤ part.end
  pub has : HasNow into (bytes_of first.files into ++ take (place - part.at) (drop part.at (bytes_of first.files part.file))) first now

module _ (part : Part) (into : File) (place : ℕ) (first middle : Seen) (other : part.file ≢ into) (copying : Copying part into place first middle) where
  -- the file that is read stands
  pub source_is : IsTrue first.observable → bytes_of middle.files part.file ≡ bytes_of first.files part.file
  source_is told = stays into part.file first.files middle.files (λ e. other (sym e)) (copying.has.only.others told)

  pub copying_on : (wanted next : ℕ) (now : Seen) → wanted ≤ part.end - place → next ≡ place + wanted → HasNow into (bytes_of middle.files into ++ take wanted (drop place (bytes_of middle.files part.file))) middle now
      → Copying part into next first now
  copying_on wanted next now some is has =
      let order = copying.order in
      let within = copying.within in
      record {
        order = omega (arith, is);
        within = omega (arith, is);
        has = has_as into (bytes_of middle.files into ++ take wanted (drop place (bytes_of middle.files part.file))) (bytes_of first.files into ++ take (next - part.at) (drop part.at (bytes_of first.files part.file))) first now
            (λ told.
            let old = bytes_of first.files into in
            let source = bytes_of first.files part.file in
            let piece = take (place - part.at) (drop part.at source) in
            ap (λ (l : List ℕ). l ++ take wanted (drop place (bytes_of middle.files part.file))) (its_bytes into (old ++ piece) first middle copying.has told)
            ∙ ap (λ (l : List ℕ). (old ++ piece) ++ take wanted (drop place l)) (source_is told)
            ∙ append_assoc old piece (take wanted (drop place source))
            ∙ ap (λ (l : List ℕ). old ++ l) (pieces_join source part.at place wanted order)
            ∙ ap (λ (n : ℕ). old ++ take (n - part.at) (drop part.at source)) (sym is))
            (has_on into (bytes_of middle.files into ++ take wanted (drop place (bytes_of middle.files part.file))) first middle now copying.has.only copying.has.steady has);
      }

-- all of it
pub copied : (part : Part) (into : File) (place : ℕ) (first now : Seen) → part.end ≤ place → Copying part into place first now → HasNow into (bytes_of first.files into ++ bytes_in first.files part) first now
copied part into place first now past copying =
    let within = copying.within in
    let is : place ≡ part.end = omega arith in
    subst (λ (n : ℕ). HasNow into (bytes_of first.files into ++ take (n - part.at) (drop part.at (bytes_of first.files part.file))) first now) is copying.has

-- ---- behind a header

module _ (part : Part) (into : File) (bytes : List ℕ) (before middle : Seen) (other : part.file ≢ into) (has : HasNow into bytes before middle) where
  source_stands : IsTrue before.observable → bytes_of middle.files part.file ≡ bytes_of before.files part.file
  source_stands told = stays into part.file before.files middle.files (λ e. other (sym e)) (has.only.others told)

  -- the part stands behind the bytes
  pub part_behind : (now : Seen) → HasNow into (bytes_of middle.files into ++ bytes_in middle.files part) middle now → IsTrue before.observable → bytes_of now.files into ≡ bytes ++ bytes_in before.files part
  part_behind now copied told =
      its_bytes into (bytes_of middle.files into ++ bytes_in middle.files part) middle now copied (told_then into before middle has.only told)
      ∙ ap (λ (l : List ℕ). l ++ bytes_in middle.files part) (its_bytes into bytes before middle has told)
      ∙ ap (λ (l : List ℕ). bytes ++ take (part.end - part.at) (drop part.at l)) (source_stands told)

  -- and a gate behind it
  pub replaced_by : (full now : Seen) → HasNow into (bytes_of middle.files into ++ bytes_in middle.files part) middle full → HasSettled into (bytes_of full.files into ++ 0 ∷ []) full now
      → HasSettled into ((bytes ++ bytes_in before.files part) ++ 0 ∷ []) before now
  replaced_by full now copied closed =
      settled_on into (bytes_of full.files into ++ 0 ∷ []) ((bytes ++ bytes_in before.files part) ++ 0 ∷ []) before full now (only_on into before middle full has.only copied.only) (copied.steady ∙ has.steady)
      (λ told. ap (λ (l : List ℕ). l ++ 0 ∷ []) (part_behind full copied told)) closed
