-- What stands behind a position of a log.
use Rattle.std.proofs.Common.{◌≡◌, ◌+◌, ◌-◌, ℕ, List, [], ◌∷◌, ◌++◌, length, take, drop, refl, sym, ◌∙◌, ap, subst, append_assoc, length-append, arith}
use Rattle.std.proofs.lemmas.List.{take_at, drop_at}
use Rattle.std.specs.List.{AllByRecursion}
use Rattle.std.specs.Prelude.{IsTrue}
use Rattle.sr_logfile.proofs.Commits.{length-prefix}
use Rattle.sr_logfile.specs.Inner.Logs.{IsAt, IsLog}
use Rattle.sr_logfile.specs.Log.{Log}
use Rattle.sr_logfile.specs.Records.{header, record_of, open_records, IsBody, Spells, place_in}
use Rattle.sr_logfile_carry.proofs.Steps.{its_bytes}
use Rattle.sr_logfile_carry.specs.Carried.{carried}
use Rattle.sr_logfile_carry.specs.Inner.Carrying.{HasSettled, IsReplaced, bytes_in, log_of_records, part_of}
use Rattle.sr_site.specs.Files.{Files, bytes_of, with_bytes}
use Rattle.sr_site.specs.Seen.{Seen}
use Rattle.sr_site.specs.declared.file.File.{File}

open_records-append : (done left : List (List ℕ)) → open_records (done ++ left) ≡ open_records done ++ open_records left
open_records-append [] left = refl
open_records-append (x ∷ xs) left = ap (λ (l : List ℕ). (1 ∷ record_of x) ++ l) (open_records-append xs left) ∙ sym (append_assoc (1 ∷ record_of x) (open_records xs) (open_records left))

bodies_left : (done left : List (List ℕ)) → AllByRecursion IsBody (done ++ left) → AllByRecursion IsBody left
bodies_left [] left all = all
bodies_left (x ∷ xs) left all = bodies_left xs left all.1

module _ (log : Log) (keep : ℕ) (done left : List (List ℕ)) (files : Files) (at : IsAt log keep done left files) where
  lengths : length (open_records (done ++ left)) ≡ length (open_records done) + length (open_records left)
  lengths = ap length (open_records-append done left) ∙ length-append (open_records done) (open_records left)

  -- the log's bytes are those before the position, the records behind it, and a gate
  apart : bytes_of files log.file ≡ (header log.base ++ open_records done) ++ (open_records left ++ at.is_log.spells.gate ∷ at.is_log.spells.rest)
  apart =
      let s = at.is_log.spells in
      let prefix = header log.base ++ open_records done in
      s.bytes_are
      ∙ ap (λ (l : List ℕ). (header log.base ++ l) ++ s.gate ∷ s.rest) (open_records-append done left)
      ∙ ap (λ (l : List ℕ). l ++ s.gate ∷ s.rest) (sym (append_assoc (header log.base) (open_records done) (open_records left)))
      ∙ append_assoc prefix (open_records left) (s.gate ∷ s.rest)

  -- the part of the file is the records behind the position
  pub part_is : bytes_in files (part_of log keep) ≡ open_records left
  part_is =
      let s = at.is_log.spells in
      let after_is = at.after_is in
      let end_is = at.is_log.end_is in
      let place : length (header log.base ++ open_records done) ≡ place_in log.base keep = omega (arith, length-prefix log.base done) in
      let long : length (open_records left) ≡ place_in log.base log.end - place_in log.base keep = omega (arith, lengths) in
      ap (λ (l : List ℕ). take (place_in log.base log.end - place_in log.base keep) (drop (place_in log.base keep) l)) apart
      ∙ ap (take (place_in log.base log.end - place_in log.base keep)) (drop_at (header log.base ++ open_records done) (open_records left ++ s.gate ∷ s.rest) (place_in log.base keep) place)
      ∙ take_at (open_records left) (s.gate ∷ s.rest) (place_in log.base log.end - place_in log.base keep) long

  -- what is written is a log of them
  pub is_spelled : Spells keep left (log_of_records keep left)
  is_spelled =
      let s = at.is_log.spells in
      let after_is = at.after_is in
      let limit = s.limit in
      record {
        gate = 0;
        rest = [];
        bytes_are = refl;
        closed = omega arith;
        all_bodies = bodies_left done left s.all_bodies;
        limit = omega (arith, lengths);
      }

  pub is_carried : (into : File) (now : Files) → bytes_of now into ≡ log_of_records keep left → IsLog (carried log keep into) left now
  is_carried into now is =
      let after_is = at.after_is in
      let end_is = at.is_log.end_is in
      record {
        spells = subst (λ (bytes : List ℕ). Spells keep left bytes) (sym is) is_spelled;
        end_is = omega (arith, lengths);
      }

  -- the steps wrote it
  pub written_is : (header keep ++ bytes_in files (part_of log keep)) ++ 0 ∷ [] ≡ log_of_records keep left
  written_is = ap (λ (l : List ℕ). (header keep ++ l) ++ 0 ∷ []) part_is

module _ (log : Log) (keep : ℕ) (into : File) (before now : Seen) (settled : HasSettled into ((header keep ++ bytes_in before.files (part_of log keep)) ++ 0 ∷ []) before now) (told : IsTrue before.observable) (done left : List (List ℕ)) (at : IsAt log keep done left before.files) where
  pub is_replaced : IsReplaced into (log_of_records keep left) before now
  is_replaced =
      let is = written_is log keep done left before.files at in
      record {
        files = settled.has.files told ∙ ap (λ (l : List ℕ). with_bytes before.files into l) is;
        settled = λ image there. settled.settled told image there ∙ is;
      }

  pub is_kept : IsLog (carried log keep into) left now.files
  is_kept = is_carried log keep done left before.files at into now.files (its_bytes into ((header keep ++ bytes_in before.files (part_of log keep)) ++ 0 ∷ []) before now settled.has told ∙ written_is log keep done left before.files at)
