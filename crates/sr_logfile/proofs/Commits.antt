-- What a commit makes of a log.
use Rattle.std.proofs.Common.{◌≡◌, ◌⊎◌, ℕ, ◌+◌, ◌^◌, ◌≤◌, List, [], ◌∷◌, ◌++◌, length, ap, subst, arith, length-append}
use Rattle.sr_site.specs.Files.{Files, bytes_of}
use Rattle.sr_logfile.specs.Inner.Appends.{HasRecord, HasPart, LeavesPart, LeavesRecord}
use Rattle.sr_logfile.specs.Log.{Log}
use Rattle.sr_logfile.specs.Logs.{gate_of}
use Rattle.sr_logfile.specs.Inner.Logs.{IsLog, longer}
use Rattle.sr_logfile.specs.Records.{header, record_of, open_records, IsFramed, body_of, Spells}
use Rattle.sr_logfile.proofs.Records.{spells_opened, spells_part, length-record, length-push}

pub length-prefix : (base : ℕ) (bodies : List (List ℕ)) → length (header base ++ open_records bodies) ≡ 16 + length (open_records bodies)
length-prefix base bodies = length-append (header base) (open_records bodies)

pub length-framed : (framed : List ℕ) → IsFramed framed → length framed ≡ 5 + length (body_of framed)
length-framed framed is = omega (arith, ap length is.bytes, length-append (record_of (body_of framed)) (0 ∷ []), length-record (body_of framed))

module _ (log : Log) (files new : Files) (framed : List ℕ) (is : IsFramed framed) (room : log.end + length framed ≤ 2 ^ 62) where
  -- the record counts
  pub record_committed : LeavesRecord (gate_of log) framed (bytes_of files log.file) (bytes_of new log.file) → (bodies : List (List ℕ)) → IsLog log bodies files → IsLog (longer log (length framed)) (bodies ++ body_of framed ∷ []) new
  record_committed leaves bodies is_log =
      let long = length-framed framed is in
      let end_is = is_log.end_is in
      let at : length (header log.base ++ open_records bodies) ≡ gate_of log = omega (arith, length-prefix log.base bodies) in
      let has = leaves.opened (header log.base ++ open_records bodies) is_log.spells.rest is_log.spells.gate is_log.spells.bytes_are at in
      let counts = subst (λ (l : List ℕ). HasRecord (header log.base ++ open_records bodies) 1 l (bytes_of new log.file)) is.bytes has in
      record {
        spells = spells_opened log.base bodies (body_of framed) (bytes_of new log.file) is_log.spells.all_bodies is.body (omega arith) counts;
        end_is = omega (arith, length-push bodies (body_of framed));
      }

  -- the record counts or it does not
  pub part_committed : LeavesPart (gate_of log) framed (bytes_of files log.file) (bytes_of new log.file) → (bodies : List (List ℕ)) → IsLog log bodies files → Spells log.base bodies (bytes_of new log.file) ⊎ Spells log.base (bodies ++ body_of framed ∷ []) (bytes_of new log.file)
  part_committed leaves bodies is_log =
      let long = length-framed framed is in
      let end_is = is_log.end_is in
      let at : length (header log.base ++ open_records bodies) ≡ gate_of log = omega (arith, length-prefix log.base bodies) in
      let has = leaves.part (header log.base ++ open_records bodies) is_log.spells.rest is_log.spells.gate is_log.spells.bytes_are at in
      let counts = subst (λ (l : List ℕ). HasPart (header log.base ++ open_records bodies) is_log.spells.gate l (bytes_of new log.file)) is.bytes has in
      spells_part log.base bodies is_log.spells.gate (body_of framed) (bytes_of new log.file) is_log.spells.all_bodies is.body (omega arith) is_log.spells.closed counts
