-- How a read of the records goes from gate to gate.
use Rattle.std.proofs.Common.{◌≡◌, ℕ, ◌+◌, ◌^◌, ◌≤◌, List, [], ◌∷◌, ◌++◌, length, drop, sym, ◌∙◌, ap, subst, arith}
use Rattle.std.specs.Prelude.{IsTrue}
use Rattle.std.proofs.lemmas.List.{append-nil, drop_at}
use Rattle.sr_site.specs.declared.file.File.{File}
use Rattle.sr_site.specs.Causes.{DiskStays}
use Rattle.sr_site.specs.Inner.Growing.{disk_stays_on}
use Rattle.sr_site.specs.Files.{bytes_of}
use Rattle.sr_site.specs.Seen.{Seen}
use Rattle.sr_logfile.specs.Damage.{LacksRecord, BeginsRecord}
use Rattle.sr_logfile.specs.Inner.Heads.{IsClosed, HasWhole, IsBroken, Reaches, SpellsTo}
use Rattle.sr_logfile.specs.Inner.Log.{InOrder}
use Rattle.std.specs.List.{AllByRecursion}
use Rattle.sr_logfile.specs.Records.{header, open_records, IsBody, HasHeader, place_in}
use Rattle.sr_logfile.proofs.Records.{prefix-push, length-push, all_bodies-push}
use Rattle.sr_logfile.proofs.Commits.{length-prefix}

-- what the loop over the records keeps
pub record IsReading (file : File) (base position size : ℕ) (first now : Seen) : Type 0 where
  pub order : InOrder base position
  pub stays : DiskStays first now
  pub files : IsTrue first.observable → now.files ≡ first.files
  pub happened : IsTrue first.observable → now.happened ≡ first.happened
  pub steady : now.disk_faults ≡ first.disk_faults
  pub size_is : IsTrue first.observable → size ≡ length (bytes_of first.files file)
  pub reaches : IsTrue first.observable → Reaches base position (bytes_of first.files file)

-- bytes behind a prefix of that length
behind : (base : ℕ) (bodies : List (List ℕ)) (position : ℕ) (bytes tail : List ℕ) → position ≡ base + length (open_records bodies) → bytes ≡ (header base ++ open_records bodies) ++ tail → drop (place_in base position) bytes ≡ tail
behind base bodies position bytes tail is e =
    let at : length (header base ++ open_records bodies) ≡ place_in base position = omega (arith, length-prefix base bodies) in
    ap (drop (place_in base position)) e ∙ drop_at (header base ++ open_records bodies) tail (place_in base position) at

-- at a gate behind some records
reaches_gate : (base : ℕ) (bodies : List (List ℕ)) (position gate : ℕ) (bytes rest : List ℕ) → position ≡ base + length (open_records bodies) → bytes ≡ (header base ++ open_records bodies) ++ gate ∷ rest → AllByRecursion IsBody bodies → Reaches base position bytes
reaches_gate base bodies position gate bytes rest is e all =
    let tail = behind base bodies position bytes (gate ∷ rest) is e in
    record {
      bodies = bodies;
      bytes_are = e ∙ ap (λ (l : List ℕ). (header base ++ open_records bodies) ++ l) (sym tail);
      some = omega (arith, ap length tail);
      all_bodies = all;
      position_is = is;
    }

pub starts : (base : ℕ) (bytes : List ℕ) → HasHeader base bytes → Reaches base base bytes
starts base bytes has = reaches_gate base [] base has.gate bytes has.rest (omega arith) (has.bytes_are ∙ ap (λ (l : List ℕ). l ++ has.gate ∷ has.rest) (sym (append-nil (header base)))) tt

pub goes_on : (base position : ℕ) (bytes : List ℕ) (end : ℕ) → Reaches base position bytes → HasWhole position (drop (place_in base position) bytes) end → Reaches base end bytes
goes_on base position bytes end reaches has =
    let b = has.begins in
    let prefix = header base ++ open_records reaches.bodies in
    let e = reaches.bytes_are ∙ ap (λ (l : List ℕ). prefix ++ l) (has.bytes_are ∙ ap (λ (l : List ℕ). 1 ∷ l) b.rest_is) ∙ prefix-push base reaches.bodies has.body (b.gate ∷ b.more) in
    reaches_gate base (reaches.bodies ++ has.body ∷ []) end b.gate bytes b.more (omega (arith, has.end_is, reaches.position_is, length-push reaches.bodies has.body)) e (all_bodies-push reaches.bodies has.body reaches.all_bodies b.is_body)

pub ends : (base position : ℕ) (bytes : List ℕ) → Reaches base position bytes → IsClosed (drop (place_in base position) bytes) → position ≤ 2 ^ 62 → SpellsTo base position bytes
ends base position bytes reaches closed limit =
    record {
      bodies = reaches.bodies;
      spells = record {
        gate = closed.gate;
        rest = closed.rest;
        bytes_are = reaches.bytes_are ∙ ap (λ (l : List ℕ). (header base ++ open_records reaches.bodies) ++ l) closed.bytes_are;
        closed = closed.closed;
        all_bodies = reaches.all_bodies;
        limit = omega (arith, reaches.position_is);
      };
      end_is = reaches.position_is;
    }

pub breaks : (base position : ℕ) (bytes : List ℕ) → Reaches base position bytes → IsBroken position (drop (place_in base position) bytes) → position ≤ 2 ^ 62 → LacksRecord bytes (place_in base position)
breaks base position bytes reaches broken limit =
    let tail = drop (place_in base position) bytes in
    let at = reaches.position_is in
    record {
      base = base;
      bodies = reaches.bodies;
      rest = drop 1 tail;
      bytes_are = reaches.bytes_are ∙ ap (λ (l : List ℕ). (header base ++ open_records reaches.bodies) ++ l) (broken.some reaches.some);
      place_is = omega (arith, length-prefix base reaches.bodies);
      all_bodies = reaches.all_bodies;
      limit = omega arith;
      broken = λ body b. broken.broken body (subst (λ (p : ℕ). BeginsRecord body p (drop 1 tail)) (sym at) b);
    }

pub ruleset scanning = (disk_stays_on, starts, goes_on, ends, breaks)
