-- Files that stand for a history are damaged nowhere, and none are damaged at two places.
use Rattle.std.proofs.Common.{◌≡◌, inl, inr, ℕ, ◌+◌, ◌^◌, ◌≤◌, List, [], ◌∷◌, ◌++◌, length, Some, refl, sym, ◌∙◌, ap, subst, arith}
use Rattle.sr_book.specs.Entries.{Name}
use Rattle.sr_database_history.specs.Fitting.{Fits, stored_from}
use Rattle.sr_database_history.specs.Folds.{State, state_from, end_from}
use Rattle.sr_database_history.specs.Recorded.{Recorded}
use Rattle.sr_logfile.specs.Records.{record_of, open_records, HasHeader, Spells}
use Rattle.sr_logfile.proofs.Commits.{length-prefix}
use Rattle.sr_logfile.proofs.Uniqueness.{has_header, same_header, compared, Extends, never_both, one_damage as one_record_damage}
use Rattle.sr_site.specs.Files.{Files, bytes_of}
use Rattle.sr_site.specs.declared.file.File.{File}
use Rattle.sr_site.specs.declared.file.File.TheVariants.{Root, Log0, Log1, Snap0, Snap1}
use Rattle.sr_snapshot.specs.Beginnings.{Beginning, beginning_behind}
use Rattle.sr_snapshot.specs.Snapshots.{IsSnapshot}
use Rattle.sr_snapshot.proofs.Uniqueness.{one_beginning}
use Rattle.sr_snapshot_read.proofs.Exclusion.{damage_excludes}
use Rattle.sr_snapshot_read.proofs.OnePlace.{one_place}
use Rattle.sr_database_files.specs.Damage.{IsMissing, BeginsEntry, LacksRecordAt, LacksEntry, IsDamagedLog, HasDamagedSnapshot, HasDamagedLog, IsDamagedAt}
use Rattle.sr_database_meaning.specs.Generations.{Generation, even, odd, snapshot_of, log_of, generation_in}
use Rattle.sr_database_meaning.specs.Standing.{body, bodies, StandsFor, StandFrom}
use Rattle.sr_database_meaning.proofs.Standing.{are_bodies, goes_on, one_generation, stand_behind}

no_root : (generation : Generation) (files : Files) → generation_in files.root ≡ Some generation → IsMissing files → ⊥
no_root generation files is missing = let both : generation_in [] ≡ Some generation = sym (ap generation_in missing) ∙ is in cc

even_is_not_odd : (files : Files) → generation_in files.root ≡ Some even → generation_in files.root ≡ Some odd → ⊥
even_is_not_odd files a b = cc

-- records that go on begin with a whole one
begins : (s : State) (place : ℕ) (b rest tail : List ℕ) (more : List (List ℕ)) (r : Recorded) (gate : ℕ) → rest ≡ record_of b ++ (open_records more ++ gate ∷ tail) → body r ≡ b → Fits s place r → BeginsEntry s place r rest
begins s place b rest tail [] r gate rest_is is fits = record { gate = gate; more = tail; rest_is = subst (λ (l : List ℕ). rest ≡ record_of l ++ gate ∷ tail) (sym is) rest_is; fits = fits }
begins s place b rest tail (x ∷ more) r gate rest_is is fits =
    record { gate = 1; more = (record_of x ++ open_records more) ++ gate ∷ tail; rest_is = subst (λ (l : List ℕ). rest ≡ record_of l ++ 1 ∷ ((record_of x ++ open_records more) ++ gate ∷ tail)) (sym is) rest_is; fits = fits }

-- two headers in one file have one base
pub same_base : (base other : ℕ) (bytes : List ℕ) → HasHeader base bytes → HasHeader other bytes → other ≡ base
same_base base other bytes first has = (same_header other base (has.gate ∷ has.rest) (first.gate ∷ first.rest) has.limit first.limit (sym has.bytes_are ∙ first.bytes_are)).0

-- where entries go on behind the lacking one, it is not lacking
goes_on_there : (s : State) (place : ℕ) (ds es : List Recorded) (rest tail : List ℕ) (gate : ℕ) → stored_from s place ds → stored_from s place es → Extends (bodies ds) (bodies es) 1 rest gate tail
    → ((r : Recorded) → BeginsEntry (state_from s ds) (end_from place ds) r rest → ⊥) → ⊥
goes_on_there s place ds es rest tail gate d e longer broken =
    let on = goes_on s place ds es longer.body longer.more d e longer.is in
    broken on.r (begins (state_from s ds) (end_from place ds) longer.body rest tail longer.more on.r gate longer.rest_is on.body_is on.fits)

module _ (b : Beginning) (bytes : List ℕ) where
  its_limit : (all : List (List ℕ)) → Spells b.place all bytes → b.place ≤ 2 ^ 62
  its_limit all spells = omega (arith, spells.limit)

  log_header : (all : List (List ℕ)) → Spells b.place all bytes → HasHeader b.place bytes
  log_header all spells = has_header b.place all spells.gate bytes spells.rest (its_limit all spells) spells.bytes_are

  pub log_whole : (es : List Recorded) (place : ℕ) → stored_from b.state b.place es → Spells b.place (bodies es) bytes → IsDamagedLog b bytes place → ⊥
  log_whole es place stored spells (inl lacks) = lacks.0 b.place (log_header (bodies es) spells)
  log_whole es place stored spells (inr (inl other)) =
      let o = other.0 in
      o.differs (same_base b.place o.other bytes (log_header (bodies es) spells) o.header)
  log_whole es place stored spells (inr (inr (inl d))) = never_both bytes b.place place (bodies es) spells (inr d.lacks)
  log_whole es place stored spells (inr (inr (inr d))) =
      let limit = its_limit (bodies es) spells in
      let both = compared b.place b.place (bodies es) (bodies d.es) spells.gate 1 spells.rest d.rest bytes (are_bodies b.state b.place es stored) (are_bodies b.state b.place d.es d.stored) limit limit spells.bytes_are d.bytes_are in
      elim both.1 [
        | inl same ↦ spells.closed same.1
        | inr (inl longer) ↦ spells.closed longer.open_gate
        | inr (inr longer) ↦ goes_on_there b.state b.place d.es es d.rest spells.rest spells.gate d.stored stored longer d.broken
      ]

  entry_header : (place : ℕ) → LacksEntry b bytes place → HasHeader b.place bytes
  entry_header place d = log_header d.all d.spells

  record_header : (place : ℕ) → LacksRecordAt b.place bytes place → HasHeader b.place bytes
  record_header place d = subst (λ (base : ℕ). HasHeader base bytes) d.base_is (has_header d.lacks.base d.lacks.bodies 1 bytes d.lacks.rest (omega (arith, d.lacks.limit)) d.lacks.bytes_are)

  one_entry_damage : (place at : ℕ) → LacksEntry b bytes place → LacksEntry b bytes at → place ≡ at
  one_entry_damage place at p q =
      let limit = its_limit p.all p.spells in
      let both = compared b.place b.place (bodies p.es) (bodies q.es) 1 1 p.rest q.rest bytes (are_bodies b.state b.place p.es p.stored) (are_bodies b.state b.place q.es q.stored) limit limit p.bytes_are q.bytes_are in
      elim both.1 [
        | inl same ↦ omega (arith, p.place_is, q.place_is, length-prefix b.place (bodies p.es), length-prefix b.place (bodies q.es), ap (λ (l : List (List ℕ)). length (open_records l)) same.0)
        | inr (inl longer) ↦ absurd (goes_on_there b.state b.place p.es q.es p.rest q.rest 1 p.stored q.stored longer p.broken)
        | inr (inr longer) ↦ absurd (goes_on_there b.state b.place q.es p.es q.rest p.rest 1 q.stored p.stored longer q.broken)
      ]

  pub one_log_damage : (place at : ℕ) → IsDamagedLog b bytes place → IsDamagedLog b bytes at → place ≡ at
  one_log_damage place at (inl p) (inl q) = p.1 ∙ sym q.1
  one_log_damage place at (inl p) (inr (inl q)) = absurd (p.0 q.0.other q.0.header)
  one_log_damage place at (inl p) (inr (inr (inl q))) = absurd (p.0 b.place (record_header at q))
  one_log_damage place at (inl p) (inr (inr (inr q))) = absurd (p.0 b.place (entry_header at q))
  one_log_damage place at (inr (inl p)) (inl q) = absurd (q.0 p.0.other p.0.header)
  one_log_damage place at (inr (inl p)) (inr (inl q)) = p.1 ∙ sym q.1
  one_log_damage place at (inr (inl p)) (inr (inr (inl q))) = absurd (p.0.differs (same_base b.place p.0.other bytes (record_header at q) p.0.header))
  one_log_damage place at (inr (inl p)) (inr (inr (inr q))) = absurd (p.0.differs (same_base b.place p.0.other bytes (entry_header at q) p.0.header))
  one_log_damage place at (inr (inr (inl p))) (inl q) = absurd (q.0 b.place (record_header place p))
  one_log_damage place at (inr (inr (inl p))) (inr (inl q)) = absurd (q.0.differs (same_base b.place q.0.other bytes (record_header place p) q.0.header))
  one_log_damage place at (inr (inr (inl p))) (inr (inr (inl q))) = one_record_damage bytes place at (inr p.lacks) (inr q.lacks)
  one_log_damage place at (inr (inr (inl p))) (inr (inr (inr q))) = absurd (never_both bytes b.place place q.all q.spells (inr p.lacks))
  one_log_damage place at (inr (inr (inr p))) (inl q) = absurd (q.0 b.place (entry_header place p))
  one_log_damage place at (inr (inr (inr p))) (inr (inl q)) = absurd (q.0.differs (same_base b.place q.0.other bytes (entry_header place p) q.0.header))
  one_log_damage place at (inr (inr (inr p))) (inr (inr (inl q))) = absurd (never_both bytes b.place at p.all p.spells (inr q.lacks))
  one_log_damage place at (inr (inr (inr p))) (inr (inr (inr q))) = one_entry_damage place at p q

pub behind_is_not_missing : (b : Beginning) (es : List Recorded) (files : Files) → StandFrom b es files → ¬ (IsMissing files)
behind_is_not_missing b es files s missing = no_root s.generation files s.root missing

pub missing_is_none : (publisher : Name) (es : List Recorded) (base : ℕ) (files : Files) → StandsFor publisher es base files → ¬ (IsMissing files)
missing_is_none publisher es base files s missing = no_root s.generation files s.root missing

module _ (b : Beginning) (es : List Recorded) (files : Files) (s : StandFrom b es files) where
  its_snapshot : (h : Generation) → generation_in files.root ≡ Some h → IsSnapshot b (bytes_of files (snapshot_of h))
  its_snapshot h root = subst (λ (x : Generation). IsSnapshot b (bytes_of files (snapshot_of x))) (one_generation files s.generation h s.root root) s.snapshot

  its_log : (h : Generation) → generation_in files.root ≡ Some h → Spells b.place (bodies es) (bytes_of files (log_of h))
  its_log h root = subst (λ (x : Generation). Spells b.place (bodies es) (bytes_of files (log_of x))) (one_generation files s.generation h s.root root) s.log

  no_snapshot_damage : (h : Generation) (place : ℕ) → HasDamagedSnapshot h files place → ⊥
  no_snapshot_damage h place d = damage_excludes b (bytes_of files (snapshot_of h)) place d.broken (its_snapshot h d.root)

  no_log_damage : (h : Generation) (place : ℕ) → HasDamagedLog h files place → ⊥
  no_log_damage h place d =
      let same : d.beginning ≡ b = one_beginning d.beginning b (bytes_of files (snapshot_of h)) d.snapshot (its_snapshot h d.root) in
      log_whole b (bytes_of files (log_of h)) es place s.stored (its_log h d.root) (subst (λ (x : Beginning). IsDamagedLog x (bytes_of files (log_of h)) place) same d.damage)

  pub behind_is_not_damaged : (place : ℕ) (file : File) → ¬ (IsDamagedAt file place files)
  behind_is_not_damaged place Root damage = damage
  behind_is_not_damaged place Snap0 damage = no_snapshot_damage even place damage
  behind_is_not_damaged place Snap1 damage = no_snapshot_damage odd place damage
  behind_is_not_damaged place Log0 damage = no_log_damage even place damage
  behind_is_not_damaged place Log1 damage = no_log_damage odd place damage

pub damaged_is_none : (publisher : Name) (es : List Recorded) (base place : ℕ) (file : File) (files : Files) → StandsFor publisher es base files → ¬ (IsDamagedAt file place files)
damaged_is_none publisher es base place file files s damage = behind_is_not_damaged (beginning_behind publisher s.done) s.left files (stand_behind publisher es base files s) place file damage

pub missing_is_not_damaged : (place : ℕ) (file : File) (files : Files) → IsMissing files → ¬ (IsDamagedAt file place files)
missing_is_not_damaged place Root files missing damage = damage
missing_is_not_damaged place Snap0 files missing damage = no_root even files damage.root missing
missing_is_not_damaged place Snap1 files missing damage = no_root odd files damage.root missing
missing_is_not_damaged place Log0 files missing damage = no_root even files damage.root missing
missing_is_not_damaged place Log1 files missing damage = no_root odd files damage.root missing

snapshots_one : (g : Generation) (place at : ℕ) (files : Files) → HasDamagedSnapshot g files place → HasDamagedSnapshot g files at → place ≡ at
snapshots_one g place at files d e = one_place (bytes_of files (snapshot_of g)) place at d.broken e.broken

-- a snapshot of a beginning does not break
not_both : (g : Generation) (place at : ℕ) (files : Files) → HasDamagedSnapshot g files place → HasDamagedLog g files at → ⊥
not_both g place at files d e = damage_excludes e.beginning (bytes_of files (snapshot_of g)) place d.broken e.snapshot

logs_one : (g : Generation) (place at : ℕ) (files : Files) → HasDamagedLog g files place → HasDamagedLog g files at → place ≡ at
logs_one g place at files d e =
    let same : d.beginning ≡ e.beginning = one_beginning d.beginning e.beginning (bytes_of files (snapshot_of g)) d.snapshot e.snapshot in
    one_log_damage e.beginning (bytes_of files (log_of g)) place at (subst (λ (x : Beginning). IsDamagedLog x (bytes_of files (log_of g)) place) same d.damage) e.damage

pub one_damage : (place at : ℕ) (file other : File) (files : Files) → IsDamagedAt file place files → IsDamagedAt other at files → (file ≡ other) × (place ≡ at)
one_damage place at Root other files d e = absurd d
one_damage place at Snap0 Root files d e = absurd e
one_damage place at Snap0 Snap0 files d e = (refl, snapshots_one even place at files d e)
one_damage place at Snap0 Snap1 files d e = absurd (even_is_not_odd files d.root e.root)
one_damage place at Snap0 Log0 files d e = absurd (not_both even place at files d e)
one_damage place at Snap0 Log1 files d e = absurd (even_is_not_odd files d.root e.root)
one_damage place at Snap1 Root files d e = absurd e
one_damage place at Snap1 Snap0 files d e = absurd (even_is_not_odd files e.root d.root)
one_damage place at Snap1 Snap1 files d e = (refl, snapshots_one odd place at files d e)
one_damage place at Snap1 Log0 files d e = absurd (even_is_not_odd files e.root d.root)
one_damage place at Snap1 Log1 files d e = absurd (not_both odd place at files d e)
one_damage place at Log0 Root files d e = absurd e
one_damage place at Log0 Snap0 files d e = absurd (not_both even at place files e d)
one_damage place at Log0 Snap1 files d e = absurd (even_is_not_odd files d.root e.root)
one_damage place at Log0 Log0 files d e = (refl, logs_one even place at files d e)
one_damage place at Log0 Log1 files d e = absurd (even_is_not_odd files d.root e.root)
one_damage place at Log1 Root files d e = absurd e
one_damage place at Log1 Snap0 files d e = absurd (even_is_not_odd files e.root d.root)
one_damage place at Log1 Snap1 files d e = absurd (not_both odd at place files e d)
one_damage place at Log1 Log0 files d e = absurd (even_is_not_odd files e.root d.root)
one_damage place at Log1 Log1 files d e = (refl, logs_one odd place at files d e)

pub ruleset damages = (missing_is_none, damaged_is_none, missing_is_not_damaged, behind_is_not_missing, behind_is_not_damaged, one_damage)
