use Rattle.std.proofs.Common.{◌≡◌, ◌≤◌, List, refl, sym, ◌∙◌, subst}
use Rattle.std.specs.Prelude.{IsTrue}
use Rattle.sr_catalog_schema.specs.Catalogs.{Lists}
use Rattle.sr_catalog_script_laws.specs.Scripts.{IsSpellable}
use Rattle.sr_database_files.proofs.Quiet.{told_then}
use Rattle.sr_database_history.specs.Recorded.{Recorded}
use Rattle.sr_database_meaning.specs.Generations.{generation_of}
use Rattle.sr_database_restart.specs.Inner.Restarting.{KeepsInForce}
use Rattle.sr_site.specs.Images.{RestsThroughout}
use Rattle.sr_snapshot.specs.Beginnings.{Beginning}
use Rattle.sr_rows.specs.Marks.{Marked}
use Rattle.sr_database.proofs.AtEnd.{holds_own}
use Rattle.sr_database.proofs.Pending.{sound_inside}
use Rattle.sr_database.proofs.Restarted.{anew_cause, anew_sound, beginning_anew, database_anew, goes_over, has_log_from, left_beginning, left_database, moments, same_unless, spent_sound, standing}
use Rattle.sr_database.specs.Databases.{HasBeginning, IsDatabase}
use Rattle.sr_database.specs.Inner.Restarts.{AnewCause, HasBegun, HasLogFrom, IsLogFrom, MayGoAnew}
use Rattle.sr_database.specs.Inner.Sound.{IsSound}
use Rattle.sr_database.specs.Restarts.{BeginsAnew}
use Rattle.sr_database.specs.Views.{View}
use Rattle.sr_database.proofs.database.Database.restart_log.Goals as goal

pub begin_with-requires-clause-order : goal.begin_with-requires-clause-order
begin_with-requires-clause-order g c =
    let view : View = c.args.self.now in
    let inside : View = record { catalog = c.self.inside.catalog; base_catalog = c.self.inside.base_catalog; rows = c.self.inside.rows; pending = c.self.inside.pending.items; books = c.self.inside.books; log = c.self.inside.log } in
    let view_is : inside ≡ view = c.self.view_is in
    subst (λ (v : View). (v.log.base ≤ c.args.keep.0) × (c.args.keep.0 ≤ v.log.end)) (sym view_is) c.requires.keep

pub begin_with-requires-clause-stands : goal.begin_with-requires-clause-stands
begin_with-requires-clause-stands g c told =
    let before = g.S.Held.seen c.args.site.now in
    let view : View = c.args.self.now in
    let inside : View = record { catalog = c.self.inside.catalog; base_catalog = c.self.inside.base_catalog; rows = c.self.inside.rows; pending = c.self.inside.pending.items; books = c.self.inside.books; log = c.self.inside.log } in
    let view_is : inside ≡ view = c.self.view_is in
    subst (λ (v : View). HasLogFrom v.log before) (sym view_is) (has_log_from view before (c.requires.stands told))

pub begin_with-requires-clause-spellable : goal.begin_with-requires-clause-spellable
begin_with-requires-clause-spellable g c =
    let inside : View = record { catalog = c.self.inside.catalog; base_catalog = c.self.inside.base_catalog; rows = c.self.inside.rows; pending = c.self.inside.pending.items; books = c.self.inside.books; log = c.self.inside.log } in
    let sound = sound_inside inside c.args.self.now c.self.view_is c.requires.usable c.self.invariant in
    sound.holds.catalog

pub begin_with-requires-clause-own : goal.begin_with-requires-clause-own
begin_with-requires-clause-own g c rests =
    let before = g.S.Held.seen c.args.site.now in
    let inside : View = record { catalog = c.self.inside.catalog; base_catalog = c.self.inside.base_catalog; rows = c.self.inside.rows; pending = c.self.inside.pending.items; books = c.self.inside.books; log = c.self.inside.log } in
    let view_is : inside ≡ c.args.self.now = c.self.view_is in
    holds_own inside c.args.keep.0 before (λ told. subst (λ (v : View). HasBeginning v before) (sym view_is) (c.requires.stands told)) (let rest = c.is_at_rest-is_own.ensures rests in (rest.0, sym c.deref.ensures.value ∙ rest.1))

-- ---- begun anew

pub invariant_of-self : goal.invariant_of-self
invariant_of-self g c usable =
    let before = g.S.Held.seen c.args.site.now in
    let now = g.S.Held.seen c.begin_with.new.site in
    let view : View = c.args.self.now in
    let inside : View = record { catalog = c.self.inside.catalog; base_catalog = c.self.inside.base_catalog; rows = c.self.inside.rows; pending = c.self.inside.pending.items; books = c.self.inside.books; log = c.self.inside.log } in
    let view_is : inside ≡ view = c.self.view_is in
    let new : View = record { catalog = c.self.inside.catalog; base_catalog = c.take_over.new.base_catalog; rows = c.begin_with.new.rows; pending = c.self.inside.pending.items; books = c.self.inside.books; log = c.take_over.new.log } in
    let first : BeginsAnew c.args.keep.0 inside new = record { catalog = refl; rows = c.begin_with.ensures.rows; pending = refl; books = refl; log = c.take_over.ensures.log ∙ c.in-Ok.ensures.log } in
    let anew : BeginsAnew c.args.keep.0 view new = subst (λ (v : View). BeginsAnew c.args.keep.0 v new) view_is first in
    let within : c.args.keep.0 ≤ inside.log.end = subst (λ (v : View). c.args.keep.0 ≤ v.log.end) (sym view_is) c.requires.keep.1 in
    let spelled : IsSpellable new.base_catalog = subst (λ (k : Lists). IsSpellable k) (sym c.take_over.ensures.catalog) c.in-Ok.ensures.catalog in
    anew_sound inside new c.args.keep.0 first spelled within (sound_inside inside view view_is c.requires.usable c.self.invariant)

pub returns-in-Ok-clause-value : goal.returns-in-Ok-clause-value
returns-in-Ok-clause-value g c =
    let before = g.S.Held.seen c.args.site.now in
    let now = g.S.Held.seen c.begin_with.new.site in
    let view : View = c.args.self.now in
    let inside : View = record { catalog = c.self.inside.catalog; base_catalog = c.self.inside.base_catalog; rows = c.self.inside.rows; pending = c.self.inside.pending.items; books = c.self.inside.books; log = c.self.inside.log } in
    let view_is : inside ≡ view = c.self.view_is in
    let new : View = record { catalog = c.self.inside.catalog; base_catalog = c.take_over.new.base_catalog; rows = c.begin_with.new.rows; pending = c.self.inside.pending.items; books = c.self.inside.books; log = c.take_over.new.log } in
    let first : BeginsAnew c.args.keep.0 inside new = record { catalog = refl; rows = c.begin_with.ensures.rows; pending = refl; books = refl; log = c.take_over.ensures.log ∙ c.in-Ok.ensures.log } in
    let anew : BeginsAnew c.args.keep.0 view new = subst (λ (v : View). BeginsAnew c.args.keep.0 v new) view_is first in
    anew

pub returns-in-Ok-clause-beginning : goal.returns-in-Ok-clause-beginning
returns-in-Ok-clause-beginning g c told =
    let before = g.S.Held.seen c.args.site.now in
    let now = g.S.Held.seen c.begin_with.new.site in
    let view : View = c.args.self.now in
    let inside : View = record { catalog = c.self.inside.catalog; base_catalog = c.self.inside.base_catalog; rows = c.self.inside.rows; pending = c.self.inside.pending.items; books = c.self.inside.books; log = c.self.inside.log } in
    let view_is : inside ≡ view = c.self.view_is in
    let new : View = record { catalog = c.self.inside.catalog; base_catalog = c.take_over.new.base_catalog; rows = c.begin_with.new.rows; pending = c.self.inside.pending.items; books = c.self.inside.books; log = c.take_over.new.log } in
    let first : BeginsAnew c.args.keep.0 inside new = record { catalog = refl; rows = c.begin_with.ensures.rows; pending = refl; books = refl; log = c.take_over.ensures.log ∙ c.in-Ok.ensures.log } in
    let anew : BeginsAnew c.args.keep.0 view new = subst (λ (v : View). BeginsAnew c.args.keep.0 v new) view_is first in
    let begun : (b : Beginning) (ls : List Recorded) → IsLogFrom view.log b ls before → HasBegun view.log c.args.keep.0 b ls before now c.take_over.new.base_catalog =
    λ b ls. subst (λ (k : Lists). IsLogFrom view.log b ls before → HasBegun view.log c.args.keep.0 b ls before now k) (sym c.take_over.ensures.catalog)
    (subst (λ (v : View). IsLogFrom v.log b ls before → HasBegun v.log c.args.keep.0 b ls before now c.in-Ok.anew.base_catalog) view_is (c.in-Ok.ensures.begun told b ls)) in
    let read = g.S.Held.read_is_image c.begin_with.new.site (told_then before now c.begin_with.ensures.stays told) in
    beginning_anew view new before (c.requires.stands told) c.args.keep.0 now begun anew read

pub returns-in-Ok-clause-database : goal.returns-in-Ok-clause-database
returns-in-Ok-clause-database g c told publisher es database =
    let before = g.S.Held.seen c.args.site.now in
    let now = g.S.Held.seen c.begin_with.new.site in
    let view : View = c.args.self.now in
    let inside : View = record { catalog = c.self.inside.catalog; base_catalog = c.self.inside.base_catalog; rows = c.self.inside.rows; pending = c.self.inside.pending.items; books = c.self.inside.books; log = c.self.inside.log } in
    let view_is : inside ≡ view = c.self.view_is in
    let new : View = record { catalog = c.self.inside.catalog; base_catalog = c.take_over.new.base_catalog; rows = c.begin_with.new.rows; pending = c.self.inside.pending.items; books = c.self.inside.books; log = c.take_over.new.log } in
    let first : BeginsAnew c.args.keep.0 inside new = record { catalog = refl; rows = c.begin_with.ensures.rows; pending = refl; books = refl; log = c.take_over.ensures.log ∙ c.in-Ok.ensures.log } in
    let anew : BeginsAnew c.args.keep.0 view new = subst (λ (v : View). BeginsAnew c.args.keep.0 v new) view_is first in
    let begun : (b : Beginning) (ls : List Recorded) → IsLogFrom view.log b ls before → HasBegun view.log c.args.keep.0 b ls before now c.take_over.new.base_catalog =
    λ b ls. subst (λ (k : Lists). IsLogFrom view.log b ls before → HasBegun view.log c.args.keep.0 b ls before now k) (sym c.take_over.ensures.catalog)
    (subst (λ (v : View). IsLogFrom v.log b ls before → HasBegun v.log c.args.keep.0 b ls before now c.in-Ok.anew.base_catalog) view_is (c.in-Ok.ensures.begun told b ls)) in
    let read = g.S.Held.read_is_image c.begin_with.new.site (told_then before now c.begin_with.ensures.stays told) in
    database_anew view new publisher es before (c.requires.stands told) database c.args.keep.0 now begun anew read

pub returns-in-Ok-clause-moments : goal.returns-in-Ok-clause-moments
returns-in-Ok-clause-moments g c told publisher es database =
    let before = g.S.Held.seen c.args.site.now in
    let now = g.S.Held.seen c.begin_with.new.site in
    let view : View = c.args.self.now in
    let inside : View = record { catalog = c.self.inside.catalog; base_catalog = c.self.inside.base_catalog; rows = c.self.inside.rows; pending = c.self.inside.pending.items; books = c.self.inside.books; log = c.self.inside.log } in
    let view_is : inside ≡ view = c.self.view_is in
    let goes : (b : Beginning) (ls : List Recorded) → IsLogFrom view.log b ls before → MayGoAnew view.log c.args.keep.0 b ls before now =
    λ b ls. subst (λ (v : View). IsLogFrom v.log b ls before → MayGoAnew v.log c.args.keep.0 b ls before now) view_is (c.begin_with.ensures.moments told b ls) in
    moments view publisher es before (c.requires.stands told) database c.args.keep.0 now goes

pub returns-in-Ok-clause-both : goal.returns-in-Ok-clause-both
returns-in-Ok-clause-both g c told publisher es database =
    let before = g.S.Held.seen c.args.site.now in
    let now = g.S.Held.seen c.begin_with.new.site in
    let view : View = c.args.self.now in
    let inside : View = record { catalog = c.self.inside.catalog; base_catalog = c.self.inside.base_catalog; rows = c.self.inside.rows; pending = c.self.inside.pending.items; books = c.self.inside.books; log = c.self.inside.log } in
    let view_is : inside ≡ view = c.self.view_is in
    let goes : (b : Beginning) (ls : List Recorded) → IsLogFrom view.log b ls before → MayGoAnew view.log c.args.keep.0 b ls before now =
    λ b ls. subst (λ (v : View). IsLogFrom v.log b ls before → MayGoAnew v.log c.args.keep.0 b ls before now) view_is (c.begin_with.ensures.moments told b ls) in
    goes_over view publisher es before (c.requires.stands told) database c.args.keep.0 now goes

-- ---- not begun anew

pub invariant_of-self-in-Err : goal.invariant_of-self-in-Err
invariant_of-self-in-Err g c usable =
    let inside : View = record { catalog = c.self.inside.catalog; base_catalog = c.self.inside.base_catalog; rows = c.self.inside.rows; pending = c.self.inside.pending.items; books = c.self.inside.books; log = c.self.inside.log } in
    subst (λ (m : Marked). IsSound (record { catalog = c.self.inside.catalog; base_catalog = c.self.inside.base_catalog; rows = m; pending = c.self.inside.pending.items; books = c.self.inside.books; log = c.spend_at.new.log })) (sym c.begin_with.ensures.rows)
    (spent_sound inside c.spend_at.new.log c.in-Err.fault c.spend_at.ensures c.self.invariant usable)

pub returns-in-Err-clause-moments : goal.returns-in-Err-clause-moments
returns-in-Err-clause-moments g c told publisher es database =
    let before = g.S.Held.seen c.args.site.now in
    let now = g.S.Held.seen c.begin_with.new.site in
    let view : View = c.args.self.now in
    let inside : View = record { catalog = c.self.inside.catalog; base_catalog = c.self.inside.base_catalog; rows = c.self.inside.rows; pending = c.self.inside.pending.items; books = c.self.inside.books; log = c.self.inside.log } in
    let view_is : inside ≡ view = c.self.view_is in
    let goes : (b : Beginning) (ls : List Recorded) → IsLogFrom view.log b ls before → MayGoAnew view.log c.args.keep.0 b ls before now =
    λ b ls. subst (λ (v : View). IsLogFrom v.log b ls before → MayGoAnew v.log c.args.keep.0 b ls before now) view_is (c.begin_with.ensures.moments told b ls) in
    moments view publisher es before (c.requires.stands told) database c.args.keep.0 now goes

pub returns-in-Err-clause-both : goal.returns-in-Err-clause-both
returns-in-Err-clause-both g c told publisher es database =
    let before = g.S.Held.seen c.args.site.now in
    let now = g.S.Held.seen c.begin_with.new.site in
    let view : View = c.args.self.now in
    let inside : View = record { catalog = c.self.inside.catalog; base_catalog = c.self.inside.base_catalog; rows = c.self.inside.rows; pending = c.self.inside.pending.items; books = c.self.inside.books; log = c.self.inside.log } in
    let view_is : inside ≡ view = c.self.view_is in
    let goes : (b : Beginning) (ls : List Recorded) → IsLogFrom view.log b ls before → MayGoAnew view.log c.args.keep.0 b ls before now =
    λ b ls. subst (λ (v : View). IsLogFrom v.log b ls before → MayGoAnew v.log c.args.keep.0 b ls before now) view_is (c.begin_with.ensures.moments told b ls) in
    goes_over view publisher es before (c.requires.stands told) database c.args.keep.0 now goes

pub returns-in-Err-clause-stopped : goal.returns-in-Err-clause-stopped
returns-in-Err-clause-stopped g c told publisher es database other =
    let before = g.S.Held.seen c.args.site.now in
    let now = g.S.Held.seen c.begin_with.new.site in
    let view : View = c.args.self.now in
    let inside : View = record { catalog = c.self.inside.catalog; base_catalog = c.self.inside.base_catalog; rows = c.self.inside.rows; pending = c.self.inside.pending.items; books = c.self.inside.books; log = c.self.inside.log } in
    let view_is : inside ≡ view = c.self.view_is in
    standing view publisher es before (c.requires.stands told) database now
    (subst (λ (v : View). RestsThroughout (KeepsInForce (generation_of v.log.file) before) before now) view_is (c.in-Err.ensures.stopped told other))

pub returns-in-Err-clause-left : goal.returns-in-Err-clause-left
returns-in-Err-clause-left g c told other =
    let before = g.S.Held.seen c.args.site.now in
    let now = g.S.Held.seen c.begin_with.new.site in
    let view : View = c.args.self.now in
    let inside : View = record { catalog = c.self.inside.catalog; base_catalog = c.self.inside.base_catalog; rows = c.self.inside.rows; pending = c.self.inside.pending.items; books = c.self.inside.books; log = c.self.inside.log } in
    let view_is : inside ≡ view = c.self.view_is in
    let new : View = record { catalog = c.self.inside.catalog; base_catalog = c.self.inside.base_catalog; rows = c.begin_with.new.rows; pending = c.self.inside.pending.items; books = c.self.inside.books; log = c.spend_at.new.log } in
    let stands : IsTrue before.observable → HasBeginning inside before = λ told. subst (λ (v : View). HasBeginning v before) (sym view_is) (c.requires.stands told) in
    let from : inside.log.base ≤ c.args.keep.0 = subst (λ (v : View). v.log.base ≤ c.args.keep.0) (sym view_is) c.requires.keep.0 in
    let cause : AnewCause view new c.args.keep before now c.in-Err.fault = subst (λ (v : View). AnewCause v new c.args.keep before now c.in-Err.fault) view_is (anew_cause inside new c.args.keep before now from stands (λ i. record { catalog = c.self.inside.catalog; base_catalog = c.self.inside.base_catalog; rows = c.begin_with.ensures.rows i; pending = c.self.inside.pending.items; books = c.self.inside.books; log = c.spend_at.new.log }) c.in-Err.fault c.spend_at.ensures c.in-Err.ensures.cause) in
    let rests : RestsThroughout (KeepsInForce (generation_of view.log.file) before) before now = subst (λ (v : View). RestsThroughout (KeepsInForce (generation_of v.log.file) before) before now) view_is (c.in-Err.ensures.stopped told other) in
    let read = g.S.Held.read_is_image c.begin_with.new.site (told_then before now c.begin_with.ensures.stays told) in
    subst (λ (v : View). HasBeginning v now) (sym (same_unless view new c.args.keep before now c.in-Err.fault other cause)) (left_beginning view before now (c.requires.stands told) c.begin_with.ensures.stays.first rests read)

pub returns-in-Err-clause-same : goal.returns-in-Err-clause-same
returns-in-Err-clause-same g c told publisher es database other =
    let before = g.S.Held.seen c.args.site.now in
    let now = g.S.Held.seen c.begin_with.new.site in
    let view : View = c.args.self.now in
    let inside : View = record { catalog = c.self.inside.catalog; base_catalog = c.self.inside.base_catalog; rows = c.self.inside.rows; pending = c.self.inside.pending.items; books = c.self.inside.books; log = c.self.inside.log } in
    let view_is : inside ≡ view = c.self.view_is in
    let new : View = record { catalog = c.self.inside.catalog; base_catalog = c.self.inside.base_catalog; rows = c.begin_with.new.rows; pending = c.self.inside.pending.items; books = c.self.inside.books; log = c.spend_at.new.log } in
    let stands : IsTrue before.observable → HasBeginning inside before = λ told. subst (λ (v : View). HasBeginning v before) (sym view_is) (c.requires.stands told) in
    let from : inside.log.base ≤ c.args.keep.0 = subst (λ (v : View). v.log.base ≤ c.args.keep.0) (sym view_is) c.requires.keep.0 in
    let cause : AnewCause view new c.args.keep before now c.in-Err.fault = subst (λ (v : View). AnewCause v new c.args.keep before now c.in-Err.fault) view_is (anew_cause inside new c.args.keep before now from stands (λ i. record { catalog = c.self.inside.catalog; base_catalog = c.self.inside.base_catalog; rows = c.begin_with.ensures.rows i; pending = c.self.inside.pending.items; books = c.self.inside.books; log = c.spend_at.new.log }) c.in-Err.fault c.spend_at.ensures c.in-Err.ensures.cause) in
    let rests : RestsThroughout (KeepsInForce (generation_of view.log.file) before) before now = subst (λ (v : View). RestsThroughout (KeepsInForce (generation_of v.log.file) before) before now) view_is (c.in-Err.ensures.stopped told other) in
    let read = g.S.Held.read_is_image c.begin_with.new.site (told_then before now c.begin_with.ensures.stays told) in
    subst (λ (v : View). IsDatabase v publisher es now) (sym (same_unless view new c.args.keep before now c.in-Err.fault other cause))
    (left_database view before now (c.requires.stands told) c.begin_with.ensures.stays.first rests read publisher es database)

pub returns-in-Err-clause-cause : goal.returns-in-Err-clause-cause
returns-in-Err-clause-cause g c =
    let before = g.S.Held.seen c.args.site.now in
    let now = g.S.Held.seen c.begin_with.new.site in
    let view : View = c.args.self.now in
    let inside : View = record { catalog = c.self.inside.catalog; base_catalog = c.self.inside.base_catalog; rows = c.self.inside.rows; pending = c.self.inside.pending.items; books = c.self.inside.books; log = c.self.inside.log } in
    let view_is : inside ≡ view = c.self.view_is in
    let new : View = record { catalog = c.self.inside.catalog; base_catalog = c.self.inside.base_catalog; rows = c.begin_with.new.rows; pending = c.self.inside.pending.items; books = c.self.inside.books; log = c.spend_at.new.log } in
    let stands : IsTrue before.observable → HasBeginning inside before = λ told. subst (λ (v : View). HasBeginning v before) (sym view_is) (c.requires.stands told) in
    let from : inside.log.base ≤ c.args.keep.0 = subst (λ (v : View). v.log.base ≤ c.args.keep.0) (sym view_is) c.requires.keep.0 in
    subst (λ (v : View). AnewCause v new c.args.keep before now c.in-Err.fault) view_is (anew_cause inside new c.args.keep before now from stands (λ i. record { catalog = c.self.inside.catalog; base_catalog = c.self.inside.base_catalog; rows = c.begin_with.ensures.rows i; pending = c.self.inside.pending.items; books = c.self.inside.books; log = c.spend_at.new.log }) c.in-Err.fault c.spend_at.ensures c.in-Err.ensures.cause)
