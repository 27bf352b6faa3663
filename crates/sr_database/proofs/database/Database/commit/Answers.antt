use Rattle.std.proofs.Common.{◌≡◌, List, [], ◌∷◌, refl, sym, subst}
use Rattle.sr_logform.specs.declared.change.Change.{Change}
use Rattle.sr_database.specs.Commits.{IsPrepared}
use Rattle.sr_database.specs.Inner.Commits.{CanCommit, CanCommitSome}
use Rattle.sr_database.specs.Advances.{Advances}
use Rattle.sr_database.specs.Databases.{IsDatabase}
use Rattle.sr_database.specs.Inner.Without.{WasWithout}
use Rattle.sr_database.specs.InForce.{HasLogInForce}
use Rattle.sr_database.specs.Inner.Taking.{Takes}
use Rattle.sr_database.specs.Views.{View}
use Rattle.sr_database.proofs.Added.{Added, advanced_added, attaches_added, sound_added, without_added, in_force_added, database_added, went_longer, went_spent}
use Rattle.sr_database.proofs.InForce.{has_log}
use Rattle.sr_database.proofs.Pending.{sound_inside}
use Rattle.sr_database.proofs.database.Database.commit.Goals as goal

pub prepare-requires-clause-fit : goal.prepare-requires-clause-fit
prepare-requires-clause-fit g c =
    let inside : View = record { catalog = c.self.inside.catalog; base_catalog = c.self.inside.base_catalog; rows = c.self.inside.rows; pending = c.self.inside.pending.items; books = c.self.inside.books; log = c.self.inside.log } in
    let view_is : inside ≡ c.args.self.now = c.self.view_is in
    (sound_inside inside c.args.self.now view_is c.requires.usable c.self.invariant).holds.rows

pub append-requires-clause-log : goal.append-requires-clause-log
append-requires-clause-log g c told =
    let inside : View = record { catalog = c.self.inside.catalog; base_catalog = c.self.inside.base_catalog; rows = c.self.inside.rows; pending = c.self.inside.pending.items; books = c.self.inside.books; log = c.self.inside.log } in
    let view_is : inside ≡ c.args.self.now = c.self.view_is in
    has_log inside.log (g.S.Held.seen c.args.site.now).files (subst (λ (v : View). HasLogInForce v (g.S.Held.seen c.args.site.now)) (sym view_is) (c.requires.stands told)).now

pub returns-in_err-offset-clause-went : goal.returns-in_err-offset-clause-went
returns-in_err-offset-clause-went g c told publisher es r database can begun =
    let before = g.S.Held.seen c.args.site.now in
    let now = g.S.Held.seen c.append.new.site in
    let entry = c.args.entry.now in
    let framed = c.as_slice-2.result.now in
    let inside : View = record { catalog = c.self.inside.catalog; base_catalog = c.self.inside.base_catalog; rows = c.self.inside.rows; pending = c.self.inside.pending.items; books = c.self.inside.books; log = c.self.inside.log } in
    let new : View = record { catalog = c.prepare.new.catalog; base_catalog = c.self.inside.base_catalog; rows = c.prepare.new.rows; pending = c.clear.new.self.items; books = c.prepare.new.books; log = c.append.new.log } in
    let view_is : inside ≡ c.args.self.now = c.self.view_is in
    let added : Added inside new entry framed = record {
      takes = subst (λ (p : List Change). Takes inside.catalog new.catalog inside.rows new.rows inside.books new.books p entry) c.as_slice.ensures.value c.in_ok-framed.ensures.takes;
      prepared = subst (λ f. IsPrepared inside.log entry f) (sym c.as_slice-2.ensures.value) c.in_ok-framed.ensures.ready;
      none = c.clear.ensures.items;
      base_catalog_is = refl;
    } in
    went_spent inside new entry framed added before now publisher es r _ c.in_err-offset.ensures.spent
    (subst (λ (v : View). IsDatabase v publisher es before) (sym view_is) database) (subst (λ (v : View). CanCommit v entry r) (sym view_is) can) (c.in_err-offset.ensures.happened told) (c.in_err-offset.ensures.moments told) c.in_err-offset.ensures.stays

pub returns-in_err-offset-clause-attached : goal.returns-in_err-offset-clause-attached
returns-in_err-offset-clause-attached g c told =
    attaches_added c.self.inside.log c.as_slice-2.result.now (g.S.Held.seen c.args.site.now) (g.S.Held.seen c.append.new.site) _ (c.in_err-offset.ensures.happened told)

pub invariant_of-self-2 : goal.invariant_of-self-2
invariant_of-self-2 g c usable =
    let entry = c.args.entry.now in
    let framed = c.as_slice-2.result.now in
    let inside : View = record { catalog = c.self.inside.catalog; base_catalog = c.self.inside.base_catalog; rows = c.self.inside.rows; pending = c.self.inside.pending.items; books = c.self.inside.books; log = c.self.inside.log } in
    let new : View = record { catalog = c.prepare.new.catalog; base_catalog = c.self.inside.base_catalog; rows = c.prepare.new.rows; pending = c.clear.new.self.items; books = c.prepare.new.books; log = c.append.new.log } in
    let view_is : inside ≡ c.args.self.now = c.self.view_is in
    let added : Added inside new entry framed = record {
      takes = subst (λ (p : List Change). Takes inside.catalog new.catalog inside.rows new.rows inside.books new.books p entry) c.as_slice.ensures.value c.in_ok-framed.ensures.takes;
      prepared = subst (λ f. IsPrepared inside.log entry f) (sym c.as_slice-2.ensures.value) c.in_ok-framed.ensures.ready;
      none = c.clear.ensures.items;
      base_catalog_is = refl;
    } in
    let sound = sound_inside inside c.args.self.now view_is c.requires.usable c.self.invariant in
    sound_added inside new entry framed added c.in_ok-offset.ensures.log sound (subst (λ (v : View). CanCommitSome v entry) (sym view_is) c.requires.entry)

pub returns-clause-value : goal.returns-clause-value
returns-clause-value g c r can =
    let entry = c.args.entry.now in
    let framed = c.as_slice-2.result.now in
    let inside : View = record { catalog = c.self.inside.catalog; base_catalog = c.self.inside.base_catalog; rows = c.self.inside.rows; pending = c.self.inside.pending.items; books = c.self.inside.books; log = c.self.inside.log } in
    let new : View = record { catalog = c.prepare.new.catalog; base_catalog = c.self.inside.base_catalog; rows = c.prepare.new.rows; pending = c.clear.new.self.items; books = c.prepare.new.books; log = c.append.new.log } in
    let view_is : inside ≡ c.args.self.now = c.self.view_is in
    let added : Added inside new entry framed = record {
      takes = subst (λ (p : List Change). Takes inside.catalog new.catalog inside.rows new.rows inside.books new.books p entry) c.as_slice.ensures.value c.in_ok-framed.ensures.takes;
      prepared = subst (λ f. IsPrepared inside.log entry f) (sym c.as_slice-2.ensures.value) c.in_ok-framed.ensures.ready;
      none = c.clear.ensures.items;
      base_catalog_is = refl;
    } in
    let sound = sound_inside inside c.args.self.now view_is c.requires.usable c.self.invariant in
    subst (λ (v : View). Advances v new (r ∷ [])) view_is (advanced_added inside new entry framed added c.in_ok-offset.ensures.log r sound.pending (subst (λ (v : View). CanCommit v entry r) (sym view_is) can))

pub returns-clause-in_force : goal.returns-clause-in_force
returns-clause-in_force g c told =
    let before = g.S.Held.seen c.args.site.now in
    let now = g.S.Held.seen c.append.new.site in
    let entry = c.args.entry.now in
    let framed = c.as_slice-2.result.now in
    let inside : View = record { catalog = c.self.inside.catalog; base_catalog = c.self.inside.base_catalog; rows = c.self.inside.rows; pending = c.self.inside.pending.items; books = c.self.inside.books; log = c.self.inside.log } in
    let new : View = record { catalog = c.prepare.new.catalog; base_catalog = c.self.inside.base_catalog; rows = c.prepare.new.rows; pending = c.clear.new.self.items; books = c.prepare.new.books; log = c.append.new.log } in
    let view_is : inside ≡ c.args.self.now = c.self.view_is in
    let added : Added inside new entry framed = record {
      takes = subst (λ (p : List Change). Takes inside.catalog new.catalog inside.rows new.rows inside.books new.books p entry) c.as_slice.ensures.value c.in_ok-framed.ensures.takes;
      prepared = subst (λ f. IsPrepared inside.log entry f) (sym c.as_slice-2.ensures.value) c.in_ok-framed.ensures.ready;
      none = c.clear.ensures.items;
      base_catalog_is = refl;
    } in
    let can = subst (λ (v : View). CanCommitSome v entry) (sym view_is) c.requires.entry in
    in_force_added inside new entry framed added c.in_ok-offset.ensures.log before now can.r _ (subst (λ (v : View). HasLogInForce v before) (sym view_is) (c.requires.stands told)) can.can (c.in_ok-offset.ensures.happened told) (c.in_ok-offset.ensures.others told)
    (c.in_ok-offset.ensures.record told) (c.in_ok-offset.ensures.settled told) c.in_ok-offset.ensures.stays

pub returns-clause-without : goal.returns-clause-without
returns-clause-without g c told publisher es base r can stands =
    let before = g.S.Held.seen c.args.site.now in
    let now = g.S.Held.seen c.append.new.site in
    let entry = c.args.entry.now in
    let framed = c.as_slice-2.result.now in
    let inside : View = record { catalog = c.self.inside.catalog; base_catalog = c.self.inside.base_catalog; rows = c.self.inside.rows; pending = c.self.inside.pending.items; books = c.self.inside.books; log = c.self.inside.log } in
    let new : View = record { catalog = c.prepare.new.catalog; base_catalog = c.self.inside.base_catalog; rows = c.prepare.new.rows; pending = c.clear.new.self.items; books = c.prepare.new.books; log = c.append.new.log } in
    let view_is : inside ≡ c.args.self.now = c.self.view_is in
    let added : Added inside new entry framed = record {
      takes = subst (λ (p : List Change). Takes inside.catalog new.catalog inside.rows new.rows inside.books new.books p entry) c.as_slice.ensures.value c.in_ok-framed.ensures.takes;
      prepared = subst (λ f. IsPrepared inside.log entry f) (sym c.as_slice-2.ensures.value) c.in_ok-framed.ensures.ready;
      none = c.clear.ensures.items;
      base_catalog_is = refl;
    } in
    let has = without_added inside new entry framed added c.in_ok-offset.ensures.log before now r (subst (λ (v : View). HasLogInForce v before) (sym view_is) (c.requires.stands told)) (subst (λ (v : View). CanCommit v entry r) (sym view_is) can)
    (c.in_ok-offset.ensures.others told) (c.in_ok-offset.ensures.record told) publisher es base stands in
    subst (λ (v : View). WasWithout v publisher es r before) view_is has

pub returns-clause-database : goal.returns-clause-database
returns-clause-database g c told publisher es r database can =
    let before = g.S.Held.seen c.args.site.now in
    let now = g.S.Held.seen c.append.new.site in
    let entry = c.args.entry.now in
    let framed = c.as_slice-2.result.now in
    let inside : View = record { catalog = c.self.inside.catalog; base_catalog = c.self.inside.base_catalog; rows = c.self.inside.rows; pending = c.self.inside.pending.items; books = c.self.inside.books; log = c.self.inside.log } in
    let new : View = record { catalog = c.prepare.new.catalog; base_catalog = c.self.inside.base_catalog; rows = c.prepare.new.rows; pending = c.clear.new.self.items; books = c.prepare.new.books; log = c.append.new.log } in
    let view_is : inside ≡ c.args.self.now = c.self.view_is in
    let added : Added inside new entry framed = record {
      takes = subst (λ (p : List Change). Takes inside.catalog new.catalog inside.rows new.rows inside.books new.books p entry) c.as_slice.ensures.value c.in_ok-framed.ensures.takes;
      prepared = subst (λ f. IsPrepared inside.log entry f) (sym c.as_slice-2.ensures.value) c.in_ok-framed.ensures.ready;
      none = c.clear.ensures.items;
      base_catalog_is = refl;
    } in
    database_added inside new entry framed added c.in_ok-offset.ensures.log before now publisher es r _
    (subst (λ (v : View). IsDatabase v publisher es before) (sym view_is) database) (subst (λ (v : View). CanCommit v entry r) (sym view_is) can) (c.in_ok-offset.ensures.happened told) (c.in_ok-offset.ensures.others told)
    (c.in_ok-offset.ensures.record told) (c.in_ok-offset.ensures.settled told) c.in_ok-offset.ensures.stays

pub returns-clause-went : goal.returns-clause-went
returns-clause-went g c told publisher es r database can begun =
    let before = g.S.Held.seen c.args.site.now in
    let now = g.S.Held.seen c.append.new.site in
    let entry = c.args.entry.now in
    let framed = c.as_slice-2.result.now in
    let inside : View = record { catalog = c.self.inside.catalog; base_catalog = c.self.inside.base_catalog; rows = c.self.inside.rows; pending = c.self.inside.pending.items; books = c.self.inside.books; log = c.self.inside.log } in
    let new : View = record { catalog = c.prepare.new.catalog; base_catalog = c.self.inside.base_catalog; rows = c.prepare.new.rows; pending = c.clear.new.self.items; books = c.prepare.new.books; log = c.append.new.log } in
    let view_is : inside ≡ c.args.self.now = c.self.view_is in
    let added : Added inside new entry framed = record {
      takes = subst (λ (p : List Change). Takes inside.catalog new.catalog inside.rows new.rows inside.books new.books p entry) c.as_slice.ensures.value c.in_ok-framed.ensures.takes;
      prepared = subst (λ f. IsPrepared inside.log entry f) (sym c.as_slice-2.ensures.value) c.in_ok-framed.ensures.ready;
      none = c.clear.ensures.items;
      base_catalog_is = refl;
    } in
    went_longer inside new entry framed added before now publisher es r _ c.in_ok-offset.ensures.log
    (subst (λ (v : View). IsDatabase v publisher es before) (sym view_is) database) (subst (λ (v : View). CanCommit v entry r) (sym view_is) can) (c.in_ok-offset.ensures.happened told) (c.in_ok-offset.ensures.moments told) c.in_ok-offset.ensures.stays

pub returns-clause-attached : goal.returns-clause-attached
returns-clause-attached g c told =
    attaches_added c.self.inside.log c.as_slice-2.result.now (g.S.Held.seen c.args.site.now) (g.S.Held.seen c.append.new.site) _ (c.in_ok-offset.ensures.happened told)
