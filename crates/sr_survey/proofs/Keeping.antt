-- The survey of a history is one of the history with the entry more that it takes.
use Rattle.std.proofs.Common.{◌≡◌, ◌⊎◌, ℕ, zero, suc, ◌<◌, ◌≤◌, Bool, true, false, ◌&&◌, List, [], ◌∷◌, ◌++◌, length, get_or, Option, refl, sym, ap, ap₂, inl, inr, subst, arith, bytes_eq, append_assoc, ⊎_elim, ◌∙◌}
use Rattle.std.proofs.lemmas.List.{get_or_default, append-nil}
use Rattle.std.proofs.lemmas.List.Elements.{All-contains, Contains-get_or}
use Rattle.std.proofs.lemmas.Slice.Eq.{bytes_eq-Decides}
use Rattle.std.specs.List.{AllByRecursion, Contains}
use Rattle.sr_ast.specs.declared.stmt.Stmt.{Stmt}
use Rattle.sr_book.specs.Entries.{Name}
use Rattle.sr_catalog_schema.specs.Catalogs.{Lists}
use Rattle.sr_catalog_schema.specs.declared.subscription.Subscription.{Subscription}
use Rattle.sr_database_history.proofs.Joined.{state_from-more, stored_from-more}
use Rattle.sr_database_history.proofs.Kept.{stored_holds}
use Rattle.sr_database_history.specs.Fitting.{Fits, Stored}
use Rattle.sr_database_history.specs.Folds.{State, fresh, state_of, end_of}
use Rattle.sr_database_history.specs.Inner.Laws.{Holds}
use Rattle.sr_database_history.specs.Recorded.{Recorded, entry_of}
use Rattle.sr_scan.proofs.Agreeing.{told_same, catalog_same}
use Rattle.sr_scan.proofs.Meant.{meant_is}
use Rattle.sr_scan.specs.Given.{gives}
use Rattle.sr_scan.specs.Inner.Images.{catalog_after, told}
use Rattle.sr_scan.specs.Inner.Meanings.{texts_of, AreMeant}
use Rattle.sr_survey.proofs.Concerned.{entry_may, named_by_text}
use Rattle.sr_survey.proofs.Moving.{alike_itself, alike_on, after_alike}
use Rattle.sr_survey.proofs.Served.{still_served, after_served}
use Rattle.sr_survey.proofs.Splits.{EndsIn, split_end, split_entry, past_end, end_before, entry_ends_before}
use Rattle.sr_survey.specs.Inner.Alike.{ShowsAlike, touched}
use Rattle.sr_survey.specs.Inner.Concerning.{entry_keys, names_user, runs, IsLiveKey, IsHisBy, MayConcern}
use Rattle.sr_survey.specs.Inner.Following.{since_of, IsKeyOf}
use Rattle.sr_survey.specs.Inner.Keyed.{keys_of}
use Rattle.sr_survey.specs.Inner.Surveyed.{IsHis, IsListed, IsPlace, IsServed, HasSurveyed, Begins, Takes, place_of}
use Rattle.sr_survey.specs.declared.survey.Survey.{Survey}
use Rattle.sr_survey_places.specs.Inner.Search.{IsOwn}
use Rattle.sr_survey_places.specs.Inner.Listed.{under, is_begun}
use Rattle.sr_survey_places.specs.declared.key.Key.{Key}
use Rattle.sr_survey_places.specs.declared.key.Key.TheVariants as keyed
use Rattle.sr_survey_places.specs.declared.place.Place.{Place}

-- an entry that fits gives a user nothing, or it may concern him
pub entry_concerns : (s : State) (place : ℕ) (r : Recorded) (user : Name) (meant : List (Option Stmt)) → Holds s → Fits s place r → AreMeant (texts_of (entry_of r)) meant
    → MayConcern s.catalog (entry_of r) user ⊎ (gives s r user ≡ [])
entry_concerns s place r user meant holds fits are = go (entry_may s.catalog user holds.catalog.made (entry_of r) meant are) where
  go : MayConcern s.catalog (entry_of r) user ⊎ (told s.catalog (entry_of r) meant user ≡ []) → MayConcern s.catalog (entry_of r) user ⊎ (gives s r user ≡ [])
  go (inl h) = inl h
  go (inr e) = inr (sym (told_same s place r user holds fits) ∙ ap (λ m. told s.catalog (entry_of r) m user) (sym (meant_is r meant fits.meant are)) ∙ e)

-- a place among others by its end, as one of them that ends there
own_one : (own : List Place) (p : Place) → IsOwn own p → (x : Place) × Contains own x × (x.end ≡ p.end)
own_one own p h = (get_or own h.0 p, Contains-get_or own h.0 p h.1, h.2)

own_by : (own : List Place) (x p : Place) → Contains own x → x.end ≡ p.end → IsOwn own p
own_by own x p h e = (h.0, h.1, ap (λ (q : Place). q.end) (get_or_default own h.0 p x h.1 ∙ h.2) ∙ e)

module _ (publisher : Name) (done : List Recorded) (r : Recorded) (old new : Survey) (stored : Stored publisher (done ++ r ∷ [])) (has : HasSurveyed publisher done old)
    (takes : Takes old (entry_of r) (end_of (done ++ r ∷ [])) new) where
  parts : Stored publisher done × Fits (state_of publisher done) (end_of done) r
  parts = (stored_from-more (fresh publisher) 0 done r).0 stored

  holds : Holds (state_of publisher done)
  holds = stored_holds publisher done parts.0

  past : end_of done < end_of (done ++ r ∷ [])
  past = past_end done r

  -- ---- what is listed

  -- a place under a key now was there, or is the new one
  was_under : (k : Key) (x : Place) → Contains (under new.places.lists k) x → Contains (under old.places.lists k) x ⊎ (Contains (entry_keys old.catalog (entry_of r)) k × (x ≡ record { start = old.end; end = end_of (done ++ r ∷ []) }))
  was_under k x h = takes.listed.only k x (subst (λ ps. Contains ps x) (takes.same k) h)

  still_under : (k : Key) (x : Place) → Contains (under old.places.lists k) x → Contains (under new.places.lists k) x
  still_under k x h = subst (λ ps. Contains ps x) (sym (takes.same k)) (takes.listed.stays k x h)

  ends_by : (x : Place) → IsPlace done x → x.end ≤ end_of done
  ends_by x p = subst (λ (q : Place). q.end ≤ end_of done) (sym p.is) (entry_ends_before done p.first p.rest p.entry p.parts)

  his_still : (user : Name) (k : Key) → IsHis old user k → IsHis new user k
  his_still user k (inl e) = inl e
  his_still user k (inr (inl e)) = inr (inl e)
  his_still user k (inr (inr (inl e))) = inr (inr (inl e))
  his_still user k (inr (inr (inr h))) = inr (inr (inr (takes.keys.his user k h)))

  -- of a place that ends by then what is taken from a user is as it was
  own_was : (user : Name) (p : Place) → p.end ≤ end_of done → IsOwn (under new.places.lists (keyed.From user)) p → IsOwn (under old.places.lists (keyed.From user)) p
  own_was user p early own = go (was_under (keyed.From user) one.0 one.1) where
    one : (x : Place) × Contains (under new.places.lists (keyed.From user)) x × (x.end ≡ p.end)
    one = own_one (under new.places.lists (keyed.From user)) p own

    go : Contains (under old.places.lists (keyed.From user)) one.0 ⊎ (Contains (entry_keys old.catalog (entry_of r)) (keyed.From user) × (one.0 ≡ record { start = old.end; end = end_of (done ++ r ∷ []) }))
        → IsOwn (under old.places.lists (keyed.From user)) p
    go (inl h) = own_by (under old.places.lists (keyed.From user)) one.0 p h one.2
    go (inr h) = let late : one.0.end ≡ end_of (done ++ r ∷ []) = ap (λ (q : Place). q.end) h.1 in let same : one.0.end ≡ p.end = one.2 in let later : end_of done < end_of (done ++ r ∷ []) = past in absurd (omega arith)

  still_listed : (user : Name) (p : Place) → p.end ≤ end_of done → IsListed old user p → IsListed new user p
  still_listed user p early is = record {
    key = is.key;
    his = his_still user is.key is.his;
    there = still_under is.key p is.there;
    other = λ own. is.other (own_was user p early own);
  }

  -- ---- the new entry

  catalog_is : old.catalog ≡ (state_of publisher done).catalog
  catalog_is = has.catalog

  live_listed : (user : Name) (k : Key) → IsLiveKey old.catalog user k → IsKeyOf old user k
  live_listed user k live =
      let x = live.subscription in
      let started : x.started ≡ true = and_first x.started (bytes_eq user x.user) live.live in
      let same : x.user ≡ user = sym ((bytes_eq-Decides user x.user).0 (and_second x.started (bytes_eq user x.user) live.live)) in
      subst (λ (u : Name). IsKeyOf old u k) same (All-contains (IsKeyOf old x.user) (keys_of x.publication x.value) k (served_one old.catalog.subscriptions x live.there has.served started) live.has) where
        and_first : (a b : Bool) → (a && b) ≡ true → a ≡ true
        and_first true b e = refl
        and_first false b e = e

        and_second : (a b : Bool) → (a && b) ≡ true → b ≡ true
        and_second true b e = e
        and_second false b e = cc

        served_at : (ss : List Subscription) (x : Subscription) (i : ℕ) → i < length ss → get_or ss i x ≡ x → AllByRecursion (IsServed old) ss → IsServed old x
        served_at [] x i l e all = absurd (omega arith)
        served_at (y ∷ ss) x zero l e all = subst (IsServed old) e all.0
        served_at (y ∷ ss) x (suc i) l e all = served_at ss x i (omega arith) e all.1

        served_one : (ss : List Subscription) (x : Subscription) → Contains ss x → AllByRecursion (IsServed old) ss → IsServed old x
        served_one ss x h all = served_at ss x h.0 h.1 h.2 all

  place_is : record { start = old.end; end = end_of (done ++ r ∷ []) } ≡ place_of done r
  place_is = ap (λ (n : ℕ). let p : Place = record { start = n; end = end_of (done ++ r ∷ []) } in p) has.end_is

  put_under : (k : Key) → Contains (entry_keys old.catalog (entry_of r)) k → is_begun old.places.lists k ≡ true → Contains (under new.places.lists k) (place_of done r)
  put_under k listed begun =
      subst (λ p. Contains (under new.places.lists k) p) place_is
      (subst (λ ps. Contains ps (record { start = old.end; end = end_of (done ++ r ∷ []) })) (sym (takes.same k))
      (All-contains (λ q. is_begun old.places.lists q ≡ true → Contains (under takes.lists q) (record { start = old.end; end = end_of (done ++ r ∷ []) })) (entry_keys old.catalog (entry_of r)) k takes.listed.there listed begun))

  new_listed : (user : Name) → MayConcern old.catalog (entry_of r) user → IsListed new user (place_of done r)
  new_listed user may = go may.his where
    other : ¬ (IsOwn (under new.places.lists (keyed.From user)) (place_of done r))
    other own = go (was_under (keyed.From user) one.0 one.1) where
      one : (x : Place) × Contains (under new.places.lists (keyed.From user)) x × (x.end ≡ end_of (done ++ r ∷ []))
      one = own_one (under new.places.lists (keyed.From user)) (place_of done r) own

      go : Contains (under old.places.lists (keyed.From user)) one.0 ⊎ (Contains (entry_keys old.catalog (entry_of r)) (keyed.From user) × (one.0 ≡ record { start = old.end; end = end_of (done ++ r ∷ []) })) → ⊥
      go (inl h) = let early : one.0.end ≤ end_of done = ends_by one.0 (has.places (keyed.From user) one.0 h) in let late : one.0.end ≡ end_of (done ++ r ∷ []) = one.2 in let later : end_of done < end_of (done ++ r ∷ []) = past in absurd (omega arith)
      go (inr h) = may.other h.0

    with_key : IsHis new user may.key → is_begun old.places.lists may.key ≡ true → IsListed new user (place_of done r)
    with_key his begun = record { key = may.key; his = his; there = put_under may.key may.listed begun; other = other }

    go : IsHisBy old.catalog user may.key → IsListed new user (place_of done r)
    go (inl e) = with_key (inl e) (subst (λ k. is_begun old.places.lists k ≡ true) (sym e) refl)
    go (inr (inl e)) = with_key (inr (inl e)) (subst (λ k. is_begun old.places.lists k ≡ true) (sym e) refl)
    go (inr (inr (inl e))) = with_key (inr (inr (inl e))) (subst (λ k. is_begun old.places.lists k ≡ true) (sym e) refl)
    go (inr (inr (inr live))) = let is = live_listed user may.key live in with_key (his_still user may.key (inr (inr (inr is.his)))) is.begun

  new_covers : (user : Name) → IsListed new user (place_of done r) ⊎ (gives (state_of publisher done) r user ≡ [])
  new_covers user = go (entry_concerns (state_of publisher done) (end_of done) r user takes.meant holds parts.1 takes.are) where
    go : MayConcern (state_of publisher done).catalog (entry_of r) user ⊎ (gives (state_of publisher done) r user ≡ []) → IsListed new user (place_of done r) ⊎ (gives (state_of publisher done) r user ≡ [])
    go (inl may) = inl (new_listed user (subst (λ c. MayConcern c (entry_of r) user) (sym catalog_is) may))
    go (inr e) = inr e

  -- ---- the catalog

  catalog_now : new.catalog ≡ (state_of publisher (done ++ r ∷ [])).catalog
  catalog_now =
      takes.catalog ∙ ap₂ (λ c m. catalog_after c m) catalog_is (meant_is r takes.meant parts.1.meant takes.are)
      ∙ catalog_same (state_of publisher done) (end_of done) r parts.1 ∙ ap (λ (s : State). s.catalog) (sym (state_from-more (fresh publisher) done r))

  pub kept : HasSurveyed publisher (done ++ r ∷ []) new
  kept = record {
    end_is = takes.end;
    catalog = catalog_now;
    places = λ k x h. ⊎_elim
        (λ i. more_place x (has.places k x i))
        (λ i. record { first = done; rest = []; entry = r; parts = refl; is = i.1 ∙ place_is }) (was_under k x h);
    texts = λ user first rest q e h. named user first rest q (split_entry done r first q rest e) (was_under (keyed.Text user) (place_of first q) h);
    covers = λ user first rest q e begun. covered user first rest q begun (split_entry done r first q rest e);
    shows = λ user first rest e since. shown user first rest since (split_end done r first rest e);
    each = λ user first rest q e begun run. each_past user first rest q begun run (split_entry done r first q rest e);
    served = subst (λ c. AllByRecursion (IsServed new) c.subscriptions) (sym takes.catalog) (after_served new old.catalog takes.meant takes.noted (still_served old new old.catalog.subscriptions takes.keys has.served));
  } where
    named : (user : Name) (first rest : List Recorded) (q : Recorded) → ((first ≡ done) × (q ≡ r)) ⊎ ((before : List Recorded) × (done ≡ first ++ q ∷ before))
        → Contains (under old.places.lists (keyed.Text user)) (place_of first q) ⊎ (Contains (entry_keys old.catalog (entry_of r)) (keyed.Text user) × (place_of first q ≡ record { start = old.end; end = end_of (done ++ r ∷ []) }))
        → names_user user (entry_of q) ≡ true
    named user first rest q (inl a) (inl h) =
        let early : end_of (first ++ q ∷ []) ≤ end_of done = ends_by (place_of first q) (has.places (keyed.Text user) (place_of first q) h) in
        let same : end_of (first ++ q ∷ []) ≡ end_of (done ++ r ∷ []) = ap₂ (λ (es : List Recorded) (x : Recorded). end_of (es ++ x ∷ [])) a.0 a.1 in
        let later : end_of done < end_of (done ++ r ∷ []) = past in
        absurd (omega arith)
    named user first rest q (inl a) (inr h) = subst (λ (x : Recorded). names_user user (entry_of x) ≡ true) (sym a.1) (named_by_text old.catalog (entry_of r) user h.0)
    named user first rest q (inr b) (inl h) = has.texts user first b.0 q b.1 h
    named user first rest q (inr b) (inr h) =
        let early : end_of (first ++ q ∷ []) ≤ end_of done = entry_ends_before done first b.0 q b.1 in
        let same : end_of (first ++ q ∷ []) ≡ end_of (done ++ r ∷ []) = ap (λ (p : Place). p.end) h.1 in
        let later : end_of done < end_of (done ++ r ∷ []) = past in
        absurd (omega arith)

    more_place : (x : Place) → IsPlace done x → IsPlace (done ++ r ∷ []) x
    more_place x p = record { first = p.first; rest = p.rest ++ r ∷ []; entry = p.entry; parts = ap (λ es. es ++ r ∷ []) p.parts ∙ append_assoc p.first (p.entry ∷ p.rest) (r ∷ []); is = p.is }

    covered : (user : Name) (first rest : List Recorded) (q : Recorded) → new.begin ≤ end_of first → ((first ≡ done) × (q ≡ r)) ⊎ ((before : List Recorded) × (done ≡ first ++ q ∷ before))
        → IsListed new user (place_of first q) ⊎ (gives (state_of publisher first) q user ≡ [])
    covered user first rest q begun (inl h) =
        subst (λ (es : List Recorded). IsListed new user (place_of es q) ⊎ (gives (state_of publisher es) q user ≡ [])) (sym h.0)
        (subst (λ (e : Recorded). IsListed new user (place_of done e) ⊎ (gives (state_of publisher done) e user ≡ [])) (sym h.1) (new_covers user))
    covered user first rest q begun (inr h) = ⊎_elim
        (λ is. inl (still_listed user (place_of first q) (entry_ends_before done first h.0 q h.1) is))
        (λ e. inr e) (has.covers user first h.0 q h.1 (subst (λ n. n ≤ end_of first) takes.begin begun))

    shown : (user : Name) (first rest : List Recorded) → since_of new user ≤ end_of first → ((first ≡ done ++ r ∷ []) × (rest ≡ [])) ⊎ EndsIn done r first rest
        → ShowsAlike (state_of publisher first).catalog new.catalog user
    shown user first rest since (inl h) =
        subst (λ (es : List Recorded). ShowsAlike (state_of publisher es).catalog new.catalog user) (sym h.0) (subst (λ c. ShowsAlike c new.catalog user) catalog_now (alike_itself new.catalog user))
    shown user first rest since (inr h) = go (touched user takes.meant) refl where
      early : end_of first ≤ end_of done
      early = subst (λ (es : List Recorded). end_of first ≤ end_of es) (sym h.parts) (end_before first h.before)

      go : (b : Bool) → touched user takes.meant ≡ b → ShowsAlike (state_of publisher first).catalog new.catalog user
      go true is = let late : end_of (done ++ r ∷ []) ≤ since_of new user = takes.touched user is in let later : end_of done < end_of (done ++ r ∷ []) = past in let before : end_of first ≤ end_of done = early in absurd (omega arith)
      go false is =
          let rises : since_of old user ≤ since_of new user = takes.rises user in
          alike_on (state_of publisher first).catalog old.catalog new.catalog user (has.shows user first h.before h.parts (omega arith))
          (subst (λ c. ShowsAlike old.catalog c user) (sym takes.catalog) (after_alike old.catalog takes.meant user is))

    each_past : (user : Name) (first rest : List Recorded) (q : Recorded) → new.begin ≤ end_of first → runs (entry_of q) ≡ true → ((first ≡ done) × (q ≡ r)) ⊎ ((before : List Recorded) × (done ≡ first ++ q ∷ before))
        → end_of (first ++ q ∷ []) ≤ since_of new user
    each_past user first rest q begun run (inl h) =
        subst (λ (es : List Recorded). end_of es ≤ since_of new user) (ap₂ (λ (es : List Recorded) (e : Recorded). es ++ e ∷ []) (sym h.0) (sym h.1))
        (takes.each (subst (λ (e : Recorded). runs (entry_of e) ≡ true) h.1 run) user)
    each_past user first rest q begun run (inr h) =
        let was : end_of (first ++ q ∷ []) ≤ since_of old user = has.each user first h.0 q h.1 (subst (λ n. n ≤ end_of first) takes.begin begun) run in
        let rises : since_of old user ≤ since_of new user = takes.rises user in
        omega arith

-- ---- the start

pub begun_surveyed : (publisher : Name) (done : List Recorded) (base : Lists) (s : Survey) → Begins base (end_of done) s → base ≡ (state_of publisher done).catalog → HasSurveyed publisher done s
begun_surveyed publisher done base s b is = record {
  end_is = b.end;
  catalog = b.catalog ∙ is;
  places = λ k x h. absurd (b.none k x h);
  texts = λ user first rest r e h. absurd (b.none (keyed.Text user) (place_of first r) h);
  covers = λ user first rest q e begun. absurd (none_behind first rest q e (subst (λ n. n ≤ end_of first) b.begin begun));
  shows = λ user first rest e since. same user first rest e since (ends_there first rest e (le_on (end_of done) (since_of s user) (end_of first) (let now : since_of s user ≡ end_of done = b.since user in omega arith) since));
  each = λ user first rest q e begun run. absurd (none_behind first rest q e (subst (λ n. n ≤ end_of first) b.begin begun));
  served = subst (λ c. AllByRecursion (IsServed s) c.subscriptions) (sym b.catalog) b.served;
} where
  none_behind : (first rest : List Recorded) (q : Recorded) → done ≡ first ++ q ∷ rest → end_of done ≤ end_of first → ⊥
  none_behind first rest q e late = let early : end_of (first ++ q ∷ []) ≤ end_of done = entry_ends_before done first rest q e in let past : end_of first < end_of (first ++ q ∷ []) = past_end first q in absurd (omega arith)

  le_on : (a b c : ℕ) → a ≤ b → b ≤ c → a ≤ c
  le_on a b c x y = omega arith

  ends_there : (first rest : List Recorded) → done ≡ first ++ rest → end_of done ≤ end_of first → rest ≡ []
  ends_there first [] e late = refl
  ends_there first (q ∷ rest) e late = absurd (none_behind first rest q e late)

  same : (user : Name) (first rest : List Recorded) → done ≡ first ++ rest → since_of s user ≤ end_of first → rest ≡ [] → ShowsAlike (state_of publisher first).catalog s.catalog user
  same user first rest e since none =
      let whole : done ≡ first = e ∙ ap (λ es. first ++ es) none ∙ append-nil first in
      subst (λ (es : List Recorded). ShowsAlike (state_of publisher es).catalog s.catalog user) whole (subst (λ c. ShowsAlike c s.catalog user) (b.catalog ∙ is) (alike_itself s.catalog user))
