-- An entry is taken part by part.
use Rattle.std.proofs.Common.{◌≡◌, ℕ, ◌<◌, ◌≤◌, max, true, false, List, [], ◌∷◌, ◌++◌, Option, refl, sym, ap, ap₂, inl, inr, subst, arith, ⊎_elim, ◌∙◌}
use Rattle.std.proofs.lemmas.Bool.{false≢true}
use Rattle.std.specs.BTreeMap as tree
use Rattle.std.specs.BTreeMap.{is_at}
use Rattle.std.specs.List.{AllByRecursion, Contains}
use Rattle.std.specs.Map.{lookup}
use Rattle.sr_ast.specs.declared.stmt.Stmt.{Stmt}
use Rattle.sr_base.specs.Order.{name_cmp}
use Rattle.sr_book.specs.Entries.{Name}
use Rattle.sr_catalog_schema.specs.Catalogs.{Lists}
use Rattle.sr_catalog_schema.specs.declared.subscription.Subscription.{Subscription}
use Rattle.sr_logform.specs.declared.entry.Entry.{Entry}
use Rattle.sr_scan.specs.Inner.Images.{catalog_after}
use Rattle.sr_scan.specs.Inner.Meanings.{texts_of}
use Rattle.sr_survey.proofs.Followed.{noted_stays}
use Rattle.sr_survey.proofs.Noting.{le_trans, max_itself, max_on, max_same, knows_itself, knows_on}
use Rattle.sr_survey.proofs.Served.{still_served}
use Rattle.sr_survey.specs.Inner.Concerning.{runs}
use Rattle.sr_survey.specs.Inner.Effects.{Serves, TouchesAll}
use Rattle.sr_survey.specs.Inner.Following.{ByUser, keys_in, since_in, since_of, IsNoted, KeepsKeys}
use Rattle.sr_survey.specs.Inner.Keyed.{keys_of}
use Rattle.sr_survey.specs.Inner.Surveyed.{IsServed, IsOfStarted, Begins, Takes}
use Rattle.sr_survey.specs.Inner.Taking.{ListsEntry, EndsAt, IsFresh, ServesAll}
use Rattle.sr_survey.specs.Inner.Texts.{FollowsTexts}
use Rattle.sr_survey.specs.declared.office.Office.{Office}
use Rattle.sr_survey.specs.declared.survey.Survey.{Survey}
use Rattle.sr_survey_places.specs.Inner.Listed.{count_of}
use Rattle.sr_survey_places.specs.declared.key.Key.{Key}

since_by : Name → ℕ → ByUser → ℕ
since_by user since offices = max since (since_in (tree.get name_cmp offices user))

since_same : (a b : Survey) (user : Name) → b.since ≡ a.since → b.offices ≡ a.offices → since_of a user ≡ since_of b user
unfolding since_by
since_same a b user s o = ap₂ (since_by user) (sym s) (sym o)

all_noted : (b c : Survey) → KeepsKeys b c → (ms : List (Option Stmt)) → AllByRecursion (IsNoted b) ms → AllByRecursion (IsNoted c) ms
all_noted b c knows [] h = tt
all_noted b c knows (m ∷ ms) h = (noted_stays b c knows m h.0, all_noted b c knows ms h.1)

pub taken_whole : (a b c d : Survey) (e : Entry) (at : ℕ) → ListsEntry a e at b → count_of b.places.lists ≤ b.most → FollowsTexts b (texts_of e) at c → EndsAt c e at d → Takes a e at d
taken_whole a b c d e at lists room follows ends = record {
  meant = follows.meant;
  are = follows.are;
  lists = b.places.lists;
  listed = lists.listed;
  same = λ k. ends.same k ∙ follows.follows.knows.same k;
  keys = record {
    his = λ user k h. ends.keys.his user k (follows.follows.knows.keys.his user k (subst (λ (o : ByUser). Contains (keys_in (tree.get name_cmp o user)) k) (sym lists.offices) h));
    begun = λ k h. ends.keys.begun k (follows.follows.knows.keys.begun k (lists.listed.begun k ∙ h));
  };
  catalog = ends.catalog ∙ follows.follows.catalog ∙ ap (λ l. catalog_after l follows.meant) lists.catalog;
  touched = λ user t. le_trans at (since_of c user) (since_of d user) (follows.follows.touched user t) (ends.rises user);
  each = ends.each;
  rises = λ user. le_trans (since_of a user) (since_of c user) (since_of d user)
      (subst (λ n. n ≤ since_of c user) (sym (since_same a b user lists.since lists.offices)) (follows.follows.knows.rises user)) (ends.rises user);
  bound = λ user. max_same (since_of a user) (since_of b user) (since_of d user) at
      (max_on (since_of b user) (since_of c user) (since_of d user) at (ends.bound user) (follows.follows.bound user)) (sym (since_same a b user lists.since lists.offices));
  others = λ user untouched still. ends.others still user ∙ follows.follows.others user untouched ∙ sym (since_same a b user lists.since lists.offices);
  noted = all_noted c d ends.keys follows.meant follows.follows.noted;
  only = λ user k h. ⊎_elim (λ i. inl (subst (λ (o : ByUser). Contains (keys_in (tree.get name_cmp o user)) k) lists.offices i)) (λ i. inr i) (follows.follows.only user k (ends.only user k h));
  begin = ends.begin ∙ follows.follows.knows.begin ∙ lists.begin;
  end = ends.end;
  most = ends.most ∙ follows.follows.knows.most ∙ lists.most;
  room =
      let count : count_of d.places.lists ≡ count_of b.places.lists = ends.count ∙ follows.follows.knows.count in
      let most : d.most ≡ b.most = ends.most ∙ follows.follows.knows.most in
      let within : count_of b.places.lists ≤ b.most = room in
      omega arith;
}

-- an entry in which a statement ran touches everybody
pub ends_touched : (a b : Survey) (e : Entry) (at : ℕ) → runs e ≡ true → TouchesAll a at b → EndsAt a e at (record b { end = at })
ends_touched a b e at run moved = record {
  each = λ ran user. moved.since user;
  rises = moved.knows.rises;
  bound = moved.bound;
  others = λ still user. absurd (false≢true (sym still ∙ run));
  only = moved.only;
  end = refl;
  catalog = moved.catalog;
  keys = record { his = moved.knows.keys.his; begun = moved.knows.keys.begun };
  same = moved.knows.same;
  count = moved.knows.count;
  begin = moved.knows.begin;
  most = moved.knows.most;
  given_up = moved.knows.given_up;
}

-- any other touches nobody beyond its statements
pub ends_quiet : (a : Survey) (e : Entry) (at : ℕ) → runs e ≡ false → EndsAt a e at (record a { end = at })
ends_quiet a e at none = record {
  each = λ run user. absurd (false≢true (sym none ∙ run));
  rises = (knows_itself a).rises;
  bound = λ user. max_itself (since_of a user) at;
  others = λ still user. refl;
  only = λ user k h. h;
  end = refl;
  catalog = refl;
  keys = record { his = λ user k h. h; begun = λ k h. h };
  same = λ k. refl;
  count = refl;
  begin = refl;
  most = refl;
  given_up = refl;
}

-- ---- the start

pub serves_none : (s : Survey) → ServesAll s [] s
serves_none s = record { all = tt; since = λ user. refl; only = λ user k h. inl h; knows = knows_itself s; catalog = refl }

pub serves_stopped : (s : Survey) (x : Subscription) → x.started ≡ false → ServesAll s (x ∷ []) s
serves_stopped s x stopped = record { all = ((λ started. absurd (let impossible : false ≡ true = sym stopped ∙ started in cc)), tt); since = λ user. refl; only = λ user k h. inl h; knows = knows_itself s; catalog = refl }

pub serves_started : (a b : Survey) (x : Subscription) → x.started ≡ true → Serves a x.user (keys_of x.publication x.value) b → ServesAll a (x ∷ []) b
serves_started a b x started served = record { all = ((λ is. served.has), tt); since = served.since; only = λ user k h. ⊎_elim (λ i. inl i) (λ i. inr (inl (started, i.0, i.1))) (served.only user k h); knows = served.knows; catalog = served.catalog }

all_both : (P : Subscription → Type 0) (xs ys : List Subscription) → AllByRecursion P xs → AllByRecursion P ys → AllByRecursion P (xs ++ ys)
all_both P [] ys h i = i
all_both P (x ∷ xs) ys h i = (h.0, all_both P xs ys h.1 i)

of_left : (xs ys : List Subscription) (user : Name) (k : Key) → IsOfStarted xs user k → IsOfStarted (xs ++ ys) user k
of_left [] ys user k h = absurd h
of_left (x ∷ xs) ys user k (inl h) = inl h
of_left (x ∷ xs) ys user k (inr h) = inr (of_left xs ys user k h)

of_right : (xs ys : List Subscription) (user : Name) (k : Key) → IsOfStarted ys user k → IsOfStarted (xs ++ ys) user k
of_right [] ys user k h = h
of_right (x ∷ xs) ys user k h = inr (of_right xs ys user k h)

pub serves_more : (a b c : Survey) (xs ys : List Subscription) → ServesAll a xs b → ServesAll b ys c → ServesAll a (xs ++ ys) c
serves_more a b c xs ys x y = record {
  all = all_both (IsServed c) xs ys (still_served b c xs y.knows.keys x.all) y.all;
  since = λ user. y.since user ∙ x.since user;
  only = λ user k h. ⊎_elim (λ i. ⊎_elim (λ j. inl j) (λ j. inr (of_left xs ys user k j)) (x.only user k i)) (λ i. inr (of_right xs ys user k i)) (y.only user k h);
  knows = knows_on a b c x.knows y.knows;
  catalog = y.catalog ∙ x.catalog;
}

pub begins_so : (base : Lists) (at most : ℕ) (fresh s : Survey) → IsFresh base at most fresh → ServesAll fresh base.subscriptions s → Begins base at s
begins_so base at most fresh s is served = record {
  catalog = served.catalog ∙ is.catalog;
  begin = served.knows.begin ∙ is.begin;
  end = served.knows.end ∙ is.end;
  since = λ user. served.since user ∙ ap₂ (λ n o. max n (since_in o)) is.since (ap (λ es. lookup (is_at (name_cmp user)) es) is.offices) ∙ max_nothing at;
  none = λ k place h. is.empty.none k place (subst (λ ps. Contains ps place) (served.knows.same k) h);
  served = served.all;
  only = λ user k h. ⊎_elim
      (λ i. let none : Contains {X = Key} [] k = subst (λ (es : List (Name × Office)). Contains (keys_in (lookup (is_at (name_cmp user)) es)) k) is.offices i in absurd (nothing k none)) (λ i. i) (served.only user k h);
} where
  nothing : (k : Key) → Contains {X = Key} [] k → ⊥
  nothing k h = let none : h.0 < 0 = h.1 in absurd (omega arith)

  max_nothing : (n : ℕ) → max n 0 ≡ n
  max_nothing n = omega arith
