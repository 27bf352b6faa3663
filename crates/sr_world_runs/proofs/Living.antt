-- Many runs of many databases are runs of one world.
use Rattle.std.proofs.Common.{◌≡◌, ◌≢◌, ℕ, List, [], ◌∷◌, ◌++◌, map, Some, None, Ok, Err, refl, sym, ap, subst, ◌∙◌, inl, inr}
use Rattle.std.proofs.lemmas.List.Elements.{All-contains, All-from_recursion, Contains-append_left, Contains-append_right, Contains-push}
use Rattle.std.proofs.lemmas.List.{append_cancel_right, map-append}
use Rattle.std.specs.Prelude.{true, bytes_eq, Contains}
use Rattle.std.specs.List.{AllByRecursion}
use Rattle.sr_book.specs.Entries.{Name}
use Rattle.sr_book.proofs.Folds.{name_test, same_name}
use Rattle.sr_database_history.specs.Recorded.{Recorded}
use Rattle.sr_world_model.specs.Runs.{WorldRun, after_world_run, after_world_runs}
use Rattle.sr_world_model.specs.Steps.{DatabaseStep}
use Rattle.sr_world_model.specs.Worlds.{World, WorldStep, IsNamed, after_all, acts_by, happens, history, history_in}
use Rattle.sr_world_model.specs.Worlds.{AreAmong, fresh_world}
use Rattle.sr_world_model.proofs.Good.{fresh, history_in-histories_after}
use Rattle.sr_world_model.proofs.Leave.{named_kept}
use Rattle.sr_msgform.specs.Messages.{IsMessage, message_spelling}
use Rattle.sr_msgform.specs.declared.message.Message.{Message}
use Rattle.sr_site.specs.Files.{Files}
use Rattle.sr_site.specs.Happenings.{Happening, attached, wrote, cut_to, synced, listed, fetched, sent, removed, handed_over}
use Rattle.sr_site.specs.Images.{IsImage, IsSettled, MayLeave}
use Rattle.sr_site.specs.Seen.{Seen}
use Rattle.sr_database_meaning.specs.Events.{PutFile, puts_in}
use Rattle.sr_database_meaning.specs.Standing.{StandsAs}
use Rattle.sr_database_meaning.specs.Traces.{AtEach}
use Rattle.sr_world_untouched.proofs.All.{keys_agree}
use Rattle.sr_world.specs.Real.{HasSpelling, IsGoodWorld, LawfulHistory, layers}
use Rattle.sr_world.specs.Real.{AreRunsIn}
use Rattle.sr_world.proofs.Keeping.{real_laws}
use Rattle.sr_world_runs.specs.Lives.{AreLives, CameOf, ComesBehind, MayFind, SeenRun, put_by}
use Rattle.sr_world_runs.specs.Lives.{HaveLived}
use Rattle.sr_world_runs.specs.Worlds.{AreFiles, CameKnown, IsFaithful, IsFaithfulThroughout, IsKnown, Rests, on_one, RestsBehind, put_in}
use Rattle.sr_world_prefix.specs.Kept.{StandsKeeping}
use Rattle.sr_world_runs.proofs.Keeping.{new_keeps}
use Rattle.sr_world_runs.proofs.NextRuns.{good_there, messages_there, more_messages, rests_on, spelled_known}
use Rattle.sr_world_runs.proofs.Resting.{fewer_rest}

-- ---- what came is known

module _ (put_files : List PutFile) (messages : List Message) (are : AreFiles put_files messages) (spelled : AllByRecursion IsMessage messages) (receiver : Name) where
  all_spelled : (xs : List Message) → AllByRecursion IsMessage xs → AreAmong xs messages → AllByRecursion (IsKnown messages receiver) (map message_spelling xs)
  all_spelled [] each among = tt
  all_spelled (x ∷ xs) each among = (
    spelled_known messages receiver x (among x (Contains-append_left (x ∷ []) xs x (Contains-push [] x))) each.0,
    all_spelled xs each.1 (λ m has. among m (Contains-append_right (x ∷ []) xs m has)),
  )

  bytes_known : (bytes : List ℕ) → Contains (map message_spelling messages) bytes → IsKnown messages receiver bytes
  bytes_known bytes has =
      All-contains (IsKnown messages receiver) (map message_spelling messages) bytes
      (All-from_recursion (IsKnown messages receiver) (map message_spelling messages) (all_spelled messages spelled (λ m there. there))) has

  came_known : (step : Happening) → CameOf put_files step → CameKnown messages receiver step
  came_known (attached name folder done) came = tt
  came_known (wrote file place bytes done after) came = tt
  came_known (cut_to file to done after) came = tt
  came_known (synced file done after) came = tt
  came_known (listed address folder listing) came = tt
  came_known (fetched address name limit (Ok (Some bytes))) (inl one) =
      bytes_known bytes (subst (λ (l : List (List ℕ)). Contains l bytes) are one)
  came_known (fetched address name limit (Ok (Some bytes))) (inr none) = λ m is e to. absurd (none m is e)
  came_known (fetched address name limit (Ok None)) came = tt
  came_known (fetched address name limit (Err fault)) came = tt
  came_known (sent address name bytes done) came = tt
  came_known (removed address name done) came = tt
  came_known (handed_over folders noted) came = tt

  all_known : (steps : List Happening) → AllByRecursion (CameOf put_files) steps → AllByRecursion (CameKnown messages receiver) steps
  all_known [] all = tt
  all_known (step ∷ steps) all = (came_known step all.0, all_known steps all.1)

-- ---- names

pub first_of_fresh : (names : List Name) → map (λ (h : Name × List Recorded). h.0) (map (λ name. (name, [])) names) ≡ names
first_of_fresh [] = refl
first_of_fresh (name ∷ names) = ap (λ (l : List Name). name ∷ l) (first_of_fresh names)

pub no_history : (names : List Name) (d : Name) → history_in {Entry = Recorded} d (map (λ name. (name, [])) names) ≡ []
no_history [] d = refl
no_history (name ∷ names) d = elim (name_test d name) [ inl t ↦ rw t.0 refl | inr t ↦ rw t (no_history names d) ]

-- ---- the others

pub others_all : (w : World Recorded) (owner d : Name) (database_steps : List (DatabaseStep Recorded)) → d ≢ owner → history (after_all w (acts_by owner database_steps)) d ≡ history w d
others_all w owner d [] apart = refl
others_all w owner d (database_step ∷ database_steps) apart =
    others_all (happens w (record { owner = owner; database_step = database_step })) owner d database_steps apart
    ∙ elim (history_in-histories_after w.histories owner database_step d) [ inl is ↦ is | inr own ↦ absurd (apart own.0) ]

-- ---- one run more

module _ (names : List Name) where
  abbrev begin : World Recorded
  begin = fresh_world names

  pub runs_more : (w : World Recorded) (rs : List (WorldRun Recorded)) (r : WorldRun Recorded) → after_world_runs w (rs ++ r ∷ []) ≡ after_world_run (after_world_runs w rs) r
  runs_more w [] r = refl
  runs_more w (q ∷ rs) r = runs_more (after_world_run w q) rs r

  pub are_more : (w : World Recorded) (rs : List (WorldRun Recorded)) (r : WorldRun Recorded) → AreRunsIn w rs → AreRunsIn (after_world_runs w rs) (r ∷ []) → AreRunsIn w (rs ++ r ∷ [])
  are_more w [] r are one = one
  are_more w (q ∷ rs) r are one = (are.0, are_more (after_world_run w q) rs r are.1 one)

-- what is so at each moment is so at an earlier one
at_one : (holds : List Happening → Type 0) (later since : List Happening) → AtEach holds (later ++ since) → holds since
at_one holds [] [] each = each
at_one holds [] (step ∷ since) each = each.0
at_one holds (step ∷ later) since each = at_one holds later since each.1

pub files_more : (ls ms : List PutFile) (xs ys : List Message) → AreFiles ls xs → AreFiles ms ys → AreFiles (ls ++ ms) (xs ++ ys)
files_more ls ms xs ys one other =
    map-append (λ (l : PutFile). l.2) ls ms ∙ ap (λ (bs : List (List ℕ)). bs ++ map (λ (l : PutFile). l.2) ms) one
    ∙ ap (λ (bs : List (List ℕ)). map message_spelling xs ++ bs) other ∙ sym (map-append message_spelling xs ys)

all_more_spelled : (xs ys : List Message) → AllByRecursion IsMessage xs → AllByRecursion IsMessage ys → AllByRecursion IsMessage (xs ++ ys)
all_more_spelled [] ys one other = other
all_more_spelled (x ∷ xs) ys one other = (one.0, all_more_spelled xs ys one.1 other)

named_acts : (w : World Recorded) (acts : List (WorldStep Recorded)) (d : Name) → IsNamed w d → IsNamed (after_all w acts) d
named_acts w [] d named = named
named_acts w (act ∷ acts) d named = named_acts (happens w act) acts d (named_kept w act d named)

pub named_runs : (w : World Recorded) (rs : List (WorldRun Recorded)) (d : Name) → IsNamed w d → IsNamed (after_world_runs w rs) d
named_runs w [] d named = named
named_runs w (r ∷ rs) d named = named_runs (after_world_run w r) rs d (named_acts w (acts_by r.owner r.database_steps) d named)

module _ (names : List Name) (first : Name → Seen) (earlier : List SeenRun) (r : SeenRun) (h : HaveLived names first earlier) (c : ComesBehind names first earlier r) where
  abbrev w : World Recorded
  w = after_world_runs (fresh_world names) h.runs

  named_one : (d : Name) → Contains names d → IsNamed w d
  named_one d has = named_runs (fresh_world names) h.runs d (subst (λ (l : List Name). Contains l d) (sym (first_of_fresh names)) has)

  abbrev Left : Files → Type 0
  Left image = MayLeave r.before.first (r.since ++ r.before.happened) image

  went : IsFaithfulThroughout w r.owner r.before r.now
  went =
      r.steps w h.good (named_one r.owner c.named)
      (fewer_rest w.messages r.owner (history w r.owner) (MayFind first earlier r.owner) (IsImage r.before) c.found (h.rests r.owner c.named))
      (record { more = r.later ++ r.since; is = r.is; each = all_known (put_by earlier) w.messages h.put h.spelled r.owner (r.later ++ r.since) c.came })

  rest : RestsBehind w.messages r.owner (history w r.owner) (puts_in r.since) Left
  rest =
      let same : went.more ≡ r.later ++ r.since = append_cancel_right went.more (r.later ++ r.since) r.before.happened (sym went.is ∙ r.is) in
      (at_one (IsFaithful w r.owner r.before (went.found ++ went.made)) r.later r.since (subst (λ (l : List Happening). AtEach (IsFaithful w r.owner r.before (went.found ++ went.made)) l) same went.moments)).at.rest

  abbrev q : WorldRun Recorded
  q = record { owner = r.owner; known = w.messages; database_steps = rest.database_steps }

  abbrev there : World Recorded
  there = after_all w (acts_by r.owner rest.database_steps)

  messages_are : there.messages ≡ w.messages ++ put_in rest.database_steps
  messages_are = messages_there w r.owner (puts_in r.since) r.before.first (r.since ++ r.before.happened) rest

  -- what rests after this run, of its database and of another
  own_rests : Rests there.messages r.owner (history there r.owner) Left
  own_rests = rests_on w r.owner (puts_in r.since) r.before.first (r.since ++ r.before.happened) rest (named_one r.owner c.named)

  other_rests : (d : Name) → Contains names d → d ≢ r.owner → Rests there.messages d (history there d) (MayFind first earlier d)
  other_rests d has apart =
      subst (λ (rs : List Recorded). Rests there.messages d rs (MayFind first earlier d)) (sym (others_all w r.owner d rest.database_steps apart))
      (more_messages w.messages there.messages d (history w d) (MayFind first earlier d)
      (λ m among. subst (λ (ms : List Message). Contains ms m) (sym messages_are) (Contains-append_left w.messages (put_in rest.database_steps) m among)) (h.rests d has))

  rests_behind : (d : Name) → Contains names d → Rests there.messages d (history there d) (MayFind first (r ∷ earlier) d)
  rests_behind d has = elim (name_test d r.owner) [
    | inl t ↦
        fewer_rest there.messages d (history there d) Left (MayFind first (r ∷ earlier) d)
        (λ image there. elim there [ inl own ↦ own.1 | inr other ↦ absurd (other.0 t.1) ])
        (subst (λ (n : Name). Rests there.messages n (history there n) Left) (sym t.1) own_rests)
    | inr t ↦
        let apart : d ≢ r.owner = λ e. let same : bytes_eq d r.owner ≡ true = subst (λ (n : Name). bytes_eq d n ≡ true) e (same_name d) in absurd (cc) in
        fewer_rest there.messages d (history there d) (MayFind first earlier d) (MayFind first (r ∷ earlier) d)
        (λ image there. elim there [ inl own ↦ absurd (apart own.0) | inr other ↦ other.1 ]) (other_rests d has apart)
  ]

  one_more : HaveLived names first (r ∷ earlier)
  one_more =
      let e : after_world_runs (fresh_world names) (h.runs ++ q ∷ []) ≡ there = runs_more names (fresh_world names) h.runs q in
      let good_then : IsGoodWorld (after_world_runs (fresh_world names) (h.runs ++ q ∷ []))
      = subst IsGoodWorld (sym e) (good_there w r.owner (puts_in r.since) r.before.first (r.since ++ r.before.happened) rest h.good (named_one r.owner c.named)) in
      record {
        runs = h.runs ++ q ∷ [];
        are = are_more names (fresh_world names) h.runs q h.are (record { named = named_one r.owner c.named; had_been_put = λ m has. has; can = rest.may }, tt);
        owners = map-append (λ (x : WorldRun Recorded). x.owner) h.runs (q ∷ []) ∙ ap (λ (l : List Name). l ++ r.owner ∷ []) h.owners;
        good = good_then;
        keys = keys_agree (after_world_runs (fresh_world names) (h.runs ++ q ∷ [])) good_then;
        put = subst (λ (x : World Recorded). AreFiles (put_by (r ∷ earlier)) x.messages) (sym e)
            (files_more (put_by earlier) (puts_in r.since) w.messages (put_in rest.database_steps) h.put rest.put ∙ ap (map message_spelling) (sym messages_are));
        spelled = subst (λ (x : World Recorded). AllByRecursion IsMessage x.messages) (sym e)
            (subst (λ (ms : List Message). AllByRecursion IsMessage ms) (sym messages_are) (all_more_spelled w.messages (put_in rest.database_steps) h.spelled rest.spelled));
        rests = λ d has. subst (λ (x : World Recorded). Rests x.messages d (history x d) (MayFind first (r ∷ earlier) d)) (sym e) (rests_behind d has);
      }

pub lived : (names : List Name) (first : Name → Seen) (seen : List SeenRun) → ((d : Name) → Contains names d → IsSettled (StandsAs d []) (first d)) → AreLives names first seen
    → HaveLived names first seen
lived names first [] made lives = record {
  runs = [];
  are = tt;
  owners = refl;
  good = fresh layers HasSpelling LawfulHistory real_laws names;
  keys = keys_agree (fresh_world names) (fresh layers HasSpelling LawfulHistory real_laws names);
  put = refl;
  spelled = tt;
  rests = λ d has. on_one (λ image there. subst (λ (rs : List Recorded). StandsKeeping d rs image) (sym (no_history names d)) (new_keeps d image (made d has image there)));
}
lived names first (r ∷ earlier) made lives = one_more names first earlier r (lived names first earlier made lives.0) lives.1
