-- Two traces, one behind the other.
use Rattle.std.proofs.Common.{◌≡◌, List, [], ◌∷◌, ◌++◌, refl, sym, ◌∙◌, ap, subst, inl, inr, append_assoc}
use Rattle.sr_book.specs.Entries.{Name}
use Rattle.sr_database_history.specs.Recorded.{Recorded}
use Rattle.sr_site.specs.Files.{Files}
use Rattle.sr_site.specs.Happenings.{Happening, attached, wrote, cut_to, synced, listed, fetched, sent, removed, handed_over}
use Rattle.sr_site.specs.Images.{MayLeave}
use Rattle.sr_site.specs.Seen.{Seen}
use Rattle.sr_database_meaning.specs.Bases.{HasBase}
use Rattle.sr_database_meaning.specs.Events.{Event, PutFile, commit, put, commits, puts, puts_in, IsBetween}
use Rattle.sr_database_meaning.specs.Standing.{StandsAs}
use Rattle.sr_database_meaning.specs.Traces.{HasJoints, Joint, MayStandFor, HasBegun, IsOnTrace, AtEach, Went}
use Rattle.sr_database_meaning.proofs.Going.{calls_more, puts_more}
use Rattle.sr_database_meaning.proofs.Resting.{rests_end, rests_on}

commits_more : (trace more : List Event) → commits (trace ++ more) ≡ commits trace ++ commits more
commits_more [] more = refl
commits_more (commit r ∷ trace) more = ap (λ (l : List Recorded). r ∷ l) (commits_more trace more)
commits_more (put address name bytes ∷ trace) more = commits_more trace more

pub trace_puts : (trace more : List Event) → puts (trace ++ more) ≡ puts trace ++ puts more
trace_puts [] more = refl
trace_puts (commit r ∷ trace) more = trace_puts trace more
trace_puts (put address name bytes ∷ trace) more = ap (λ (l : List PutFile). (address, name, bytes) ∷ l) (trace_puts trace more)

-- the last step alone says whether a commit is under way
between_on : (step : Happening) (since more : List Happening) → IsBetween (step ∷ since ++ more) → IsBetween (step ∷ since)
between_on (attached name folder done) since more at = at
between_on (wrote file place bytes done after) since more at = at
between_on (cut_to file to done after) since more at = at
between_on (synced file done after) since more at = at
between_on (listed address folder listing) since more at = at
between_on (fetched address name limit found) since more at = at
between_on (sent address name bytes done) since more at = at
between_on (removed address name done) since more at = at
between_on (handed_over folders noted) since more at = at

-- behind a trace
module _ (publisher : Name) (es : List Recorded) (trace : List Event) where
  history_on : (begun : List Event) → (es ++ commits trace) ++ commits begun ≡ es ++ commits (trace ++ begun)
  history_on begun = append_assoc es (commits trace) (commits begun) ∙ ap (λ (l : List Recorded). es ++ l) (sym (commits_more trace begun))

  stands_on : (begun : List Event) (image : Files) → StandsAs publisher ((es ++ commits trace) ++ commits begun) image → StandsAs publisher (es ++ commits (trace ++ begun)) image
  stands_on begun image stands = subst (λ (l : List Recorded). StandsAs publisher l image) (history_on begun) stands

  may_on : (begun : List Event) (image : Files) → MayStandFor publisher (es ++ commits trace) begun image → MayStandFor publisher es (trace ++ begun) image
  may_on begun image (inl stands) = inl (stands_on begun image stands)
  may_on begun image (inr lacks) =
      inr (record {
        others = trace ++ lacks.others;
        last = lacks.last;
        is = ap (λ (l : List Event). trace ++ l) lacks.is ∙ sym (append_assoc trace lacks.others (commit lacks.last ∷ []));
        stands = stands_on lacks.others image lacks.stands;
      })

  module _ (first : Files) (before middle : List Happening) (before_middle : List Happening) (is : middle ≡ before_middle ++ before) (first_puts : puts_in before_middle ≡ puts trace) where
    there_on : (since : List Happening) (image : Files) → MayLeave first ((since ++ before_middle) ++ before) image → MayLeave first (since ++ middle) image
    there_on since image there = subst (λ (h : List Happening). MayLeave first h image) (append_assoc since before_middle before ∙ ap (λ (h : List Happening). since ++ h) (sym is)) there

    puts_on : (begun : List Event) (since : List Happening) → puts_in since ≡ puts begun → puts_in (since ++ before_middle) ≡ puts (trace ++ begun)
    puts_on begun since same =
        puts_more before_middle since ∙ ap (λ (l : List PutFile). l ++ puts_in since) first_puts ∙ ap (λ (l : List PutFile). puts trace ++ l) same ∙ sym (trace_puts trace begun)

    -- something happened on the second trace, or no commit can be missing
    begun_on : (begun : List Event) (since : List Happening) → HasBegun first publisher (es ++ commits trace) middle begun since → (IsBetween (since ++ before_middle) → IsBetween since)
        → HasBegun first publisher es before (trace ++ begun) (since ++ before_middle)
    begun_on begun since has between =
        record {
          put = puts_on begun since has.put;
          images = λ image there. may_on begun image (has.images image (there_on since image there));
          settled = λ at image there. stands_on begun image (has.settled (between at) image (there_on since image there));
        }

    -- the end of both
    both_end : (more : List Event) (since : List Happening) → HasBegun first publisher (es ++ commits trace) middle more since → HasBegun first publisher es before (trace ++ more) (since ++ before_middle)
    both_end more [] has = begun_on more [] has (λ at. tt)
    both_end more (step ∷ since) has = begun_on more (step ∷ since) has (λ at. between_on step since before_middle at)

    -- each moment of both
    both_moments : (more : List Event) (since : List Happening) → AtEach (IsOnTrace first publisher es before trace) before_middle → AtEach (IsOnTrace first publisher (es ++ commits trace) middle more) since
        → AtEach (IsOnTrace first publisher es before (trace ++ more)) (since ++ before_middle)
    both_moments more [] ones others = earlier before_middle ones
      where
        longer : (since : List Happening) → IsOnTrace first publisher es before trace since → IsOnTrace first publisher es before (trace ++ more) since
        longer since on =
            record {
              begun = on.begun;
              left = on.left ++ more;
              prefix = ap (λ (l : List Event). l ++ more) on.prefix ∙ append_assoc on.begun on.left more;
              has = on.has;
            }

        earlier : (since : List Happening) → AtEach (IsOnTrace first publisher es before trace) since → AtEach (IsOnTrace first publisher es before (trace ++ more)) since
        earlier [] on = longer [] on
        earlier (step ∷ since) on = (longer (step ∷ since) on.0, earlier since on.1)
    both_moments more (step ∷ since) ones others =
        let on = others.0 in (
          record {
            begun = trace ++ on.begun;
            left = on.left;
            prefix = ap (λ (l : List Event). trace ++ l) on.prefix ∙ sym (append_assoc trace on.begun on.left);
            has = begun_on on.begun (step ∷ since) on.has (λ at. between_on step since before_middle at);
          },
          both_moments more since ones others.1,
        )

-- an item of two traces is one of the first, or one of the second
data Where (trace more prefix back : List Event) (event : Event) : Type 0 where
  in_first : (rest : List Event) → trace ≡ prefix ++ event ∷ rest → Where trace more prefix back event
  in_second : (others : List Event) → prefix ≡ trace ++ others → more ≡ others ++ event ∷ back → Where trace more prefix back event

deeper : (x : Event) (trace more prefix back : List Event) (event : Event) → Where trace more prefix back event → Where (x ∷ trace) more (x ∷ prefix) back event
deeper x trace more prefix back event (in_first rest e) = in_first rest (ap (λ (l : List Event). x ∷ l) e)
deeper x trace more prefix back event (in_second others e f) = in_second others (ap (λ (l : List Event). x ∷ l) e) f

where_it_is : (trace more prefix back : List Event) (event : Event) → trace ++ more ≡ prefix ++ event ∷ back → Where trace more prefix back event
where_it_is [] more prefix back event e = in_second prefix refl e
where_it_is (x ∷ trace) more [] back event e = in_first trace (let same : x ≡ event = cc in ap (λ (y : Event). y ∷ trace) same)
where_it_is (x ∷ trace) more (y ∷ prefix) back event e =
    let same : x ≡ y = cc in
    let rest : trace ++ more ≡ prefix ++ event ∷ back = cc in
    subst (λ (z : Event). Where (x ∷ trace) more (z ∷ prefix) back event) same (deeper x trace more prefix back event (where_it_is trace more prefix back event rest))

module _ (first : Files) (publisher : Name) (es : List Recorded) (trace more : List Event) (before middle before_middle since : List Happening) (is : middle ≡ before_middle ++ before)
    (ones : HasJoints first publisher es before trace before_middle) (others : HasJoints first publisher (es ++ commits trace) middle more since) where
  joint_at : (prefix back : List Event) (event : Event) → Where trace more prefix back event → Joint first publisher es before prefix (since ++ before_middle)
  joint_at prefix back event (in_first rest e) =
      let j = ones prefix rest event e in
      record { later = since ++ j.later; since = j.since; is = ap (λ (h : List Happening). since ++ h) j.is ∙ sym (append_assoc since j.later j.since); settled = j.settled }
  joint_at prefix back event (in_second behind e f) =
      let j = others behind back event f in
      record {
        later = j.later;
        since = j.since ++ before_middle;
        is = ap (λ (h : List Happening). h ++ before_middle) j.is ∙ append_assoc j.later j.since before_middle;
        settled = λ image there.
            subst (λ (l : List Event). StandsAs publisher (es ++ commits l) image) (sym e)
            (stands_on publisher es trace behind image
            (j.settled image
            (subst (λ (h : List Happening). MayLeave first h image) (append_assoc j.since before_middle before ∙ ap (λ (h : List Happening). j.since ++ h) (sym is)) there)));
      }

  both_joints : HasJoints first publisher es before (trace ++ more) (since ++ before_middle)
  both_joints prefix back event e = joint_at prefix back event (where_it_is trace more prefix back event e)

pub joined : (before middle now : Seen) (publisher : Name) (es : List Recorded) (trace more : List Event) → Went before middle publisher es trace → Went middle now publisher (es ++ commits trace) more → Went before now publisher es (trace ++ more)
unfolding Went
joined before middle now publisher es trace more one other =
    let moments : AtEach (IsOnTrace before.first publisher (es ++ commits trace) middle.happened more) other.more = subst (λ (f : Files). AtEach (IsOnTrace f publisher (es ++ commits trace) middle.happened more) other.more) one.first other.moments in
    let end : HasBegun before.first publisher (es ++ commits trace) middle.happened more other.more = subst (λ (f : Files). HasBegun f publisher (es ++ commits trace) middle.happened more other.more) one.first other.end in
    record {
      observable = other.observable ∙ one.observable;
      first = other.first ∙ one.first;
      attached = other.attached ∙ one.attached;
      more = other.more ++ one.more;
      is = other.is ∙ ap (λ (h : List Happening). other.more ++ h) one.is ∙ sym (append_assoc other.more one.more before.happened);
      calls = calls_more one.more other.more other.calls one.calls;
      moments = both_moments publisher es trace before.first before.happened middle.happened one.more one.is one.end.put more other.more one.moments moments;
      end = both_end publisher es trace before.first before.happened middle.happened one.more one.is one.end.put more other.more end;
      joints = both_joints before.first publisher es trace more before.happened middle.happened one.more other.more one.is one.joints
          (subst (λ (f : Files). HasJoints f publisher (es ++ commits trace) middle.happened more other.more) one.first other.joints);
      base = λ base stood.
          let until = one.base base stood in
          rests_on (HasBase base) before middle now one.first until (other.base base (rests_end (HasBase base) before middle one.first until));
    }
