-- What stands behind the message files that were put, at each moment: along a trace, where nothing happened, and behind an opening.
use Rattle.std.proofs.Common.{◌≡◌, List, [], ◌∷◌, ◌++◌, sym, ap, subst, ◌∙◌, inl, inr, arith, append_assoc, append-nil}
use Rattle.std.specs.Prelude.{◌⊎◌, length}
use Rattle.std.proofs.lemmas.List.{length-append}
use Rattle.sr_book.specs.Entries.{Name}
use Rattle.sr_database_history.specs.Recorded.{Recorded}
use Rattle.sr_site.specs.Causes.{DiskStays}
use Rattle.sr_site.specs.Files.{Files}
use Rattle.sr_site.specs.Happenings.{Happening, attached, wrote, cut_to, synced, listed, fetched, sent, removed, handed_over, Throughout}
use Rattle.sr_site.specs.Images.{IsImage, IsSettled, MayLeave, RestsThroughout}
use Rattle.sr_site.specs.Seen.{Seen}
use Rattle.sr_database_meaning.specs.Events.{Event, PutFile, commit, put, commits, puts, puts_in}
use Rattle.sr_database_meaning.specs.Standing.{StandsAs}
use Rattle.sr_database_meaning.specs.Traces.{AtEach, IsOnTrace, LacksLast, Went}
use Rattle.sr_database_meaning.proofs.Going.{puts_more, puts_of_mail}
use Rattle.sr_database_meaning.proofs.Joining.{trace_puts}
use Rattle.sr_world_prefix.specs.Puts.{StandsBehind}

-- ---- puts

pub none_before : (step : Happening) (more : List Happening) → puts_in (step ∷ more) ≡ [] → puts_in more ≡ []
none_before (attached name folder done) more none = none
none_before (wrote file place bytes done after) more none = none
none_before (cut_to file to done after) more none = none
none_before (synced file done after) more none = none
none_before (listed address folder listing) more none = none
none_before (fetched address name limit found) more none = none
none_before (sent address name bytes done) more none = absurd (omega (arith, ap length none, length-append (puts_in more) ((address, name, bytes) ∷ [])))
none_before (removed address name done) more none = none
none_before (handed_over folders noted) more none = none

-- where the mail is as it was nothing was put
same_puts : (before now : Seen) → DiskStays before now → puts_in now.happened ≡ puts_in before.happened
same_puts before now stays = sym (puts_of_mail now.happened) ∙ ap puts_in stays.mail ∙ puts_of_mail before.happened

nothing_after : (puts more : List PutFile) → puts ++ more ≡ puts → more ≡ []
nothing_after [] more same = same
nothing_after (l ∷ puts) more same = nothing_after puts more (cc)

pub none_put : (before now : Seen) (more : List Happening) → now.happened ≡ more ++ before.happened → DiskStays before now → puts_in more ≡ []
none_put before now more is stays =
    nothing_after (puts_in before.happened) (puts_in more) (sym (puts_more before.happened more) ∙ ap puts_in (sym is) ∙ same_puts before now stays)

module _ (Stand : List PutFile → Files → Type 0) where
  -- ---- along a trace, where it stands so behind each front of it

  module _ (publisher : Name) (es : List Recorded) (trace : List Event)
      (stands : (begun left : List Event) → trace ≡ begun ++ left → (image : Files) → StandsAs publisher (es ++ commits begun) image → Stand (puts begun) image) where
    standing : (image : Files) (begun left : List Event) → trace ≡ begun ++ left → StandsAs publisher (es ++ commits begun) image ⊎ LacksLast publisher es begun image → Stand (puts begun) image
    standing image begun left prefix (inl there) = stands begun left prefix image there
    standing image begun left prefix (inr lacks) =
        let others : trace ≡ lacks.others ++ (commit lacks.last ∷ left)
        = prefix ∙ ap (λ (l : List Event). l ++ left) lacks.is ∙ append_assoc lacks.others (commit lacks.last ∷ []) left in
        let same : puts begun ≡ puts lacks.others = ap puts lacks.is ∙ trace_puts lacks.others (commit lacks.last ∷ []) ∙ append-nil (puts lacks.others) in
        subst (λ (ls : List PutFile). Stand ls image) (sym same) (stands lacks.others (commit lacks.last ∷ left) others image lacks.stands)

    module _ (first : Files) (before : List Happening) where
      at_moment : (since : List Happening) → IsOnTrace first publisher es before trace since → (image : Files) → MayLeave first (since ++ before) image → Stand (puts_in since) image
      at_moment since on image there = subst (λ (ls : List PutFile). Stand ls image) (sym on.has.put) (standing image on.begun on.left on.prefix (on.has.images image there))

      each_moment : (more : List Happening) → AtEach (IsOnTrace first publisher es before trace) more
          → AtEach (λ since. (image : Files) → MayLeave first (since ++ before) image → Stand (puts_in since) image) more
      each_moment [] on = at_moment [] on
      each_moment (step ∷ more) on = (at_moment (step ∷ more) on.0, each_moment more on.1)

    pub went_behind : (before now : Seen) → Went before now publisher es trace → StandsBehind Stand before now
    unfolding Went
    went_behind before now went = record { more = went.more; is = went.is; moments = each_moment before.first before.happened went.more went.moments }

  -- ---- from a moment at which every crash leaves what stands so, with nothing put

  module _ (before : Seen) (settled : IsSettled (Stand []) before) where
    -- it stands so behind the puts at a moment
    abbrev Behind : List Happening → Type 0
    Behind since = (image : Files) → MayLeave before.first (since ++ before.happened) image → Stand (puts_in since) image

    behind_none : (since : List Happening) → puts_in since ≡ [] → ((image : Files) → MayLeave before.first (since ++ before.happened) image → IsImage before image) → Behind since
    behind_none since none still image there = subst (λ (ls : List PutFile). Stand ls image) (sym none) (settled image (still image there))

    behind_each : (more : List Happening) → puts_in more ≡ [] → Throughout (λ moment. (image : Files) → MayLeave before.first moment image → IsImage before image) before.happened more → AtEach Behind more
    behind_each [] none still = behind_none [] none still
    behind_each (step ∷ more) none still = (behind_none (step ∷ more) none still.0, behind_each more (none_before step more none) still.1)

    -- no file was changed, and the mail was left alone
    pub silent_behind : (now : Seen) → RestsThroughout (IsImage before) before now → DiskStays before now → StandsBehind Stand before now
    silent_behind now still stays = record { more = still.more; is = still.is; moments = behind_each still.more (none_put before now still.more still.is stays) still.moments }

    -- behind an opening
    module _ (opened : Seen) (same : opened.first ≡ before.first) (opening : List Happening) (is : opened.happened ≡ opening ++ before.happened) (none : puts_in opening ≡ []) where
      abbrev BehindOpened : List Happening → Type 0
      BehindOpened since = (image : Files) → MayLeave opened.first (since ++ opened.happened) image → Stand (puts_in since) image

      still_behind : (since : List Happening) → BehindOpened since → Behind (since ++ opening)
      still_behind since behind image there =
          let parts : MayLeave before.first (since ++ (opening ++ before.happened)) image = subst (λ (l : List Happening). MayLeave before.first l image) (append_assoc since opening before.happened) there in
          let at : MayLeave opened.first (since ++ opened.happened) image
          = subst (λ (f : Files). MayLeave f (since ++ opened.happened) image) (sym same) (subst (λ (l : List Happening). MayLeave before.first (since ++ l) image) (sym is) parts) in
          let put_then : puts_in (since ++ opening) ≡ puts_in since = puts_more opening since ∙ ap (λ (ls : List PutFile). ls ++ puts_in since) none in
          subst (λ (ls : List PutFile). Stand ls image) (sym put_then) (behind image at)

      both_behind : (later : List Happening) → AtEach Behind opening → AtEach BehindOpened later → AtEach Behind (later ++ opening)
      both_behind [] first behind = first
      both_behind (step ∷ later) first behind = (still_behind (step ∷ later) behind.0, both_behind later first behind.1)

      opened_behind : (now : Seen) → AtEach Behind opening → StandsBehind Stand opened now → StandsBehind Stand before now
      opened_behind now first later = record {
        more = later.more ++ opening;
        is = later.is ∙ ap (λ (l : List Happening). later.more ++ l) is ∙ sym (append_assoc later.more opening before.happened);
        moments = both_behind later.more first later.moments;
      }

    pub still_opened : (opened now : Seen) → opened.first ≡ before.first → RestsThroughout (IsImage before) before opened → DiskStays before opened → StandsBehind Stand opened now
        → StandsBehind Stand before now
    still_opened opened now same still stays later =
        let none = none_put before opened still.more still.is stays in
        opened_behind opened same still.more still.is none now (behind_each still.more none still.moments) later

    -- behind a stretch in which the mail was left alone, and every crash leaves what stands so with nothing put
    rested_none : (since : List Happening) → puts_in since ≡ [] → ((image : Files) → MayLeave before.first (since ++ before.happened) image → Stand [] image) → Behind since
    rested_none since none rests image there = subst (λ (ls : List PutFile). Stand ls image) (sym none) (rests image there)

    rested_each : (more : List Happening) → puts_in more ≡ [] → Throughout (λ moment. (image : Files) → MayLeave before.first moment image → Stand [] image) before.happened more → AtEach Behind more
    rested_each [] none rests = rested_none [] none rests
    rested_each (step ∷ more) none rests = (rested_none (step ∷ more) none rests.0, rested_each more (none_before step more none) rests.1)

    pub rested_behind : (now : Seen) → RestsThroughout (Stand []) before now → DiskStays before now → StandsBehind Stand before now
    rested_behind now rests stays = record { more = rests.more; is = rests.is; moments = rested_each rests.more (none_put before now rests.more rests.is stays) rests.moments }

    pub rested_opened : (opened now : Seen) → opened.first ≡ before.first → RestsThroughout (Stand []) before opened → DiskStays before opened → StandsBehind Stand opened now
        → StandsBehind Stand before now
    rested_opened opened now same rests stays later =
        let none = none_put before opened rests.more rests.is stays in
        opened_behind opened same rests.more rests.is none now (rested_each rests.more none rests.moments) later
