-- Each moment of a site that goes through a trace: whatever a crash leaves stands for a history on the way.
use Rattle.std.proofs.Common.{◌≡◌, ℕ, ◌≤◌, List, [], ◌∷◌, ◌++◌, sym, ap, subst, ◌∙◌, inl, inr, arith, append_assoc}
use Rattle.std.specs.Prelude.{◌⊎◌}
use Rattle.sr_book.specs.Entries.{Name}
use Rattle.sr_book.specs.Histories.{taken as taken_from, taken_end}
use Rattle.sr_book.specs.Rising.{Rises, offsets}
use Rattle.sr_book.proofs.Offsets.{Rises-prefix, offsets-append}
use Rattle.sr_database_history.specs.Folds.{end_of, sees, state_of}
use Rattle.sr_database_history.specs.Recorded.{Recorded}
use Rattle.sr_logform.specs.declared.op.Op.{Op}
use Rattle.sr_world_model.proofs.Longer.{taken_longer}
use Rattle.sr_scan.specs.Given.{given_from}
use Rattle.sr_scan.proofs.Growing.{joined}
use Rattle.sr_site.specs.Files.{Files}
use Rattle.sr_site.specs.Happenings.{Happening, Throughout}
use Rattle.sr_site.specs.Images.{MayLeave, RestsThroughout}
use Rattle.sr_site.specs.Seen.{Seen}
use Rattle.sr_database_meaning.specs.Events.{Event, commit, commits}
use Rattle.sr_database_meaning.specs.Standing.{StandsAs}
use Rattle.sr_database_meaning.specs.Traces.{AtEach, IsOnTrace, LacksLast, Went}
use Rattle.sr_agent.proofs.Joints.{commits-append}
use Rattle.sr_world.specs.Real.{layers, HasSpelling, LawfulHistory}
use Rattle.sr_world.proofs.Keeping.{given_same, real_laws}
use Rattle.sr_world_prefix.specs.Partners.{ArePartners, IsInStep, StandInStep}
use Rattle.sr_world_prefix.proofs.Along.{Along, along_prefix, along_last}
use Rattle.sr_world_prefix.proofs.Spelled.{given_rises}
use Rattle.sr_world_prefix.proofs.Taking.{IsOn}

-- in step, by the layers as they are
pub on_layers : (publisher user : Name) (us es : List Recorded) → IsInStep publisher user es us → IsOn publisher user us es
on_layers publisher user us es step = record { rest = step.rest; taken_first = given_same user publisher us ∙ step.beginning; confirmed = step.confirmed }

pub off_layers : (publisher user : Name) (us es : List Recorded) → IsOn publisher user us es → IsInStep publisher user es us
off_layers publisher user us es on = record { rest = on.rest; beginning = sym (given_same user publisher us) ∙ on.taken_first; confirmed = on.confirmed }

module _ (publisher user : Name) (us : List Recorded) where
  -- what was taken rises, since it is a beginning of what is given
  pub taken_rises : (es : List Recorded) → IsOn publisher user us es → Rises 0 (offsets (taken_from sees user es))
  taken_rises es on =
      let all : Rises 0 (offsets (taken_from sees user es) ++ offsets on.rest)
      = subst (λ (l : List ℕ). Rises 0 l) (ap offsets on.taken_first ∙ offsets-append (taken_from sees user es) on.rest) (given_rises user publisher us) in
      Rises-prefix 0 (offsets (taken_from sees user es)) (offsets on.rest) all

  -- a history that goes on gives what it gave, and more
  pub partners_on : (es new : List Recorded) → ArePartners publisher user es us → IsOn publisher user us (es ++ new) → ArePartners publisher user (es ++ new) us
  partners_on es new partners on =
      let later : taken_end sees user es ≤ taken_end sees user (es ++ new) = taken_longer layers HasSpelling LawfulHistory real_laws user es new (taken_rises (es ++ new) on) in
      let more : List (ℕ × List Op) = given_from (state_of publisher es) (end_of es) new user in
      record {
        took = off_layers publisher user us (es ++ new) on;
        gave = record {
          rest = partners.gave.rest ++ more;
          beginning =
              joined publisher user es new ∙ ap (λ (txs : List (ℕ × List Op)). txs ++ more) partners.gave.beginning
              ∙ append_assoc (taken_from sees publisher us) partners.gave.rest more;
          confirmed = omega (arith, partners.gave.confirmed, later);
        };
      }

  module _ (es : List Recorded) (partners : ArePartners publisher user es us) (trace : List Event) (along : Along (IsOn publisher user us) es (commits trace)) where
    prefix_on : (begun left : List Event) → trace ≡ begun ++ left → ArePartners publisher user (es ++ commits begun) us
    prefix_on begun left prefix =
        let parts : Along (IsOn publisher user us) es (commits begun ++ commits left)
        = subst (λ (l : List Recorded). Along (IsOn publisher user us) es l) (ap commits prefix ∙ commits-append begun left) along in
        partners_on es (commits begun) partners
        (along_last (IsOn publisher user us) es (commits begun) (along_prefix (IsOn publisher user us) es (commits begun) (commits left) parts))

    standing : (image : Files) (begun left : List Event) → trace ≡ begun ++ left → StandsAs publisher (es ++ commits begun) image ⊎ LacksLast publisher es begun image
        → StandInStep publisher user us image
    standing image begun left prefix (inl stands) = record { es = es ++ commits begun; stands = stands; partners = prefix_on begun left prefix }
    standing image begun left prefix (inr lacks) =
        let others : trace ≡ lacks.others ++ (commit lacks.last ∷ left)
        = prefix ∙ ap (λ (l : List Event). l ++ left) lacks.is ∙ append_assoc lacks.others (commit lacks.last ∷ []) left in
        record { es = es ++ commits lacks.others; stands = lacks.stands; partners = prefix_on lacks.others (commit lacks.last ∷ left) others }

    module _ (first : Files) (before : List Happening) where
      at_moment : (since : List Happening) → IsOnTrace first publisher es before trace since → (image : Files) → MayLeave first (since ++ before) image → StandInStep publisher user us image
      at_moment since on image there = standing image on.begun on.left on.prefix (on.has.images image there)

      throughout : (more : List Happening) → AtEach (IsOnTrace first publisher es before trace) more
          → Throughout (λ moment. (image : Files) → MayLeave first moment image → StandInStep publisher user us image) before more
      throughout [] on = at_moment [] on
      throughout (step ∷ more) on = (at_moment (step ∷ more) on.0, throughout more on.1)

  pub went_rests : (es : List Recorded) (before now : Seen) (trace : List Event) → ArePartners publisher user es us → Along (IsOn publisher user us) es (commits trace)
      → Went before now publisher es trace → RestsThroughout (StandInStep publisher user us) before now
  unfolding Went
  went_rests es before now trace partners along went =
      record { more = went.more; is = went.is; moments = throughout es partners trace along before.first before.happened went.more went.moments }
