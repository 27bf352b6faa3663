-- What every crash leaves from one moment to another: in the end, and joined.
use Rattle.std.proofs.Common.{◌≡◌, List, [], ◌∷◌, ◌++◌, sym, ◌∙◌, ap, subst, append_assoc}
use Rattle.sr_site.specs.Files.{Files}
use Rattle.sr_site.specs.Happenings.{Happening, Throughout}
use Rattle.sr_site.specs.Images.{MayLeave, IsSettled, RestsThroughout}
use Rattle.sr_site.specs.Seen.{Seen}

throughout_last : (P : List Happening → Type 0) (before more : List Happening) → Throughout P before more → P (more ++ before)
throughout_last P before [] holds = holds
throughout_last P before (step ∷ more) holds = holds.0

pub rests_end : (P : Files → Type 0) (before now : Seen) → now.first ≡ before.first → RestsThroughout P before now → IsSettled P now
rests_end P before now same rests image there =
    throughout_last (λ moment. (image : Files) → MayLeave before.first moment image → P image) before.happened rests.more rests.moments image
    (subst (λ (h : List Happening). MayLeave before.first h image) rests.is (subst (λ (f : Files). MayLeave f now.happened image) same there))

throughout_on : (P : List Happening → Type 0) (before more later : List Happening) → Throughout P before more → Throughout P (more ++ before) later → Throughout P before (later ++ more)
throughout_on P before more [] one other = one
throughout_on P before more (step ∷ later) one other = (subst (λ (h : List Happening). P (step ∷ h)) (sym (append_assoc later more before)) other.0, throughout_on P before more later one other.1)

pub rests_on : (P : Files → Type 0) (before middle now : Seen) → middle.first ≡ before.first → RestsThroughout P before middle → RestsThroughout P middle now → RestsThroughout P before now
rests_on P before middle now same one other =
    let at : (Files → List Happening → Type 0) = λ f moment. (image : Files) → MayLeave f moment image → P image in
    let turned : Throughout (at before.first) middle.happened other.more = subst (λ (f : Files). Throughout (at f) middle.happened other.more) same other.moments in
    record {
      more = other.more ++ one.more;
      is = other.is ∙ ap (λ (h : List Happening). other.more ++ h) one.is ∙ sym (append_assoc other.more one.more before.happened);
      moments = throughout_on (at before.first) before.happened one.more other.more one.moments (subst (λ (h : List Happening). Throughout (at before.first) h other.more) one.is turned);
    }
