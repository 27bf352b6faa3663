-- Calls on one file leave the others in each image as they were in one before.
use Rattle.std.proofs.Common.{◌≡◌, Bool, true, false, List, [], ◌∷◌, ◌++◌, ℕ, refl, sym, ◌∙◌, ap, subst, inl, inr, append_assoc}
use Rattle.std.specs.List.{AllByRecursion}
use Rattle.sr_site.specs.Inner.Calls.{Call, write, cut, sync, IsCallOn}
use Rattle.sr_site.specs.Files.{Files, bytes_of, with_bytes, OthersStay}
use Rattle.sr_site.specs.Happenings.{Happening, Throughout}
use Rattle.sr_site.specs.Inner.Happenings.{happening, Made}
use Rattle.sr_site.specs.Images.{MayLeave, KeepsOthers, RestsThroughout}
use Rattle.sr_site.specs.Seen.{Seen}
use Rattle.sr_site.specs.declared.file.File.{File}
use Rattle.sr_site.specs.declared.file.File.TheVariants.{Root, Log0, Log1, Snap0, Snap1}
use Rattle.sr_site.proofs.Images.{bytes_of-with_bytes, with_same}

with_twice : (files : Files) (file : File) (x y : List ℕ) → with_bytes (with_bytes files file x) file y ≡ with_bytes files file y
with_twice files Root x y = refl
with_twice files Log0 x y = refl
with_twice files Log1 x y = refl
with_twice files Snap0 x y = refl
with_twice files Snap1 x y = refl

-- two changes of one file
pub others_on : (file : File) (a b c : Files) → OthersStay file a b → OthersStay file b c → OthersStay file a c
others_on file a b c first second =
    second ∙ ap (λ (files : Files). with_bytes files file (bytes_of c file)) first ∙ with_twice a file (bytes_of b file) (bytes_of c file)

-- other bytes in one file
pub others_but : (file : File) (old new : Files) (bytes : List ℕ) → new ≡ with_bytes old file bytes → OthersStay file old new
others_but file old new bytes is =
    is ∙ ap (λ (l : List ℕ). with_bytes old file l) (sym (ap (λ (files : Files). bytes_of files file) is ∙ bytes_of-with_bytes old file bytes))

-- it holds at one more moment, the oldest
longer : (P : List Happening → Type 0) (step : Happening) (moment more : List Happening) → Throughout P (step ∷ moment) more → P moment → Throughout P moment (more ++ step ∷ [])
longer P step moment [] holds here = (holds, here)
longer P step moment (new ∷ more) holds here =
    (subst (λ (l : List Happening). P (new ∷ l)) (sym (append_assoc more (step ∷ []) moment)) holds.0, longer P step moment more holds.1 here)

module _ (file : File) (before : Seen) where
  -- at every image of a moment
  abbrev at : List Happening → Type 0
  at moment = (image : Files) → MayLeave before.first moment image → KeepsOthers file before image

  begins : at before.happened
  begins image there = record { old = image; stood = there; others = with_same image file }

  after_change : (moment : List Happening) (other : File) (old image : Files) → other ≡ file → at moment → MayLeave before.first moment old → OthersStay other old image → KeepsOthers file before image
  after_change moment other old image is each there others =
      let kept = each old there in
      record {
        old = kept.old;
        stood = kept.stood;
        others = others_on file kept.old old image kept.others (subst (λ (f : File). OthersStay f old image) is others);
      }

  -- one more call on the file
  goes_on : (call : Call) (done : Bool) (after : List ℕ) (moment : List Happening) → IsCallOn file call → at moment → at (happening call done after ∷ moment)
  goes_on (write other place bytes) done after moment is each image (old, there, others, torn) = after_change moment other old image is each there others
  goes_on (cut other to) done after moment is each image (old, there, others, torn) = after_change moment other old image is each there others
  goes_on (sync other) true after moment is each image (old, there, same) = after_change moment other old image is each there (others_but other old image after same)
  goes_on (sync other) false after moment is each image there = each image there

  abbrev Lasts : List Happening → List Happening → Type 0
  Lasts moment now = (more : List Happening) × (now ≡ more ++ moment) × Throughout at moment more

  lasts : (calls : List Call) (moment now : List Happening) (done : Bool) → AllByRecursion (IsCallOn file) calls → at moment → Made calls moment now done → Lasts moment now
  lasts [] moment now done on here made = ([], made.0, here)
  lasts (call ∷ calls) moment now done on here (after, inl stopped) = (happening call false after ∷ [], stopped.0, (goes_on call false after moment on.0 here, here))
  lasts (call ∷ calls) moment now done on here (after, inr made) =
      let step = happening call true after in
      let rest = lasts calls (step ∷ moment) now done on.1 (goes_on call true after moment on.0 here) made in
      (rest.0 ++ step ∷ [], rest.1 ∙ sym (append_assoc rest.0 (step ∷ []) moment), longer at step moment rest.0 rest.2 here)

  pub rests : (calls : List Call) (now : Seen) (done : Bool) → AllByRecursion (IsCallOn file) calls → Made calls before.happened now.happened done → RestsThroughout (KeepsOthers file before) before now
  rests calls now done on made =
      let r = lasts calls before.happened now.happened done on begins made in
      record { more = r.0; is = r.1; moments = r.2 }
