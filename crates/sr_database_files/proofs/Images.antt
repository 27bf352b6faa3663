-- Five files, of which one is replaced, and what a crash may leave of them file by file.
use Rattle.std.proofs.Common.{◌≡◌, ◌≢◌, ◌⊎◌, inl, inr, ℕ, true, false, List, [], ◌∷◌, length, refl, sym, ◌∙◌, ap, subst}
use Rattle.sr_site.specs.declared.file.File.{File}
use Rattle.sr_site.specs.declared.file.File.TheVariants.{Root, Log0, Log1, Snap0, Snap1}
use Rattle.sr_site.specs.Files.{Files, bytes_of, with_bytes, OthersStay, IsTorn, IsCutInPart}
use Rattle.sr_site.specs.Happenings.{Happening, attached, wrote, cut_to, synced, listed, fetched, sent, removed, handed_over}
use Rattle.sr_site.specs.Images.{MayLeave}

-- ---- one file replaced

pub same_or_not : (f g : File) → (f ≡ g) ⊎ (f ≢ g)
same_or_not Root Root = inl refl
same_or_not Root Log0 = inr (λ e. cc)
same_or_not Root Log1 = inr (λ e. cc)
same_or_not Root Snap0 = inr (λ e. cc)
same_or_not Root Snap1 = inr (λ e. cc)
same_or_not Log0 Root = inr (λ e. cc)
same_or_not Log0 Log0 = inl refl
same_or_not Log0 Log1 = inr (λ e. cc)
same_or_not Log0 Snap0 = inr (λ e. cc)
same_or_not Log0 Snap1 = inr (λ e. cc)
same_or_not Log1 Root = inr (λ e. cc)
same_or_not Log1 Log0 = inr (λ e. cc)
same_or_not Log1 Log1 = inl refl
same_or_not Log1 Snap0 = inr (λ e. cc)
same_or_not Log1 Snap1 = inr (λ e. cc)
same_or_not Snap0 Root = inr (λ e. cc)
same_or_not Snap0 Log0 = inr (λ e. cc)
same_or_not Snap0 Log1 = inr (λ e. cc)
same_or_not Snap0 Snap0 = inl refl
same_or_not Snap0 Snap1 = inr (λ e. cc)
same_or_not Snap1 Root = inr (λ e. cc)
same_or_not Snap1 Log0 = inr (λ e. cc)
same_or_not Snap1 Log1 = inr (λ e. cc)
same_or_not Snap1 Snap0 = inr (λ e. cc)
same_or_not Snap1 Snap1 = inl refl

pub its_bytes : (files : Files) (f : File) (bytes : List ℕ) → bytes_of (with_bytes files f bytes) f ≡ bytes
its_bytes files Root bytes = refl
its_bytes files Log0 bytes = refl
its_bytes files Log1 bytes = refl
its_bytes files Snap0 bytes = refl
its_bytes files Snap1 bytes = refl

pub as_it_is : (files : Files) (f : File) → files ≡ with_bytes files f (bytes_of files f)
as_it_is files Root = refl
as_it_is files Log0 = refl
as_it_is files Log1 = refl
as_it_is files Snap0 = refl
as_it_is files Snap1 = refl

pub replaced_again : (files : Files) (f : File) (bytes more : List ℕ) → with_bytes (with_bytes files f bytes) f more ≡ with_bytes files f more
replaced_again files Root bytes more = refl
replaced_again files Log0 bytes more = refl
replaced_again files Log1 bytes more = refl
replaced_again files Snap0 bytes more = refl
replaced_again files Snap1 bytes more = refl

pub other_bytes : (files : Files) (f g : File) (bytes : List ℕ) → f ≢ g → bytes_of (with_bytes files f bytes) g ≡ bytes_of files g
other_bytes files Root Root bytes n = absurd (n refl)
other_bytes files Root Log0 bytes n = refl
other_bytes files Root Log1 bytes n = refl
other_bytes files Root Snap0 bytes n = refl
other_bytes files Root Snap1 bytes n = refl
other_bytes files Log0 Root bytes n = refl
other_bytes files Log0 Log0 bytes n = absurd (n refl)
other_bytes files Log0 Log1 bytes n = refl
other_bytes files Log0 Snap0 bytes n = refl
other_bytes files Log0 Snap1 bytes n = refl
other_bytes files Log1 Root bytes n = refl
other_bytes files Log1 Log0 bytes n = refl
other_bytes files Log1 Log1 bytes n = absurd (n refl)
other_bytes files Log1 Snap0 bytes n = refl
other_bytes files Log1 Snap1 bytes n = refl
other_bytes files Snap0 Root bytes n = refl
other_bytes files Snap0 Log0 bytes n = refl
other_bytes files Snap0 Log1 bytes n = refl
other_bytes files Snap0 Snap0 bytes n = absurd (n refl)
other_bytes files Snap0 Snap1 bytes n = refl
other_bytes files Snap1 Root bytes n = refl
other_bytes files Snap1 Log0 bytes n = refl
other_bytes files Snap1 Log1 bytes n = refl
other_bytes files Snap1 Snap0 bytes n = refl
other_bytes files Snap1 Snap1 bytes n = absurd (n refl)

pub either_order : (files : Files) (f g : File) (bytes more : List ℕ) → f ≢ g → with_bytes (with_bytes files f bytes) g more ≡ with_bytes (with_bytes files g more) f bytes
either_order files Root Root bytes more n = absurd (n refl)
either_order files Root Log0 bytes more n = refl
either_order files Root Log1 bytes more n = refl
either_order files Root Snap0 bytes more n = refl
either_order files Root Snap1 bytes more n = refl
either_order files Log0 Root bytes more n = refl
either_order files Log0 Log0 bytes more n = absurd (n refl)
either_order files Log0 Log1 bytes more n = refl
either_order files Log0 Snap0 bytes more n = refl
either_order files Log0 Snap1 bytes more n = refl
either_order files Log1 Root bytes more n = refl
either_order files Log1 Log0 bytes more n = refl
either_order files Log1 Log1 bytes more n = absurd (n refl)
either_order files Log1 Snap0 bytes more n = refl
either_order files Log1 Snap1 bytes more n = refl
either_order files Snap0 Root bytes more n = refl
either_order files Snap0 Log0 bytes more n = refl
either_order files Snap0 Log1 bytes more n = refl
either_order files Snap0 Snap0 bytes more n = absurd (n refl)
either_order files Snap0 Snap1 bytes more n = refl
either_order files Snap1 Root bytes more n = refl
either_order files Snap1 Log0 bytes more n = refl
either_order files Snap1 Log1 bytes more n = refl
either_order files Snap1 Snap0 bytes more n = refl
either_order files Snap1 Snap1 bytes more n = absurd (n refl)

-- ---- files that stay

pub stay_on : (f : File) (a b c : Files) → OthersStay f a b → OthersStay f b c → OthersStay f a c
stay_on f a b c one other =
    other ∙ ap (λ (x : Files). with_bytes x f (bytes_of c f)) one ∙ replaced_again a f (bytes_of b f) (bytes_of c f)

pub stays : (f g : File) (a b : Files) → f ≢ g → OthersStay f a b → bytes_of b g ≡ bytes_of a g
stays f g a b n others = ap (λ (x : Files). bytes_of x g) others ∙ other_bytes a f g (bytes_of b f) n

-- ---- what a crash may leave is any of each file

-- one file is that of another image
module _ (f : File) where
  abbrev mix : Files → Files → Files
  mix a b = with_bytes a f (bytes_of b f)

  -- where the file is the one that changed, it is as in the other image
  mix_same : (oa ob a b : Files) → OthersStay f oa a → OthersStay f (mix oa ob) (mix a b)
  mix_same oa ob a b others =
      ap (λ (x : Files). with_bytes x f (bytes_of b f)) others
      ∙ replaced_again oa f (bytes_of a f) (bytes_of b f)
      ∙ sym (replaced_again oa f (bytes_of ob f) (bytes_of b f))
      ∙ ap (λ (l : List ℕ). with_bytes (mix oa ob) f l) (sym (its_bytes a f (bytes_of b f)))

  -- where it is another one, both stay
  mix_other : (g : File) (oa ob a b : Files) → f ≢ g → OthersStay g oa a → OthersStay g ob b → OthersStay g (mix oa ob) (mix a b)
  mix_other g oa ob a b n others theirs =
      let back : g ≢ f = λ e. n (sym e) in
      let same : bytes_of b f ≡ bytes_of ob f = stays g f ob b back theirs in
      ap (λ (l : List ℕ). with_bytes a f l) same
      ∙ ap (λ (x : Files). with_bytes x f (bytes_of ob f)) others
      ∙ either_order oa g f (bytes_of a g) (bytes_of ob f) back
      ∙ ap (λ (l : List ℕ). with_bytes (mix oa ob) g l) (sym (other_bytes a f g (bytes_of b f) n))

  -- a step of a file that leaves it so
  module _ (g : File) (Step : List ℕ → List ℕ → Type 0) where
    abbrev Stepped : Files → Files → Type 0
    Stepped old new = OthersStay g old new × Step (bytes_of old g) (bytes_of new g)

    mix_step : (oa ob a b : Files) → Stepped oa a → Stepped ob b → Stepped (mix oa ob) (mix a b)
    mix_step oa ob a b one other = elim (same_or_not f g) [
      | inl is ↦ at_it is
      | inr n ↦ (mix_other g oa ob a b n one.0 other.0, subst (λ (l : List ℕ). Step (bytes_of (mix oa ob) g) l) (sym (other_bytes a f g (bytes_of b f) n)) (subst (λ (l : List ℕ). Step l (bytes_of a g)) (sym (other_bytes oa f g (bytes_of ob f) n)) one.1))
    ]
      where
        at_it : f ≡ g → OthersStay g (mix oa ob) (mix a b) × Step (bytes_of (mix oa ob) g) (bytes_of (mix a b) g)
        at_it is =
            let stay : OthersStay f oa a = subst (λ (h : File). OthersStay h oa a) (sym is) one.0 in
            let step : Step (bytes_of ob f) (bytes_of b f) = subst (λ (h : File). Step (bytes_of ob h) (bytes_of b h)) (sym is) other.1 in (
              subst (λ (h : File). OthersStay h (mix oa ob) (mix a b)) is (mix_same oa ob a b stay),
              subst (λ (h : File). Step (bytes_of (mix oa ob) h) (bytes_of (mix a b) h)) is
                  (subst (λ (l : List ℕ). Step (bytes_of (mix oa ob) f) l) (sym (its_bytes a f (bytes_of b f))) (subst (λ (l : List ℕ). Step l (bytes_of b f)) (sym (its_bytes oa f (bytes_of ob f))) step)),
            )

  -- a file that was synced is as it was read
  mix_synced : (g : File) (oa ob a b : Files) (after : List ℕ) → a ≡ with_bytes oa g after → b ≡ with_bytes ob g after → mix a b ≡ with_bytes (mix oa ob) g after
  mix_synced g oa ob a b after is their = elim (same_or_not f g) [
    | inl e ↦ at_it e
    | inr n ↦
        let back : g ≢ f = λ e. n (sym e) in
        let same : bytes_of b f ≡ bytes_of ob f = ap (λ (x : Files). bytes_of x f) their ∙ other_bytes ob g f after back in
        ap (λ (l : List ℕ). with_bytes a f l) same ∙ ap (λ (x : Files). with_bytes x f (bytes_of ob f)) is ∙ either_order oa g f after (bytes_of ob f) back
  ]
    where
      at_it : f ≡ g → mix a b ≡ with_bytes (mix oa ob) g after
      at_it e =
          let mine : a ≡ with_bytes oa f after = subst (λ (h : File). a ≡ with_bytes oa h after) (sym e) is in
          let same : bytes_of b f ≡ after = subst (λ (h : File). bytes_of b h ≡ after) (sym e) (ap (λ (x : Files). bytes_of x g) their ∙ its_bytes ob g after) in
          subst (λ (h : File). mix a b ≡ with_bytes (mix oa ob) h after) e
          (ap (λ (l : List ℕ). with_bytes a f l) same ∙ ap (λ (x : Files). with_bytes x f after) mine ∙ replaced_again oa f after after ∙ sym (replaced_again oa f (bytes_of ob f) after))

  pub mixed : (first a b : Files) (happened : List Happening) → MayLeave first happened a → MayLeave first happened b → MayLeave first happened (with_bytes a f (bytes_of b f))
  mixed first a b [] one other = ap (λ (x : Files). with_bytes x f (bytes_of b f)) one ∙ ap (λ (x : Files). with_bytes first f (bytes_of x f)) other ∙ sym (as_it_is first f)
  mixed first a b (attached name folder done ∷ before) one other = mixed first a b before one other
  mixed first a b (wrote g place bytes done after ∷ before) (oa, ta, sa, pa) (ob, tb, sb, pb) =
      let step = mix_step g (IsTorn place (length bytes)) oa ob a b (sa, pa) (sb, pb) in
      (with_bytes oa f (bytes_of ob f), mixed first oa ob before ta tb, step.0, step.1)
  mixed first a b (cut_to g to done after ∷ before) (oa, ta, sa, pa) (ob, tb, sb, pb) =
      let step = mix_step g (IsCutInPart to) oa ob a b (sa, pa) (sb, pb) in
      (with_bytes oa f (bytes_of ob f), mixed first oa ob before ta tb, step.0, step.1)
  mixed first a b (synced g true after ∷ before) (oa, ta, sa) (ob, tb, sb) = (with_bytes oa f (bytes_of ob f), mixed first oa ob before ta tb, mix_synced g oa ob a b after sa sb)
  mixed first a b (synced g false after ∷ before) one other = mixed first a b before one other
  mixed first a b (listed address folder listing ∷ before) one other = mixed first a b before one other
  mixed first a b (fetched address name limit found ∷ before) one other = mixed first a b before one other
  mixed first a b (sent address name bytes done ∷ before) one other = mixed first a b before one other
  mixed first a b (removed address name done ∷ before) one other = mixed first a b before one other
  mixed first a b (handed_over folders noted ∷ before) one other = mixed first a b before one other
