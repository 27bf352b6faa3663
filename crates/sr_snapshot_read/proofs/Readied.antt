-- A field that is read behind a look at its first bytes.
use Rattle.std.proofs.Common.{◌≡◌, ◌≤◌, ◌+◌, ℕ, List, [], ◌∷◌, ◌++◌, length, take, drop, refl, sym, ap, subst, ◌∙◌, length-drop, arith, inl, inr}
use Rattle.std.proofs.lemmas.List.{take-append-le}
use Rattle.std.specs.Int.{w32, from_be_bytes}
use Rattle.std.specs.Prelude.{IsTrue}
use Rattle.sr_site.specs.Causes.{Rose}
use Rattle.sr_site.specs.Files.{bytes_of}
use Rattle.sr_site.specs.Seen.{Seen}
use Rattle.sr_site.specs.declared.file.File.{File}
use Rattle.sr_snapshot.specs.declared.fault.SnapFault.{SnapFault}
use Rattle.sr_snapshot.specs.declared.fault.SnapFault.TheVariants.{Disk, Long, Damaged, Memory}
use Rattle.sr_snapshot_read.proofs.Windows.{read_on, same_bytes, then_told}
use Rattle.sr_snapshot_read.specs.Inner.Reading.{BreaksAt, HasEnough, HasTaken, IsOver, ReadAlone, TakeCause}
use Rattle.sr_snapshot_read.specs.Inner.Views.{View}

pub taken_readied : (file : File) (a : List ℕ) (before middle now : Seen) (v0 v1 v2 : View) → ReadAlone before middle → middle.disk_faults ≡ before.disk_faults → v1.place ≡ v0.place → HasTaken file a middle now v1 v2 → HasTaken file a before now v0 v2
taken_readied file a before middle now v0 v1 v2 read steady place taken = record {
  read = read_on before middle now read taken.read;
  steady = taken.steady ∙ steady;
  over = λ told. subst (λ (l : List ℕ). IsOver v2 l) (same_bytes file before middle read told) (taken.over (then_told before middle read told));
  parts = λ told.
      let same = same_bytes file before middle read told in
      ap (λ (n : ℕ). drop n (bytes_of before.files file)) (sym place) ∙ subst (λ (l : List ℕ). drop v1.place l ≡ a ++ drop v2.place l) same (taken.parts (then_told before middle read told));
}

pub cause_readied : (file : File) (breaks broken : List ℕ → ℕ → Type 0) (before middle now : Seen) (v0 v1 : View) (fault : SnapFault) → ReadAlone before middle → middle.disk_faults ≡ before.disk_faults → v1.place ≡ v0.place
    → (IsTrue before.observable → (left : ℕ) → breaks (drop v1.place (bytes_of before.files file)) left → broken (drop v1.place (bytes_of before.files file)) left) → TakeCause file breaks middle now v1 fault → TakeCause file broken before now v0 fault
cause_readied file breaks broken before middle now v0 v1 Disk read steady place step cause = (read_on before middle now read cause.0, subst (λ (n : ℕ). Rose n now.disk_faults) steady cause.1)
cause_readied file breaks broken before middle now v0 v1 (Long size limit) read steady place step cause = cause
cause_readied file breaks broken before middle now v0 v1 (Damaged at) read steady place step cause = (
  read_on before middle now read cause.0,
  cause.1 ∙ steady,
  λ told.
      let same = same_bytes file before middle read told in
      let found = subst (λ (l : List ℕ). BreaksAt breaks l v1.place at) same (cause.2 (then_told before middle read told)) in
      record { left = found.left; broken = subst (λ (n : ℕ). broken (drop n (bytes_of before.files file)) found.left) place (step told found.left found.broken); at_is = found.at_is },
)
cause_readied file breaks broken before middle now v0 v1 Memory read steady place step cause = (read_on before middle now read cause.0, cause.1 ∙ steady)

abbrev pub spelled_length : List ℕ → ℕ
spelled_length held = from_be_bytes w32 (take 4 held)

-- how many bytes are left, and what is held of them
module _ (view : View) (bytes : List ℕ) (over : IsOver view bytes) (left : ℕ) (left_is : view.place + left ≡ view.size) where
  pub left_length : length (drop view.place bytes) ≡ left
  left_length = omega (arith, left_is, over.size_is, length-drop view.place bytes)

  pub holds_some : (need : ℕ) → HasEnough view need → need ≤ length (drop view.place bytes) → need ≤ length view.held
  holds_some need (inl some) there = some
  holds_some need (inr all) there = omega (arith, all, left_is, left_length, there)

  -- a text of which its length tells how many bytes it has
  pub text_told : (need : ℕ) → HasEnough view 4 → (4 ≤ length view.held → 4 + spelled_length view.held ≤ left → 4 + spelled_length view.held ≤ need)
      → 4 ≤ length (drop view.place bytes) → 4 + spelled_length (drop view.place bytes) ≤ length (drop view.place bytes) → 4 + spelled_length (drop view.place bytes) ≤ need
  text_told need enough all four room =
      let held : 4 ≤ length view.held = holds_some 4 enough four in
      let same : spelled_length (drop view.place bytes) ≡ spelled_length view.held = ap (from_be_bytes w32) (ap (λ (l : List ℕ). take 4 l) over.parts ∙ take-append-le 4 view.held over.behind held) in
      omega (arith, same, all held (omega (arith, same, room, left_length)))

  pub value_told : (need : ℕ) → HasEnough view 9 → ((rest : List ℕ) → view.held ≡ 3 ∷ rest → 4 ≤ length rest → 5 + spelled_length rest ≤ left → 5 + spelled_length rest ≤ need)
      → (rest : List ℕ) → drop view.place bytes ≡ 3 ∷ rest → 4 ≤ length rest → 4 + spelled_length rest ≤ length rest → 5 + spelled_length rest ≤ need
  value_told need enough all rest is four room = by view.held refl
    where
      five : 5 ≤ length view.held
      five = elim enough [
        | inl some ↦ omega (arith, some)
        | inr whole ↦ omega (arith, whole, left_is, left_length, four, ap (λ (l : List ℕ). length l) is)
      ]

      by : (held : List ℕ) → view.held ≡ held → 5 + spelled_length rest ≤ need
      by [] none = absurd (omega (arith, five, ap (λ (l : List ℕ). length l) none))
      by (byte ∷ others) is_held =
          let parts : byte ∷ (others ++ over.behind) ≡ 3 ∷ rest = ap (λ (l : List ℕ). l ++ over.behind) (sym is_held) ∙ sym over.parts ∙ is in
          let three : byte ≡ 3 = cc in
          let later : others ++ over.behind ≡ rest = cc in
          let some : 4 ≤ length others = omega (arith, five, ap (λ (l : List ℕ). length l) is_held) in
          let same : spelled_length rest ≡ spelled_length others = ap (λ (l : List ℕ). spelled_length l) (sym later) ∙ ap (from_be_bytes w32) (take-append-le 4 others over.behind some) in
          omega (arith, same, all others (is_held ∙ ap (λ (b : ℕ). b ∷ others) three) some (omega (arith, same, room, left_length, ap (λ (l : List ℕ). length l) is)))
