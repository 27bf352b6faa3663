-- Lines, and the last of them.
use Rattle.std.proofs.Common.{◌≡◌, ◌<◌, ◌⊎◌, ◌∙◌, inl, inr, ℕ, Bool, true, false, List, [], ◌∷◌, ◌++◌, length, length-append, if◌then◌else◌, arith, refl, sym, ap, append_assoc}
use Rattle.std.proofs.lemmas.Bool.{false≢true}
use Rattle.std.proofs.lemmas.Bool.Decides.{Decides-eqb}
use Rattle.dbremote_demo.specs.Runs.{IsPrefix, IsLast, ends_line, is_one_line}

-- what is left of lines: before it is nothing, or a line feed
pub record IsRest (lines left : List ℕ) : Type 0 where
  pub before : List ℕ
  pub parts : lines ≡ before ++ left
  pub begins : (before ≡ []) ⊎ ((more : List ℕ) × (before ≡ more ++ 10 ∷ []))

pub all_left : (lines : List ℕ) → IsRest lines lines
all_left lines = record { before = []; parts = refl; begins = inl refl }

pub line_less : (lines left rest : List ℕ) → IsRest lines left → IsPrefix left rest → IsRest lines rest
line_less lines left rest was prefix = record {
  before = was.before ++ (prefix.first ++ 10 ∷ []);
  parts = was.parts ∙ (ap (λ (s : List ℕ). was.before ++ s) prefix.parts ∙ sym (append_assoc was.before (prefix.first ++ 10 ∷ []) rest));
  begins = inr (was.before ++ prefix.first, sym (append_assoc was.before prefix.first (10 ∷ [])));
}

pub is_last : (lines left : List ℕ) → IsRest lines left → is_one_line left ≡ true → IsLast lines left
is_last lines left was one = record { before = was.before; parts = was.parts; one = one; begins = was.begins }

pub prefix_shorter : (lines rest : List ℕ) → IsPrefix lines rest → length rest < length lines
prefix_shorter lines rest prefix =
    let parts : length lines ≡ length ((prefix.first ++ 10 ∷ []) ++ rest) = ap length prefix.parts in
    omega (arith, parts, length-append (prefix.first ++ 10 ∷ []) rest, length-append prefix.first (10 ∷ []))

-- bytes of lines were seen, and no line feed that something follows
pub record IsWithin (lines left : List ℕ) : Type 0 where
  pub seen : List ℕ
  pub parts : lines ≡ seen ++ left
  pub one : is_one_line lines ≡ is_one_line left

pub none_seen : (lines : List ℕ) → IsWithin lines lines
none_seen lines = record { seen = []; parts = refl; one = refl }

not_end : (byte : ℕ) (rest : List ℕ) → ends_line byte rest ≡ false → is_one_line (byte ∷ rest) ≡ is_one_line rest
not_end byte rest not = ap (λ (b : Bool). if b then false else is_one_line rest) not

pub byte_less : (lines left rest : List ℕ) (byte : ℕ) → IsWithin lines left → left ≡ byte ∷ rest → ends_line byte rest ≡ false → IsWithin lines rest
byte_less lines left rest byte was is not = record {
  seen = was.seen ++ byte ∷ [];
  parts = was.parts ∙ (ap (λ (s : List ℕ). was.seen ++ s) is ∙ sym (append_assoc was.seen (byte ∷ []) rest));
  one = was.one ∙ (ap is_one_line is ∙ not_end byte rest not);
}

is_feed : (byte : ℕ) (rest : List ℕ) → ends_line byte rest ≡ true → byte ≡ 10
is_feed byte [] is = absurd (false≢true is)
is_feed byte (next ∷ rest) is = (Decides-eqb byte 10).0 is

pub prefix_at : (lines left rest : List ℕ) (byte : ℕ) → IsWithin lines left → left ≡ byte ∷ rest → ends_line byte rest ≡ true → IsPrefix lines rest
prefix_at lines left rest byte was is ends = record {
  first = was.seen;
  parts = was.parts
      ∙ (ap (λ (s : List ℕ). was.seen ++ s) (is ∙ ap (λ (b : ℕ). b ∷ rest) (is_feed byte rest ends)) ∙ sym (append_assoc was.seen (10 ∷ []) rest));
}

pub all_one : (lines left : List ℕ) → IsWithin lines left → left ≡ [] → is_one_line lines ≡ true
all_one lines left was none = was.one ∙ ap is_one_line none
