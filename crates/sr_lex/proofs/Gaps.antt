-- White space and comments, skipped.
use Rattle.std.proofs.Common.{◌≡◌, ℕ, suc, ◌≤◌, Bool, true, false, not, ◌&&◌, ◌⊎◌, inl, inr, cond, List, [], ◌∷◌, ◌++◌, length, refl, ap, sym, ◌∙◌, subst, length-append, arith}
use Rattle.std.proofs.lemmas.Bool.{eqb-true, and_parts, not-true, cond-true}
use Rattle.sr_lex.specs.Tokens.{is_blank, is_feed, is_dash, is_line, begins, Skips}
use Rattle.sr_lex.specs.Tokens.Skips.{none, blank, comment}
use Rattle.sr_lex.specs.Inner.Reading.{after_gap, after_line}

-- where a line ends: at a line feed, or at the end
abbrev pub EndsLine : List ℕ → Type 0
EndsLine after = (begins is_feed after ≡ true) ⊎ (after ≡ [])

-- a line feed is white space, so a comment may be taken to end before it
after_line-end : (after : List ℕ) → EndsLine after → after_line after ≡ after_gap after
after_line-end [] h = refl
after_line-end (byte ∷ bytes) (inl e) = let h : byte ≡ 10 = eqb-true byte 10 e in rw h refl
after_line-end (byte ∷ bytes) (inr e) = absurd (cc)

-- inside a comment, the bytes before the line's end count for nothing
pub after_line-line : (line after : List ℕ) → is_line line ≡ true → EndsLine after → after_line (line ++ after) ≡ after_gap after
after_line-line [] after all end = after_line-end after end
after_line-line (byte ∷ line) after all end =
    let both = and_parts (not (is_feed byte)) (is_line line) all in
    let plain : is_feed byte ≡ false = not-true (is_feed byte) both.0 in
    rw plain (after_line-line line after both.1 end)

-- what is skipped changes nothing of what is behind it
pub after_gap-skips : {bytes rest : List ℕ} → Skips bytes rest → after_gap bytes ≡ after_gap rest
after_gap-skips none = refl
after_gap-skips (blank h s) = rw h (after_gap-skips s)
after_gap-skips {bytes} {rest} (comment line after e all end s) =
    subst (λ (b : List ℕ). after_gap b ≡ after_gap rest) (sym e) (after_line-line line after all end ∙ after_gap-skips s)

pub join : {a b c : List ℕ} → Skips a b → Skips b c → Skips a c
join none t = t
join (blank h s) t = blank h (join s t)
join (comment line after e all end s) t = comment line after e all end (join s t)

-- the rest of a comment, and what is behind it
record Lines (bytes rest : List ℕ) : Type 0 where
  line : List ℕ
  after : List ℕ
  is : bytes ≡ line ++ after
  all : is_line line ≡ true
  end : EndsLine after
  skips : Skips after rest

feed_is_blank : (byte : ℕ) → is_feed byte ≡ true → is_blank byte ≡ true
feed_is_blank byte e = let h : byte ≡ 10 = eqb-true byte 10 e in rw h refl

no_feed_dash : (after : List ℕ) → begins is_dash after ≡ true → EndsLine after → ⊥
no_feed_dash [] d e = cc
no_feed_dash (byte ∷ after) d (inl e) = let h : byte ≡ 10 = eqb-true byte 10 e in let k : byte ≡ 45 = eqb-true byte 45 d in omega arith
no_feed_dash (byte ∷ after) d (inr e) = cc

-- a comment whose second dash begins the bytes
comment_of : (byte : ℕ) (bytes line after rest : List ℕ) → byte ≡ 45 → begins is_dash bytes ≡ true → bytes ≡ line ++ after → is_line line ≡ true → EndsLine after → Skips after rest → Skips (byte ∷ bytes) rest
comment_of byte bytes [] after rest h d is all end s = absurd (no_feed_dash after (rw is at d) end)
comment_of byte bytes (first ∷ line) after rest h d is all end s =
    let both = and_parts (not (is_feed first)) (is_line line) all in
    let d' = rw is at d in
    let k : first ≡ 45 = eqb-true first 45 d' in
    let whole : byte ∷ bytes ≡ 45 ∷ 45 ∷ (line ++ after) = rw (h, is, k) refl in
    comment line after whole both.1 end s

gap_of : (byte : ℕ) (bytes : List ℕ) (x y : Bool) → is_blank byte ≡ x → (is_dash byte && begins is_dash bytes) ≡ y → Skips bytes (after_gap bytes) → Lines bytes (after_line bytes) →
    Skips (byte ∷ bytes) (cond x (after_gap bytes) (cond y (after_line bytes) (byte ∷ bytes)))
gap_of byte bytes true y e f s t = blank e s
gap_of byte bytes false false e f s t = none
gap_of byte bytes false true e f s t =
    let both = and_parts (is_dash byte) (begins is_dash bytes) f in
    comment_of byte bytes t.line t.after (after_line bytes) (eqb-true byte 45 both.0) both.1 t.is t.all t.end t.skips

line_of : (byte : ℕ) (bytes : List ℕ) (x : Bool) → is_feed byte ≡ x → Skips bytes (after_gap bytes) → Lines bytes (after_line bytes) → Lines (byte ∷ bytes) (cond x (after_gap bytes) (after_line bytes))
line_of byte bytes true e s t = record { line = []; after = byte ∷ bytes; is = refl; all = refl; end = inl e; skips = blank (feed_is_blank byte e) s }
line_of byte bytes false e s t = record { line = byte ∷ t.line; after = t.after; is = ap (λ b. byte ∷ b) t.is; all = rw e t.all; end = t.end; skips = t.skips }

mutual
  -- what is read as skipped is skipped
  pub skips_gap : (bytes : List ℕ) → Skips bytes (after_gap bytes)
  skips_gap [] = none
  skips_gap (byte ∷ bytes) = gap_of byte bytes (is_blank byte) (is_dash byte && begins is_dash bytes) refl refl (skips_gap bytes) (skips_line bytes)

  skips_line : (bytes : List ℕ) → Lines bytes (after_line bytes)
  skips_line [] = record { line = []; after = []; is = refl; all = refl; end = inr refl; skips = none }
  skips_line (byte ∷ bytes) = line_of byte bytes (is_feed byte) refl (skips_gap bytes) (skips_line bytes)

-- what is skipped is a prefix
pub skips-shorter : {bytes rest : List ℕ} → Skips bytes rest → length rest ≤ length bytes
skips-shorter none = omega arith
skips-shorter (blank {byte} {bytes} {rest} h s) = let r = skips-shorter s in omega arith
skips-shorter {bytes} {rest} (comment line after e all end s) =
    let r = skips-shorter s in
    let n : length bytes ≡ length (45 ∷ 45 ∷ (line ++ after)) = ap length e in
    omega (arith, length-append line after)

gap_le : (byte : ℕ) (bytes : List ℕ) (x y : Bool) → length (after_gap bytes) ≤ length bytes → length (after_line bytes) ≤ length bytes → length (cond x (after_gap bytes) (cond y (after_line bytes) (byte ∷ bytes))) ≤ suc (length bytes)
gap_le byte bytes true y g l = omega arith
gap_le byte bytes false true g l = omega arith
gap_le byte bytes false false g l = omega arith

line_le : (byte : ℕ) (bytes : List ℕ) (x : Bool) → length (after_gap bytes) ≤ length bytes → length (after_line bytes) ≤ length bytes → length (cond x (after_gap bytes) (after_line bytes)) ≤ suc (length bytes)
line_le byte bytes true g l = omega arith
line_le byte bytes false g l = omega arith

-- reading shortens
mutual
  pub after_gap-le : (bytes : List ℕ) → length (after_gap bytes) ≤ length bytes
  after_gap-le [] = omega arith
  after_gap-le (byte ∷ bytes) = gap_le byte bytes (is_blank byte) (is_dash byte && begins is_dash bytes) (after_gap-le bytes) (after_line-le bytes)

  pub after_line-le : (bytes : List ℕ) → length (after_line bytes) ≤ length bytes
  after_line-le [] = omega arith
  after_line-le (byte ∷ bytes) = line_le byte bytes (is_feed byte) (after_gap-le bytes) (after_line-le bytes)

-- bytes that begin with neither: nothing can be skipped
pub bare_skips : {bytes rest : List ℕ} → after_gap bytes ≡ bytes → Skips bytes rest → rest ≡ bytes
bare_skips bare none = refl
bare_skips bare (blank {byte} {bytes} {rest} h s) =
    let e : after_gap bytes ≡ byte ∷ bytes = sym (cond-true (is_blank byte) (after_gap bytes) _ h) ∙ bare in
    let n : length (after_gap bytes) ≡ suc (length bytes) = ap length e in
    absurd (omega (arith, after_gap-le bytes))
bare_skips {bytes} {rest} bare (comment line after e all end s) =
    let g : after_gap bytes ≡ after_gap rest = after_gap-skips (comment line after e all end s) in
    let n : length bytes ≡ length (after_gap rest) = ap length (sym bare ∙ g) in
    let m : length bytes ≡ length (45 ∷ 45 ∷ (line ++ after)) = ap length e in
    absurd (omega (arith, after_gap-le rest, skips-shorter s, length-append line after))
