-- Bytes and the digest behind them.
use Rattle.std.proofs.Common.{◌≡◌, ℕ, ◌+◌, ◌-◌, ◌≤◌, List, ◌++◌, length, take, drop, Option, Some, None, refl, sym, ap, ◌∙◌, arith}
use Rattle.std.specs.Prelude.{IfNone}
use Rattle.std.proofs.lemmas.List.{take_at, drop_at, length-append}
use Rattle.sha2.specs.Sha256.{sha256}
use Rattle.sha2.proofs.Facts256.{length-sha256}
use Rattle.sr_msgform.specs.Messages.{sealed}

pub length-sealed : (content : List ℕ) → length (sealed content) ≡ length content + 32
unfolding sealed
length-sealed content = omega (arith, length-append content (sha256 content), length-sha256 content)

-- a file taken apart
pub record AreParts (bytes content : List ℕ) : Type 0 where
  pub long : 32 ≤ length bytes
  pub prefix : take (length bytes - 32) bytes ≡ content
  pub back : drop (length bytes - 32) bytes ≡ sha256 content

pub sealed_parts : (bytes content : List ℕ) → bytes ≡ sealed content → AreParts bytes content
unfolding sealed
sealed_parts bytes content e =
    let long : length bytes ≡ length content + 32 = ap length e ∙ length-sealed content in
    let at : length bytes - 32 ≡ length content = omega arith in
    record {
      long = omega arith;
      prefix = rw (at, e) (take_at content (sha256 content) (length content) refl);
      back = rw (at, e) (drop_at content (sha256 content) (length content) refl);
    }

pub sealed_same : (a b : List ℕ) → sealed a ≡ sealed b → a ≡ b
sealed_same a b e =
    let p = sealed_parts (sealed b) a (sym e) in
    let q = sealed_parts (sealed b) b refl in
    sym p.prefix ∙ q.prefix

-- what holds of nothing, in other words
pub none_too : {A : Type 0} {P Q : Type 0} (o : Option A) → (P → Q) → IfNone o P → IfNone o Q
none_too None f p = f p
none_too (Some x) f p = tt
