-- What the writes of a commit leave of a file that goes on behind a prefix and a gate.
use Rattle.std.proofs.Common.{◌≡◌, ℕ, ◌+◌, ◌<◌, List, [], ◌∷◌, ◌++◌, length, get_or, take, drop, refl, sym, ◌∙◌, ap, subst, arith, append_assoc, length-append, take-append-drop, inl, inr, Result, Ok, Err}
use Rattle.std.specs.Prelude.{OnErr}
use Rattle.std.proofs.lemmas.List.{take_at, drop_at, drop_more}
use Rattle.sr_site.specs.declared.file.File.{File}
use Rattle.sr_site.specs.declared.file.File.TheVariants.{Root, Log0, Log1, Snap0, Snap1}
use Rattle.sr_site.specs.Files.{Files, overwritten, IsTorn, OthersStay}
use Rattle.sr_logfile.specs.Inner.Appends.{GoesOn, HasRecord, HasPart, LeavesPart, LeavesRecord}

-- no file differs
pub OthersStay-same : (file : File) (old new : Files) → new ≡ old → OthersStay file old new
OthersStay-same file old new is = subst (λ (files : Files). OthersStay file old files) (sym is) (same file)
  where
    same : (file : File) → OthersStay file old old
    same Root = refl
    same Log0 = refl
    same Log1 = refl
    same Snap0 = refl
    same Snap1 = refl

module _ (prefix : List ℕ) (gate : ℕ) (rest : List ℕ) where
  -- the front and the gate
  regroup : (tail : List ℕ) → prefix ++ gate ∷ tail ≡ (prefix ++ gate ∷ []) ++ tail
  regroup tail = sym (append_assoc prefix (gate ∷ []) tail)

  length-gated : length (prefix ++ gate ∷ []) ≡ length prefix + 1
  length-gated = length-append prefix (gate ∷ [])

  take-gate : take (length prefix + 1) (prefix ++ gate ∷ rest) ≡ prefix ++ gate ∷ []
  take-gate = ap (take (length prefix + 1)) (regroup rest) ∙ take_at (prefix ++ gate ∷ []) rest (length prefix + 1) length-gated

  drop-gate : drop (length prefix + 1) (prefix ++ gate ∷ rest) ≡ rest
  drop-gate = ap (drop (length prefix + 1)) (regroup rest) ∙ drop_at (prefix ++ gate ∷ []) rest (length prefix + 1) length-gated

  -- a record written behind the gate
  pub written_behind : (framed : List ℕ) → HasRecord prefix gate framed (overwritten (prefix ++ gate ∷ rest) (length prefix + 1) framed)
  written_behind framed =
      let behind = drop (length prefix + 1 + length framed) (prefix ++ gate ∷ rest) in
      record {
        rest = behind;
        bytes_are = ap (λ (l : List ℕ). l ++ framed ++ behind) take-gate ∙ append_assoc (prefix ++ gate ∷ []) framed behind ∙ append_assoc prefix (gate ∷ []) (framed ++ behind);
      }

  -- another byte in the gate's place
  pub written_gate : (byte : ℕ) → overwritten (prefix ++ gate ∷ rest) (length prefix) (byte ∷ []) ≡ prefix ++ byte ∷ rest
  written_gate byte =
      ap (λ (l : List ℕ). l ++ (byte ∷ []) ++ drop (length prefix + 1) (prefix ++ gate ∷ rest)) (take_at prefix (gate ∷ rest) (length prefix) refl)
      ∙ ap (λ (l : List ℕ). prefix ++ (byte ∷ []) ++ l) drop-gate
      ∙ append_assoc prefix (byte ∷ []) rest

  -- a write behind the gate that failed
  pub torn_behind : (count : ℕ) (new : List ℕ) → IsTorn (length prefix + 1) count (prefix ++ gate ∷ rest) new → GoesOn prefix gate new
  torn_behind count new torn =
      let behind = drop (length prefix + 1) new in
      record {
        rest = behind;
        bytes_are = sym (take-append-drop (length prefix + 1) new) ∙ ap (λ (l : List ℕ). l ++ behind) (torn.before ∙ take-gate) ∙ append_assoc prefix (gate ∷ []) behind;
      }

  -- a write of the gate that failed
  pub torn_gate : (new : List ℕ) → IsTorn (length prefix) 1 (prefix ++ gate ∷ rest) new → (byte : ℕ) × (new ≡ prefix ++ byte ∷ rest)
  torn_gate new torn =
      let long : length prefix < length new = omega (arith, torn.longer, length-append prefix (gate ∷ rest)) in
      let byte = get_or new (length prefix) 0 in (
        byte,
        sym (take-append-drop (length prefix) new)
            ∙ ap (λ (l : List ℕ). l ++ drop (length prefix) new) (torn.before ∙ take_at prefix (gate ∷ rest) (length prefix) refl)
            ∙ ap (λ (l : List ℕ). prefix ++ l) (drop_more new (length prefix) 0 long ∙ ap (λ (l : List ℕ). byte ∷ l) (torn.behind ∙ drop-gate)),
      )

-- what each of the four calls leaves, where the file goes on so
module _ (place : ℕ) (framed old : List ℕ) where
  module _ (prefix rest : List ℕ) (gate : ℕ) (is : old ≡ prefix ++ gate ∷ rest) (at : length prefix ≡ place) where
    after_torn : (new : List ℕ) → IsTorn (place + 1) (length framed) old new → HasPart prefix gate framed new
    after_torn new torn =
        let there : IsTorn (length prefix + 1) (length framed) (prefix ++ gate ∷ rest) new = subst (λ (l : List ℕ). IsTorn (length prefix + 1) (length framed) l new) is (subst (λ (n : ℕ). IsTorn (n + 1) (length framed) old new) (sym at) torn) in
        inl (torn_behind prefix gate rest (length framed) new there)

    after_written : (new : List ℕ) → new ≡ overwritten old (place + 1) framed → HasRecord prefix gate framed new
    after_written new e =
        let there : new ≡ overwritten (prefix ++ gate ∷ rest) (length prefix + 1) framed = e ∙ ap (λ (n : ℕ). overwritten old (n + 1) framed) (sym at) ∙ ap (λ (l : List ℕ). overwritten l (length prefix + 1) framed) is in
        subst (λ (l : List ℕ). HasRecord prefix gate framed l) (sym there) (written_behind prefix gate rest framed)

    after_gate_torn : (middle new : List ℕ) → middle ≡ overwritten old (place + 1) framed → IsTorn place 1 middle new → HasPart prefix gate framed new
    after_gate_torn middle new e torn =
        let has = after_written middle e in
        let there : IsTorn (length prefix) 1 (prefix ++ gate ∷ (framed ++ has.rest)) new = subst (λ (l : List ℕ). IsTorn (length prefix) 1 l new) has.bytes_are (subst (λ (n : ℕ). IsTorn n 1 middle new) (sym at) torn) in
        let left = torn_gate prefix gate (framed ++ has.rest) new there in
        inr (record { gate = left.0; holds = record { rest = has.rest; bytes_are = left.1 } })

    after_gate_written : (middle new : List ℕ) → middle ≡ overwritten old (place + 1) framed → new ≡ overwritten middle place (1 ∷ []) → HasRecord prefix 1 framed new
    after_gate_written middle new e e2 =
        let has = after_written middle e in
        record {
          rest = has.rest;
          bytes_are = e2 ∙ ap (λ (n : ℕ). overwritten middle n (1 ∷ [])) (sym at) ∙ ap (λ (l : List ℕ). overwritten l (length prefix) (1 ∷ [])) has.bytes_are ∙ written_gate prefix gate (framed ++ has.rest) 1;
        }

  pub nothing_put : LeavesPart place framed old old
  nothing_put = record { part = λ prefix rest gate is at. inl (record { rest = rest; bytes_are = is }) }

  pub first_torn : (new : List ℕ) → IsTorn (place + 1) (length framed) old new → LeavesPart place framed old new
  first_torn new torn = record { part = λ prefix rest gate is at. after_torn prefix rest gate is at new torn }

  pub first_written : (new : List ℕ) → new ≡ overwritten old (place + 1) framed → LeavesPart place framed old new
  first_written new e = record { part = λ prefix rest gate is at. inr (record { gate = gate; holds = after_written prefix rest gate is at new e }) }

  pub second_torn : (middle new : List ℕ) → middle ≡ overwritten old (place + 1) framed → IsTorn place 1 middle new → LeavesPart place framed old new
  second_torn middle new e torn = record { part = λ prefix rest gate is at. after_gate_torn prefix rest gate is at middle new e torn }

  pub second_written : (middle new : List ℕ) → middle ≡ overwritten old (place + 1) framed → new ≡ overwritten middle place (1 ∷ []) → LeavesRecord place framed old new
  second_written middle new e e2 = record { opened = λ prefix rest gate is at. after_gate_written prefix rest gate is at middle new e e2 }

  pub second_part : (middle new : List ℕ) → middle ≡ overwritten old (place + 1) framed → new ≡ overwritten middle place (1 ∷ []) → LeavesPart place framed old new
  second_part middle new e e2 = record { part = λ prefix rest gate is at. inr (record { gate = 1; holds = after_gate_written prefix rest gate is at middle new e e2 }) }

pub OnErr-always : {T E P : Type 0} (r : Result T E) → P → OnErr r P
OnErr-always (Ok x) p = tt
OnErr-always (Err e) p = p
