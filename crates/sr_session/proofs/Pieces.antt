-- Bytes that go out in pieces.
use Rattle.std.proofs.Common.{◌≡◌, ℕ, List, [], ◌++◌, take, drop, refl, sym, ap, ◌∙◌, append_assoc}
use Rattle.std.proofs.lemmas.List.{append-nil, take-append-drop}
use Rattle.sr_session.specs.Said.{Said, WrotePrefix}

pub said_more : (bytes rest old new newer : List ℕ) (n : ℕ) → Said bytes rest old new → newer ≡ new ++ take n rest → Said bytes (drop n rest) old newer
said_more bytes rest old new newer n said is = record {
  written = said.written ++ take n rest;
  new_is = is ∙ ap (λ (t : List ℕ). t ++ take n rest) said.new_is ∙ append_assoc old said.written (take n rest);
  all = said.all ∙ ap (λ (t : List ℕ). said.written ++ t) (sym (take-append-drop n rest)) ∙ sym (append_assoc said.written (take n rest) (drop n rest));
}

pub said_none : (bytes old : List ℕ) → Said bytes bytes old old
said_none bytes old = record { written = []; new_is = sym (append-nil old); all = refl }

-- all of them
pub said_all : (bytes rest old new : List ℕ) → Said bytes rest old new → rest ≡ [] → new ≡ old ++ bytes
said_all bytes rest old new said none =
    said.new_is ∙ ap (λ (t : List ℕ). old ++ t) (sym (said.all ∙ ap (λ (t : List ℕ). said.written ++ t) none ∙ append-nil said.written))

-- a prefix of them
pub said_prefix : (bytes rest old new newer : List ℕ) → Said bytes rest old new → newer ≡ new → WrotePrefix bytes old newer
said_prefix bytes rest old new newer said same = record { written = said.written; prefix = (rest, said.all); new_is = same ∙ said.new_is }

pub ruleset written = (said_more, said_none, said_all, said_prefix)
