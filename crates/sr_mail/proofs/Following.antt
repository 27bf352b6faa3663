-- What a reach knows after one piece more, and after it goes on.
use Rattle.std.proofs.Common.{◌≡◌, ℕ, ◌+◌, ◌<◌, ◌≤◌, ◌⊎◌, inl, inr, Bool, true, false, ◌||◌, ◌==◌, Some, None, List, [], ◌∷◌, ◌++◌, IsTrue, get_or, refl, sym, ap, ◌∙◌, arith}
use Rattle.std.specs.BTreeMap.{get, is_at}
use Rattle.std.specs.Cmp.{unsigned_ties}
use Rattle.std.specs.List.{list_any, AllByRecursion}
use Rattle.std.specs.Ordering.{nat_cmp}
use Rattle.std.proofs.lemmas.Bool.{cases_lt, cases_eq, or_right, or_left}
use Rattle.std.proofs.lemmas.List.Folds.{list_any-append}
use Rattle.sr_mail.specs.declared.piece.Piece.{Piece}
use Rattle.sr_mail.specs.declared.reach.Reach.{Reach}
use Rattle.sr_mail.specs.Seen.{covers, Cover}
use Rattle.sr_mail.specs.Inner.Tracking.{Waits, Follows, IsSettled, IsSame, NowWaits}
use Rattle.sr_mail.proofs.Covered.{covers-at, covers-here}
use Rattle.sr_mail_cut.proofs.Lists.{AllByRecursion-append, AllByRecursion-map}

-- a place stays covered, and a piece more covers its own
pub covered-more : (pieces : List Piece) (p : Piece) (place : ℕ) → IsTrue (list_any (covers place) pieces) → IsTrue (list_any (covers place) (pieces ++ p ∷ []))
covered-more pieces p place h = list_any-append (covers place) pieces (p ∷ []) ∙ or_left (list_any (covers place) pieces) (list_any (covers place) (p ∷ [])) h

pub covered-by : (pieces : List Piece) (p : Piece) (place : ℕ) → p.start ≤ place → place < p.start + p.length → IsTrue (list_any (covers place) (pieces ++ p ∷ []))
covered-by pieces p place le lt =
    list_any-append (covers place) pieces (p ∷ [])
    ∙ or_right (list_any (covers place) pieces) (list_any (covers place) (p ∷ [])) (or_left (covers place p) false (covers-here place p le lt))

different : (k q : ℕ) → ¬ (q ≡ k) → (k == q) ≡ false
different k q h = grind arith

apart : (k q : ℕ) → ¬ (q ≡ k) → is_at (nat_cmp k) q ≡ false
apart k q h = sym (unsigned_ties k q) ∙ different k q h

pub elsewhere : (k q : ℕ) → ¬ (q ≡ k) → is_at (nat_cmp k) q ≡ false
elsewhere k q h = apart k q h

some_is : (x y : ℕ) → Some x ≡ Some y → x ≡ y
some_is x y e = cc

-- a piece that ends in what has come
pub follows_within : (r : Reach) (pieces : List Piece) (p : Piece) → p.start + p.length ≤ r.reached → Follows r pieces → Follows r (pieces ++ p ∷ [])
follows_within r pieces p le h = record {
  covered = λ place lt. covered-more pieces p place (h.covered place lt);
  waits = λ start end place found from to. covered-more pieces p place (h.waits start end place found from to);
  known = AllByRecursion-append (λ p. (p.start + p.length ≤ r.reached) ⊎ Waits r p) pieces (p ∷ []) h.known (inl le, tt);
}

-- a piece that begins in what has come, and ends behind it
pub follows_on : (r after : Reach) (pieces : List Piece) (p : Piece) → p.start ≤ r.reached → r.reached < p.start + p.length → after.reached ≡ p.start + p.length → after.waiting ≡ r.waiting → Follows r pieces → Follows after (pieces ++ p ∷ [])
follows_on r after pieces p from to reached waiting h = record {
  covered = λ place lt. elim (cases_lt place r.reached) [
    | inl before ↦ covered-more pieces p place (h.covered place before)
    | inr behind ↦ covered-by pieces p place (omega (arith, from, behind)) (omega (arith, lt, reached))
  ];
  waits = λ start end place found first last. covered-more pieces p place (h.waits start end place (ap (λ m. get nat_cmp m start) (sym waiting) ∙ found) first last);
  known = AllByRecursion-append (λ q. (q.start + q.length ≤ after.reached) ⊎ Waits after q) pieces (p ∷ [])
      (AllByRecursion-map (λ q. (q.start + q.length ≤ r.reached) ⊎ Waits r q) (λ q. (q.start + q.length ≤ after.reached) ⊎ Waits after q) pieces
      (λ q k. elim k [ inl le ↦ inl (omega (arith, le, to, reached)) | inr w ↦ inr (w.0, ap (λ m. get nat_cmp m q.start) waiting ∙ w.1, w.2) ]) h.known)
      (inl (omega (arith, reached)), tt);
}

-- a piece that waits
pub follows_waiting : (r after : Reach) (pieces : List Piece) (p : Piece) → NowWaits r p.start (p.start + p.length) after → Follows r pieces → Follows after (pieces ++ p ∷ [])
follows_waiting r after pieces p now h = record {
  covered = λ place lt. covered-more pieces p place (h.covered place (omega (arith, lt, now.reached)));
  waits = λ start end place found from to. elim (cases_eq start p.start) [
    | inl same ↦
        let longest : end ≡ now.longest = some_is end now.longest (sym found ∙ ap (get nat_cmp after.waiting) same ∙ now.here) in
        elim now.known [
          | inl own ↦ covered-by pieces p place (omega (arith, from, same)) (omega (arith, to, longest, own))
          | inr old ↦ covered-more pieces p place (h.waits p.start now.longest place old (omega (arith, from, same)) (omega (arith, to, longest)))
        ]
    | inr other ↦ covered-more pieces p place (h.waits start end place (sym (now.others start other) ∙ found) from to)
  ];
  known = AllByRecursion-append (λ q. (q.start + q.length ≤ after.reached) ⊎ Waits after q) pieces (p ∷ [])
      (AllByRecursion-map (λ q. (q.start + q.length ≤ r.reached) ⊎ Waits r q) (λ q. (q.start + q.length ≤ after.reached) ⊎ Waits after q) pieces
      (λ q k. elim k [
        | inl le ↦ inl (omega (arith, le, now.reached))
        | inr w ↦ elim (cases_eq q.start p.start) [
          | inl same ↦
              let more : w.0 ≤ now.longest = now.longer w.0 (ap (get nat_cmp r.waiting) (sym same) ∙ w.1) in
              inr (now.longest, ap (get nat_cmp after.waiting) same ∙ now.here, omega (arith, w.2, more))
          | inr other ↦ inr (w.0, now.others q.start other ∙ w.1, w.2)
        ]
      ]) h.known)
      (inr (now.longest, now.here, now.enough), tt);
}

pub follows_waits : (r after : Reach) (pieces : List Piece) (p : Piece) (start size : ℕ) → p.start ≡ start → p.length ≡ size → NowWaits r start (start + size) after → Follows r pieces → Follows after (pieces ++ p ∷ [])
follows_waits r after pieces p start size s l now h =
    let own : NowWaits r p.start (p.start + p.length) after = rw (s, l) now in
    follows_waiting r after pieces p own h

pub settled_waiting : (r after : Reach) (start end : ℕ) → NowWaits r start end after → r.reached < start → IsSettled r → IsSettled after
settled_waiting r after start end now behind h = record {
  behind = λ first last found. elim (cases_eq first start) [
    | inl same ↦ omega (arith, same, behind, now.reached)
    | inr other ↦ omega (arith, h.behind first last (sym (now.others first other) ∙ found), now.reached)
  ];
}

-- the first fragment that waited, over which it goes on
pub follows_first : (r after : Reach) (pieces : List Piece) (start end : ℕ) → get nat_cmp r.waiting start ≡ Some end → start ≤ r.reached → get nat_cmp after.waiting start ≡ None →
    ((other : ℕ) → ¬ (other ≡ start) → get nat_cmp after.waiting other ≡ get nat_cmp r.waiting other) → r.reached ≤ after.reached → end ≤ after.reached → (after.reached ≡ r.reached) ⊎ (after.reached ≡ end) → Follows r pieces → Follows after pieces
follows_first r after pieces start end found within gone others on past is h = record {
  covered = λ place lt. elim (cases_lt place r.reached) [
    | inl before ↦ h.covered place before
    | inr behind ↦ elim is [
      | inl stays ↦ absurd (omega (arith, lt, stays, behind))
      | inr ends ↦ h.waits start end place found (omega (arith, within, behind)) (omega (arith, lt, ends))
    ]
  ];
  waits = λ first last place there from to. elim (cases_eq first start) [
    | inl same ↦ absurd (let none : None ≡ Some last = sym gone ∙ ap (get nat_cmp after.waiting) (sym same) ∙ there in cc)
    | inr other ↦ h.waits first last place (sym (others first other) ∙ there) from to
  ];
  known = AllByRecursion-map (λ q. (q.start + q.length ≤ r.reached) ⊎ Waits r q) (λ q. (q.start + q.length ≤ after.reached) ⊎ Waits after q) pieces
      (λ q k. elim k [
        | inl le ↦ inl (omega (arith, le, on))
        | inr w ↦ elim (cases_eq q.start start) [
          | inl same ↦
              let ends : w.0 ≡ end = some_is w.0 end (sym w.1 ∙ ap (get nat_cmp r.waiting) same ∙ found) in
              inl (omega (arith, w.2, ends, past))
          | inr other ↦ inr (w.0, others q.start other ∙ w.1, w.2)
        ]
      ]) h.known;
}

-- entries that begin alike
pub same_start : (entries : List (ℕ × ℕ)) (a b c d : ℕ) (r s : List (ℕ × ℕ)) → entries ≡ (a, b) ∷ r → entries ≡ (c, d) ∷ s → a ≡ c
same_start entries a b c d r s e f = ap (λ (x : List (ℕ × ℕ)). (get_or x 0 (0, 0)).0) (sym e ∙ f)

pub follows_same : (r after : Reach) (pieces : List Piece) → IsSame r after → Follows r pieces → Follows after pieces
follows_same r after pieces same h = record {
  covered = λ place lt. h.covered place (omega (arith, lt, same.reached));
  waits = λ start end place found from to. h.waits start end place (sym (same.waiting start) ∙ found) from to;
  known = AllByRecursion-map (λ q. (q.start + q.length ≤ r.reached) ⊎ Waits r q) (λ q. (q.start + q.length ≤ after.reached) ⊎ Waits after q) pieces
      (λ q k. elim k [ inl le ↦ inl (omega (arith, le, same.reached)) | inr w ↦ inr (w.0, same.waiting q.start ∙ w.1, w.2) ]) h.known;
}

pub settled_same : (r after : Reach) → IsSame r after → IsSettled r → IsSettled after
settled_same r after same h = record { behind = λ start end found. omega (arith, h.behind start end (sym (same.waiting start) ∙ found), same.reached) }

-- ---- what is reached is what the pieces cover

not_reached_case : (b : Bool) (r : Reach) (p : Piece) (pieces : List Piece) → IsSettled r → covers r.reached p ≡ b → (p.start + p.length ≤ r.reached) ⊎ Waits r p → (b || list_any (covers r.reached) pieces) ≡ true → (IsTrue (list_any (covers r.reached) pieces) → ⊥) → ⊥
not_reached_case true r p pieces settled e known h rest =
    let at = covers-at r.reached p e in
    elim known [ inl le ↦ omega (arith, at.1, le) | inr w ↦ omega (arith, settled.behind p.start w.0 w.1, at.0) ]
not_reached_case false r p pieces settled e known h rest = rest h

-- no piece has the reached place
not_reached : (r : Reach) (pieces : List Piece) → IsSettled r → AllByRecursion (λ q. (q.start + q.length ≤ r.reached) ⊎ Waits r q) pieces → IsTrue (list_any (covers r.reached) pieces) → ⊥
not_reached r [] settled known h = absurd cc
not_reached r (p ∷ pieces) settled known h = not_reached_case (covers r.reached p) r p pieces settled refl known.0 h (not_reached r pieces settled known.1)

pub covers_all : (r : Reach) (pieces : List Piece) (total : ℕ) → Follows r pieces → total ≤ r.reached → Cover pieces total
covers_all r pieces total h le = λ place lt. h.covered place (omega (arith, lt, le))

pub reaches_all : (r : Reach) (pieces : List Piece) (total : ℕ) → Follows r pieces → IsSettled r → Cover pieces total → total ≤ r.reached
reaches_all r pieces total h settled cover = elim (cases_lt r.reached total) [
  | inl short ↦ absurd (not_reached r pieces settled h.known (cover r.reached short))
  | inr enough ↦ enough
]
