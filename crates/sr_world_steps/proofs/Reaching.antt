-- How far whole windows lead.
use Rattle.std.proofs.Common.{◌≡◌, ◌↔◌, ℕ, zero, suc, ◌+◌, ◌<◌, ◌≤◌, ◌⊎◌, Bool, true, false, cond, List, [], ◌∷◌, ◌++◌, length, get_or, Contains, IsTrue, inl, inr, refl, sym, ap, subst, ◌∙◌, append_assoc, append-nil, arith}
use Rattle.std.specs.Prelude.{◌==◌, ◌||◌}
use Rattle.std.specs.List.{AllByRecursion}
use Rattle.std.proofs.lemmas.List.{length-append}
use Rattle.sr_book.specs.Entries.{Name}
use Rattle.sr_msgform.specs.declared.message.Message.{Message}
use Rattle.sr_world_steps.specs.Inner.Leading.{has, IsNext, missing, ReachesOn, StepsOn}

-- ---- offsets among others

or_true : (a b : Bool) → b ≡ true → (a || b) ≡ true
or_true true b e = refl
or_true false b e = e

or_left : (a b : Bool) → a ≡ true → (a || b) ≡ true
or_left true b e = refl
or_left false b e = absurd (cc)

has_by : (b p q : Bool) → (p ≡ true → q ≡ true) → (b || p) ≡ true → (b || q) ≡ true
has_by true p q h e = refl
has_by false p q h e = h e

pub has_more : (places more : List ℕ) (u : ℕ) → has places u ≡ true → has (places ++ more) u ≡ true
has_more [] more u e = absurd (cc)
has_more (x ∷ places) more u e = has_by (x == u) (has places u) (has (places ++ more) u) (has_more places more u) e

pub has_last : (places : List ℕ) (u : ℕ) → has (places ++ u ∷ []) u ≡ true
has_last [] u = or_left (u == u) false (grind arith)
has_last (x ∷ places) u = or_true (x == u) (has (places ++ u ∷ []) u) (has_last places u)

-- one that is there stands at a place
place_by : (x u : ℕ) (places : List ℕ) (b : Bool) → (x == u) ≡ b → (has places u ≡ true → (k : ℕ) × (k < length places) × (get_or places k 0 ≡ u))
    → (b || has places u) ≡ true → (k : ℕ) × (k < length (x ∷ places)) × (get_or (x ∷ places) k 0 ≡ u)
place_by x u places true t rest e = (0, omega arith, grind (arith, t))
place_by x u places false t rest e = let more = rest e in (suc more.0, omega (arith, more.1), more.2)

pub place_in : (places : List ℕ) (u : ℕ) → has places u ≡ true → (k : ℕ) × (k < length places) × (get_or places k 0 ≡ u)
place_in [] u e = absurd (cc)
place_in (x ∷ places) u e = place_by x u places (x == u) refl (place_in places u) e

-- ---- how many are missing

missing_by : (a b : Bool) (k n : ℕ) → (a ≡ true → b ≡ true) → k ≤ n → cond b 0 1 + k ≤ cond a 0 1 + n
missing_by true true k n h le = omega (arith, le)
missing_by true false k n h le = let never : false ≡ true = h refl in absurd (cc)
missing_by false true k n h le = omega (arith, le)
missing_by false false k n h le = omega (arith, le)

missing_falls : (messages : List Message) (places : List ℕ) (u : ℕ) → missing messages (places ++ u ∷ []) ≤ missing messages places
missing_falls [] places u = omega arith
missing_falls (m ∷ messages) places u =
    missing_by (has places m.upto.0) (has (places ++ u ∷ []) m.upto.0) (missing messages (places ++ u ∷ [])) (missing messages places)
    (has_more places (u ∷ []) m.upto.0) (missing_falls messages places u)

one_by : (a b : Bool) (k n : ℕ) → a ≡ false → b ≡ true → k ≤ n → cond b 0 1 + k + 1 ≤ cond a 0 1 + n
one_by true b k n never surely le = absurd (cc)
one_by false false k n never surely le = absurd (cc)
one_by false true k n never surely le = omega (arith, le)

rest_by : (a b : Bool) (k n : ℕ) → (a ≡ true → b ≡ true) → k + 1 ≤ n → cond b 0 1 + k + 1 ≤ cond a 0 1 + n
rest_by true true k n h le = omega (arith, le)
rest_by true false k n h le = let never : false ≡ true = h refl in absurd (cc)
rest_by false true k n h le = omega (arith, le)
rest_by false false k n h le = omega (arith, le)

missing_one : (messages : List Message) (places : List ℕ) (k : ℕ) (m : Message) → k < length messages → get_or messages k m ≡ m → has places m.upto.0 ≡ false
    → missing messages (places ++ m.upto.0 ∷ []) + 1 ≤ missing messages places
missing_one [] places k m within is never = absurd (omega (arith, within))
missing_one (x ∷ messages) places zero m within is never =
    one_by (has places x.upto.0) (has (places ++ m.upto.0 ∷ []) x.upto.0) (missing messages (places ++ m.upto.0 ∷ [])) (missing messages places)
    (ap (λ (y : Message). has places y.upto.0) is ∙ never)
    (ap (λ (y : Message). has (places ++ m.upto.0 ∷ []) y.upto.0) is ∙ has_last places m.upto.0)
    (missing_falls messages places m.upto.0)
missing_one (x ∷ messages) places (suc k) m within is never =
    rest_by (has places x.upto.0) (has (places ++ m.upto.0 ∷ []) x.upto.0) (missing messages (places ++ m.upto.0 ∷ [])) (missing messages places)
    (has_more places (m.upto.0 ∷ []) x.upto.0) (missing_one messages places k m (omega (arith, within)) is never)

-- ---- going through the messages

pub contains_cases : (x : Message) (rest : List Message) (m : Message) → Contains (x ∷ rest) m → (x ≡ m) ⊎ Contains rest m
contains_cases x rest m c = by c.0 c.1 c.2
  where
    by : (k : ℕ) → k < length (x ∷ rest) → get_or (x ∷ rest) k m ≡ m → (x ≡ m) ⊎ Contains rest m
    by zero within is = inl is
    by (suc k) within is = inr (k, omega (arith, within), is)

pub none_contained : (m : Message) → Contains [] m → ⊥
none_contained m c = absurd (omega (arith, c.1))

module _ (messages : List Message) (sender receiver : Name) (place : ℕ) (before : List ℕ) where
  pub reach_begun : ReachesOn messages sender receiver place before before messages
  reach_begun = record {
    more = [];
    is = sym (append-nil before);
    each = tt;
    all = λ m c n. inr c;
    fewer = omega arith;
  }

  -- a message that is never next one, or whose end is there
  pub reach_passed : (now : List ℕ) (left rest : List Message) (m : Message) → ReachesOn messages sender receiver place before now left → left ≡ m ∷ rest
      → (IsNext messages sender receiver place m → has now m.upto.0 ≡ true) → ReachesOn messages sender receiver place before now rest
  reach_passed now left rest m r split there = record {
    more = r.more;
    is = r.is;
    each = r.each;
    all = λ x c n. elim (r.all x c n) [
      | inl surely ↦ inl surely
      | inr in_left ↦ elim (contains_cases m rest x (subst (λ (l : List Message). Contains l x) split in_left)) [
        | inl same ↦ inl (subst (λ (y : Message). has now y.upto.0 ≡ true) same (there (subst (IsNext messages sender receiver place) (sym same) n)))
        | inr in_rest ↦ inr in_rest
      ]
    ];
    fewer = r.fewer;
  }

  each_more : (more : List ℕ) (u : ℕ) (P : ℕ → Type 0) → AllByRecursion P more → P u → AllByRecursion P (more ++ u ∷ [])
  each_more [] u P each one = (one, tt)
  each_more (x ∷ more) u P each one = (each.0, each_more more u P each.1 one)

  -- and one whose end is added
  pub reach_added : (now new : List ℕ) (left rest : List Message) (m : Message) → ReachesOn messages sender receiver place before now left → left ≡ m ∷ rest
      → Contains messages m → IsNext messages sender receiver place m → has now m.upto.0 ≡ false → new ≡ now ++ m.upto.0 ∷ []
      → ReachesOn messages sender receiver place before new rest
  reach_added now new left rest m r split among next never is =
      let one : missing messages new + 1 ≤ missing messages now =
      subst (λ (l : List ℕ). missing messages l + 1 ≤ missing messages now) (sym is) (missing_one messages now among.0 m among.1 among.2 never) in
      let long : length (r.more ++ m.upto.0 ∷ []) ≡ length r.more + 1 = length-append r.more (m.upto.0 ∷ []) in
      let was : missing messages now + length r.more ≤ missing messages before = r.fewer in
      record {
        more = r.more ++ m.upto.0 ∷ [];
        is = is ∙ ap (λ (l : List ℕ). l ++ m.upto.0 ∷ []) r.is ∙ append_assoc before r.more (m.upto.0 ∷ []);
        each = each_more r.more m.upto.0 (λ u. (x : Message) × Contains messages x × IsNext messages sender receiver place x × (x.upto.0 ≡ u)) r.each (m, among, next, refl);
        all = λ x c n. elim (r.all x c n) [
          | inl surely ↦ inl (subst (λ (l : List ℕ). has l x.upto.0 ≡ true) (sym is) (has_more now (m.upto.0 ∷ []) x.upto.0 surely))
          | inr in_left ↦ elim (contains_cases m rest x (subst (λ (l : List Message). Contains l x) split in_left)) [
            | inl same ↦ inl (subst (λ (l : List ℕ). has l x.upto.0 ≡ true) (sym is)
                (subst (λ (y : Message). has (now ++ m.upto.0 ∷ []) y.upto.0 ≡ true) same (has_last now m.upto.0)))
            | inr in_rest ↦ inr in_rest
          ]
        ];
        fewer = omega (arith, one, long, was);
      }

-- by one message, in either case
pub reach_step : (messages : List Message) (sender receiver : Name) (place : ℕ) (before now new : List ℕ) (left rest : List Message) (m : Message)
    → ReachesOn messages sender receiver place before now left → left ≡ m ∷ rest → Contains messages m → StepsOn messages sender receiver place m now new
    → ReachesOn messages sender receiver place before new rest
reach_step messages sender receiver place before now new left rest m r split among steps = elim steps [
  | inl added ↦ reach_added messages sender receiver place before now new left rest m r split among added.0 added.1 added.2
  | inr same ↦ subst (λ (l : List ℕ). ReachesOn messages sender receiver place before l rest) (sym same.0)
      (reach_passed messages sender receiver place before now left rest m r split same.1)
]

-- what is added of one message
not_where : (b : Bool) (P : Type 0) → (IsTrue b ↔ P) → b ≡ false → ¬ P
not_where b P h f p = let surely : b ≡ true = h.1 p in absurd (cc)

pub steps_over : (messages : List Message) (sender receiver : Name) (place : ℕ) (m : Message) (before now : List ℕ) (next : Bool)
    → (IsTrue next ↔ IsNext messages sender receiver place m) → next ≡ false → now ≡ before → StepsOn messages sender receiver place m before now
steps_over messages sender receiver place m before now next h f same =
    inr (same, λ n. absurd (not_where next (IsNext messages sender receiver place m) h f n))

pub steps_past : (messages : List Message) (sender receiver : Name) (place : ℕ) (m : Message) (before now : List ℕ) (there : Bool)
    → there ≡ has before m.upto.0 → there ≡ true → now ≡ before → StepsOn messages sender receiver place m before now
steps_past messages sender receiver place m before now there is t same = inr (same, λ _. sym is ∙ t)

pub steps_to : (messages : List Message) (sender receiver : Name) (place : ℕ) (m : Message) (before now : List ℕ) (next there : Bool)
    → (IsTrue next ↔ IsNext messages sender receiver place m) → next ≡ true → there ≡ has before m.upto.0 → there ≡ false → now ≡ before ++ m.upto.0 ∷ []
    → StepsOn messages sender receiver place m before now
steps_to messages sender receiver place m before now next there h t is f added = inl (h.0 t, sym is ∙ f, added)
