-- Whole windows that follow one another.
use Rattle.std.proofs.Common.{◌≡◌, ◌↔◌, ℕ, zero, suc, ◌+◌, ◌-◌, ◌<◌, ◌≤◌, Bool, true, false, List, [], ◌∷◌, ◌++◌, length, get_or, Contains, IsTrue, inl, inr, refl, sym, ap, subst, ◌∙◌, arith}
use Rattle.std.specs.Prelude.{slice_index}
use Rattle.std.specs.List.{AllByRecursion}
use Rattle.std.proofs.lemmas.List.{length-append, get_or_append_left, get_or_at}
use Rattle.sr_book.specs.Entries.{Name}
use Rattle.sr_msgform.specs.declared.message.Message.{Message}
use Rattle.sr_world_model.specs.Steps.{Chain, HasAllFragments, HasByte}
use Rattle.sr_world_model.proofs.Offsets.{le_or_lt}
use Rattle.sr_world_steps.specs.Inner.Leading.{Covers, has, HasCover, IsNext, IsSameWindow, IsWhole, Leads, missing, ReachesOn}
use Rattle.sr_world_steps.proofs.Reaching.{contains_cases, has_last, has_more, none_contained, place_in}

-- ---- bodies

body_of : (n : ℕ) (P : ℕ → ℕ → Type 0) → ((k : ℕ) → k < n → (b : ℕ) × P k b) → (body : List ℕ) × (length body ≡ n) × ((k : ℕ) → k < n → P k (slice_index body k))
body_of zero P f = ([], refl, λ k lt. absurd (omega (arith, lt)))
body_of (suc n) P f =
    let less = body_of n P (λ k lt. f k (omega (arith, lt))) in
    let last = f n (omega arith) in
    let long : length (less.0 ++ last.0 ∷ []) ≡ length less.0 + 1 = length-append less.0 (last.0 ∷ []) in
    let size : length less.0 ≡ n = less.1 in (
      less.0 ++ last.0 ∷ [],
      omega (arith, long, size),
      λ k lt. elim (le_or_lt n k) [
        | inl le ↦
            let here : n ≡ k = omega (arith, le, lt) in
            let at : slice_index (less.0 ++ last.0 ∷ []) n ≡ last.0 = get_or_at less.0 last.0 [] 0 n size in
            subst (λ (j : ℕ). P j (slice_index (less.0 ++ last.0 ∷ []) j)) here (subst (P n) (sym at) last.1)
        | inr before ↦
            let at : slice_index (less.0 ++ last.0 ∷ []) k ≡ slice_index less.0 k = get_or_append_left less.0 (last.0 ∷ []) 0 k (omega (arith, before, size)) in
            subst (P k) (sym at) (less.2 k before)
      ],
    )

-- a message of a whole window comes of a body, all of whose fragments came
pub next_all : (messages : List Message) (sender receiver : Name) (place : ℕ) (m : Message) → Contains messages m → IsNext messages sender receiver place m
    → (body : List ℕ) × HasAllFragments messages sender receiver place m.upto.0 body
next_all messages sender receiver place m among next =
    let made = body_of m.total (HasByte messages sender receiver place m.upto.0 m.total) (λ k lt.
    let c : HasCover messages m k = next.whole k lt in
    let w : IsSameWindow c.piece m = c.covers.window in (
      slice_index c.piece.fragment (k - c.piece.start),
      record {
        piece = record {
          comes = record { message = c.piece; among = c.among; sent_by = w.sent_by ∙ next.sent_by; sent_to = w.sent_to ∙ next.sent_to };
          of_window = record { begins = w.begins ∙ next.begins; ends = w.ends; long = w.total };
        };
        from_start = c.covers.from_start;
        to_end = c.covers.to_end;
        is_byte = refl;
      },
    )) in
    let size : length made.0 ≡ m.total = made.1 in (
      made.0,
      record {
        some_piece = record {
          comes = record { message = m; among = among; sent_by = next.sent_by; sent_to = next.sent_to };
          of_window = record { begins = next.begins; ends = refl; long = sym size };
        };
        covered = λ k lt. subst (λ (n : ℕ). HasByte messages sender receiver place m.upto.0 n k (slice_index made.0 k)) (sym size) (made.2 k (omega (arith, lt, size)));
      },
    )

-- and where all fragments of a body came, a message of its window did
pub all_next : (messages : List Message) (sender receiver : Name) (place upto : ℕ) (body : List ℕ) → HasAllFragments messages sender receiver place upto body
    → (m : Message) × Contains messages m × IsNext messages sender receiver place m × (m.upto.0 ≡ upto)
all_next messages sender receiver place upto body h =
    let p = h.some_piece in
    let m : Message = p.comes.message in
    let size : m.total ≡ length body = p.of_window.long in (
      m,
      p.comes.among,
      record {
        sent_by = p.comes.sent_by;
        sent_to = p.comes.sent_to;
        begins = p.of_window.begins;
        whole = λ k lt.
            let b = h.covered k (omega (arith, lt, size)) in
            record {
              piece = b.piece.comes.message;
              among = b.piece.comes.among;
              covers = record {
                window = record {
                  sent_by = b.piece.comes.sent_by ∙ sym p.comes.sent_by;
                  sent_to = b.piece.comes.sent_to ∙ sym p.comes.sent_to;
                  begins = b.piece.of_window.begins ∙ sym p.of_window.begins;
                  ends = b.piece.of_window.ends ∙ sym p.of_window.ends;
                  total = b.piece.of_window.long ∙ sym p.of_window.long;
                };
                from_start = b.from_start;
                to_end = b.to_end;
              };
            };
      },
      p.of_window.ends,
    )

-- ---- chains

chain_snoc : (messages : List Message) (sender receiver : Name) (from place upto : ℕ) (body : List ℕ) (windows : List (ℕ × List ℕ))
    → Chain messages sender receiver from place windows → HasAllFragments messages sender receiver place upto body
    → Chain messages sender receiver from upto (windows ++ (upto, body) ∷ [])
chain_snoc messages sender receiver from place upto body [] chain h =
    (subst (λ (p : ℕ). HasAllFragments messages sender receiver p upto body) (sym chain) h, refl)
chain_snoc messages sender receiver from place upto body (w ∷ windows) chain h =
    (chain.0, chain_snoc messages sender receiver w.0 place upto body windows chain.1 h)

all_at : (P : ℕ → Type 0) (xs : List ℕ) (k : ℕ) → AllByRecursion P xs → k < length xs → P (get_or xs k 0)
all_at P [] k all within = absurd (omega (arith, within))
all_at P (x ∷ xs) zero all within = all.0
all_at P (x ∷ xs) (suc k) all within = all_at P xs k all.1 (omega (arith, within))

all_both : (P : ℕ → Type 0) (xs ys : List ℕ) → AllByRecursion P xs → AllByRecursion P ys → AllByRecursion P (xs ++ ys)
all_both P [] ys a b = b
all_both P (x ∷ xs) ys a b = (a.0, all_both P xs ys a.1 b)

all_so : (P Q : ℕ → Type 0) (xs : List ℕ) → ((x : ℕ) → P x → Q x) → AllByRecursion P xs → AllByRecursion Q xs
all_so P Q [] f a = tt
all_so P Q (x ∷ xs) f a = (f x a.0, all_so P Q xs f a.1)

-- what was reached from an offset, of which so many were gone on from
pub record Leading (messages : List Message) (sender receiver : Name) (from : ℕ) (reached : List ℕ) (next : ℕ) : Type 0 where
  pub first : has reached from ≡ true
  pub within : next ≤ length reached
  pub sound : AllByRecursion (Leads messages sender receiver from) reached
  pub closed : (k : ℕ) → k < next → (m : Message) → Contains messages m → IsNext messages sender receiver (get_or reached k 0) m → has reached m.upto.0 ≡ true

pub leading_begun : (messages : List Message) (sender receiver : Name) (from : ℕ) (reached : List ℕ) → reached ≡ from ∷ [] → Leading messages sender receiver from reached 0
leading_begun messages sender receiver from reached is = record {
  first = subst (λ (l : List ℕ). has l from ≡ true) (sym is) (has_last [] from);
  within = omega arith;
  sound = subst (AllByRecursion (Leads messages sender receiver from)) (sym is) (([], refl), tt);
  closed = λ k lt. absurd (omega (arith, lt));
}

pub leading_on : (messages : List Message) (sender receiver : Name) (from : ℕ) (reached now : List ℕ) (next place : ℕ) → Leading messages sender receiver from reached next
    → next < length reached → place ≡ get_or reached next 0 → ReachesOn messages sender receiver place reached now [] → Leading messages sender receiver from now (next + 1)
leading_on messages sender receiver from reached now next place l lt here r =
    let long : length now ≡ length reached + length r.more = ap length r.is ∙ length-append reached r.more in
    let same : (k : ℕ) → k < length reached → get_or now k 0 ≡ get_or reached k 0 =
    λ k within. ap (λ (t : List ℕ). get_or t k 0) r.is ∙ get_or_append_left reached r.more 0 k within in
    let there : (u : ℕ) → has reached u ≡ true → has now u ≡ true = λ u e. subst (λ (t : List ℕ). has t u ≡ true) (sym r.is) (has_more reached r.more u e) in
    let to_here : Leads messages sender receiver from place =
    subst (Leads messages sender receiver from) (sym here) (all_at (Leads messages sender receiver from) reached next l.sound lt) in
    record {
      first = there from l.first;
      within = omega (arith, long, lt);
      sound = subst (AllByRecursion (Leads messages sender receiver from)) (sym r.is) (all_both (Leads messages sender receiver from) reached r.more l.sound
          (all_so (λ u. (m : Message) × Contains messages m × IsNext messages sender receiver place m × (m.upto.0 ≡ u)) (Leads messages sender receiver from) r.more
          (λ u f.
          let whole = next_all messages sender receiver place f.0 f.1 f.2 in (
            to_here.0 ++ (u, whole.0) ∷ [],
            chain_snoc messages sender receiver from place u whole.0 to_here.0 to_here.1
                (subst (λ (x : ℕ). HasAllFragments messages sender receiver place x whole.0) f.3 whole.1),
          )) r.each));
      closed = λ k less m c n. elim (le_or_lt next k) [
        | inl le ↦
            let is : k ≡ next = omega (arith, le, less) in
            let at : get_or now k 0 ≡ place = ap (λ (j : ℕ). get_or now j 0) is ∙ same next lt ∙ sym here in
            elim (r.all m c (subst (λ (p : ℕ). IsNext messages sender receiver p m) at n)) [
              | inl surely ↦ surely
              | inr none ↦ absurd (none_contained m none)
            ]
        | inr before ↦
            there m.upto.0 (l.closed k before m c (subst (λ (p : ℕ). IsNext messages sender receiver p m) (same k (omega (arith, before, lt))) n))
      ];
    }

-- fewer are left to be gone on from
pub leading_smaller : (messages : List Message) (sender receiver : Name) (reached now : List ℕ) (next place : ℕ) → next < length reached
    → ReachesOn messages sender receiver place reached now [] → missing messages now + (length now - (next + 1)) < missing messages reached + (length reached - next)
leading_smaller messages sender receiver reached now next place lt r =
    let long : length now ≡ length reached + length r.more = ap length r.is ∙ length-append reached r.more in
    let fewer : missing messages now + length r.more ≤ missing messages reached = r.fewer in
    omega (arith, long, fewer, lt)

chain_reached : (messages : List Message) (sender receiver : Name) (from : ℕ) (reached : List ℕ) (place to : ℕ) (windows : List (ℕ × List ℕ))
    → Leading messages sender receiver from reached (length reached) → has reached place ≡ true → Chain messages sender receiver place to windows → has reached to ≡ true
chain_reached messages sender receiver from reached place to [] l there chain = subst (λ (p : ℕ). has reached p ≡ true) chain there
chain_reached messages sender receiver from reached place to (w ∷ windows) l there chain =
    let at = place_in reached place there in
    let m = all_next messages sender receiver place w.0 w.1 chain.0 in
    let surely : has reached m.0.upto.0 ≡ true = l.closed at.0 at.1 m.0 m.1 (subst (λ (p : ℕ). IsNext messages sender receiver p m.0) (sym at.2) m.2) in
    chain_reached messages sender receiver from reached w.0 to windows l (subst (λ (u : ℕ). has reached u ≡ true) m.3 surely) chain.1

pub leading_all : (messages : List Message) (sender receiver : Name) (from : ℕ) (reached : List ℕ) (next to : ℕ) (found : Bool) → Leading messages sender receiver from reached next
    → length reached ≤ next → found ≡ has reached to → (IsTrue found ↔ Leads messages sender receiver from to)
leading_all messages sender receiver from reached next to found l end is =
    let all : next ≡ length reached = omega (arith, end, l.within) in
    let k : Leading messages sender receiver from reached (length reached) = subst (Leading messages sender receiver from reached) all l in (
      λ surely.
          let at = place_in reached to (sym is ∙ surely) in
          subst (Leads messages sender receiver from) at.2 (all_at (Leads messages sender receiver from) reached at.0 l.sound at.1),
      λ chain. is ∙ chain_reached messages sender receiver from reached from to chain.0 k l.first chain.1,
    )

-- ---- pieces

contains_head : (x : Message) (rest left : List Message) → left ≡ x ∷ rest → Contains left x
contains_head x rest left split = subst (λ (l : List Message). Contains l x) (sym split) (0, omega arith, refl)

contains_rest : (x m : Message) (rest left : List Message) → left ≡ x ∷ rest → Contains rest m → Contains left m
contains_rest x m rest left split c = subst (λ (l : List Message). Contains l m) (sym split) (suc c.0, omega (arith, c.1), c.2)

-- those that are left are among all
abbrev pub AreLeft : List Message → List Message → Type 0
AreLeft messages left = (m : Message) → Contains left m → Contains messages m

pub left_head : (messages left rest : List Message) (x : Message) → AreLeft messages left → left ≡ x ∷ rest → Contains messages x
left_head messages left rest x are split = are x (contains_head x rest left split)

pub left_rest : (messages left rest : List Message) (x : Message) → AreLeft messages left → left ≡ x ∷ rest → AreLeft messages rest
left_rest messages left rest x are split = λ m c. are m (contains_rest x m rest left split c)

-- a fragment that has the byte is among those that are left
abbrev pub StillLeft : List Message → Message → ℕ → List Message → Type 0
StillLeft messages m place left = (piece : Message) → Contains messages piece → Covers piece m place → Contains left piece

pub still_rest : (messages left rest : List Message) (x m : Message) (place : ℕ) → StillLeft messages m place left → left ≡ x ∷ rest → ¬ (Covers x m place)
    → StillLeft messages m place rest
still_rest messages left rest x m place still split not = λ piece c covers.
    elim (contains_cases x rest piece (subst (λ (l : List Message). Contains l piece) split (still piece c covers))) [
      | inl same ↦ absurd (not (subst (λ (y : Message). Covers y m place) (sym same) covers))
      | inr later ↦ later
    ]

pub still_past : (messages left rest : List Message) (x m : Message) (place : ℕ) (covers : Bool) → StillLeft messages m place left → left ≡ x ∷ rest
    → (IsTrue covers ↔ Covers x m place) → covers ≡ false → StillLeft messages m place rest
still_past messages left rest x m place covers still split h f =
    still_rest messages left rest x m place still split (λ c. let surely : covers ≡ true = h.1 c in absurd (cc))

pub still_none : (messages left : List Message) (m : Message) (place : ℕ) → StillLeft messages m place left → left ≡ [] → ¬ (HasCover messages m place)
still_none messages left m place still none cover =
    none_contained cover.piece (subst (λ (l : List Message). Contains l cover.piece) none (still cover.piece cover.among cover.covers))

pub covers_to : (messages : List Message) (piece m : Message) (place end : ℕ) → Contains messages piece → Covers piece m place → end ≡ piece.start + length piece.fragment
    → (place < end) × ((k : ℕ) → place ≤ k → k < end → HasCover messages m k)
covers_to messages piece m place end among covers is =
    let from : piece.start ≤ place = covers.from_start in
    let to : place < piece.start + length piece.fragment = covers.to_end in (
      omega (arith, to, is),
      λ k le lt. record { piece = piece; among = among; covers = record { window = covers.window; from_start = omega (arith, from, le); to_end = omega (arith, lt, is) } },
    )

-- the bytes before a place came
abbrev pub CameTo : List Message → Message → ℕ → Type 0
CameTo messages m place = (k : ℕ) → k < place → HasCover messages m k

pub came_on : (messages : List Message) (m : Message) (place end : ℕ) → CameTo messages m place → ((k : ℕ) → place ≤ k → k < end → HasCover messages m k) → CameTo messages m end
came_on messages m place end came more = λ k lt. elim (le_or_lt place k) [ inl le ↦ more k le lt | inr less ↦ came k less ]

pub came_all : (messages : List Message) (m : Message) (place : ℕ) → CameTo messages m place → m.total ≤ place → (IsTrue true ↔ IsWhole messages m)
came_all messages m place came le = (λ _ k lt. came k (omega (arith, le, lt)), λ _. refl)

pub came_none : (messages : List Message) (m : Message) (place : ℕ) → place < m.total → ¬ (HasCover messages m place) → (IsTrue false ↔ IsWhole messages m)
came_none messages m place lt not = (λ (never : false ≡ true). absurd (cc), λ whole. absurd (not (whole place lt)))
