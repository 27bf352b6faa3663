-- What is there of a change after a crash is one of the things that may be.
use Rattle.std.proofs.Common.{◌≡◌, ◌+◌, ◌-◌, ◌≤◌, ◌<◌, ◌==◌, ℕ, Bool, true, false, cond, min, replicate, List, [], ◌∷◌, ◌++◌, length, take, drop, refl, sym, ◌∙◌, ap, subst, inl, inr, arith, append_assoc, length-append, length-take, length-drop, ltb}
use Rattle.std.proofs.lemmas.Bool.{lt-ltb, cases_lt}
use Rattle.std.proofs.lemmas.List.{take_at, take_all, drop_all, drop-drop, length-replicate, append-nil}
use Rattle.sr_site.specs.Files.{overwritten, IsTorn, IsCutInPart}
use Rattle.sr_site.proofs.Images.{written}
use Rattle.sr_memsite_disk.specs.Changes.{Change, write, cut}
use Rattle.sr_memsite_disk.specs.Picks.{part, half, turned, torn, Crash, next, crashed, next_pick}
use Rattle.sr_memsite_disk.specs.declared.tear.Tear.{Tear}
use Rattle.sr_memsite_disk.specs.declared.tear.Tear.TheVariants.{Lost, Whole, Prefix, Back, Filled}

-- some changes and then others
pub crashed_on : (crash : Crash) (changes more : List Change) → crashed crash (changes ++ more) ≡ crashed (crashed crash changes) more
crashed_on crash [] more = refl
crashed_on crash (change ∷ changes) more = crashed_on (next crash change) changes more

-- as many bytes as the file has, or fewer, counted from its front
pub take_min : (n : ℕ) (l : List ℕ) → take (min n (length l)) l ≡ take n l
take_min n l = elim (cases_lt (length l) n) [
  | inl over ↦ past over
  | inr fits ↦ within fits
]
  where
    past : length l < n → take (min n (length l)) l ≡ take n l
    past over =
        let least : min n (length l) ≡ length l = omega (arith, over) in
        let whole : take (length l) l ≡ l = take_all (length l) l (omega arith) in
        let all : take n l ≡ l = take_all n l (omega (arith, over)) in
        ap (λ (k : ℕ). take k l) least ∙ whole ∙ sym all

    within : n ≤ length l → take (min n (length l)) l ≡ take n l
    within fits =
        let least : min n (length l) ≡ n = omega (arith, fits) in
        ap (λ (k : ℕ). take k l) least

pub drop_min : (n : ℕ) (l : List ℕ) → drop (min n (length l)) l ≡ drop n l
drop_min n l = elim (cases_lt (length l) n) [
  | inl over ↦ past over
  | inr fits ↦ within fits
]
  where
    past : length l < n → drop (min n (length l)) l ≡ drop n l
    past over =
        let least : min n (length l) ≡ length l = omega (arith, over) in
        let none : drop (length l) l ≡ [] = drop_all (length l) l (omega arith) in
        let all : drop n l ≡ [] = drop_all n l (omega (arith, over)) in
        ap (λ (k : ℕ). drop k l) least ∙ none ∙ sym all

    within : n ≤ length l → drop (min n (length l)) l ≡ drop n l
    within fits =
        let least : min n (length l) ≡ n = omega (arith, fits) in
        ap (λ (k : ℕ). drop k l) least

pub take_whole : (l : List ℕ) → take (length l) l ≡ l
take_whole l = take_all (length l) l (omega arith)

pub drop_whole : (l : List ℕ) → drop (length l) l ≡ []
drop_whole l = drop_all (length l) l (omega arith)

-- a part has at most as many bytes
pub part_fits : (tear : Tear) (bytes : List ℕ) → length (part tear bytes) ≤ length bytes
part_fits Lost bytes = omega arith
part_fits Whole bytes = omega arith
part_fits Prefix bytes = omega (arith, length-take (half bytes) bytes)
part_fits Back bytes = omega (arith, length-append (replicate (half bytes) 0) (drop (half bytes) bytes), length-replicate {A = ℕ} (half bytes) 0, length-drop (half bytes) bytes)
part_fits (Filled byte) bytes = omega (arith, length-replicate {A = ℕ} (length bytes) byte)

-- a write at its place, or behind the end
pub write_there : (tear : Tear) (place : ℕ) (bytes file : List ℕ) → place ≤ length file → torn tear (write place bytes) file ≡ overwritten file place (part tear bytes)
write_there tear place bytes file within =
    let no : ltb (length file) place ≡ false = grind (arith, within) in
    ap (λ (b : Bool). cond b file (overwritten file place (part tear bytes))) no

pub write_gone : (tear : Tear) (place : ℕ) (bytes file : List ℕ) → length file < place → torn tear (write place bytes) file ≡ file
write_gone tear place bytes file over = ap (λ (b : Bool). cond b file (overwritten file place (part tear bytes))) (lt-ltb (length file) place over)

-- a shorter write is one of the longer range
widen : (place count more : ℕ) (old new : List ℕ) → IsTorn place count old new → count ≤ more → IsTorn place more old new
widen place count more old new torn fits =
    let further : (place + count) + (more - count) ≡ place + more = omega (arith, fits) in
    let at : (l : List ℕ) → drop (place + more) l ≡ drop (more - count) (drop (place + count) l) = λ l. ap (λ (n : ℕ). drop n l) (sym further) ∙ sym (drop-drop (more - count) (place + count) l) in
    record { before = torn.before; behind = at new ∙ ap (drop (more - count)) torn.behind ∙ sym (at old); longer = torn.longer }

pub torn_write : (tear : Tear) (place : ℕ) (bytes old : List ℕ) → IsTorn place (length bytes) old (torn tear (write place bytes) old)
torn_write tear place bytes old = elim (cases_lt (length old) place) [
  | inl over ↦ subst (λ (l : List ℕ). IsTorn place (length bytes) old l) (sym (write_gone tear place bytes old over)) (record { before = refl; behind = refl; longer = omega arith })
  | inr within ↦ subst (λ (l : List ℕ). IsTorn place (length bytes) old l) (sym (write_there tear place bytes old within))
      (widen place (length (part tear bytes)) (length bytes) old (overwritten old place (part tear bytes)) (written place old (part tear bytes) within) (part_fits tear bytes))
]

pub torn_cut : (tear : Tear) (to : ℕ) (old : List ℕ) → IsCutInPart to old (torn tear (cut to) old)
torn_cut tear to old =
    let there = part (turned tear) (drop to old) in
    let fits = part_fits (turned tear) (drop to old) in
    let long = length-append (take to old) there in
    let prefix = length-take to old in
    let back = length-drop to old in
    record { before = before there fits; least = omega (arith, long, prefix); most = omega (arith, long, prefix, back, fits) }
  where
    before : (there : List ℕ) → length there ≤ length (drop to old) → take to (take to old ++ there) ≡ take to old
    before there fits = elim (cases_lt (length old) to) [
      | inl over ↦ take_all to (take to old ++ there) (omega (arith, over, fits, length-append (take to old) there, length-take to old, length-drop to old)) ∙ ap (λ (l : List ℕ). take to old ++ l) (none there (omega (arith, over, fits, length-drop to old))) ∙ append-nil (take to old)
      | inr within ↦ take_at (take to old) there to (omega (arith, within, length-take to old))
    ]
      where
        none : (l : List ℕ) → length l ≤ 0 → l ≡ []
        none [] h = refl
        none (x ∷ l) h = absurd (omega (arith, h))

pub ruleset tearing = (crashed_on, take_min, drop_min, take_whole, drop_whole, write_there, write_gone, append_assoc)
