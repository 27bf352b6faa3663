-- Readers of parts make a reader of the whole.
use Rattle.std.proofs.Common.{◌≡◌, List, [], ◌∷◌, ◌++◌, Option, Some, None, Result, Ok, Err, refl, sym, subst, ap, ◌∙◌, append_assoc}
use Rattle.std.specs.Prelude.{IsErr, IsErrAnd}
use Rattle.sr_parse_reader.specs.declared.reader.Broken.{Broken}
use Rattle.sr_parse_reader.specs.declared.reader.Broken.TheVariants.{Memory}
use Rattle.sr_parse_grammar.specs.Symbols.{Symbols, first}
use Rattle.sr_ast.specs.Pages.{Piece}
use Rattle.sr_parse_reader.specs.Inner.Reading.{Spells, GoesOn, Alike, WasRead, Reading, Anywhere, mapped}
use Rattle.sr_parse_reader.specs.Inner.Reading.Reading.{read, refused, memory}
pub use Rattle.sr_parse_grammar.specs.Parts.{Of, Seq}
pub use Rattle.sr_parse_grammar.proofs.Parts.{Proper, Leads, Sample, from, four, meant_both, goes_first}

-- ---- symbols

-- symbols in front of both change nothing
pub alike_on : (taken here there : Symbols) → Alike here there → Alike (taken ++ here) (taken ++ there)
alike_on [] here there a = a
alike_on (s ∷ taken) here there a = refl

-- from a place that is made of two parts
pub alike_from : (before taken here there : Symbols) → before ≡ taken ++ here → Alike here there → Alike before (taken ++ there)
alike_from before taken here there e a = subst (λ (b : Symbols). Alike b (taken ++ there)) (sym e) (alike_on taken here there a)

pub two_places : (a b here : Symbols) {before middle : Symbols} → before ≡ a ++ middle → middle ≡ b ++ here → before ≡ (a ++ b) ++ here
two_places a b here e f = e ∙ ap (λ (l : Symbols). a ++ l) f ∙ sym (append_assoc a b here)

-- ---- one part behind the other

goes_second : {A B : Type 0} (X : Symbols → A → Symbols → Type 0) (Y : Symbols → B → Symbols → Type 0) (one two : Symbols) {x : A} → Spells X one x → GoesOn Y two → GoesOn (Seq X Y) (one ++ two)
goes_second X Y one two {x = x} spells g = record {
  more = g.more;
  meant = g.meant;
  value = (x, g.value);
  spells = λ after. ((two ++ g.more) ++ after, from X (sym (append_assoc one (two ++ g.more) after) ∙ ap (λ (l : Symbols). l ++ after) (sym (append_assoc one two g.more))) (spells ((two ++ g.more) ++ after)), g.spells after);
}

-- the answer for both parts, of which the first is there
abbrev pub paired : {A B : Type 0} → A → Result B Broken → Result (A × B) Broken
paired x (Ok y) = Ok (x, y)
paired x (Err e) = Err e

-- the first part is refused
pub first_fails : {A B : Type 0} {X : Symbols → A → Symbols → Type 0} {P : Symbols → Type 0} (Y : Symbols → B → Symbols → Type 0) (Q : Symbols → Type 0) → Leads P Y Q → Sample Y → {before here : Symbols} {e : Broken}
    → Reading X P before here (Err e) → Reading (Seq X Y) Q before here (Err e)
first_fails Y Q leads sample memory = memory
first_fails {X = X} Y Q leads sample (refused r) = refused (record {
  taken = r.taken;
  parts = r.parts;
  goes = goes_first X Y r.taken r.goes sample;
  none = λ there alike x rest h q. r.none there alike x.0 h.0 h.1 (leads h.0 x.1 rest h.2 q);
})

-- where the first part ends in what begins alike
met : {A B : Type 0} (X : Symbols → A → Symbols → Type 0) (P : Symbols → Type 0) (Y : Symbols → B → Symbols → Type 0) (Q : Symbols → Type 0) → Leads P Y Q → {before middle : Symbols} (here there : Symbols) {rest : Symbols} {x : A} (f : WasRead X P before middle x) (two : Symbols)
    → middle ≡ two ++ here → Alike here there → (p : A × B) → Seq X Y ((f.taken ++ two) ++ there) p rest → Q rest → (x ≡ p.0) × Y (two ++ there) p.1 rest
met X P Y Q leads {middle = middle} here there {rest = rest} f two parts alike p h q =
    let r = f.only (two ++ there) (alike_from middle two here there parts alike) p.0 h.0 (from X (append_assoc f.taken two there) h.1) (leads h.0 p.1 rest h.2 q) in
    (r.0, from Y (sym r.1) h.2)

both : {A B : Type 0} {a : A} {b : B} (p : A × B) → a ≡ p.0 → b ≡ p.1 → (a, b) ≡ p
both (x, y) e f = cc

-- the first part is read
pub then : {A B : Type 0} {X : Symbols → A → Symbols → Type 0} {P : Symbols → Type 0} {Y : Symbols → B → Symbols → Type 0} {Q : Symbols → Type 0} → Leads P Y Q → {before middle here : Symbols} {x : A} {r : Result B Broken}
    → Reading X P before middle (Ok x) → Reading Y Q middle here r → Reading (Seq X Y) Q before here (paired x r)
then leads f memory = memory
then {X = X} {P = P} {Y = Y} {Q = Q} leads {here = here} (read f) (refused g) = refused (record {
  taken = f.taken ++ g.taken;
  parts = two_places f.taken g.taken here f.parts g.parts;
  goes = goes_second X Y f.taken g.taken f.spells g.goes;
  none = λ there alike x rest h q. g.none there alike x.1 rest (met X P Y Q leads here there f g.taken g.parts alike x h q).1 q;
})
then {X = X} {P = P} {Y = Y} {Q = Q} leads {here = here} (read f) (read g) = read (record {
  taken = f.taken ++ g.taken;
  parts = two_places f.taken g.taken here f.parts g.parts;
  spells = λ after. (g.taken ++ after, from X (sym (append_assoc f.taken g.taken after)) (f.spells (g.taken ++ after)), g.spells after);
  only = λ there alike x rest h q.
      let m = met X P Y Q leads here there f g.taken g.parts alike x h q in
      let r = g.only there alike x.1 rest m.1 q in (both x m.0 r.0, r.1);
})

-- a part that may end anywhere is read, or is refused
pub then_on : {A B : Type 0} {X : Symbols → A → Symbols → Type 0} {Y : Symbols → B → Symbols → Type 0} {Q : Symbols → Type 0} {before middle here : Symbols} {x : A} {r : Result B Broken}
    → Reading X Anywhere before middle (Ok x) → Reading Y Q middle here r → Reading (Seq X Y) Q before here (paired x r)
then_on f r = then (λ b y a h q. tt) f r

pub ends_at : {A B : Type 0} {X : Symbols → A → Symbols → Type 0} {Y : Symbols → B → Symbols → Type 0} {Q : Symbols → Type 0} {M : B → Type 0} {g : B → List Piece} → Proper Y Q M g → {before here : Symbols} {e : Broken}
    → Reading X Anywhere before here (Err e) → Reading (Seq X Y) Q before here (Err e)
ends_at {Y = Y} {Q = Q} p r = first_fails Y Q (λ b y a h q. tt) p.sample r

-- ---- another production of the same symbols

-- what a production is of another: its values are made by `f`, and each that begins with the symbol that is next is made so
pub record Casts {A B : Type 0} (X : Symbols → A → Symbols → Type 0) (Y : Symbols → B → Symbols → Type 0) (P : Symbols → Type 0) (Q : Symbols → Type 0) (f : A → B) (before : Symbols) : Type 0 where
  pub to : (b : Symbols) (x : A) (a : Symbols) → X b x a → Y b (f x) a
  pub back : (b : Symbols) (y : B) (a : Symbols) → Alike before b → Y b y a → Q a → (x : A) × X b x a × P a × (f x ≡ y)

-- what goes on with one, goes on with the other
pub cast_goes : {A B : Type 0} (X : Symbols → A → Symbols → Type 0) (Y : Symbols → B → Symbols → Type 0) (f : A → B) → ((b : Symbols) (x : A) (a : Symbols) → X b x a → Y b (f x) a) → (taken : Symbols) → GoesOn X taken → GoesOn Y taken
cast_goes X Y f to taken g = record { more = g.more; meant = g.meant; value = f g.value; spells = λ after. to ((taken ++ g.more) ++ after) g.value after (g.spells after) }

pub cast : {A B : Type 0} {X : Symbols → A → Symbols → Type 0} {Y : Symbols → B → Symbols → Type 0} {P Q : Symbols → Type 0} {f : A → B} {before here : Symbols} {r : Result A Broken}
    → Casts X Y P Q f before → Reading X P before here r → Reading Y Q before here (mapped f r)
cast c memory = memory
cast {X = X} {Y = Y} {f = f} {before = before} {here = here} c (refused r) = refused (record {
  taken = r.taken;
  parts = r.parts;
  goes = cast_goes X Y f c.to r.taken r.goes;
  none = λ there alike y rest h q.
      let b = c.back (r.taken ++ there) y rest (alike_from before r.taken here there r.parts alike) h q in r.none there alike b.0 rest b.1 b.2;
})
cast {f = f} {before = before} {here = here} c (read {value = x} r) = read (record {
  taken = r.taken;
  parts = r.parts;
  spells = λ after. c.to (r.taken ++ after) x after (r.spells after);
  only = λ there alike y rest h q.
      let b = c.back (r.taken ++ there) y rest (alike_from before r.taken here there r.parts alike) h q in
      let s = r.only there alike b.0 rest b.1 b.2 in (ap f s.0 ∙ b.3, s.1);
})

-- the same with another end
pub narrow : {A : Type 0} {X : Symbols → A → Symbols → Type 0} {P : Symbols → Type 0} (Q : Symbols → Type 0) {before here : Symbols} {r : Result A Broken} → ((after : Symbols) → Q after → P after) → Reading X P before here r → Reading X Q before here r
narrow Q fewer memory = memory
narrow Q fewer (refused r) = refused (record { taken = r.taken; parts = r.parts; goes = r.goes; none = λ there alike x rest h q. r.none there alike x rest h (fewer rest q) })
narrow Q fewer (read r) = read (record { taken = r.taken; parts = r.parts; spells = r.spells; only = λ there alike x rest h q. r.only there alike x rest h (fewer rest q) })

-- a production that is another one in other words, wherever it stands
pub recast : {A B : Type 0} {X : Symbols → A → Symbols → Type 0} {P : Symbols → Type 0} (Y : Symbols → B → Symbols → Type 0) (f : A → B) {before here : Symbols} {r : Result A Broken} → ((b : Symbols) (x : A) (a : Symbols) → X b x a → Y b (f x) a)
    → ((b : Symbols) (y : B) (a : Symbols) → Y b y a → (x : A) × X b x a × (f x ≡ y)) → Reading X P before here r → Reading Y P before here (mapped f r)
recast Y f to back r = cast (record { to = to; back = λ b y a alike h q. let x = back b y a h in (x.0, x.1, q, x.2) }) r

-- a whole of parts
pub whole_read : {A B : Type 0} {X : Symbols → A → Symbols → Type 0} {P : Symbols → Type 0} (parts : B → A) (whole : A → B) → ((y : B) → whole (parts y) ≡ y) → ((x : A) → parts (whole x) ≡ x) → {before here : Symbols} {r : Result A Broken}
    → Reading X P before here r → Reading (Of parts X) P before here (mapped whole r)
whole_read {X = X} parts whole back forth r = recast (Of parts X) whole (λ b x a h. subst (λ v. X b v a) (sym (forth x)) h) (λ b y a h. (parts y, h, back y)) r

-- a refusal that is handed on by `?`, and one for want of memory
pub handed : {A : Type 0} {X : Symbols → A → Symbols → Type 0} {P : Symbols → Type 0} {before here : Symbols} {e : Broken} (r : Result A Broken) → Reading X P before here (Err e) → IsErr r × IsErrAnd r (λ f. f ≡ e) → Reading X P before here r
handed (Ok x) h g = absurd g.1
handed {X = X} {P = P} {before = before} {here = here} (Err f) h g = subst (λ b. Reading X P before here (Err b)) (sym g.1) h

pub no_memory : {A : Type 0} {X : Symbols → A → Symbols → Type 0} {P : Symbols → Type 0} {before here : Symbols} (r : Result A Broken) → IsErr r × IsErrAnd r (λ f. f ≡ Memory) → Reading X P before here r
no_memory r g = handed r memory g

-- the value is another that is equal
pub valued : {A : Type 0} {X : Symbols → A → Symbols → Type 0} {P : Symbols → Type 0} {before here : Symbols} {x y : A} → y ≡ x → Reading X P before here (Ok x) → Reading X P before here (Ok y)
valued {X = X} {P = P} {before = before} {here = here} e r = subst (λ v. Reading X P before here (Ok v)) (sym e) r

-- the same where the answer is made of another
pub handed_mapped : {A B : Type 0} {X : Symbols → B → Symbols → Type 0} {P : Symbols → Type 0} (f : A → B) {before here : Symbols} {e : Broken} (r : Result A Broken) → Reading X P before here (Err e) → IsErr r × IsErrAnd r (λ g. g ≡ e) → Reading X P before here (mapped f r)
handed_mapped f (Ok x) h g = absurd g.1
handed_mapped {X = X} {P = P} f {before = before} {here = here} (Err k) h g = subst (λ b. Reading X P before here (Err b)) (sym g.1) h

pub no_memory_mapped : {A B : Type 0} {X : Symbols → B → Symbols → Type 0} {P : Symbols → Type 0} (f : A → B) {before here : Symbols} (r : Result A Broken) → IsErr r × IsErrAnd r (λ g. g ≡ Memory) → Reading X P before here (mapped f r)
no_memory_mapped f r g = handed_mapped f r memory g

-- ---- a part that may be left out

abbrev pub Perhaps : {A : Type 0} → (Symbols → A → Symbols → Type 0) → Symbols → Option A → Symbols → Type 0
Perhaps X before None after = before ≡ after
Perhaps X before (Some x) after = X before x after

pub perhaps_sample : {A : Type 0} (X : Symbols → A → Symbols → Type 0) → Sample (Perhaps X)
perhaps_sample X = record { more = []; meant = tt; value = None; spells = λ after. refl }

left_out : {A : Type 0} (X : Symbols → A → Symbols → Type 0) (there : Symbols) (y : Option A) (rest : Symbols) → ((x : A) (a : Symbols) → X there x a → ⊥) → Perhaps X there y rest → (None ≡ y) × (there ≡ rest)
left_out X there None rest absent h = (refl, h)
left_out X there (Some x) rest absent h = absurd (absent x rest h)

-- it is left out
pub perhaps_none : {A : Type 0} (X : Symbols → A → Symbols → Type 0) (P : Symbols → Type 0) {before here : Symbols} → here ≡ before → ((there : Symbols) → Alike before there → (x : A) (a : Symbols) → X there x a → ⊥) → Reading (Perhaps X) P before here (Ok None)
perhaps_none X P e absent = read (record {
  taken = [];
  parts = sym e;
  spells = λ after. refl;
  only = λ there alike y rest h p. left_out X there y rest (absent there (ap first (sym e) ∙ alike)) h;
})

some_back : {A : Type 0} (X : Symbols → A → Symbols → Type 0) (P Q : Symbols → Type 0) → ((a : Symbols) → Q a → P a) → (before : Symbols) → ((a : Symbols) → Alike before a → Q a → ⊥) → (b : Symbols) (y : Option A) (a : Symbols) → Alike before b → Perhaps X b y a → Q a → (x : A) × X b x a × P a × (Some x ≡ y)
some_back X P Q ends before never b None a alike h q = absurd (never a (alike ∙ ap first h) q)
some_back X P Q ends before never b (Some x) a alike h q = (x, h, ends a q, refl)

-- it begins here, where nothing may end
pub perhaps_some : {A : Type 0} (X : Symbols → A → Symbols → Type 0) {P : Symbols → Type 0} (Q : Symbols → Type 0) {before here : Symbols} {r : Result A Broken} → ((a : Symbols) → Q a → P a) → ((a : Symbols) → Alike before a → Q a → ⊥)
    → Reading X P before here r → Reading (Perhaps X) Q before here (mapped Some r)
perhaps_some X {P = P} Q {before = before} ends never r = cast (record { to = λ b x a h. h; back = some_back X P Q ends before never }) r

-- ---- what a reader says of the symbols before it

-- what it answers is spelled by them
pub spelled : {A : Type 0} {X : Symbols → A → Symbols → Type 0} {P : Symbols → Type 0} {before here : Symbols} {x : A} → Reading X P before here (Ok x) → X before x here
spelled {X = X} {here = here} (read r) = from X (sym r.parts) (r.spells here)

-- they spell nothing else
pub spelled_only : {A : Type 0} {X : Symbols → A → Symbols → Type 0} {P : Symbols → Type 0} {before here rest : Symbols} {x y : A} → Reading X P before here (Ok x) → X before y rest → P rest → (x ≡ y) × (here ≡ rest)
spelled_only {X = X} {here = here} {rest = rest} {y = y} (read r) h p = r.only here refl y rest (from X r.parts h) p

-- where they spell something, it was refused for want of memory
pub unspelled : {A : Type 0} {X : Symbols → A → Symbols → Type 0} {P : Symbols → Type 0} {before here rest : Symbols} {e : Broken} {x : A} → Reading X P before here (Err e) → X before x rest → P rest → e ≡ Memory
unspelled memory h p = refl
unspelled {X = X} {here = here} {rest = rest} {x = x} (refused r) h p = absurd (r.none here refl x rest (from X r.parts h) p)
