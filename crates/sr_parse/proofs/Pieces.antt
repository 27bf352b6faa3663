-- Readers of scripts: what has been taken spells the statements read, and each script that goes on from it begins with them.
use Rattle.std.proofs.Common.{◌≡◌, ◌<◌, List, [], ◌∷◌, ◌++◌, Result, Ok, Err, refl, sym, subst, ap, ◌∙◌, inl, inr, length, arith, append-nil, append_assoc}
use Rattle.sr_ast.specs.declared.stmt.Stmt.{Stmt}
use Rattle.sr_parse_grammar.specs.declared.symbol.Sign.TheVariants as mark
use Rattle.sr_parse_reader.specs.declared.reader.Broken.{Broken}
use Rattle.sr_parse_reader.specs.declared.reader.Broken.TheVariants.{Memory, Refused}
use Rattle.sr_parse_grammar.specs.Symbols.{Symbols, first, sign, IsSign}
use Rattle.sr_parse_grammar.specs.Inner.Symbols.{behind}
use Rattle.sr_parse_grammar.specs.Scripts.{IsStatement, IsScript, Stage, Pieces}
use Rattle.sr_parse_grammar.specs.Inner.Scripts.{IsPiece}
use Rattle.sr_parse_grammar.specs.Scripts.Stage.{opened, closed}
use Rattle.sr_parse_grammar.specs.Scripts.Pieces.{again}
use Rattle.sr_parse_grammar.specs.Inner.Going.{Ends}
use Rattle.sr_parse_reader.specs.Inner.Reading.{Alike, Reading, AtEnd, mapped}
use Rattle.sr_parse_reader.specs.Inner.Reading.Reading.{read, refused, memory}
use Rattle.sr_parse_grammar.proofs.Statements.{Left, left_ends, from_left, no_statement}
use Rattle.sr_parse_grammar.proofs.Statements.Left.{over, parted, passed_over, said}
use Rattle.sr_parse.proofs.Tabling.{Pieces-start, Pieces-piece}
use Rattle.sr_parse_reader.proofs.Parts.{from, alike_from, two_places, cast}
use Rattle.sr_parse_reader.proofs.Starts.{nothing_read, standing, lacks}

-- ---- the rest of a script

-- a piece was read, and the script goes on here
pub piece_left : (here there : Symbols) (old more others : List Stmt) → Left opened here others → (Ends here → (more ≡ old) × (there ≡ here))
    → ((s : Stmt) (rest : Symbols) → IsStatement here s rest → Ends rest → (more ≡ old ++ s ∷ []) × (there ≡ rest)) → (left : List Stmt) × (old ++ others ≡ more ++ left) × Left closed there left
piece_left here there old more others (passed_over l) none one =
    let e = none (left_ends l) in (others, ap (λ (xs : List Stmt). xs ++ others) (sym e.0), subst (λ (b : Symbols). Left closed b others) (sym e.1) l)
piece_left here there old more others (said {after = after} {s = s} {xs = xs} h l) none one =
    let e = one s after h (left_ends l) in
    (xs, sym (append_assoc old (s ∷ []) xs) ∙ ap (λ (ys : List Stmt). ys ++ xs) (sym e.0), subst (λ (b : Symbols). Left closed b xs) (sym e.1) l)

-- a piece was not read
pub piece_missed : (here : Symbols) (others : List Stmt) (e : Broken) → Left opened here others → (Ends here → e ≡ Memory)
    → ((s : Stmt) (rest : Symbols) → IsStatement here s rest → Ends rest → e ≡ Memory) → e ≡ Memory
piece_missed here others e (passed_over l) none one = none (left_ends l)
piece_missed here others e (said {after = after} {s = s} h l) none one = one s after h (left_ends l)

-- behind a piece: a `;`, or the end
pub left_parted : (here next : Symbols) (others : List Stmt) → Left closed here others → IsSign here mark.Semicolon next → Left opened next others
left_parted here next others over s = absurd (cc)
left_parted here next others (parted {after = after} t l) s = let same : after ≡ next = cc in subst (λ (b : Symbols). Left opened b others) same l

pub left_over : (here : Symbols) (others : List Stmt) → Left closed here others → ((next : Symbols) → IsSign here mark.Semicolon next → ⊥) → (here ≡ []) × (others ≡ [])
left_over here others over absent = (refl, refl)
left_over here others (parted {after = after} s l) absent = absurd (absent after s)

-- at the begin of a script
pub script_begun : (here : Symbols) (old : List Stmt) → old ≡ [] → (xs : List Stmt) → IsScript here xs → (others : List Stmt) × (xs ≡ old ++ others) × Left opened here others
script_begun here old e xs h = (xs, subst (λ (l : List Stmt). xs ≡ l ++ xs) (sym e) refl, subst (λ (l : List Stmt). Left opened here l) (append-nil xs) (from_left h over))

-- ---- one piece

-- what a script has become
abbrev pub OnePiece : List Stmt → Symbols → List Stmt → Symbols → Type 0
OnePiece old before xs after = IsPiece before old xs after

no_symbols : (before : Symbols) → length before ≡ 0 → before ≡ []
no_symbols [] e = refl
no_symbols (s ∷ before) e = absurd (omega (arith, e))

-- a statement ends here where no symbol is left, and before a `;`
pub ends_empty : {before : Symbols} → length before ≡ 0 → Ends before
ends_empty {before = before} e = inl (no_symbols before e)

pub ends_not : {before : Symbols} → (length before ≡ 0 → ⊥) → ((next : Symbols) → IsSign before mark.Semicolon next → ⊥) → Ends before → ⊥
ends_not some absent (inl e) = some (ap (λ (l : Symbols). length l) e)
ends_not some absent (inr (next, s)) = absent next s

-- and so where it looks alike
ends_alike : (before there : Symbols) → Alike before there → Ends before → Ends there
ends_alike before [] alike (inl e) = inl refl
ends_alike before (s ∷ there) alike (inl e) = let f = ap first e in absurd (cc)
ends_alike before there alike (inr (next, s)) = inr (behind there, standing there (sym alike ∙ ap first s))

pub no_piece : (old : List Stmt) {before : Symbols} → Ends before → Reading (OnePiece old) Ends before before (Ok old)
no_piece old {before = before} ends = nothing_read (OnePiece old) Ends old refl (λ after. inl (refl, refl)) only
  where
    only : (there : Symbols) → Alike before there → (y : List Stmt) (rest : Symbols) → OnePiece old there y rest → Ends rest → (old ≡ y) × (there ≡ rest)
    only there alike y rest (inl (n, e)) q = (sym n, e)
    only there alike y rest (inr (s, n, h)) q = absurd (no_statement there s rest h (ends_alike before there alike ends))

pub piece_read : (old : List Stmt) {before here : Symbols} {r : Result Stmt Broken} → (Ends before → ⊥) → Reading IsStatement Ends before here r → Reading (OnePiece old) Ends before here (mapped (λ s. old ++ s ∷ []) r)
piece_read old {before = before} some h = cast (record { to = λ b x a i. inr (x, refl, i); back = back }) h
  where
    back : (b : Symbols) (y : List Stmt) (a : Symbols) → Alike before b → OnePiece old b y a → Ends a → (x : Stmt) × IsStatement b x a × Ends a × (old ++ x ∷ [] ≡ y)
    back b y a alike (inl (n, e)) q = absurd (some (ends_alike a before (sym (ap first e) ∙ sym alike) q))
    back b y a alike (inr (s, n, i)) q = (s, i, q, sym n)

-- ---- the script

-- the pieces that were read up to here
pub record Told (g : Stage) (start here : Symbols) (script : List Stmt) : Type 0 where
  pub taken : Symbols
  pub parts : start ≡ taken ++ here
  pub spells : (after : Symbols) → Pieces g (taken ++ after) script after
  pub goes : (there : Symbols) → Alike here there → (xs : List Stmt) → IsScript (taken ++ there) xs → (others : List Stmt) × (xs ≡ script ++ others) × Left g there others

pub told_begun : {start : Symbols} {script : List Stmt} → script ≡ [] → Told opened start start script
told_begun {script = script} e = record {
  taken = [];
  parts = refl;
  spells = λ after. Pieces-start e;
  goes = λ there alike xs h. script_begun there script e xs h;
}

pieces_on : (begun piece after : Symbols) (old new : List Stmt) → Pieces opened (begun ++ (piece ++ after)) old (piece ++ after) → OnePiece old (piece ++ after) new after → Pieces closed ((begun ++ piece) ++ after) new after
pieces_on begun piece after old new h p = from (Pieces closed) (sym (append_assoc begun piece after)) (Pieces-piece old new h p)

-- a piece was read
pub told_piece : {start here after : Symbols} {old new : List Stmt} → Told opened start here old → Reading (OnePiece old) Ends here after (Ok new) → Told closed start after new
told_piece {here = here} {after = after} {old = old} {new = new} a (read p) = record {
  taken = a.taken ++ p.taken;
  parts = two_places a.taken p.taken after a.parts p.parts;
  spells = λ z. pieces_on a.taken p.taken z old new (a.spells (p.taken ++ z)) (p.spells z);
  goes = λ there alike xs h.
      let r = a.goes (p.taken ++ there) (alike_from here p.taken after there p.parts alike) xs (from (Pieces closed) (append_assoc a.taken p.taken there) h) in
      let q = piece_left (p.taken ++ there) there old new r.0 r.2 (λ e. p.only there alike old (p.taken ++ there) (inl (refl, refl)) e) (λ s rest i e. p.only there alike (old ++ s ∷ []) rest (inr (s, refl, i)) e) in
      (q.0, r.1 ∙ q.1, q.2);
}

-- a `;` was taken
pub told_sign : {start here after : Symbols} {script : List Stmt} → Told closed start here script → IsSign here mark.Semicolon after → Told opened start after script
told_sign {here = here} {after = after} {script = script} a c = record {
  taken = a.taken ++ sign mark.Semicolon ∷ [];
  parts = two_places a.taken (sign mark.Semicolon ∷ []) after a.parts c;
  spells = λ z. from (λ (b : Symbols) (xs : List Stmt) (rest : Symbols). Pieces opened b xs rest) (sym (append_assoc a.taken (sign mark.Semicolon ∷ []) z)) (again (a.spells (sign mark.Semicolon ∷ z)) refl);
  goes = λ there alike xs h.
      let r = a.goes (sign mark.Semicolon ∷ there) (ap first c) xs (from (Pieces closed) (append_assoc a.taken (sign mark.Semicolon ∷ []) there) h) in
      (r.0, r.1, left_parted (sign mark.Semicolon ∷ there) there r.0 r.2 refl);
}

-- the scripts that end where the symbols do
at_end : {before rest : Symbols} {xs : List Stmt} → Pieces closed before xs rest → AtEnd rest → IsScript before xs
at_end {before = before} {xs = xs} h e = subst (λ (a : Symbols). Pieces closed before xs a) e h

-- a piece was not read
pub told_missed : {start here after : Symbols} {old : List Stmt} {e : Broken} → Told opened start here old → Reading (OnePiece old) Ends here after (Err e) → Reading (Pieces closed) AtEnd start after (Err e)
told_missed a memory = memory
told_missed {here = here} {after = after} {old = old} a (refused p) = refused (record {
  taken = a.taken ++ p.taken;
  parts = two_places a.taken p.taken after a.parts p.parts;
  goes = record {
    more = p.goes.more;
    meant = p.goes.meant;
    value = p.goes.value;
    spells = λ z. from (Pieces closed) (ap (λ (l : Symbols). l ++ z) (sym (append_assoc a.taken p.taken p.goes.more)))
        (pieces_on a.taken (p.taken ++ p.goes.more) z old p.goes.value (a.spells ((p.taken ++ p.goes.more) ++ z)) (p.goes.spells z));
  };
  none = λ there alike xs rest h q.
      let r = a.goes (p.taken ++ there) (alike_from here p.taken after there p.parts alike) xs (from (Pieces closed) (append_assoc a.taken p.taken there) (at_end h q)) in
      let never : Refused ≡ Memory = piece_missed (p.taken ++ there) r.0 Refused r.2 (λ e. absurd (p.none there alike old (p.taken ++ there) (inl (refl, refl)) e)) (λ s rest i e. absurd (p.none there alike (old ++ s ∷ []) rest (inr (s, refl, i)) e)) in
      absurd (cc);
})

-- no `;` is next: the script ends, where nothing is left
pub told_over : {start here there : Symbols} {script : List Stmt} → Told closed start here script → ((next : Symbols) → IsSign here mark.Semicolon next → ⊥) → there ≡ here → Reading (Pieces closed) AtEnd start there (Ok script)
told_over {script = script} a absent e = read (record {
  taken = a.taken;
  parts = a.parts ∙ ap (λ (l : Symbols). a.taken ++ l) (sym e);
  spells = a.spells;
  only = λ z alike xs rest h q.
      let same = ap first (sym e) ∙ alike in
      let r = a.goes z same xs (at_end h q) in
      let o = left_over z r.0 r.2 (λ next c. lacks same absent c) in
      (sym (r.1 ∙ (ap (λ (l : List Stmt). script ++ l) o.1 ∙ append-nil script)), o.0 ∙ sym q);
})

-- and where something is left, no script goes on with it
pub told_left : {start here there : Symbols} {script : List Stmt} → Told closed start here script → ((next : Symbols) → IsSign here mark.Semicolon next → ⊥) → there ≡ here → 0 < length there → Reading (Pieces closed) AtEnd start there (Err Refused)
told_left {there = there} {script = script} a absent e some = refused (record {
  taken = a.taken;
  parts = a.parts ∙ ap (λ (l : Symbols). a.taken ++ l) (sym e);
  goes = record { more = []; meant = tt; value = script; spells = λ z. from (Pieces closed) (ap (λ (l : Symbols). l ++ z) (sym (append-nil a.taken))) (a.spells z) };
  none = λ z alike xs rest h q.
      let same = ap first (sym e) ∙ alike in
      let r = a.goes z same xs (at_end h q) in
      let o = left_over z r.0 r.2 (λ next c. lacks same absent c) in
      none_left there some (alike ∙ ap first o.0);
})
  where
    none_left : (there : Symbols) → 0 < length there → first there ≡ first [] → ⊥
    none_left [] some f = absurd (omega (arith, some))
    none_left (s ∷ there) some f = absurd (cc)
