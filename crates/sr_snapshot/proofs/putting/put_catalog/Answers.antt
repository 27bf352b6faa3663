use Rattle.std.proofs.Common.{◌≡◌, List, ℕ, ◌++◌, length, ◌∙◌, ap, subst, append_assoc}
use Rattle.std.proofs.lemmas.Result.{err_from_is_err_and}
use Rattle.std.specs.Int.{w32, w64, to_be_bytes}
use Rattle.std.specs.List.{flat_map}
use Rattle.sr_base.specs.Fields.{bytes_spelling, name_spelling}
use Rattle.sr_snapshot.proofs.Puts.{cause_memory, put_behind}
use Rattle.sr_snapshot.proofs.Shorts.{later_short}
use Rattle.sr_snapshot.specs.Parts.{magic}
use Rattle.sr_snapshot.specs.Inner.Writing.{HasPut}
use Rattle.sr_snapshot.proofs.putting.put_catalog.Goals as goal

regroup : (a b c d : List ℕ) → (magic ++ (a ++ (b ++ c))) ++ d ≡ magic ++ (a ++ (b ++ (c ++ d)))
regroup a b c d = ap (λ (l : List ℕ). magic ++ l) (append_assoc a (b ++ c) d ∙ ap (λ (l : List ℕ). a ++ l) (append_assoc b c d))

pub returns-in_err-write_head-clause-cause : goal.returns-in_err-write_head-clause-cause
returns-in_err-write_head-clause-cause g c =
    let p = err_from_is_err_and c.from_residual.result c.from_residual.ensures.1 in
    rw (p.1, p.2) (cause_memory c.args.file (g.S.Held.seen c.args.site.now))

pub put_texts-requires : goal.put_texts-requires
put_texts-requires g c = record { short = later_short (to_be_bytes w32 (length c.args.texts.now)) _ c.requires.short; at = c.requires.at }

pub returns-clause-put : goal.returns-clause-put
returns-clause-put g c =
    let before = g.S.Held.seen c.args.site.now in
    let now = g.S.Held.seen c.put_texts.new.site in
    let texts : List (List ℕ) = c.args.texts.now in
    let a : List ℕ = to_be_bytes w64 c.args.offset.0 in
    let b : List ℕ = name_spelling c.args.publisher.now in
    let d : List ℕ = to_be_bytes w32 (length texts) in
    let e : List ℕ = flat_map bytes_spelling texts in
    subst (λ (l : List ℕ). HasPut c.args.file l before now c.args.out.now.buffer.items c.put_texts.new.out.buffer.items c.put_texts.new.out.place) (regroup a b d e)
    (put_behind c.args.file (magic ++ (a ++ (b ++ d))) e before now c.args.out.now.buffer.items _ _ c.args.out.now.place _ c.requires.at c.in_ok-write_head.ensures.added c.in_ok-put_texts.ensures.put)
