-- Readers of at most seven joins.
use Rattle.std.proofs.Common.{arith, ◌≡◌, ◌<◌, ◌≤◌, Bool, List, [], ◌∷◌, ◌++◌, length, length-append, Ok, Err, refl, sym, subst, ap, ◌∙◌, append_assoc}
use Rattle.std.proofs.lemmas.List.{append-nil}
use Rattle.sr_ast.specs.declared.query.Join.{Join}
use Rattle.sr_parse_grammar.specs.declared.symbol.Symbol.{Symbol}
use Rattle.sr_parse_reader.specs.declared.reader.Broken.{Broken}
use Rattle.sr_parse_reader.specs.declared.reader.Broken.TheVariants.{Memory, Refused}
use Rattle.sr_parse_grammar.specs.Symbols.{Symbols}
use Rattle.sr_parse_grammar.specs.Listing.{Row}
use Rattle.sr_parse_grammar.specs.Writing.{IsJoin}
use Rattle.sr_parse_grammar.specs.Inner.Going.{Stop, Begins, expression_goes, is_join}
use Rattle.sr_parse_reader.specs.Inner.Reading.{Alike, Reading}
use Rattle.sr_parse_reader.specs.Inner.Reading.Reading.{read, refused, memory}
use Rattle.sr_parse_reader.specs.Inner.Productions.{FewJoins}
use Rattle.sr_parse_reader.proofs.Listings.{Row-then}
use Rattle.sr_parse_reader.proofs.Lines.{Row-more, Row-missed}
use Rattle.sr_parse_reader.proofs.Missing.{Joined, joins_begun, join_goes, join_none}
use Rattle.sr_parse_reader.proofs.Parts.{from, alike_from, two_places}
use Rattle.sr_parse_reader.proofs.Starts.{standing}
use Rattle.sr_parse_reader.proofs.Loops.{Filed, Goes-on, filed_done}

-- what looks alike begins alike
begins_alike : (test : Symbol → Bool) (here there : Symbols) → Alike here there → Begins test here → Begins test there
begins_alike test [] there alike h = absurd h
begins_alike test (s ∷ here) there alike h = subst (λ (b : Symbols). Begins test b) (sym (standing there (sym alike))) h

stops_alike : (test : Symbol → Bool) (here there : Symbols) → Alike here there → Stop test here → Stop test there
stops_alike test here [] alike h = tt
stops_alike test here (s ∷ there) alike h = subst (λ (b : Symbols). Stop test b) (standing here alike) h

-- where a join may begin, the joins go on
pub joins_go : (here : Symbols) → Begins is_join here → Goes-on Joined here
joins_go here b there alike j = join_goes there (begins_alike is_join here there alike b) j

-- ---- at most seven

counted_few : {P : Symbols → Type 0} {before here : Symbols} {joins : List Join} → length joins ≤ 7 → Reading (Row IsJoin) P before here (Ok joins) → Reading FewJoins P before here (Ok joins)
counted_few few (read r) = read (record { taken = r.taken; parts = r.parts; spells = λ after. (r.spells after, few); only = λ there alike xs rest h q. r.only there alike xs rest h.0 q })

-- no join is next
pub joins_read : {start here there : Symbols} {joins : List Join} → Filed IsJoin Joined start here joins → length joins ≤ 7 → Stop is_join here → there ≡ here → Reading FewJoins Joined start there (Ok joins)
joins_read {start = start} {here = here} {there = there} a few stop e = counted_few few (filed_done a (λ z alike x next h. join_none z (stops_alike is_join here z alike stop) x next h) e)

-- a list that goes on from fewer than seven
longer : {A : Type 0} (xs : List A) (x : A) → length xs < 7 → length (xs ++ x ∷ []) ≤ 7
longer xs x h = let l = length-append xs (x ∷ []) in omega arith

-- a join more was refused
pub joins_missed : {start here after : Symbols} {joins : List Join} {e : Broken} → Filed IsJoin Joined start here joins → length joins < 7 → Begins is_join here → Reading IsJoin (Stop expression_goes) here after (Err e) → Reading FewJoins Joined start after (Err e)
joins_missed a few begins memory = memory
joins_missed {here = here} {after = after} {joins = joins} a few begins (refused r) = refused (record {
  taken = a.taken ++ r.taken;
  parts = two_places a.taken r.taken after a.parts r.parts;
  goes = record {
    more = r.goes.more;
    meant = r.goes.meant;
    value = joins ++ r.goes.value ∷ [];
    spells = λ z. (
      from (Row IsJoin) (sym (append_assoc a.taken (r.taken ++ r.goes.more) z) ∙ ap (λ (l : Symbols). l ++ z) (sym (append_assoc a.taken r.taken r.goes.more)))
          (Row-then (a.spells ((r.taken ++ r.goes.more) ++ z)) (r.goes.spells z) refl),
      longer joins r.goes.value few,
    );
  };
  none = λ there alike xs rest h q.
      let same = alike_from here r.taken after there r.parts alike in
      let never : Refused ≡ Memory = Row-missed IsJoin (Stop expression_goes) Joined joins_begun (λ z j. j.0) joins (a.runs (r.taken ++ there) same) (joins_go here begins (r.taken ++ there) same)
      (λ x l k p. absurd (r.none there alike x l k p)) xs rest (from (Row IsJoin) (append_assoc a.taken r.taken there) h.0) q in
      absurd (cc);
})

-- there are seven, and one more begins
pub joins_full : {start here there : Symbols} {joins : List Join} → Filed IsJoin Joined start here joins → length joins ≡ 7 → Begins is_join here → there ≡ here → Reading FewJoins Joined start there (Err Refused)
joins_full {here = here} {joins = joins} a seven begins e = refused (record {
  taken = a.taken;
  parts = a.parts ∙ ap (λ (b : Symbols). a.taken ++ b) (sym e);
  goes = record {
    more = [];
    meant = tt;
    value = joins;
    spells = λ z. (from (Row IsJoin) (ap (λ (l : Symbols). l ++ z) (sym (append-nil a.taken))) (a.spells z), omega arith);
  };
  none = λ there alike xs rest h q.
      let same : Alike here there = subst (λ (b : Symbols). Alike b there) e alike in
      let more : length joins < length xs = Row-more IsJoin Joined joins (a.runs there same) (joins_go here begins there same) xs rest h.0 q in
      let few : length xs ≤ 7 = h.1 in
      absurd (omega arith);
})
