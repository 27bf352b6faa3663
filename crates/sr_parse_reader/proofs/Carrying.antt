-- Readers of PASSTHROUGH.
use Rattle.std.proofs.Common.{◌≡◌, ℕ, Bool, true, false, List, [], ◌∷◌, Ok, IsTrue, IsFalse, refl, sym, ap, ◌∙◌}
use Rattle.sr_ast.specs.declared.stmt.Passthrough.{Passthrough}
use Rattle.sr_ast.specs.declared.keyword.Keyword.TheVariants as key
use Rattle.sr_parse_grammar.specs.Symbols.{Symbols, first, word, IsName, IsWord}
use Rattle.sr_parse_grammar.specs.Listing.{Listed}
use Rattle.sr_parse_grammar.specs.Scripts.{IsOnly, IsPassthrough}
use Rattle.sr_parse_reader.specs.Inner.Reading.{Alike, Reading, BeforeWord}
use Rattle.sr_parse_reader.specs.Inner.Reading.Reading.{read}
use Rattle.sr_parse_reader.specs.Inner.Productions.{Word}
use Rattle.sr_parse_reader.proofs.Parts.{Seq}
use Rattle.sr_parse_reader.proofs.Starts.{lacks}
use Rattle.sr_parse_reader.proofs.Optionals.{Lacks}

-- ---- [ONLY]

only_there : (there : Symbols) (y : Bool) (rest : Symbols) → IsOnly (word key.Only ∷ there) y rest → BeforeWord key.For rest → (true ≡ y) × (there ≡ rest)
only_there there true rest h p = (refl, cc)
only_there there false rest h (next, w) = absurd (cc)

only_not : {before : Symbols} → Lacks key.Only before → (there : Symbols) → Alike before there → (y : Bool) (rest : Symbols) → IsOnly there y rest → (false ≡ y) × (there ≡ rest)
only_not absent there alike true rest h = absurd (lacks alike absent h)
only_not absent there alike false rest h = (refl, h)

pub only_read : {before here : Symbols} (t : Bool) → (IsTrue t → IsWord before key.Only here) → (IsFalse t → Lacks key.Only before) → (IsFalse t → here ≡ before) → Reading IsOnly (BeforeWord key.For) before here (Ok t)
only_read true found absent kept = read (record { taken = word key.Only ∷ []; parts = found refl; spells = λ after. refl; only = λ there alike y rest h p. only_there there y rest h p })
only_read false found absent kept = read (record {
  taken = [];
  parts = sym (kept refl);
  spells = λ after. refl;
  only = λ there alike y rest h p. only_not (absent refl) there (ap first (sym (kept refl)) ∙ alike) y rest h;
})

-- ---- [ONLY] FOR n {, n}

abbrev pub CarriedParts : Symbols → Bool × (Unit {0} × List (List ℕ)) → Symbols → Type 0
CarriedParts = Seq IsOnly (Seq (Word key.For) (Listed IsName))

abbrev pub carried_of : Bool × (Unit {0} × List (List ℕ)) → Passthrough
carried_of p = record { only = p.0; users = p.1.1 }

pub carried_to : (b : Symbols) (x : Bool × (Unit {0} × List (List ℕ))) (a : Symbols) → CarriedParts b x a → IsPassthrough b (carried_of x) a
carried_to b x a h = record { for_ = h.0; users_ = h.2.0; only = h.1; for = h.2.1; users = h.2.2 }

pub carried_back : (b : Symbols) (y : Passthrough) (a : Symbols) → IsPassthrough b y a → (x : Bool × (Unit {0} × List (List ℕ))) × CarriedParts b x a × (carried_of x ≡ y)
carried_back b y a h = ((y.only, (tt, y.users)), (h.for_, h.only, (h.users_, h.for, h.users)), refl)
