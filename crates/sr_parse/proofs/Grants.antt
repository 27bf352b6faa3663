-- Readers of literals with a sign, of subscriptions and of what is granted.
use Rattle.std.proofs.Common.{pos, neg_ℤ, ◌≡◌, ℕ, List, [], ◌∷◌, Option, Some, None, Result, Ok, Err, refl, sym, subst, ap, ◌∙◌, inl, inr}
use Rattle.sr_base.specs.declared.value.Value.{Value}
use Rattle.sr_base.specs.declared.value.Value.TheVariants.{Int}
use Rattle.sr_ast.specs.declared.create.SubscriptionRule.{SubscriptionRule}
use Rattle.sr_ast.specs.declared.keyword.Keyword.TheVariants as key
use Rattle.sr_ast.specs.declared.create.Grant.{Grant}
use Rattle.sr_parse_grammar.specs.declared.symbol.Sign.TheVariants as mark
use Rattle.sr_parse_grammar.specs.declared.symbol.Symbol.TheVariants as symbol
use Rattle.sr_parse_reader.specs.declared.reader.Broken.{Broken}
use Rattle.sr_parse_reader.specs.declared.reader.Broken.TheVariants.{Refused}
use Rattle.sr_parse_grammar.specs.Symbols.{Symbols, first, word, IsName, IsWord, IsSign, IsTextAt}
use Rattle.sr_parse_grammar.specs.Inner.Symbols.{behind}
use Rattle.sr_parse_grammar.specs.Parts.{IsBehind}
use Rattle.sr_parse_grammar.specs.Literals.{IsLiteral, IsNegative}
use Rattle.sr_parse_grammar.specs.Catalog.{IsSigned, IsGiven, IsSubscription, IsAddress, IsGrant}
use Rattle.sr_parse_grammar.specs.Inner.Going.{Stop, Ends, is_open}
use Rattle.sr_parse_reader.specs.Inner.Reading.{Alike, Reading, Anywhere, mapped}
use Rattle.sr_parse_reader.specs.Inner.Productions.{Word, Mark}
use Rattle.sr_parse_grammar.proofs.Steps.{Stop-begins}
use Rattle.sr_parse_grammar.proofs.Lists.{Ends-stop}
use Rattle.sr_parse_grammar.proofs.Expressing.{negative_once}
use Rattle.sr_parse.proofs.Granting.{signed_left}
use Rattle.sr_parse_grammar.proofs.Cataloguing.{literal_no_minus}
use Rattle.sr_parse_grammar.proofs.Granted.{is_type, grant_of, grant_proper}
use Rattle.sr_parse_reader.proofs.Parts.{Seq, Sample, cast, goes_first, recast, whole_read}
use Rattle.sr_parse_reader.proofs.Optionals.{led_read}
use Rattle.sr_parse_reader.proofs.Starts.{meant_one, standing, one_read, none_read, lacks, word_sample, name_sample, nothing_read}

-- ---- literals with a sign

-- without a `-` it is a literal
pub literal_read : {before from here : Symbols} {r : Result Value Broken} → from ≡ before → ((rest : Symbols) → IsSign before mark.Minus rest → ⊥) → Reading IsLiteral Anywhere from here r → Reading IsSigned Anywhere before here (mapped (λ v. v) r)
literal_read {before = before} {here = here} {r = r} e absent h =
    cast (record { to = λ b x a l. inl l; back = λ b y a alike s q. (y, signed_left b (λ rest m. lacks alike absent m) y a s, tt, refl) })
    (subst (λ (b : Symbols). Reading IsLiteral Anywhere b here r) e h)

-- behind a `-`
negative_sample : Sample IsNegative
negative_sample = record {
  more = symbol.Number (pos 1) ∷ [];
  meant = (meant_one, tt);
  value = Int (neg_ℤ (pos 1));
  spells = λ after. record { number = symbol.Number (pos 1); stands = refl; means = refl };
}

pub negative_read : {before here : Symbols} {v : Value} → IsNegative before v here → Reading IsNegative Anywhere before here (Ok v)
negative_read h = one_read IsNegative Anywhere h.number h.stands (λ after. record { number = h.number; stands = refl; means = h.means })
    (λ there y rest k. negative_once refl (record { number = h.number; stands = refl; means = h.means }) k)

pub negative_missed : {before here : Symbols} → here ≡ before → ((v : Value) (rest : Symbols) → IsNegative before v rest → ⊥) → Reading IsNegative Anywhere before here (Err Refused)
negative_missed {before = before} e absent = none_read IsNegative Anywhere e negative_sample
    (λ there alike y rest h p. absent y (behind before) (record { number = h.number; stands = standing before (alike ∙ ap first h.stands); means = h.means }))

pub signed_read : {before next here : Symbols} {r : Result (Unit {0} × Value) Broken} → IsSign before mark.Minus next → Reading (Seq (Mark mark.Minus) IsNegative) Anywhere before here r → Reading IsSigned Anywhere before here (mapped (λ p. p.1) r)
signed_read m h = cast (record {
  to = λ b x a s. inr s;
  back = λ b y a alike s q. elim s [ inl l ↦ absurd (literal_no_minus b b a _ y refl l (standing b (sym alike ∙ ap first m))) | inr n ↦ ((tt, y), n, tt, refl) ];
}) h

-- ---- a value that is given

given_sample : Sample IsGiven
given_sample = record { more = []; meant = tt; value = None; spells = λ after. refl }

abbrev pub GivenParts : Symbols → Unit {0} × (Value × Unit {0}) → Symbols → Type 0
GivenParts = Seq (Mark mark.Open) (Seq IsSigned (Mark mark.Close))

abbrev pub given_of : Unit {0} × (Value × Unit {0}) → Option Value
given_of p = Some p.1.0

given_absent : {before : Symbols} → ((rest : Symbols) → IsSign before mark.Open rest → ⊥) → (there : Symbols) → Alike before there → (y : Option Value) (rest : Symbols) → IsGiven there y rest → (None ≡ y) × (there ≡ rest)
given_absent absent there alike None rest h = (refl, h)
given_absent absent there alike (Some v) rest (inside, close, o, h, c) = absurd (lacks alike absent o)

pub given_none : {before here : Symbols} → here ≡ before → ((rest : Symbols) → IsSign before mark.Open rest → ⊥) → Reading IsGiven (Stop is_open) before here (Ok None)
given_none e absent = nothing_read IsGiven (Stop is_open) None e (λ after. refl) (λ there alike y rest h p. given_absent absent there alike y rest h)

given_back : {before next : Symbols} → IsSign before mark.Open next → (b : Symbols) (y : Option Value) (a : Symbols) → Alike before b → IsGiven b y a → Stop is_open a
    → (x : Unit {0} × (Value × Unit {0})) × GivenParts b x a × Anywhere a × (given_of x ≡ y)
given_back o b None a alike h q = absurd (Stop-begins is_open (sym h ∙ standing b (sym alike ∙ ap first o)) refl q)
given_back o b (Some v) a alike (inside, close, p, h, c) q = ((tt, (v, tt)), (inside, p, (close, h, c)), tt, refl)

pub given_read : {before next here : Symbols} {r : Result (Unit {0} × (Value × Unit {0})) Broken} → IsSign before mark.Open next → Reading GivenParts Anywhere before here r → Reading IsGiven (Stop is_open) before here (mapped given_of r)
given_read o h = cast (record { to = λ b x a s. (s.0, s.2.0, s.1, s.2.1, s.2.2); back = given_back o }) h

-- ---- subscriptions

abbrev pub SubscriptionParts : Symbols → Unit {0} × (Unit {0} × (List ℕ × (Option Value × (Unit {0} × List ℕ)))) → Symbols → Type 0
SubscriptionParts = Seq (Word key.Subscription) (Seq (Word key.To) (Seq IsName (Seq IsGiven (Seq (Word key.For) IsName))))

abbrev pub subscription_of : Unit {0} × (Unit {0} × (List ℕ × (Option Value × (Unit {0} × List ℕ)))) → SubscriptionRule
subscription_of p = record { publication = p.1.1.0; value = p.1.1.1.0; user = p.1.1.1.1.1 }

pub subscription_to : (b : Symbols) (x : Unit {0} × (Unit {0} × (List ℕ × (Option Value × (Unit {0} × List ℕ))))) (a : Symbols) → SubscriptionParts b x a → IsSubscription b (subscription_of x) a
subscription_to b x a h = let n = h.2.2 in let g = n.2 in let f = g.2 in record {
  named = h.2.0;
  given = n.0;
  for = g.0;
  user_ = f.0;
  to = h.1 ∙ ap (λ (l : Symbols). word key.Subscription ∷ l) h.2.1;
  publication = n.1;
  value = g.1;
  behind = f.1;
  user = f.2;
}

pub subscription_back : (b : Symbols) (y : SubscriptionRule) (a : Symbols) → IsSubscription b y a → (x : Unit {0} × (Unit {0} × (List ℕ × (Option Value × (Unit {0} × List ℕ))))) × SubscriptionParts b x a × (subscription_of x ≡ y)
subscription_back b y a h = ((tt, (tt, (y.publication, (y.value, (tt, y.user))))), (_, h.to, (h.named, refl, (h.given, h.publication, (h.for, h.value, (h.user_, h.behind, h.user))))), refl)

-- the parts from the user on, and so on to the left
pub for_sample : Sample (Seq (Word key.For) IsName)
for_sample = goes_first (Word key.For) IsName [] (word_sample key.For) name_sample

pub valued_sample : Sample (Seq IsGiven (Seq (Word key.For) IsName))
valued_sample = goes_first IsGiven _ [] given_sample for_sample

pub published_sample : Sample (Seq IsName (Seq IsGiven (Seq (Word key.For) IsName)))
published_sample = goes_first IsName _ [] name_sample valued_sample

-- ---- grants

-- behind TYPE
pub address_read : {before next here : Symbols} {r : Result (List ℕ) Broken} → IsWord before key.Type next → Reading (IsBehind key.File (IsBehind key.Address IsTextAt)) Anywhere next here r → Reading IsAddress Ends before here (mapped Some r)
address_read w r = led_read key.Type (IsBehind key.File (IsBehind key.Address IsTextAt)) Ends is_type refl (λ a q. tt) (λ a q. Ends-stop is_type a refl q) w r

pub grant_read : {before here : Symbols} {r : Result (List ℕ × Option (List ℕ)) Broken} → Reading (IsBehind key.To (Seq IsName IsAddress)) Ends before here r → Reading IsGrant Ends before here (mapped grant_of r)
grant_read r = whole_read (λ g. (g.user, g.address)) grant_of (λ g. refl) (λ p. refl) r

pub grant_sample : Sample IsGrant
grant_sample = grant_proper.sample

-- behind CONSOLIDATE
pub consolidated_read : {before here : Symbols} {r : Result (Unit {0} × Grant) Broken} → Reading (Seq (Word key.Consolidate) IsGrant) Ends before here r → Reading (IsBehind key.Consolidate IsGrant) Ends before here (mapped (λ p. p.1) r)
consolidated_read h = recast (IsBehind key.Consolidate IsGrant) (λ (p : Unit {0} × Grant). p.1) (λ b x a h. h) (λ b y a h. ((tt, y), h, refl)) h
