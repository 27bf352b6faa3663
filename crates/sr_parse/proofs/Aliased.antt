-- Aliases of triggers, as a reader goes through them.
use Rattle.std.proofs.Common.{◌≡◌, ℕ, ◌+◌, ◌<◌, List, [], ◌∷◌, ◌++◌, Some, sym, subst, ◌∙◌, ap, arith, length, length-append, get_or, Any as Some_of, All, AllPairs}
use Rattle.std.proofs.Math.Seq.{get_or-append_seam}
use Rattle.std.proofs.lemmas.List.{get_or_append_left}
use Rattle.std.proofs.lemmas.List.Quantifiers.{all_pairs_push}
use Rattle.sr_parse_reader.specs.declared.reader.Broken.{Broken}
use Rattle.sr_parse_reader.specs.declared.reader.Broken.TheVariants.{Memory}
use Rattle.sr_ast.specs.declared.create.Image.{Image}
use Rattle.sr_ast.specs.declared.keyword.Keyword.TheVariants as key
use Rattle.sr_ast.specs.NormalForms.{Differ}
use Rattle.sr_parse_grammar.specs.declared.symbol.Symbol.{Symbol}
use Rattle.sr_parse_grammar.specs.declared.symbol.Symbol.TheVariants as symbol
use Rattle.sr_parse_grammar.specs.Symbols.{Symbols, first, word, IsName, IsWord}
use Rattle.sr_parse_grammar.specs.Inner.Symbols.{behind}
use Rattle.sr_parse_grammar.specs.Listing.{Row}
use Rattle.sr_parse_grammar.specs.Triggers.{image_word, IsAlias, AreAliases}
use Rattle.sr_parse_grammar.specs.Inner.Going.{Stop, is_image}
use Rattle.sr_parse_grammar.proofs.Steps.{Stop-begins}
use Rattle.sr_parse_grammar.proofs.Lists.{File}
use Rattle.sr_parse_grammar.proofs.Lists.File.{empty, first as prefix}
use Rattle.sr_parse_reader.proofs.Lines.{Runs}
use Rattle.sr_parse_grammar.proofs.Triggering.{image_once, image_is}

-- the next symbol, and what is behind it
pub next_is : (symbols : Symbols) (s : Symbol) → first symbols ≡ Some s → symbols ≡ s ∷ behind symbols
next_is [] s e = absurd (cc)
next_is (x ∷ symbols) s e = cc

-- where a row is next, the aliases go on with one of it
pub record Ahead (image : Image) (here : Symbols) (read xs : List (Image × List ℕ)) : Type 0 where
  pub name : List ℕ
  pub left : List (Image × List ℕ)
  pub named : Symbols
  pub after : Symbols
  pub is : xs ≡ read ++ (image, name) ∷ left
  pub as_word : IsWord (behind here) key.As named
  pub name_is : IsName named name after

ahead_file : (image : Image) (here : Symbols) (read xs others : List (Image × List ℕ)) (rest : Symbols) → first here ≡ Some (word (image_word image))
    → xs ≡ read ++ others → File IsAlias here others rest → Stop is_image rest → Ahead image here read xs
ahead_file image here read xs others rest f e empty s = absurd (Stop-begins is_image (next_is here _ f) (image_is image) s)
ahead_file image here read xs others rest f e (prefix {middle = middle} {x = x} {xs = left} h others_) s =
    let is = h.image in let n = next_is here _ f in
    let same : symbol.Keyword (image_word x.0) ≡ symbol.Keyword (image_word image) = cc in
    let i : x.0 ≡ image = image_once x.0 image same in
    let pair : x ≡ (image, x.1) = ap (λ i. let a : Image × List ℕ = (i, x.1) in a) i in
    record { name = x.1; left = left; named = h.next; after = middle; is = subst (λ v. xs ≡ read ++ v ∷ left) pair e; as_word = cc; name_is = h.name }

pub alias_ahead : {start here : Symbols} (image : Image) (read : List (Image × List ℕ)) → Runs IsAlias (Stop is_image) start read here → first here ≡ Some (word (image_word image))
    → (xs : List (Image × List ℕ)) (rest : Symbols) → Row IsAlias start xs rest → Stop is_image rest → Ahead image here read xs
alias_ahead {here = here} image read runs f xs rest h s = let r = runs xs rest h s in ahead_file image here read xs r.0 rest f r.1 r.2 s

-- the next alias has a row and a name that none before it has
pub apart_next : (read left xs : List (Image × List ℕ)) (y : Image × List ℕ) → xs ≡ read ++ y ∷ left → AllPairs Differ xs → (k : ℕ) (d : Image × List ℕ) → k < length read → Differ (get_or read k d) y
apart_next read left xs y e p k d less =
    let l : length xs ≡ length read + length (y ∷ left) = ap length e ∙ length-append read (y ∷ left) in
    let q : Differ (get_or xs k d) (get_or xs (length read) d) = p k (length read) d less (omega arith) in
    let here : get_or xs (length read) d ≡ y = ap (λ zs. get_or zs (length read) d) e ∙ get_or-append_seam read y left d in
    let there : get_or xs k d ≡ get_or read k d = ap (λ zs. get_or zs k d) e ∙ get_or_append_left read (y ∷ left) d k less in
    subst (λ v. Differ (get_or read k d) v) here (subst (λ v. Differ v (get_or xs (length read) d)) there q)

-- a row that has an alias already is none of aliases that are apart
pub image_used : {start here : Symbols} (image : Image) (read seen : List (Image × List ℕ)) → Runs IsAlias (Stop is_image) start read here → first here ≡ Some (word (image_word image)) → seen ≡ read → Some_of (λ a. a.0 ≡ image) seen
    → (xs : List (Image × List ℕ)) (rest : Symbols) → AreAliases start xs rest → Stop is_image rest → ⊥
image_used image read seen runs f e used xs rest h s =
    let a = alias_ahead image read runs f xs rest h.listed s in
    image_clash read image a.name (subst (λ l. Some_of (λ a. a.0 ≡ image) l) e used) (apart_next read a.left xs (image, a.name) a.is h.apart)
  where
    image_clash : (read : List (Image × List ℕ)) (image : Image) (name : List ℕ) → Some_of (λ a. a.0 ≡ image) read
        → ((k : ℕ) (d : Image × List ℕ) → k < length read → Differ (get_or read k d) (image, name)) → ⊥
    image_clash read image name (k, x, less, at, is) apart = (apart k x less).0 (subst (λ (v : Image × List ℕ). v.0 ≡ image) (sym at) is)

-- and so with a name
pub name_used : {start here named : Symbols} (image : Image) (read seen : List (Image × List ℕ)) → Runs IsAlias (Stop is_image) start read here → first here ≡ Some (word (image_word image)) → IsWord (behind here) key.As named
    → seen ≡ read → ((name : List ℕ) (rest : Symbols) → IsName named name rest → Some_of (λ a. a.1 ≡ name) seen)
    → (xs : List (Image × List ℕ)) (rest : Symbols) → AreAliases start xs rest → Stop is_image rest → ⊥
name_used {named = named} image read seen runs f w e taken xs rest h s =
    let a = alias_ahead image read runs f xs rest h.listed s in
    let v = a.as_word in
    let same : named ≡ a.named = cc in
    let used = taken a.name a.after (subst (λ (b : Symbols). IsName b a.name a.after) (sym same) a.name_is) in
    name_clash read image a.name (subst (λ l. Some_of (λ b. b.1 ≡ a.name) l) e used) (apart_next read a.left xs (image, a.name) a.is h.apart)
  where
    name_clash : (read : List (Image × List ℕ)) (image : Image) (name : List ℕ) → Some_of (λ a. a.1 ≡ name) read
        → ((k : ℕ) (d : Image × List ℕ) → k < length read → Differ (get_or read k d) (image, name)) → ⊥
    name_clash read image name (k, x, less, at, is) apart = (apart k x less).1 (subst (λ (v : Image × List ℕ). v.1 ≡ name) (sym at) is)

-- AS was not read
pub keyword_missed : {start here next : Symbols} {e : Broken} (image : Image) (read : List (Image × List ℕ)) → Runs IsAlias (Stop is_image) start read here → first here ≡ Some (word (image_word image)) → next ≡ behind here
    → ((rest : Symbols) → IsWord next key.As rest → e ≡ Memory) → (xs : List (Image × List ℕ)) (rest : Symbols) → Row IsAlias start xs rest → Stop is_image rest → e ≡ Memory
keyword_missed image read runs f n m xs rest h s = let a = alias_ahead image read runs f xs rest h s in m a.named (n ∙ a.as_word)

-- the name was not read
pub name_missed : {start here named : Symbols} {e : Broken} (image : Image) (read : List (Image × List ℕ)) → Runs IsAlias (Stop is_image) start read here → first here ≡ Some (word (image_word image)) → IsWord (behind here) key.As named
    → ((name : List ℕ) (rest : Symbols) → IsName named name rest → e ≡ Memory) → (xs : List (Image × List ℕ)) (rest : Symbols) → Row IsAlias start xs rest → Stop is_image rest → e ≡ Memory
name_missed {named = named} image read runs f w m xs rest h s =
    let a = alias_ahead image read runs f xs rest h s in
    let v = a.as_word in
    let same : named ≡ a.named = cc in
    m a.name a.after (subst (λ (b : Symbols). IsName b a.name a.after) (sym same) a.name_is)

-- where no row is next, there is no alias
pub alias_none : {here : Symbols} → ((image : Image) → first here ≡ Some (word (image_word image)) → ⊥) → (x : Image × List ℕ) (rest : Symbols) → IsAlias here x rest → ⊥
alias_none none x rest h = none x.0 (ap first h.image)

-- where a row is next, aliases do not end
pub image_begins : (here : Symbols) (image : Image) → first here ≡ Some (word (image_word image)) → Stop is_image here → ⊥
image_begins here image f s = Stop-begins is_image (next_is here _ f) (image_is image) s

-- an alias more, with a row and a name of its own
pub apart_more : (read on seen known : List (Image × List ℕ)) (image : Image) (name : List ℕ) → AllPairs Differ read → on ≡ read ++ (image, name) ∷ []
    → seen ≡ read → All (λ a. a.0 ≡ image → ⊥) seen → known ≡ read → All (λ a. a.1 ≡ name → ⊥) known → AllPairs Differ on
apart_more read on seen known image name p e f i g n =
    let images = subst (λ l. All (λ a. a.0 ≡ image → ⊥) l) f i in
    let names = subst (λ l. All (λ a. a.1 ≡ name → ⊥) l) g n in
    subst (λ zs. AllPairs Differ zs) (sym e) (all_pairs_push Differ read (image, name) p (λ k d less. (images k d less, names k d less)))
