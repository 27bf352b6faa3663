-- Readers of aliases: what was taken goes on with a row and a name of their own.
use Rattle.std.proofs.Common.{◌≡◌, ℕ, zero, suc, ◌<◌, Bool, true, false, List, [], ◌∷◌, ◌++◌, Some, Ok, Err, refl, sym, subst, ap, ◌∙◌, arith, codes, append_assoc, append-nil, Any as Some_of, All, AllPairs}
use Rattle.std.specs.Str.{bytes_eq}
use Rattle.std.proofs.lemmas.Slice.Eq.{bytes_eq-Decides}
use Rattle.std.proofs.lemmas.List.Quantifiers.{all_pairs_push}
use Rattle.sr_ast.specs.declared.create.Image.{Image}
use Rattle.sr_ast.specs.declared.create.Image.TheVariants.{Old, New, Remote}
use Rattle.sr_ast.specs.declared.keyword.Keyword.{Keyword}
use Rattle.sr_ast.specs.declared.keyword.Keyword.TheVariants as key
use Rattle.sr_ast.specs.Keywords.{named}
use Rattle.sr_ast.specs.NormalForms.{Differ}
use Rattle.sr_parse_reader.specs.declared.reader.Broken.{Broken}
use Rattle.sr_parse_reader.specs.declared.reader.Broken.TheVariants.{Memory, Refused}
use Rattle.sr_parse_grammar.specs.Symbols.{Symbols, first, name_meant, word, IsName, IsWord}
use Rattle.sr_parse_grammar.specs.Inner.Symbols.{behind}
use Rattle.sr_parse_grammar.specs.Inner.Meant.{AreMeant}
use Rattle.sr_parse_grammar.specs.Listing.{Row}
use Rattle.sr_parse_grammar.specs.Triggers.{image_word, IsAlias, AreAliases}
use Rattle.sr_parse_grammar.specs.Inner.Going.{Stop, is_image}
use Rattle.sr_parse_reader.specs.Inner.Reading.{Spells, GoesOn, Alike, Reading, Anywhere}
use Rattle.sr_parse_reader.specs.Inner.Reading.Reading.{read, refused, memory}
use Rattle.sr_parse_reader.specs.Inner.Productions.{Word}
use Rattle.sr_parse_grammar.proofs.Triggering.{image_once}
use Rattle.sr_parse.proofs.Aliased.{next_is, image_used, name_used, keyword_missed, name_missed, alias_none, image_begins}
use Rattle.sr_parse_reader.proofs.Parts.{Seq, four, from, two_places, meant_both, then, cast}
use Rattle.sr_parse_reader.proofs.Starts.{standing, meant_word, word_read}
use Rattle.sr_parse_reader.proofs.Loops.{Filed, Goes-on, row_on}

-- ---- a name that no alias has

-- a key word as a name, which is neither of two
record Unlike (m n : List ℕ) : Type 0 where
  pub key_word : Keyword
  pub name : List ℕ
  pub is : named key_word ≡ Some name
  pub first_not : m ≡ name → ⊥
  pub second_not : n ≡ name → ⊥

equals : (b : Bool) (xs ys : List ℕ) → bytes_eq xs ys ≡ b → b ≡ true → xs ≡ ys
equals b xs ys e t = (bytes_eq-Decides xs ys).0 (e ∙ t)

differs : (xs ys : List ℕ) → bytes_eq xs ys ≡ false → xs ≡ ys → ⊥
differs xs ys e same = let t = (bytes_eq-Decides xs ys).1 same in let u : true ≡ false = sym t ∙ e in cc

both_not : {m x y : List ℕ} → bytes_eq x y ≡ false → m ≡ x → m ≡ y → ⊥
both_not {x = x} {y = y} d e f = differs x y d (sym e ∙ f)

-- of OLD, NEW and REMOTE one is neither of two names
unlike : (m n : List ℕ) (m_old n_old m_new n_new : Bool) → bytes_eq m (codes "old") ≡ m_old → bytes_eq n (codes "old") ≡ n_old → bytes_eq m (codes "new") ≡ m_new → bytes_eq n (codes "new") ≡ n_new → Unlike m n
unlike m n false false m_new n_new a b c d = record { key_word = key.Old; name = codes "old"; is = refl; first_not = differs m (codes "old") a; second_not = differs n (codes "old") b }
unlike m n m_old n_old false false a b c d = record { key_word = key.New; name = codes "new"; is = refl; first_not = differs m (codes "new") c; second_not = differs n (codes "new") d }
unlike m n true n_old true n_new a b c d = absurd (both_not refl (equals true m (codes "old") a refl) (equals true m (codes "new") c refl))
unlike m n m_old true m_new true a b c d = absurd (both_not refl (equals true n (codes "old") b refl) (equals true n (codes "new") d refl))
unlike m n true false false true a b c d =
    record { key_word = key.Remote; name = codes "remote"; is = refl; first_not = both_not refl (equals true m (codes "old") a refl); second_not = both_not refl (equals true n (codes "new") d refl) }
unlike m n false true true false a b c d =
    record { key_word = key.Remote; name = codes "remote"; is = refl; first_not = both_not refl (equals true m (codes "new") c refl); second_not = both_not refl (equals true n (codes "old") b refl) }

unlike_two : (m n : List ℕ) → Unlike m n
unlike_two m n = unlike m n _ _ _ _ refl refl refl refl

-- rows as numbers: there are three
abbrev number : Image → ℕ
number Old = 0
number New = 1
number Remote = 2

number_small : (x : Image) → number x < 3
number_small Old = omega arith
number_small _ = omega arith

abbrev image_of : ℕ → Image
image_of zero = Old
image_of (suc zero) = New
image_of (suc (suc n)) = Remote

number_back : (x : Image) → image_of (number x) ≡ x
number_back Old = refl
number_back _ = refl

apart_numbers : {x y : Image} → (x ≡ y → ⊥) → number x ≡ number y → ⊥
apart_numbers {x = x} {y = y} d e = d (sym (number_back x) ∙ (ap image_of e ∙ number_back y))

four_apart : (a b c d : ℕ) → a < 3 → b < 3 → c < 3 → d < 3 → (a ≡ b → ⊥) → (a ≡ c → ⊥) → (b ≡ c → ⊥) → (a ≡ d → ⊥) → (b ≡ d → ⊥) → (c ≡ d → ⊥) → ⊥
four_apart a b c d la lb lc ld ab ac bc ad bd cd = omega (arith, la, lb, lc, ld, ab, ac, bc, ad, bd, cd)

-- a key word as a name that no alias has
record Fresh (items : List (Image × List ℕ)) : Type 0 where
  pub key_word : Keyword
  pub name : List ℕ
  pub is : named key_word ≡ Some name
  pub unused : All (λ a. a.1 ≡ name → ⊥) items

-- where a row has no alias, at most two stand before
fresh : (image : Image) (items : List (Image × List ℕ)) → AllPairs Differ items → All (λ a. a.0 ≡ image → ⊥) items → Fresh items
fresh image [] apart images = record { key_word = key.Old; name = codes "old"; is = refl; unused = λ k d less. absurd (omega (arith, less)) }
fresh image (a ∷ []) apart images =
    let u = unlike_two a.1 a.1 in record { key_word = u.key_word; name = u.name; is = u.is; unused = unused u.name u.first_not }
  where
    unused : (n : List ℕ) → (a.1 ≡ n → ⊥) → All (λ b. b.1 ≡ n → ⊥) (a ∷ [])
    unused n h zero d less = h
    unused n h (suc k) d less = absurd (omega (arith, less))
fresh image (a ∷ b ∷ []) apart images =
    let u = unlike_two a.1 b.1 in record { key_word = u.key_word; name = u.name; is = u.is; unused = unused u.name u.first_not u.second_not }
  where
    unused : (n : List ℕ) → (a.1 ≡ n → ⊥) → (b.1 ≡ n → ⊥) → All (λ b. b.1 ≡ n → ⊥) (a ∷ b ∷ [])
    unused n h g zero d less = h
    unused n h g (suc zero) d less = g
    unused n h g (suc (suc k)) d less = absurd (omega (arith, less))
fresh image (a ∷ b ∷ c ∷ items) apart images =
    absurd (four_apart (number a.0) (number b.0) (number c.0) (number image) (number_small a.0) (number_small b.0) (number_small c.0) (number_small image)
    (apart_numbers (apart 0 1 a (omega arith) (omega arith)).0) (apart_numbers (apart 0 2 a (omega arith) (omega arith)).0) (apart_numbers (apart 1 2 a (omega arith) (omega arith)).0)
    (apart_numbers (images 0 a (omega arith))) (apart_numbers (images 1 a (omega arith))) (apart_numbers (images 2 a (omega arith))))

-- ---- one alias

abbrev AliasParts : Image → Symbols → Unit {0} × (Unit {0} × List ℕ) → Symbols → Type 0
AliasParts image = Seq (Word (image_word image)) (Seq (Word key.As) IsName)

-- the row, AS and the name were read
pub alias_read : {here named after : Symbols} {name : List ℕ} (image : Image) → first here ≡ Some (word (image_word image)) → IsWord (behind here) key.As named → Reading IsName Anywhere named after (Ok name)
    → Reading IsAlias Anywhere here after (Ok (image, name))
alias_read {here = here} image f w r = cast (record { to = to; back = back }) (then (λ b y a h q. tt) (word_read (next_is here _ f)) (then (λ b y a h q. tt) (word_read w) r))
  where
    alias_of : Unit {0} × (Unit {0} × List ℕ) → Image × List ℕ
    alias_of p = (image, p.1.1)

    to : (b : Symbols) (x : Unit {0} × (Unit {0} × List ℕ)) (a : Symbols) → AliasParts image b x a → IsAlias b (alias_of x) a
    to b x a (m, v, (n, u, h)) = record { next = n; image = cc; name = h }

    back : (b : Symbols) (y : Image × List ℕ) (a : Symbols) → Alike here b → IsAlias b y a → Anywhere a → (x : Unit {0} × (Unit {0} × List ℕ)) × AliasParts image b x a × Anywhere a × (alias_of x ≡ y)
    back b y a alike h q =
        let same : word (image_word image) ≡ word (image_word y.0) = let i = ap first h.image in cc in (
          (tt, (tt, y.1)),
          (word key.As ∷ h.next, h.image ∙ ap (λ s. s ∷ word key.As ∷ h.next) (sym same), (h.next, refl, h.name)),
          tt,
          ap (λ i. let a : Image × List ℕ = (i, y.1) in a) (image_once image y.0 same),
        )

-- a row is next: aliases do not end here
pub image_goes : (here : Symbols) (image : Image) → first here ≡ Some (word (image_word image)) → Goes-on (Stop is_image) here
image_goes here image f there alike s = image_begins there image (sym alike ∙ f) s

-- no row is next: there is no alias
pub no_alias_next : (here : Symbols) → ((image : Image) → first here ≡ Some (word (image_word image)) → ⊥) → (there : Symbols) → Alike here there → (x : Image × List ℕ) (next : Symbols) → IsAlias there x next → ⊥
no_alias_next here none there alike x next h = alias_none (λ image e. none image (alike ∙ e)) x next h

-- ---- all of them

-- aliases that are apart were read
pub apart_read : {start here : Symbols} {items read_ : List (Image × List ℕ)} → AllPairs Differ items → read_ ≡ items → Reading (Row IsAlias) (Stop is_image) start here (Ok items) → Reading AreAliases (Stop is_image) start here (Ok read_)
apart_read {start = start} {here = here} apart e (read r) = subst (λ l. Reading AreAliases (Stop is_image) start here (Ok l)) (sym e) (read (record {
  taken = r.taken;
  parts = r.parts;
  spells = λ after. record { listed = r.spells after; apart = apart };
  only = λ there alike x rest h q. r.only there alike x rest h.listed q;
}))

-- the row has an alias already
pub image_refused : {start here : Symbols} {items seen : List (Image × List ℕ)} (image : Image) → Filed IsAlias (Stop is_image) start here items → AllPairs Differ items → first here ≡ Some (word (image_word image))
    → seen ≡ items → Some_of (λ a. a.0 ≡ image) seen → Reading AreAliases (Stop is_image) start here (Err Refused)
image_refused {items = items} {seen = seen} image a apart f e used = refused (record {
  taken = a.taken;
  parts = a.parts;
  goes = record { more = []; meant = tt; value = items; spells = λ z. record { listed = from (Row IsAlias) (ap (λ (l : Symbols). l ++ z) (sym (append-nil a.taken))) (a.spells z); apart = apart } };
  none = λ there alike xs rest h q. image_used image items seen (a.runs there alike) (sym alike ∙ f) e used xs rest h q;
})

-- Behind the aliases that were read a row is next that has none, and then symbols that go on to AS: they go on with a name of its own.
alias_goes : {start here : Symbols} (items seen : List (Image × List ℕ)) (image : Image) (a : Filed IsAlias (Stop is_image) start here items) → AllPairs Differ items → seen ≡ items → All (λ b. b.0 ≡ image → ⊥) seen
    → (begun more : Symbols) → Spells (Word key.As) (begun ++ more) tt → AreMeant more → GoesOn AreAliases (a.taken ++ (word (image_word image) ∷ begun))
alias_goes items seen image a apart e images begun more led meant =
    let free = subst (λ l. All (λ b. b.0 ≡ image → ⊥) l) e images in
    let n = fresh image items apart free in
    let last : Symbols = word n.key_word ∷ [] in
    record {
      more = more ++ last;
      meant = meant_both more last meant (meant_word n.key_word, tt);
      value = items ++ (image, n.name) ∷ [];
      spells = λ z. record {
        listed = from (Row IsAlias) (ap (λ (l : Symbols). l ++ z) (sym (append_assoc a.taken (word (image_word image) ∷ begun) (more ++ last))))
            (row_on IsAlias a.taken (word (image_word image) ∷ (begun ++ (more ++ last))) z a.spells (record {
              next = word n.key_word ∷ z;
              image = ap (λ (l : Symbols). word (image_word image) ∷ l) (sym (four begun more last z) ∙ led (word n.key_word ∷ z));
              name = record { word = word n.key_word; stands = refl; means = n.is };
            }) refl);
        apart = all_pairs_push Differ items (image, n.name) apart (λ k d less. (free k d less, n.unused k d less));
      };
    }

-- AS was not read
pub as_missed : {start here next after : Symbols} {items seen : List (Image × List ℕ)} {e : Broken} (image : Image) → Filed IsAlias (Stop is_image) start here items → AllPairs Differ items → first here ≡ Some (word (image_word image)) → next ≡ behind here
    → seen ≡ items → All (λ a. a.0 ≡ image → ⊥) seen → Reading (Word key.As) Anywhere next after (Err e) → Reading AreAliases (Stop is_image) start after (Err e)
as_missed image a apart f n e images memory = memory
as_missed {here = here} {after = after} {items = items} {seen = seen} image a apart f n e images (refused r) = refused (record {
  taken = a.taken ++ (word (image_word image) ∷ r.taken);
  parts = two_places a.taken (word (image_word image) ∷ r.taken) after a.parts (next_is here _ f ∙ ap (λ (l : Symbols). word (image_word image) ∷ l) (sym n ∙ r.parts));
  goes = alias_goes items seen image a apart e images r.taken r.goes.more r.goes.spells r.goes.meant;
  none = λ there alike xs rest h q.
      let never : Refused ≡ Memory = keyword_missed image items (a.runs (word (image_word image) ∷ (r.taken ++ there)) f) refl refl (λ left v. absurd (r.none there alike tt left v tt)) xs rest
      (from (Row IsAlias) (append_assoc a.taken (word (image_word image) ∷ r.taken) there) h.listed) q in
      absurd (cc);
})

-- behind the row and AS no name goes on
unnamed : {start here after : Symbols} {items seen : List (Image × List ℕ)} (image : Image) (a : Filed IsAlias (Stop is_image) start here items) → AllPairs Differ items → first here ≡ Some (word (image_word image)) → IsWord (behind here) key.As after
    → seen ≡ items → All (λ b. b.0 ≡ image → ⊥) seen
    → ((there : Symbols) → Alike after there → (xs : List (Image × List ℕ)) (rest : Symbols) → AreAliases (a.taken ++ (word (image_word image) ∷ word key.As ∷ there)) xs rest → Stop is_image rest → ⊥)
    → Reading AreAliases (Stop is_image) start after (Err Refused)
unnamed {here = here} {after = after} {items = items} {seen = seen} image a apart f w e images never = refused (record {
  taken = a.taken ++ (word (image_word image) ∷ word key.As ∷ []);
  parts = two_places a.taken (word (image_word image) ∷ word key.As ∷ []) after a.parts (next_is here _ f ∙ ap (λ (l : Symbols). word (image_word image) ∷ l) w);
  goes = alias_goes items seen image a apart e images (word key.As ∷ []) [] (λ z. refl) tt;
  none = λ there alike xs rest h q. never there alike xs rest (from AreAliases (append_assoc a.taken (word (image_word image) ∷ word key.As ∷ []) there) h) q;
})

-- the name is next where it looks alike
name_alike : {before there rest : Symbols} {x : List ℕ} → Alike before there → IsName there x rest → IsName before x (behind before)
name_alike {before = before} alike h = record { word = h.word; stands = standing before (alike ∙ ap first h.stands); means = h.means }

-- the name has an alias already
pub name_refused : {start here after : Symbols} {items seen known : List (Image × List ℕ)} (image : Image) → Filed IsAlias (Stop is_image) start here items → AllPairs Differ items → first here ≡ Some (word (image_word image)) → IsWord (behind here) key.As after
    → seen ≡ items → All (λ a. a.0 ≡ image → ⊥) seen → known ≡ items → ((name : List ℕ) (rest : Symbols) → IsName after name rest → Some_of (λ a. a.1 ≡ name) known) → Reading AreAliases (Stop is_image) start after (Err Refused)
name_refused {items = items} {known = known} image a apart f w e images g taken = unnamed image a apart f w e images
    (λ there alike xs rest h q. name_used image items known (a.runs (word (image_word image) ∷ word key.As ∷ there) f) refl refl g (λ n left i. taken n _ (name_alike alike i)) xs rest h q)

-- a name that was refused was not taken
untaken : (here taken : Symbols) → GoesOn IsName taken → ((there : Symbols) → Alike here there → (x : List ℕ) (rest : Symbols) → IsName (taken ++ there) x rest → Anywhere rest → ⊥) → taken ≡ []
untaken here [] goes none = refl
untaken here (s ∷ taken) goes none =
    let h = goes.spells [] in let e = h.stands in
    absurd (none here refl goes.value (taken ++ here) (record { word = s; stands = refl; means = subst (λ v. name_meant v ≡ Some goes.value) (cc) h.means }) tt)

-- the name was not read
pub name_unread : {start here next after : Symbols} {items seen : List (Image × List ℕ)} {e : Broken} (image : Image) → Filed IsAlias (Stop is_image) start here items → AllPairs Differ items → first here ≡ Some (word (image_word image)) → IsWord (behind here) key.As next
    → seen ≡ items → All (λ a. a.0 ≡ image → ⊥) seen → Reading IsName Anywhere next after (Err e) → Reading AreAliases (Stop is_image) start after (Err e)
name_unread image a apart f w e images memory = memory
name_unread {here = here} {after = after} {items = items} image a apart f w e images (refused r) =
    let empty = untaken after r.taken r.goes r.none in
    let at : IsWord (behind here) key.As after = w ∙ ap (λ (l : Symbols). word key.As ∷ l) (r.parts ∙ ap (λ (l : Symbols). l ++ after) empty) in
    unnamed image a apart f at e images
    (λ there alike xs rest h q.
    let never : Refused ≡ Memory = name_missed image items (a.runs (word (image_word image) ∷ word key.As ∷ there) f) refl refl
    (λ n left i. absurd (r.none there alike n left (from IsName (ap (λ (l : Symbols). l ++ there) (sym empty)) i) tt)) xs rest h.listed q in
    absurd (cc))
