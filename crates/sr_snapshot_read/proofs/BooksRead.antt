-- Books that are read one after the other.
use Rattle.std.proofs.Common.{◌≡◌, ◌<◌, ◌^◌, ◌+◌, ℕ, zero, suc, List, [], ◌∷◌, ◌++◌, length, map, refl, sym, ap, subst, ◌∙◌, append_assoc, arith, inl, inr}
use Rattle.std.proofs.lemmas.List.{append-nil}
use Rattle.std.specs.Int.{w64, to_be_bytes}
use Rattle.std.specs.List.{flat_map, AllByRecursion}
use Rattle.std.specs.Prelude.{IsTrue}
use Rattle.sr_base.specs.Fields.{name_spelling}
use Rattle.sr_base.specs.Reading.{number_at}
use Rattle.sr_book.specs.declared.book.Book.{Book}
use Rattle.sr_catalog_schema.specs.Members.{user_name}
use Rattle.sr_catalog_schema.specs.declared.user.User.{User}
use Rattle.sr_site.specs.Files.{bytes_of}
use Rattle.sr_site.specs.Seen.{Seen}
use Rattle.sr_site.specs.declared.file.File.{File}
use Rattle.sr_snapshot.specs.Beginnings.{IsBook}
use Rattle.sr_snapshot.specs.Parts.{book_line, book_spelling, four_spelling}
use Rattle.sr_snapshot.specs.declared.fault.SnapFault.{SnapFault}
use Rattle.sr_snapshot_read.proofs.RowsRead.{taken_nothing}
use Rattle.sr_snapshot_read.proofs.Windows.{cause_as, cause_behind, taken_on}
use Rattle.sr_snapshot_read.specs.Inner.Damages.{NeverBreaks}
use Rattle.sr_snapshot_read.specs.Damages.{BooksBreak, NameBreaks, NumbersBreak, FieldBreaks}
use Rattle.sr_snapshot_read.specs.Inner.Reading.{HasTaken, IsOver, TakeCause}
use Rattle.sr_snapshot_read.specs.Inner.Views.{View}

-- ---- numbers

all_more : {A : Type 0} (P : A → Type 0) (xs : List A) (x : A) → AllByRecursion P xs → P x → AllByRecursion P (xs ++ x ∷ [])
all_more P [] x all is = (is, tt)
all_more P (y ∷ xs) x all is = (all.0, all_more P xs x all.1 is)

flat_more : {A : Type 0} (f : A → List ℕ) (xs : List A) (x : A) → flat_map f xs ++ f x ≡ flat_map f (xs ++ x ∷ [])
flat_more f [] x = sym (append-nil (f x))
flat_more f (y ∷ xs) x = append_assoc (f y) (flat_map f xs) (f x) ∙ ap (λ (l : List ℕ). f y ++ l) (flat_more f xs x)

-- a number that breaks behind others
numbers_break : (later : List ℕ → ℕ → Type 0) (ns : List ℕ) (bytes rest : List ℕ) (left count : ℕ) → AllByRecursion (λ n. n < 2 ^ 64) ns → bytes ≡ flat_map (to_be_bytes w64) ns ++ rest → FieldBreaks (number_at w64) rest left → length ns < count
    → NumbersBreak count later bytes left
numbers_break later ns bytes rest left zero short is broken lt = absurd (omega (arith, lt))
numbers_break later [] bytes rest left (suc count) short is broken lt = inl (ap (number_at w64) is ∙ broken)
numbers_break later (n ∷ ns) bytes rest left (suc count) short is broken lt =
    inr (
      n,
      short.0,
      record {
        rest = flat_map (to_be_bytes w64) ns ++ rest;
        parts = is ∙ append_assoc (to_be_bytes w64 n) (flat_map (to_be_bytes w64) ns) rest;
        then = numbers_break later ns (flat_map (to_be_bytes w64) ns ++ rest) rest left count short.1 refl broken (omega (arith, lt));
      },
    )

-- one number more
pub number_on : (file : File) (ns : List ℕ) (n : ℕ) (before middle now : Seen) (v0 v1 v2 : View) → HasTaken file (flat_map (to_be_bytes w64) ns) before middle v0 v1 → HasTaken file (to_be_bytes w64 n) middle now v1 v2
    → HasTaken file (flat_map (to_be_bytes w64) (ns ++ n ∷ [])) before now v0 v2
number_on file ns n before middle now v0 v1 v2 reading taken =
    subst (λ (l : List ℕ). HasTaken file l before now v0 v2) (flat_more (to_be_bytes w64) ns n) (taken_on file (flat_map (to_be_bytes w64) ns) (to_be_bytes w64 n) before middle now v0 v1 v2 reading taken)

-- why the next of four was not read
pub number_cause : (file : File) (ns : List ℕ) (before middle now : Seen) (v0 v1 : View) (fault : SnapFault) → AllByRecursion (λ n. n < 2 ^ 64) ns → length ns < 4 → HasTaken file (flat_map (to_be_bytes w64) ns) before middle v0 v1
    → TakeCause file (FieldBreaks (number_at w64)) middle now v1 fault → TakeCause file (NumbersBreak 4 NeverBreaks) before now v0 fault
number_cause file ns before middle now v0 v1 fault short few reading cause =
    cause_behind file (FieldBreaks (number_at w64)) (NumbersBreak 4 NeverBreaks) (flat_map (to_be_bytes w64) ns) before middle now v0 v1 fault reading
    (λ bytes rest place is broken. numbers_break NeverBreaks ns bytes rest place 4 short is broken few) cause

-- four of them
pub four_taken : (file : File) (a b c d : ℕ) (before now : Seen) (v0 v1 : View) → HasTaken file (flat_map (to_be_bytes w64) (a ∷ b ∷ c ∷ d ∷ [])) before now v0 v1 → HasTaken file (four_spelling a b c d) before now v0 v1
four_taken file a b c d before now v0 v1 taken =
    subst (λ (l : List ℕ). HasTaken file l before now v0 v1) (ap (λ (l : List ℕ). to_be_bytes w64 a ++ (to_be_bytes w64 b ++ (to_be_bytes w64 c ++ l))) (append-nil (to_be_bytes w64 d))) taken

-- where nothing breaks behind the numbers, something may
numbers_map : (later : List ℕ → ℕ → Type 0) (count : ℕ) (bytes : List ℕ) (left : ℕ) → NumbersBreak count NeverBreaks bytes left → NumbersBreak count later bytes left
numbers_map later zero bytes left broken = absurd broken
numbers_map later (suc count) bytes left (inl field) = inl field
numbers_map later (suc count) bytes left (inr (n, short, there)) = inr (n, short, record { rest = there.rest; parts = there.parts; then = numbers_map later count there.rest left there.then })

-- what breaks behind numbers
numbers_then : (later : List ℕ → ℕ → Type 0) (ns : List ℕ) (bytes rest : List ℕ) (left : ℕ) → AllByRecursion (λ n. n < 2 ^ 64) ns → bytes ≡ flat_map (to_be_bytes w64) ns ++ rest → later rest left → NumbersBreak (length ns) later bytes left
numbers_then later [] bytes rest left short is broken = subst (λ (l : List ℕ). later l left) (sym is) broken
numbers_then later (n ∷ ns) bytes rest left short is broken =
    inr (
      n,
      short.0,
      record {
        rest = flat_map (to_be_bytes w64) ns ++ rest;
        parts = is ∙ append_assoc (to_be_bytes w64 n) (flat_map (to_be_bytes w64) ns) rest;
        then = numbers_then later ns (flat_map (to_be_bytes w64) ns ++ rest) rest left short.1 refl broken;
      },
    )

abbrev numbers_of : Book → List ℕ
numbers_of b = b.log_sent ∷ b.confirm_sent ∷ b.send_count ∷ b.resend_count ∷ b.log_received ∷ b.confirm_received ∷ b.receive_count ∷ b.rereceive_count ∷ []

book_is : (b : Book) → book_spelling b ≡ flat_map (to_be_bytes w64) (numbers_of b)
book_is b = refl

-- what breaks behind the numbers of a book
book_then : (later : List ℕ → ℕ → Type 0) (b : Book) (bytes rest : List ℕ) (left : ℕ) → IsBook b → bytes ≡ book_spelling b ++ rest → later rest left → NumbersBreak 8 later bytes left
book_then later b bytes rest left is parts broken =
    numbers_then later (numbers_of b) bytes rest left
    (is.log_sent, (is.confirm_sent, (is.send_count, (is.resend_count, (is.log_received, (is.confirm_received, (is.receive_count, (is.rereceive_count, tt)))))))) (parts ∙ ap (λ (l : List ℕ). l ++ rest) (book_is b)) broken

-- why the first four numbers of a book were not read, and why the others were not
pub first_cause : (file : File) (before now : Seen) (view : View) (fault : SnapFault) → TakeCause file (NumbersBreak 4 NeverBreaks) before now view fault → TakeCause file (NumbersBreak 8 NeverBreaks) before now view fault
first_cause file before now view fault cause =
    cause_as file (NumbersBreak 4 NeverBreaks) (NumbersBreak 8 NeverBreaks) before now view fault (λ bytes left broken. numbers_map (NumbersBreak 4 NeverBreaks) 4 bytes left broken) cause

pub others_cause : (file : File) (a b c d : ℕ) (before middle now : Seen) (v0 v1 : View) (fault : SnapFault) → AllByRecursion (λ n. n < 2 ^ 64) (a ∷ b ∷ c ∷ d ∷ []) → HasTaken file (four_spelling a b c d) before middle v0 v1
    → TakeCause file (NumbersBreak 4 NeverBreaks) middle now v1 fault → TakeCause file (NumbersBreak 8 NeverBreaks) before now v0 fault
others_cause file a b c d before middle now v0 v1 fault short taken cause =
    cause_behind file (NumbersBreak 4 NeverBreaks) (NumbersBreak 8 NeverBreaks) (four_spelling a b c d) before middle now v0 v1 fault taken
    (λ bytes rest left is broken.
    numbers_then (NumbersBreak 4 NeverBreaks) (a ∷ b ∷ c ∷ d ∷ []) bytes rest left short
    (is ∙ ap (λ (l : List ℕ). (to_be_bytes w64 a ++ (to_be_bytes w64 b ++ (to_be_bytes w64 c ++ l))) ++ rest) (sym (append-nil (to_be_bytes w64 d)))) broken) cause

pub book_numbers : (a b c d e f g h : ℕ) → AllByRecursion (λ n. n < 2 ^ 64) (a ∷ b ∷ c ∷ d ∷ []) → AllByRecursion (λ n. n < 2 ^ 64) (e ∷ f ∷ g ∷ h ∷ [])
    → IsBook (record { log_sent = a; confirm_sent = b; send_count = c; resend_count = d; log_received = e; confirm_received = f; receive_count = g; rereceive_count = h })
book_numbers a b c d e f g h one other = record {
  log_sent = one.0;
  confirm_sent = one.1.0;
  send_count = one.1.1.0;
  resend_count = one.1.1.1.0;
  log_received = other.0;
  confirm_received = other.1.0;
  receive_count = other.1.1.0;
  rereceive_count = other.1.1.1.0;
}

-- ---- books

pub record ReadingBooks (file : File) (all left : List User) (before now : Seen) (v0 v1 : View) (books : List (List ℕ × Book)) : Type 0 where
  pub done : List User
  pub parts : done ++ left ≡ all
  pub names : map (λ p. p.0) books ≡ map user_name done
  pub numbers : AllByRecursion (λ p. IsBook p.1) books
  pub taken : HasTaken file (flat_map book_line books) before now v0 v1

pub books_begin : (file : File) (all : List User) (seen : Seen) (view : View) (books : List (List ℕ × Book)) → (IsTrue seen.observable → IsOver view (bytes_of seen.files file)) → books ≡ [] → ReadingBooks file all all seen seen view view books
books_begin file all seen view books over none =
    subst (λ (bs : List (List ℕ × Book)). ReadingBooks file all all seen seen view view bs) (sym none) (record { done = []; parts = refl; names = refl; numbers = tt; taken = taken_nothing file seen view over })

map_more : {A : Type 0} (f : A → List ℕ) (xs : List A) (x : A) → map f (xs ++ x ∷ []) ≡ map f xs ++ f x ∷ []
map_more f [] x = refl
map_more f (y ∷ xs) x = ap (λ (l : List (List ℕ)). f y ∷ l) (map_more f xs x)

pub books_more : (file : File) (all left rest : List User) (u : User) (before middle then now : Seen) (v0 v1 v2 v3 : View) (books books2 : List (List ℕ × Book)) (name : List ℕ) (b : Book) → left ≡ u ∷ rest → ReadingBooks file all left before middle v0 v1 books
    → HasTaken file (name_spelling u.name) middle then v1 v2 → HasTaken file (book_spelling b) then now v2 v3 → name ≡ u.name → IsBook b → books2 ≡ books ++ (name, b) ∷ [] → ReadingBooks file all rest before now v0 v3 books2
books_more file all left rest u before middle then now v0 v1 v2 v3 books books2 name b first reading head tail same number added =
    let line : HasTaken file (book_line (name, b)) middle now v1 v3 =
    subst (λ (n : List ℕ). HasTaken file (name_spelling n ++ book_spelling b) middle now v1 v3) (sym same) (taken_on file (name_spelling u.name) (book_spelling b) middle then now v1 v2 v3 head tail) in
    let on : HasTaken file (flat_map book_line (books ++ (name, b) ∷ [])) before now v0 v3 =
    subst (λ (l : List ℕ). HasTaken file l before now v0 v3) (flat_more book_line books (name, b)) (taken_on file (flat_map book_line books) (book_line (name, b)) before middle now v0 v1 v3 reading.taken line) in
    let names : map (λ (p : List ℕ × Book). p.0) (books ++ (name, b) ∷ []) ≡ map user_name (reading.done ++ u ∷ []) =
    map_more (λ (p : List ℕ × Book). p.0) books (name, b) ∙ (λ i. reading.names i ++ same i ∷ []) ∙ sym (map_more user_name reading.done u) in
    subst (λ (bs : List (List ℕ × Book)). ReadingBooks file all rest before now v0 v3 bs) (sym added) (record {
      done = reading.done ++ u ∷ [];
      parts = append_assoc reading.done (u ∷ []) rest ∙ ap (λ (us : List User). reading.done ++ us) (sym first) ∙ reading.parts;
      names = names;
      numbers = all_more (λ p. IsBook p.1) books (name, b) reading.numbers number;
      taken = on;
    })

-- what breaks behind the books of the first users
books_break : (later : List ℕ → ℕ → Type 0) (done left : List User) (books : List (List ℕ × Book)) (bytes rest : List ℕ) (place : ℕ) → map (λ p. p.0) books ≡ map user_name done → AllByRecursion (λ p. IsBook p.1) books → bytes ≡ flat_map book_line books ++ rest
    → BooksBreak left later rest place → BooksBreak (done ++ left) later bytes place
books_break later [] left [] bytes rest place names numbers is broken = subst (λ (l : List ℕ). BooksBreak left later l place) (sym is) broken
books_break later [] left (p ∷ books) bytes rest place names numbers is broken = cc
books_break later (u ∷ done) left [] bytes rest place names numbers is broken = cc
books_break later (u ∷ done) left (p ∷ books) bytes rest place names numbers is broken =
    let name : p.0 ≡ u.name = cc in
    let others : map (λ (p : List ℕ × Book). p.0) books ≡ map user_name done = cc in
    let behind : BooksBreak (done ++ left) later (flat_map book_line books ++ rest) place = books_break later done left books (flat_map book_line books ++ rest) rest place others numbers.1 refl broken in
    let parts : bytes ≡ name_spelling u.name ++ (book_spelling p.1 ++ (flat_map book_line books ++ rest)) =
    is ∙ append_assoc (book_line p) (flat_map book_line books) rest ∙ append_assoc (name_spelling p.0) (book_spelling p.1) (flat_map book_line books ++ rest)
    ∙ ap (λ (n : List ℕ). name_spelling n ++ (book_spelling p.1 ++ (flat_map book_line books ++ rest))) name in
    inr (record {
      rest = book_spelling p.1 ++ (flat_map book_line books ++ rest);
      parts = parts;
      then = book_then (BooksBreak (done ++ left) later) p.1 (book_spelling p.1 ++ (flat_map book_line books ++ rest)) (flat_map book_line books ++ rest) place numbers.0 refl behind;
    })

abbrev one_breaks : User → List User → List ℕ → ℕ → Type 0
one_breaks u rest = BooksBreak (u ∷ rest) NeverBreaks

users_break : (all left rest : List User) (u : User) (done : List User) (books : List (List ℕ × Book)) (bytes behind : List ℕ) (place : ℕ) → done ++ left ≡ all → left ≡ u ∷ rest → map (λ p. p.0) books ≡ map user_name done → AllByRecursion (λ p. IsBook p.1) books
    → bytes ≡ flat_map book_line books ++ behind → one_breaks u rest behind place → BooksBreak all NeverBreaks bytes place
users_break all left rest u done books bytes behind place parts first names numbers is broken =
    let whole : done ++ u ∷ rest ≡ all = ap (λ (us : List User). done ++ us) (sym first) ∙ parts in
    subst (λ (us : List User). BooksBreak us NeverBreaks bytes place) whole (books_break NeverBreaks done (u ∷ rest) books bytes behind place names numbers is broken)

-- why the name of the next user was not read
pub name_cause : (file : File) (all left rest : List User) (u : User) (before middle now : Seen) (v0 v1 : View) (books : List (List ℕ × Book)) (fault : SnapFault) → left ≡ u ∷ rest → ReadingBooks file all left before middle v0 v1 books
    → TakeCause file (NameBreaks u.name) middle now v1 fault → TakeCause file (BooksBreak all NeverBreaks) before now v0 fault
name_cause file all left rest u before middle now v0 v1 books fault first reading cause =
    cause_behind file (NameBreaks u.name) (BooksBreak all NeverBreaks) (flat_map book_line books) before middle now v0 v1 fault reading.taken
    (λ bytes behind place is broken. users_break all left rest u reading.done books bytes behind place reading.parts first reading.names reading.numbers is (inl broken)) cause

-- why its numbers were not
pub book_cause : (file : File) (all left rest : List User) (u : User) (before middle then now : Seen) (v0 v1 v2 : View) (books : List (List ℕ × Book)) (fault : SnapFault) → left ≡ u ∷ rest → ReadingBooks file all left before middle v0 v1 books
    → HasTaken file (name_spelling u.name) middle then v1 v2 → TakeCause file (NumbersBreak 8 NeverBreaks) then now v2 fault → TakeCause file (BooksBreak all NeverBreaks) before now v0 fault
book_cause file all left rest u before middle then now v0 v1 v2 books fault first reading head cause =
    cause_behind file (NumbersBreak 8 NeverBreaks) (BooksBreak all NeverBreaks) (flat_map book_line books ++ name_spelling u.name) before then now v0 v2 fault (taken_on file (flat_map book_line books) (name_spelling u.name) before middle then v0 v1 v2 reading.taken head)
    (λ bytes behind place is broken.
    users_break all left rest u reading.done books bytes (name_spelling u.name ++ behind) place reading.parts first reading.names reading.numbers (is ∙ append_assoc (flat_map book_line books) (name_spelling u.name) behind)
    (inr (record { rest = behind; parts = refl; then = numbers_map (BooksBreak rest NeverBreaks) 8 behind place broken })))
    cause

-- where nothing breaks behind the books, something may
book_map : (later more : List ℕ → ℕ → Type 0) (count : ℕ) (bytes : List ℕ) (left : ℕ) → ((rest : List ℕ) → later rest left → more rest left) → NumbersBreak count later bytes left → NumbersBreak count more bytes left
book_map later more zero bytes left step broken = step bytes broken
book_map later more (suc count) bytes left step (inl field) = inl field
book_map later more (suc count) bytes left step (inr (n, short, there)) = inr (n, short, record { rest = there.rest; parts = there.parts; then = book_map later more count there.rest left step there.then })

pub books_map : (us : List User) (later : List ℕ → ℕ → Type 0) (bytes : List ℕ) (left : ℕ) → BooksBreak us NeverBreaks bytes left → BooksBreak us later bytes left
books_map [] later bytes left broken = absurd broken
books_map (u ∷ us) later bytes left (inl name) = inl name
books_map (u ∷ us) later bytes left (inr there) =
    inr (record { rest = there.rest; parts = there.parts; then = book_map (BooksBreak us NeverBreaks) (BooksBreak us later) 8 there.rest left (λ rest more. books_map us later rest left more) there.then })

-- behind all books
pub books_then : (us : List User) (books : List (List ℕ × Book)) (later : List ℕ → ℕ → Type 0) (bytes rest : List ℕ) (place : ℕ) → map (λ p. p.0) books ≡ map user_name us → AllByRecursion (λ p. IsBook p.1) books → bytes ≡ flat_map book_line books ++ rest
    → later rest place → BooksBreak us later bytes place
books_then us books later bytes rest place names numbers is broken = subst (λ (l : List User). BooksBreak l later bytes place) (append-nil us) (books_break later us [] books bytes rest place names numbers is broken)

pub books_names : (file : File) (all left : List User) (before now : Seen) (v0 v1 : View) (books : List (List ℕ × Book)) → left ≡ [] → (reading : ReadingBooks file all left before now v0 v1 books) → map (λ p. p.0) books ≡ map user_name all
books_names file all left before now v0 v1 books none reading =
    reading.names ∙ ap (λ (us : List User). map user_name us) (sym (append-nil reading.done) ∙ ap (λ (us : List User). reading.done ++ us) (sym none) ∙ reading.parts)
