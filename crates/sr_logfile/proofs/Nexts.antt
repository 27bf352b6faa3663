-- What stands behind a position that parts a log's bodies.
use Rattle.std.proofs.Common.{◌≡◌, ℕ, ◌+◌, ◌<◌, ◌≤◌, List, [], ◌∷◌, ◌++◌, length, take, drop, refl, sym, ◌∙◌, ap, subst, arith, append_assoc, length-append}
use Rattle.std.specs.Int.{w32, to_be_bytes}
use Rattle.std.specs.List.{AllByRecursion}
use Rattle.std.proofs.lemmas.List.{append-nil, take_at, drop_at, drop-drop, length-drop, take-append-le}
use Rattle.sr_site.specs.Files.{Files, bytes_of}
use Rattle.sr_site.specs.Reads.{HasRead}
use Rattle.sr_site.specs.declared.file.File.{File}
use Rattle.sr_logfile.specs.declared.head.Head.{Head}
use Rattle.sr_logfile.specs.declared.head.Head.TheVariants.{Closed, Cut, Open}
use Rattle.sr_logfile.specs.Inner.Heads.{IsHead, IsClosed, IsCut, HasLength}
use Rattle.sr_logfile.specs.Log.{Log}
use Rattle.sr_logfile.specs.Inner.Logs.{IsLog, IsAt}
use Rattle.sr_logfile.specs.Records.{header, record_of, open_records, IsBody, place_in}
use Rattle.sr_logfile.specs.Inner.Steps.{IsNext}
use Rattle.sr_logfile.proofs.Records.{length-record, length-push}
use Rattle.sr_logfile.proofs.Commits.{length-prefix}
use Rattle.sr_logfile.proofs.Ends.{length_is}

open_records-append : (done left : List (List ℕ)) → open_records (done ++ left) ≡ open_records done ++ open_records left
open_records-append [] left = refl
open_records-append (x ∷ xs) left = ap (λ (l : List ℕ). (1 ∷ record_of x) ++ l) (open_records-append xs left) ∙ sym (append_assoc (1 ∷ record_of x) (open_records xs) (open_records left))

is_body_left : (done : List (List ℕ)) (body : List ℕ) (rest : List (List ℕ)) → AllByRecursion IsBody (done ++ body ∷ rest) → IsBody body
is_body_left [] body rest all = all.0
is_body_left (x ∷ xs) body rest all = is_body_left xs body rest all.1

none_left : (left : List (List ℕ)) → length (open_records left) ≡ 0 → left ≡ []
none_left [] e = refl
none_left (x ∷ xs) e = absurd (omega arith)

-- a record stands behind the position
pub record HasNext (log : Log) (after : ℕ) (done left : List (List ℕ)) (files : Files) : Type 0 where
  pub body : List ℕ
  pub rest : List (List ℕ)
  pub tail : List ℕ
  pub left_is : left ≡ body ∷ rest
  pub is_body : IsBody body
  pub bytes_are : drop (place_in log.base after) (bytes_of files log.file) ≡ 1 ∷ (record_of body ++ tail)
  pub some : 0 < length tail
  pub room : after + 5 + length body ≤ log.end
  pub goes_on : IsAt log (after + 5 + length body) (done ++ body ∷ []) rest files

module _ (log : Log) (after : ℕ) (done : List (List ℕ)) (files : Files) where
  -- the position behind the last record
  pub at_end : (left : List (List ℕ)) → IsAt log after done left files → log.end ≤ after → left ≡ []
  at_end left at past = none_left left (omega (arith, past, at.is_log.end_is, at.after_is, ap length (open_records-append done left), length-append (open_records done) (open_records left)))

  pub not_before : (left : List (List ℕ)) → IsAt log after done left files → after < log.base → ⊥
  not_before left at early = omega (arith, early, at.after_is)

  tail_is : (left : List (List ℕ)) → (at : IsAt log after done left files) → drop (place_in log.base after) (bytes_of files log.file) ≡ open_records left ++ at.is_log.spells.gate ∷ at.is_log.spells.rest
  tail_is left at =
      let s = at.is_log.spells in
      let after_is = at.after_is in
      let prefix = header log.base ++ open_records done in
      let place : length prefix ≡ place_in log.base after = omega (arith, length-prefix log.base done) in
      let apart : bytes_of files log.file ≡ prefix ++ (open_records left ++ s.gate ∷ s.rest) =
      s.bytes_are
      ∙ ap (λ (l : List ℕ). (header log.base ++ l) ++ s.gate ∷ s.rest) (open_records-append done left)
      ∙ ap (λ (l : List ℕ). l ++ s.gate ∷ s.rest) (sym (append_assoc (header log.base) (open_records done) (open_records left)))
      ∙ append_assoc prefix (open_records left) (s.gate ∷ s.rest) in
      ap (drop (place_in log.base after)) apart ∙ drop_at prefix (open_records left ++ s.gate ∷ s.rest) (place_in log.base after) place

  pub has_next : (left : List (List ℕ)) → IsAt log after done left files → after < log.end → HasNext log after done left files
  has_next [] at before = absurd (omega (arith, before, at.is_log.end_is, at.after_is, ap (λ (l : List (List ℕ)). length (open_records l)) (append-nil done)))
  has_next (body ∷ rest) at before =
      let s = at.is_log.spells in
      let tail = open_records rest ++ s.gate ∷ s.rest in
      let after_is = at.after_is in
      let end_is = at.is_log.end_is in
      let all = ap length (open_records-append done (body ∷ rest)) in
      let one = length-append (1 ∷ record_of body) (open_records rest) in
      let long = length-record body in
      record {
        body = body;
        rest = rest;
        tail = tail;
        left_is = refl;
        is_body = is_body_left done body rest s.all_bodies;
        bytes_are = tail_is (body ∷ rest) at ∙ append_assoc (1 ∷ record_of body) (open_records rest) (s.gate ∷ s.rest);
        some = omega (arith, length-append (open_records rest) (s.gate ∷ s.rest));
        room = omega (arith, length-append (open_records done) (open_records (body ∷ rest)));
        goes_on = record {
          is_log = subst (λ (l : List (List ℕ)). IsLog log l files) (sym (append_assoc done (body ∷ []) rest)) at.is_log;
          after_is = omega (arith, length-push done body);
        };
      }

  module _ (left : List (List ℕ)) (next : HasNext log after done left files) where
    long : length (drop (place_in log.base after) (bytes_of files log.file)) ≡ 5 + length next.body + length next.tail
    long = omega (arith, ap length next.bytes_are, length-append (record_of next.body) next.tail, length-record next.body)

    pub not_closed : IsClosed (drop (place_in log.base after) (bytes_of files log.file)) → ⊥
    not_closed closed =
        let same : closed.gate ∷ closed.rest ≡ 1 ∷ (record_of next.body ++ next.tail) = sym closed.bytes_are ∙ next.bytes_are in
        closed.closed cc

    pub not_cut : IsCut (drop (place_in log.base after) (bytes_of files log.file)) → ⊥
    not_cut cut = omega (arith, cut.short, long, next.is_body.0)

    pub same_length : (count : ℕ) → HasLength (drop (place_in log.base after) (bytes_of files log.file)) count → count ≡ length next.body
    same_length count has =
        let is_body = next.is_body in
        let same : to_be_bytes w32 count ++ has.rest ≡ to_be_bytes w32 (length next.body) ++ (next.body ++ next.tail) = ap (drop 1) (sym has.bytes_are ∙ next.bytes_are) ∙ append_assoc (to_be_bytes w32 (length next.body)) next.body next.tail in
        length_is count (length next.body) has.rest (next.body ++ next.tail) has.fits (omega arith) same

    behind_head : drop (place_in log.base after + 5) (bytes_of files log.file) ≡ next.body ++ next.tail
    behind_head = sym (drop-drop 5 (place_in log.base after) (bytes_of files log.file)) ∙ ap (drop 5) (next.bytes_are ∙ ap (λ (l : List ℕ). 1 ∷ l) (append_assoc (to_be_bytes w32 (length next.body)) next.body next.tail))

    pub whole_read : (count : ℕ) (prefix : List ℕ) → HasRead (bytes_of files log.file) (place_in log.base after + 5) (length next.body) count prefix → count ≡ length next.body
    whole_read count prefix read = omega (arith, read.count_is, ap length behind_head, length-append next.body next.tail, length-drop (place_in log.base after + 5) (bytes_of files log.file))

    pub prefix_read : (count : ℕ) (prefix : List ℕ) → HasRead (bytes_of files log.file) (place_in log.base after + 5) (length next.body) count prefix → take (length next.body) prefix ≡ next.body
    prefix_read count prefix read =
        let all = whole_read count prefix read in
        subst (λ (n : ℕ). take n prefix ≡ take (length next.body) (drop (place_in log.base after + 5) (bytes_of files log.file))) all read.prefix ∙ ap (take (length next.body)) behind_head ∙ take_at next.body next.tail (length next.body) refl

-- the head of the record is read, at its place in the log's file
module _ (log : Log) (after place : ℕ) (done left : List (List ℕ)) (files : Files) (file : File) (place_is : place ≡ place_in log.base after) (file_is : file ≡ log.file) (next : HasNext log after done left files) where
  here : (head : Head) → IsHead (drop place (bytes_of files file)) head → IsHead (drop (place_in log.base after) (bytes_of files log.file)) head
  here head is = subst (λ (f : File). IsHead (drop (place_in log.base after) (bytes_of files f)) head) file_is (subst (λ (n : ℕ). IsHead (drop n (bytes_of files file)) head) place_is is)

  pub never_damaged : (head : Head) → IsHead (drop place (bytes_of files file)) head → ((count : ℕ) → head ≡ Open count → ⊥) → ⊥
  never_damaged Closed is not_open = not_closed log after done files left next (here Closed is)
  never_damaged Cut is not_open = not_cut log after done files left next (here Cut is)
  never_damaged (Open count) is not_open = not_open count refl

  pub length_read : (head : Head) (count : ℕ) → IsHead (drop place (bytes_of files file)) head → head ≡ Open count → count ≡ length next.body
  length_read head count is opened = same_length log after done files left next count (subst (λ (h : Head). IsHead (drop (place_in log.base after) (bytes_of files log.file)) h) opened (here head is))

  pub body_read : (now : Files) (wanted count : ℕ) (prefix : List ℕ) → now ≡ files → wanted ≡ length next.body → HasRead (bytes_of now file) (place + 5) wanted count prefix → HasRead (bytes_of files log.file) (place_in log.base after + 5) (length next.body) count prefix
  body_read now wanted count prefix same is read =
      subst (λ (n : ℕ). HasRead (bytes_of files log.file) (place_in log.base after + 5) n count prefix) is
      (subst (λ (f : File). HasRead (bytes_of files f) (place_in log.base after + 5) wanted count prefix) file_is
      (subst (λ (n : ℕ). HasRead (bytes_of files file) (n + 5) wanted count prefix) place_is
      (subst (λ (f : Files). HasRead (bytes_of f file) (place + 5) wanted count prefix) same read)))

  pub record_step : (prior now : Files) (count wanted got : ℕ) (prefix back : List ℕ) → prior ≡ files → now ≡ files → count ≡ length next.body → wanted ≡ count → length prefix ≡ wanted
      → HasRead (bytes_of prior file) (place + 5) wanted got prefix → IsNext log after done left now (prefix ++ back) (after + 5 + count) count × (count ≤ length (prefix ++ back))
  record_step prior now count wanted got prefix back before stands is wants long read =
      let whole = body_read prior wanted got prefix before (wants ∙ is) read in
      let body_is : take (length next.body) prefix ≡ next.body = prefix_read log after done files left next got prefix whole in
      let fits : count ≤ length prefix = omega arith in (
        record {
          body = next.body;
          rest = next.rest;
          left_is = next.left_is;
          count_is = is;
          prefix = take-append-le count prefix back fits ∙ ap (λ (n : ℕ). take n prefix) is ∙ body_is;
          end_is = refl;
          goes_on = subst (λ (f : Files). IsAt log (after + 5 + count) (done ++ next.body ∷ []) next.rest f) (sym stands) (subst (λ (n : ℕ). IsAt log (after + 5 + n) (done ++ next.body ∷ []) next.rest files) (sym is) next.goes_on);
        },
        omega (arith, length-append prefix back),
      )
