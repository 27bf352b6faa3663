-- Reports put after some of others.
use Rattle.std.proofs.Common.{◌≡◌, ℕ, ◌+◌, ◌≤◌, List, [], ◌∷◌, ◌++◌, length, take, drop, sym, ap, ◌∙◌, arith, append_assoc, length-append}
use Rattle.std.specs.List.{insert}
use Rattle.std.proofs.lemmas.List.{length-take-le, take_at, drop_at}
use Rattle.sr_receive_gather.specs.declared.report.Report.{Report}

-- those before the ones that are left are put there
pub record IsInserting (at : ℕ) (reports made left : List Report) (next : ℕ) (now : List Report) : Type 0 where
  pub done : List Report
  pub parts : made ≡ done ++ left
  pub next_is : next ≡ at + length done
  pub now_is : now ≡ take at reports ++ (done ++ drop at reports)

-- the place of the next
prefix_is : (at : ℕ) (reports done : List Report) → at ≤ length reports → length (take at reports ++ done) ≡ at + length done
prefix_is at reports done within = omega (arith, length-append (take at reports) done, length-take-le at reports within)

insert_there : (prefix behind : List Report) (r : Report) (next : ℕ) → length prefix ≡ next → insert (prefix ++ behind) next r ≡ prefix ++ r ∷ behind
insert_there prefix behind r next is =
    ap (λ (l : List Report). l ++ r ∷ drop next (prefix ++ behind)) (take_at prefix behind next is) ∙ ap (λ (l : List Report). prefix ++ r ∷ l) (drop_at prefix behind next is)

pub inserting_more : (at : ℕ) (reports made : List Report) (r : Report) (left : List Report) (next : ℕ) (now now' : List Report) → at ≤ length reports → now' ≡ insert now next r
    → IsInserting at reports made (r ∷ left) next now → IsInserting at reports made left (next + 1) now'
inserting_more at reports made r left next now now' within is p =
    let prefix = take at reports ++ p.done in
    let behind = drop at reports in
    let whole : now ≡ prefix ++ behind = p.now_is ∙ sym (append_assoc (take at reports) p.done behind) in
    let place : length prefix ≡ next = prefix_is at reports p.done within ∙ sym p.next_is in
    record {
      done = p.done ++ r ∷ [];
      parts = p.parts ∙ sym (append_assoc p.done (r ∷ []) left);
      next_is = omega (arith, p.next_is, length-append p.done (r ∷ []));
      now_is = is ∙ ap (λ (l : List Report). insert l next r) whole ∙ insert_there prefix behind r next place
          ∙ append_assoc (take at reports) p.done (r ∷ behind)
          ∙ ap (λ (l : List Report). take at reports ++ l) (sym (append_assoc p.done (r ∷ []) behind));
    }
