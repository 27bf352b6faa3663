use Rattle.std.proofs.Common.{◌≡◌, ℕ, ◌<◌, ◌≤◌, List, [], ◌∷◌, ◌++◌, Option, Some, None, sym, ap, ◌∙◌, arith, append_assoc, append-nil, le_refl}
use Rattle.std.proofs.lemmas.List.Elements.{filter-append}
use Rattle.sr_book.specs.Entries.{Name}
use Rattle.sr_book.specs.Histories.{taken, taken_end}
use Rattle.sr_book.specs.Rising.{Rises, top, offsets}
use Rattle.sr_book.proofs.Offsets.{top-append, Rises-append, Rises-back, le-top, offsets-append}
use Rattle.sr_book.proofs.Folds.{taken-append, counts_kept}
use Rattle.sr_msgform.specs.declared.message.Message.{Message}
use Rattle.sr_world_model.specs.Layers.{transaction, Layers, end_of}
use Rattle.sr_world_model.specs.Inner.Layers.{Laws}
use Rattle.sr_world_model.specs.Windows.{window}
use Rattle.sr_world_model.specs.Truth.{members, IsTrueOf}
use Rattle.sr_world_model.proofs.Offsets.{by_one_more, window_above}
use Rattle.sr_world_model.proofs.Lengths.{end_more, end_from-append, le-end_from}

-- new transactions stand behind the old ones, and rise from one offset to another
pub record Grown {Ops : Type 0} (old new : List (ℕ × Ops)) (low high : ℕ) : Type 0 where
  pub more : List (ℕ × Ops)
  pub joined : new ≡ old ++ more
  pub rises : Rises low (offsets more)
  pub within : top low (offsets more) ≤ high

module _ {Entry Ops : Type 0} (p : Layers Entry Ops) (HasSpelling : (ℕ × Ops) → Type 0) (lawful : Name → List Entry →
    Type 0) (laws : Laws p HasSpelling lawful) where
  grown_more : (old new newer : List (ℕ × Ops)) (low high higher : ℕ) → Grown old new low high →
      (gave : Option Ops) → newer ≡ new ++ transaction higher gave → high < higher → Grown old newer low higher
  grown_more old new newer low high higher grown None is above = record {
    more = grown.more;
    joined = is ∙ append-nil new ∙ grown.joined;
    rises = grown.rises;
    within = omega (arith, grown.within);
  }
  grown_more old new newer low high higher grown (Some ops) is above = record {
    more = grown.more ++ (higher, ops) ∷ [];
    joined = is ∙ ap (λ txs. txs ++ (higher, ops) ∷ []) grown.joined ∙ append_assoc old grown.more ((higher, ops) ∷ []);
    rises = rw offsets-append (Rises-append low (offsets grown.more) (higher ∷ []) grown.rises (omega (arith, grown.within), tt));
    within = rw (offsets-append, top-append) (le_refl higher);
  }

  -- a longer history gives what it gave, and then what ends past its end
  pub given_longer : (owner user : Name) (es more : List Entry) →
      Grown (p.given owner user es) (p.given owner user (es ++ more)) (end_of p es) (end_of p (es ++ more))
  given_longer owner user es more = by_one_more P none next more
    where
      P : List Entry → Type 0
      P fs = Grown (p.given owner user es) (p.given owner user (es ++ fs)) (end_of p es) (end_of p (es ++ fs))

      none : P []
      none = rw (append-nil es) (record { more = []; joined = sym (append-nil (p.given owner user es)); rises = tt; within = le_refl (end_of p es) })

      next : (fs : List Entry) (e : Entry) → P fs → P (fs ++ e ∷ [])
      next fs e grown =
          let law = laws.given_more owner user (es ++ fs) e in
          let later : end_of p (es ++ fs) < end_of p ((es ++ fs) ++ e ∷ []) = omega (arith, end_more p (es ++ fs) e) in
          rw (← append_assoc es fs (e ∷ []))
          (grown_more (p.given owner user es) (p.given owner user (es ++ fs)) (p.given owner user ((es ++ fs) ++ e ∷ []))
          (end_of p es) (end_of p (es ++ fs)) (end_of p ((es ++ fs) ++ e ∷ [])) grown law.0 law.1 later)

  -- the offsets that a history gives rise, up to its end at most
  pub given_in : (owner user : Name) (es : List Entry) → Rises 0 (offsets (p.given owner user es)) × (top 0 (offsets (p.given owner user es)) ≤ end_of p es)
  given_in owner user es =
      let grown = given_longer owner user [] es in
      let is : p.given owner user es ≡ grown.more = grown.joined ∙ ap (λ txs. txs ++ grown.more) (laws.given_none owner user) in
      rw is (grown.rises, grown.within)

  pub le-end_of : (es more : List Entry) → end_of p es ≤ end_of p (es ++ more)
  le-end_of es more = rw (end_from-append p 0 es more) (le-end_from p (end_of p es) more)

  -- a longer history has the same transactions in a window that ends within the shorter one
  pub window_longer : (owner user : Name) (es more : List Entry) (prev upto : ℕ) → upto ≤ end_of p es →
      window prev upto (p.given owner user (es ++ more)) ≡ window prev upto (p.given owner user es)
  window_longer owner user es more prev upto le =
      let grown = given_longer owner user es more in
      let none : window prev upto grown.more ≡ [] = window_above prev upto (end_of p es) grown.more le grown.rises in
      ap (window prev upto) grown.joined ∙ filter-append _ (p.given owner user es) grown.more
      ∙ ap (λ txs. window prev upto (p.given owner user es) ++ txs) none ∙ append-nil (window prev upto (p.given owner user es))

  -- what was taken ends no earlier in a longer history, where its offsets rise
  pub taken_longer : (user : Name) (es more : List Entry) → Rises 0 (offsets (taken p.sees user (es ++ more))) →
      taken_end p.sees user es ≤ taken_end p.sees user (es ++ more)
  taken_longer user es more rises =
      let split : offsets (taken p.sees user (es ++ more)) ≡ offsets (taken p.sees user es) ++ offsets (taken p.sees user more)
      = ap offsets (taken-append p.sees user es more) ∙ offsets-append (taken p.sees user es) (taken p.sees user more) in
      let back : Rises (taken_end p.sees user es) (offsets (taken p.sees user more))
      = Rises-back 0 (offsets (taken p.sees user es)) (offsets (taken p.sees user more)) (rw split at rises) in
      rw (split, top-append 0 (offsets (taken p.sees user es)) (offsets (taken p.sees user more)))
      (le-top (taken_end p.sees user es) (offsets (taken p.sees user more)) back)

  -- a message stays true of a longer history in which what was taken from its receiver rises
  pub true_longer : (owner : Name) (es more : List Entry) (m : Message) → Rises 0 (offsets (taken p.sees m.to (es ++ more))) →
      IsTrueOf p owner es m → IsTrueOf p owner (es ++ more) m
  true_longer owner es more m rises t =
      let same : members p owner (es ++ more) m ≡ members p owner es m = window_longer owner m.to es more m.prev.0 m.upto.0 t.stands in
      let later : taken_end p.sees m.to es ≤ taken_end p.sees m.to (es ++ more) = taken_longer m.to es more rises in
      let counts = counts_kept p.sees m.to es more in
      record {
        sent_by = t.sent_by;
        ends_at = rw same t.ends_at;
        stands = omega (arith, t.stands, le-end_of es more);
        total = rw same t.total;
        fragment = rw same t.fragment;
        whole = rw same t.whole;
        confirm = omega (arith, t.confirm, later);
        ask_offset = omega (arith, t.ask_offset, later);
        ask_count = omega (arith, t.ask_count, counts.1);
        resend_count = omega (arith, t.resend_count, counts.0);
      }
