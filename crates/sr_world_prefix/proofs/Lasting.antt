-- What is true of a history stays so as it goes on, and what is true in a world of databases is true here.
use Rattle.std.proofs.lemmas.List.{length-map}
use Rattle.std.proofs.Common.{◌≡◌, ℕ, ◌≤◌, List, [], ◌∷◌, ◌++◌, length, map, refl, sym, ap, subst, ◌∙◌, arith}
use Rattle.std.specs.Prelude.{Bool, true, false, cond, nat_lt, nat_le, ◌&&◌}
use Rattle.std.specs.List.{AllByRecursion}
use Rattle.sr_base.specs.Values.{offset_from}
use Rattle.sr_base.specs.declared.offset.Offset.{Offset}
use Rattle.sr_book.specs.Entries.{Name, local}
use Rattle.sr_book.specs.Histories.{taken_end}
use Rattle.sr_book.specs.Rising.{Rises, top, offsets}
use Rattle.sr_book.proofs.Offsets.{le-top}
use Rattle.sr_mail_cut.specs.Bodies.{body_spelling, last_at}
use Rattle.sr_mail_cut.specs.Truths.{IsFragmentOf, between}
use Rattle.sr_mail_cut.specs.Truths as cut
use Rattle.sr_database_history.specs.Folds.{sees}
use Rattle.sr_database_history.specs.Recorded.{Recorded}
use Rattle.sr_logform.specs.declared.op.Op.{Op}
use Rattle.sr_logform.specs.declared.op.Transaction.{Transaction}
use Rattle.sr_world_model.specs.Layers as layered
use Rattle.sr_world_model.specs.Truth.{members, IsTrueOf}
use Rattle.sr_world_model.specs.Windows.{window}
use Rattle.sr_world_model.proofs.Longer.{given_in, taken_longer, window_longer}
use Rattle.sr_msgform.specs.declared.message.Message.{Message}
use Rattle.sr_msgform.proofs.Whole.{one_message}
use Rattle.sr_send.specs.TrueSentMessages.{all_given}
use Rattle.sr_world.specs.Real.{transaction_at, layers, HasSpelling, LawfulHistory}
use Rattle.sr_world.proofs.Keeping.{given_same, real_laws}
use Rattle.sr_world_prefix.specs.Forging.{IsUnforged}
use Rattle.sr_world_prefix.specs.Partners.{ArePartners, IsInStep}
use Rattle.sr_world_prefix.specs.Puts.{IsFileOf}
use Rattle.sr_world_prefix.specs.Truths.{IsTrueInPart}
use Rattle.sr_world_prefix.proofs.Bodies.{between_is}
use Rattle.sr_world_prefix.proofs.Moments.{on_layers, partners_on, taken_rises}
use Rattle.sr_world_prefix.proofs.Taking.{IsOn, local_on}
use Rattle.sr_world_prefix.proofs.Along.{Along, along_last}

-- ---- windows

-- a window that ends where it begins has nothing
none_within : (b c : Bool) (tx : ℕ × List Op) (txs : List (ℕ × List Op)) → (b && c) ≡ false → txs ≡ [] → cond (b && c) (tx ∷ txs) txs ≡ []
none_within b c tx txs fails none = ap (λ (x : Bool). cond x (tx ∷ txs) txs) fails ∙ none

not_both : (prev x : ℕ) → (nat_lt prev x && nat_le x prev) ≡ false
not_both prev x = grind arith

empty_window : (prev : ℕ) (txs : List (ℕ × List Op)) → window prev prev txs ≡ []
empty_window prev [] = refl
empty_window prev (tx ∷ txs) = none_within (nat_lt prev tx.0) (nat_le tx.0 prev) tx (window prev prev txs) (not_both prev tx.0) (empty_window prev txs)

-- offsets lie within the last of those that rise
abbrev Within : ℕ → List (ℕ × List Op) → Type 0
Within bound txs = AllByRecursion (λ tx. tx.0 ≤ bound) txs

all_within : (low bound : ℕ) (txs : List (ℕ × List Op)) → Rises low (offsets txs) → top low (offsets txs) ≤ bound → Within bound txs
all_within low bound [] rises last = tt
all_within low bound (tx ∷ txs) rises last =
    let up : tx.0 ≤ top tx.0 (offsets txs) = le-top tx.0 (offsets txs) rises.1 in
    (omega (arith, up, last), all_within tx.0 bound txs rises.1 last)

one_within : (bound : ℕ) (b : Bool) (tx : ℕ × List Op) (txs : List (ℕ × List Op)) → tx.0 ≤ bound → Within bound txs → Within bound (cond b (tx ∷ txs) txs)
one_within bound true tx txs one all = (one, all)
one_within bound false tx txs one all = all

window_within : (bound prev upto : ℕ) (txs : List (ℕ × List Op)) → Within bound txs → Within bound (window prev upto txs)
window_within bound prev upto [] all = tt
window_within bound prev upto (tx ∷ txs) all =
    one_within bound (nat_lt prev tx.0 && nat_le tx.0 upto) tx (window prev upto txs) all.0 (window_within bound prev upto txs all.1)

last_within : (bound : ℕ) (first : Offset) (txs : List (ℕ × List Op)) → first.0 ≤ bound → Within bound txs → (last_at first (map transaction_at txs)).0 ≤ bound
last_within bound first [] one all = one
last_within bound first (tx ∷ txs) one all = last_within bound (transaction_at tx).at txs all.0 all.1

-- ---- a history that goes on

module _ (sender user : Name) (es more : List Recorded) where
  end_within : Within (layered.end_of layers es) (layers.given sender user es)
  end_within =
      let given = given_in layers HasSpelling LawfulHistory real_laws sender user es in
      all_within 0 (layered.end_of layers es) (layers.given sender user es) given.0 given.1

  -- a window that ends with its last transaction has the same, since what is given more lies past all that was given
  by_window : (prev upto : Offset) (txs : List (ℕ × List Op)) → window prev.0 upto.0 (layers.given sender user es) ≡ txs → last_at prev (map transaction_at txs) ≡ upto
      → window prev.0 upto.0 (layers.given sender user (es ++ more)) ≡ txs
  by_window prev upto [] is last =
      ap (λ (n : ℕ). window prev.0 n (layers.given sender user (es ++ more))) (ap (λ (o : Offset). o.0) (sym last)) ∙ empty_window prev.0 (layers.given sender user (es ++ more))
  by_window prev upto (tx ∷ txs) is last =
      let all : Within (layered.end_of layers es) (tx ∷ txs)
      = subst (λ (l : List (ℕ × List Op)). Within (layered.end_of layers es) l) is (window_within (layered.end_of layers es) prev.0 upto.0 (layers.given sender user es) end_within) in
      let ends : upto.0 ≤ layered.end_of layers es
      = subst (λ (o : Offset). o.0 ≤ layered.end_of layers es) last (last_within (layered.end_of layers es) (transaction_at tx).at txs all.0 all.1) in
      window_longer layers HasSpelling LawfulHistory real_laws sender user es more prev.0 upto.0 ends ∙ is

  -- what bodies hold of it
  between_given : (rs : List Recorded) (prev upto : ℕ) → between prev upto (all_given sender rs user) ≡ map transaction_at (window prev upto (layers.given sender user rs))
  between_given rs prev upto =
      ap (λ (txs : List (ℕ × List Op)). between prev upto (map transaction_at txs)) (sym (given_same sender user rs)) ∙ between_is prev upto (layers.given sender user rs)

  between_longer : (prev upto : Offset) → last_at prev (between prev.0 upto.0 (all_given sender es user)) ≡ upto
      → between prev.0 upto.0 (all_given sender es user) ≡ between prev.0 upto.0 (all_given sender (es ++ more) user)
  between_longer prev upto last =
      let last' : last_at prev (map transaction_at (window prev.0 upto.0 (layers.given sender user es))) ≡ upto = ap (last_at prev) (sym (between_given es prev.0 upto.0)) ∙ last in
      between_given es prev.0 upto.0
      ∙ ap (map transaction_at) (sym (by_window prev upto (window prev.0 upto.0 (layers.given sender user es)) refl last'))
      ∙ sym (between_given (es ++ more) prev.0 upto.0)

  carries_longer : (m : Message) → cut.IsTrueOf (all_given sender es user) m → cut.IsTrueOf (all_given sender (es ++ more) user) m
  carries_longer m t =
      let same = between_longer m.prev m.upto t.ends in
      record {
        part = subst (λ (ts : List Transaction). IsFragmentOf (body_spelling ts) m) same t.part;
        ends = ap (last_at m.prev) (sym same) ∙ t.ends;
        whole = λ two. t.whole (subst (λ (ts : List Transaction). 2 ≤ length ts) (sym same) two) ∙ ap body_spelling same;
      }

pub true_longer : (sender : Name) (es more us : List Recorded) (m : Message) → IsInStep sender m.to (es ++ more) us → IsTrueInPart sender es m → IsTrueInPart sender (es ++ more) m
true_longer sender es more us m step t =
    let rises = taken_rises sender m.to us (es ++ more) (on_layers sender m.to us (es ++ more) step) in
    let later : taken_end sees m.to es ≤ taken_end sees m.to (es ++ more) = taken_longer layers HasSpelling LawfulHistory real_laws m.to es more rises in
    record { sent_by = t.sent_by; carries = carries_longer sender m.to es more m t.carries; confirms = omega (arith, t.confirms, later) }

-- ---- a world of databases

last_top : (first : Offset) (txs : List (ℕ × List Op)) → (last_at first (map transaction_at txs)).0 ≡ top first.0 (offsets txs)
last_top first [] = refl
last_top first (tx ∷ txs) = last_top (transaction_at tx).at txs

pub true_here : (sender : Name) (es : List Recorded) (m : Message) → IsTrueOf layers sender es m → IsTrueInPart sender es m
true_here sender es m t =
    let same : map transaction_at (members layers sender es m) ≡ between m.prev.0 m.upto.0 (all_given sender es m.to) = sym (between_given sender m.to es [] es m.prev.0 m.upto.0) in
    let ends : (last_at m.prev (map transaction_at (members layers sender es m))).0 ≡ m.upto.0 = last_top m.prev (members layers sender es m) ∙ t.ends_at in
    record {
      sent_by = t.sent_by;
      carries = record {
        part = subst (λ (ts : List Transaction). IsFragmentOf (body_spelling ts) m) same (record { total = t.total; fragment = t.fragment });
        ends = ap (last_at m.prev) (sym same) ∙ ap offset_from ends;
        whole = λ two. t.whole (subst (λ (n : ℕ). 2 ≤ n) (ap (λ (ts : List Transaction). length ts) (sym same) ∙ length-map (members layers sender es m) transaction_at) two) ∙ ap body_spelling same;
      };
      confirms = t.confirm;
    }

-- a file of a true message is not forged: its bytes are those of no other
pub not_forged : (sender receiver : Name) (es : List Recorded) (bytes : List ℕ) → IsFileOf (IsTrueInPart sender es) bytes → IsUnforged receiver sender es bytes
not_forged sender receiver es bytes file =
    λ m other spelled from to. subst (λ (n : Message). IsTrueInPart sender es n) (one_message file.message m file.is_message other (sym file.bytes_are ∙ spelled)) file.is

pub whole_unforged : (sender receiver : Name) (es : List Recorded) (bytes : List ℕ) → IsFileOf (IsTrueOf layers sender es) bytes → IsUnforged receiver sender es bytes
whole_unforged sender receiver es bytes file =
    not_forged sender receiver es bytes (record { message = file.message; is_message = file.is_message; bytes_are = file.bytes_are; is = true_here sender es file.message file.is })

-- ---- entries of its own

-- what a database does by itself takes nothing and notes nothing
pub own_along : (publisher user : Name) (us es new : List Recorded) → AllByRecursion (λ r. sees r ≡ local) new → IsOn publisher user us es → Along (IsOn publisher user us) es new
own_along publisher user us es [] own on = on
own_along publisher user us es (r ∷ new) own on = (on, own_along publisher user us (es ++ r ∷ []) new own.1 (local_on publisher user us es r own.0 on))

pub own_partners : (publisher user : Name) (es us new : List Recorded) → AllByRecursion (λ r. sees r ≡ local) new → ArePartners publisher user es us → ArePartners publisher user (es ++ new) us
own_partners publisher user es us new own partners =
    partners_on publisher user us es new partners
    (along_last (IsOn publisher user us) es new (own_along publisher user us es new own (on_layers publisher user us es partners.took)))
