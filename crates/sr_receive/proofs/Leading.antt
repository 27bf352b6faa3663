-- The window that is to be tried, in the inbox and among message files.
use Rattle.std.proofs.Common.{◌≡◌, ℕ, ◌<◌, Bool, true, false, ◌||◌, cond, if◌then◌else◌, List, [], ◌∷◌, ◌++◌, get_or, length, Option, Some, None, Result, Ok, Err, refl, sym, ap, subst, ◌∙◌, arith}
use Rattle.std.specs.Prelude.{IfNone, IfOk, MatchOption, map}
use Rattle.std.specs.List.{AllByRecursion, Contains}
use Rattle.std.proofs.lemmas.List.{ext_get_or}
use Rattle.sr_base.specs.declared.offset.Offset.{Offset}
use Rattle.sr_mail_cut.specs.Bodies.{IsBody, RisesPast, last_at, last_offset}
use Rattle.sr_logform.specs.declared.op.Transaction.{Transaction}
use Rattle.sr_mail.specs.Assembled.{CanAssemble, IsAssembled, total_of}
use Rattle.sr_mail.specs.Inner.Assembled.{AreOfOneWindow}
use Rattle.sr_mail.specs.Inboxes.{Gathered, is_dropped, pieces_of}
use Rattle.sr_mail.specs.Inner.Inboxes.{IsNext, IsWholeWindow, is_seen, is_some}
use Rattle.sr_mail.specs.Reaching.{Leads}
use Rattle.sr_mail.specs.Seen.{Cover, same_window, window_of}
use Rattle.sr_mail.specs.declared.piece.Piece.{Piece}
use Rattle.sr_mail.specs.declared.window.Window.{Window}
use Rattle.sr_mail.proofs.Order.{same-is}
use Rattle.sr_receive.specs.Acts.{IsReadAs}
use Rattle.sr_receive_gather.specs.Fetches.{Pairs}
use Rattle.sr_receive_gather.specs.Bags.{Holds}
use Rattle.sr_receive_gather.specs.MessageFiles.{MessageFile}
use Rattle.sr_receive_gather.specs.Windows.{AreOf, IsDue, IsWholeOf, NoneLeads, Spell, is_dropped_window}

-- ---- whole windows

whole_of : (message_files : List MessageFile) (dropped_windows : List Window) (inbox : List Gathered) (w : Window) → Holds message_files dropped_windows inbox → IsWholeWindow inbox w → IsWholeOf message_files dropped_windows w
whole_of message_files dropped_windows inbox w holds whole = record {
  seen = λ none. whole.seen (holds.pieces w ∙ none);
  covered = subst (λ (l : List Piece). Cover l w.total) (holds.pieces w) whole.covered;
  kept = sym (holds.dropped w) ∙ whole.kept;
}

of_whole : (message_files : List MessageFile) (dropped_windows : List Window) (inbox : List Gathered) (w : Window) → Holds message_files dropped_windows inbox → IsWholeOf message_files dropped_windows w → IsWholeWindow inbox w
of_whole message_files dropped_windows inbox w holds whole = record {
  seen = λ none. whole.seen (sym (holds.pieces w) ∙ none);
  covered = subst (λ (l : List Piece). Cover l w.total) (sym (holds.pieces w)) whole.covered;
  kept = holds.dropped w ∙ whole.kept;
}

-- the next of the inbox is due
pub due_of : (message_files : List MessageFile) (dropped_windows : List Window) (inbox : List Gathered) (received : ℕ) (pieces : List Piece) → Holds message_files dropped_windows inbox → (next : IsNext inbox received pieces) → IsDue message_files dropped_windows received next.window pieces
due_of message_files dropped_windows inbox received pieces holds next = record {
  whole = whole_of message_files dropped_windows inbox next.window holds next.whole;
  leads = next.leads;
  least = λ other whole leads. next.least other (of_whole message_files dropped_windows inbox other holds whole) leads;
  own = subst (λ (l : List Piece). AllByRecursion (λ p. (window_of p ≡ next.window) × Contains l p) pieces) (holds.pieces next.window) next.own;
  filled = next.filled;
  covered = next.covered;
}

pub none_leads : (message_files : List MessageFile) (dropped_windows : List Window) (inbox : List Gathered) (received : ℕ) → Holds message_files dropped_windows inbox → ((w : Window) → IsWholeWindow inbox w → ¬ (Leads w received)) → NoneLeads message_files dropped_windows received
none_leads message_files dropped_windows inbox received holds none w whole = none w (of_whole message_files dropped_windows inbox w holds whole)

-- ---- pieces of one window

pub firsts : {A : Type 0} (P Q : A → Type 0) (xs : List A) → AllByRecursion (λ x. P x × Q x) xs → AllByRecursion P xs
firsts P Q [] all = tt
firsts P Q (x ∷ xs) all = (all.0.0, firsts P Q xs all.1)

pairs_own : (w : Window) (pairs : Pairs) → AllByRecursion (λ p. window_of p ≡ w) (map (λ p. p.0) pairs) → AllByRecursion (λ pair. window_of pair.0 ≡ w) pairs
pairs_own w [] all = tt
pairs_own w (p ∷ pairs) all = (all.0, pairs_own w pairs all.1)

along : (w v : Window) (pairs : Pairs) → w ≡ v → AllByRecursion (λ pair. window_of pair.0 ≡ w) pairs → AllByRecursion (λ pair. window_of pair.0 ≡ v) pairs
along w v [] same all = tt
along w v (p ∷ pairs) same all = (all.0 ∙ same, along w v pairs same all.1)

of_one : (w : Window) (pairs : Pairs) → AllByRecursion (λ pair. window_of pair.0 ≡ w) pairs → AreOfOneWindow pairs
of_one w [] all = tt
of_one w (p ∷ pairs) all = along w (window_of p.0) pairs (sym all.0) all.1

pub pairs_of_one : (w : Window) (pieces : List Piece) (pairs : Pairs) → AllByRecursion (λ p. window_of p ≡ w) pieces → map (λ p. p.0) pairs ≡ pieces → AreOfOneWindow pairs
pairs_of_one w pieces pairs all parts = of_one w pairs (pairs_own w pairs (subst (λ (l : List Piece). AllByRecursion (λ p. window_of p ≡ w) l) (sym parts) all))

pub pairs_filled : (pieces : List Piece) (pairs : Pairs) → ¬ (pieces ≡ []) → map (λ p. p.0) pairs ≡ pieces → ¬ (pairs ≡ [])
pairs_filled pieces pairs some parts none = some (sym parts ∙ ap (λ (l : Pairs). map (λ p. p.0) l) none)

-- the window of the first piece is that of all
pub first_window : (w v : Window) (p : Piece) (rest pieces : List Piece) → pieces ≡ p ∷ rest → v ≡ window_of p → AllByRecursion (λ x. window_of x ≡ w) pieces → v ≡ w
first_window w v p rest pieces parts is all = is ∙ (subst (λ (l : List Piece). AllByRecursion (λ x. window_of x ≡ w) l) parts all).0

-- ---- a window is lost

some_there : (pieces : List Piece) → ¬ (pieces ≡ []) → is_some pieces ≡ true
some_there [] some = absurd (some refl)
some_there (p ∷ pieces) some = refl

dropped_windows_by : (b : Bool) (message_files : List MessageFile) (dropped_windows : List Window) (inbox : List Gathered) (w v : Window) → same_window w v ≡ b → Holds message_files dropped_windows inbox → IsWholeOf message_files dropped_windows w
    → cond b (is_seen inbox v) (is_dropped inbox v) ≡ (b || is_dropped_window dropped_windows v)
dropped_windows_by true message_files dropped_windows inbox w v same holds whole =
    let there : ¬ (pieces_of inbox v ≡ []) = λ none. whole.seen (sym (holds.pieces w) ∙ ap (pieces_of inbox) (same-is w v same) ∙ none) in
    some_there (pieces_of inbox v) there
dropped_windows_by false message_files dropped_windows inbox w v same holds whole = holds.dropped v

pub holds_dropped_windows : (message_files : List MessageFile) (dropped_windows : List Window) (inbox inbox' : List Gathered) (w : Window) → Holds message_files dropped_windows inbox → IsWholeOf message_files dropped_windows w → ((v : Window) → pieces_of inbox' v ≡ pieces_of inbox v)
    → ((v : Window) → is_dropped inbox' v ≡ (if same_window w v then is_seen inbox v else is_dropped inbox v)) → Holds message_files (w ∷ dropped_windows) inbox'
holds_dropped_windows message_files dropped_windows inbox inbox' w holds whole pieces drops = record {
  pieces = λ v. pieces v ∙ holds.pieces v;
  dropped = λ v. drops v ∙ dropped_windows_by (same_window w v) message_files dropped_windows inbox w v refl holds whole;
}

-- ---- transactions of a window

last_of : (prefix : List Transaction) (offset : Offset) (t : Transaction) → last_at offset (prefix ++ t ∷ []) ≡ t.at
last_of [] offset t = refl
last_of (f ∷ prefix) offset t = last_of prefix f.at t

last_there : (prefix : List Transaction) (t : Transaction) → last_offset (prefix ++ t ∷ []) ≡ Some t.at
last_there [] t = refl
last_there (f ∷ prefix) t = ap (λ (o : Offset). Some o) (last_of prefix f.at t)

some_same : (a b : Offset) → Some a ≡ Some b → a ≡ b
some_same a b e = cc

pub of_window : (w : Window) (txs rest prefix : List Transaction) (first last : Transaction) → txs ≡ first ∷ rest → txs ≡ prefix ++ last ∷ [] → IsBody txs → w.prev < first.at.0 → last.at.0 ≡ w.upto → AreOf w txs
of_window w txs rest prefix first last begins ends body lies upto =
    let rising = (subst (λ (l : List Transaction). IsBody l) begins body).rising in
    record {
      body = body;
      past = subst (λ (l : List Transaction). RisesPast w.prev l) (sym begins) (lies, rising);
      ends = (last.at, ap last_offset ends ∙ last_there prefix last, upto);
    }

pub window_of_them : (w : Window) (txs rest prefix : List Transaction) (first last : Transaction) → txs ≡ first ∷ rest → txs ≡ prefix ++ last ∷ [] → AreOf w txs → (w.prev < first.at.0) × (last.at.0 ≡ w.upto)
window_of_them w txs rest prefix first last begins ends are =
    let lies = (subst (λ (l : List Transaction). RisesPast w.prev l) begins are.past).0 in
    let same : are.ends.0 ≡ last.at = some_same are.ends.0 last.at (sym are.ends.1 ∙ ap last_offset ends ∙ last_there prefix last) in
    (lies, ap (λ (o : Offset). o.0) (sym same) ∙ are.ends.2)

pub none_of_window : (w : Window) (txs : List Transaction) → txs ≡ [] → ¬ (AreOf w txs)
none_of_window w txs none are =
    let e : None ≡ Some are.ends.0 = ap last_offset (sym none) ∙ are.ends.1 in absurd cc

-- ---- bytes of a window

same_byte : (a b : ℕ) → Some a ≡ Some b → a ≡ b
same_byte a b e = cc

-- pieces have one body
pub one_body : (pairs : Pairs) (bytes other : List ℕ) → IsAssembled pairs bytes → IsAssembled pairs other → bytes ≡ other
one_body pairs bytes other one two =
    ext_get_or 0 bytes other (one.whole ∙ sym two.whole)
    (λ i lt. let within : i < total_of pairs = omega (arith, lt, one.whole) in same_byte (get_or bytes i 0) (get_or other i 0) (sym (one.each i within) ∙ two.each i within))

pub read_as : (pairs : Pairs) (w : Window) (bytes : List ℕ) (txs : List Transaction) → IsAssembled pairs bytes → Spell w bytes txs → IsReadAs pairs w txs
read_as pairs w bytes txs assembled spell = record { bytes = bytes; assembled = assembled; spell = spell }

pub not_read : (pairs : Pairs) (w : Window) (bytes : List ℕ) → IsAssembled pairs bytes → ((txs : List Transaction) → ¬ (Spell w bytes txs)) → (txs : List Transaction) → ¬ (IsReadAs pairs w txs)
not_read pairs w bytes assembled none txs read =
    none txs (subst (λ (l : List ℕ). Spell w l txs) (one_body pairs read.bytes bytes read.assembled assembled) read.spell)

pub not_assembled : (pairs : Pairs) (w : Window) → ¬ (CanAssemble pairs) → (txs : List Transaction) → ¬ (IsReadAs pairs w txs)
not_assembled pairs w cannot txs read = cannot read.assembled.can

pub not_read_answer : {A E : Type 0} (pairs : Pairs) (w : Window) (bytes : List ℕ) (result : Result (Option A) E) → IsAssembled pairs bytes → IfOk result (λ found. IfNone found ((txs : List Transaction) → ¬ (Spell w bytes txs)))
    → IfOk result (λ found. IfNone found ((txs : List Transaction) → ¬ (IsReadAs pairs w txs)))
not_read_answer pairs w bytes (Ok None) assembled none = not_read pairs w bytes assembled none
not_read_answer pairs w bytes (Ok (Some x)) assembled none = tt
not_read_answer pairs w bytes (Err e) assembled none = tt

-- ---- answers of calls

-- an answer that is no Some is None
pub none_there : {A : Type 0} (o : Option A) (P : Type 0) (Q : A → Type 0) → ((x : A) → ¬ (o ≡ Some x)) → MatchOption o P Q → P
none_there None P Q none is = is
none_there (Some x) P Q none is = absurd (none x refl)

pub none_holds : {A : Type 0} (o : Option A) (P : Type 0) → ((x : A) → ¬ (o ≡ Some x)) → IfNone o P → P
none_holds None P none is = is
none_holds (Some x) P none is = absurd (none x refl)

pub no_length : (ts : List Transaction) → length ts ≡ 0 → ts ≡ []
no_length [] none = refl
no_length (t ∷ ts) none = absurd (omega (arith, none))
