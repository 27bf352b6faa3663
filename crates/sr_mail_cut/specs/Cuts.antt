-- How transactions are cut into messages.
use Rattle.std.specs.Prelude.{◌≡◌, ℕ, ◌+◌, ◌<◌, ◌≤◌, ⊤, List, [], ◌∷◌, ◌++◌, length}
use Rattle.std.specs.List.{concat, flat_map, AllByRecursion}
use Rattle.sr_base.specs.declared.offset.Offset.{Offset}
use Rattle.sr_logform.specs.declared.op.Transaction.{Transaction}
use Rattle.sr_logform.specs.Ops.{transaction_spelling}
use Rattle.sr_mail_cut.specs.declared.head.Head.{Head}
use Rattle.sr_mail_cut.specs.Bodies.{body_spelling, last_at}
use Rattle.sr_msgform.specs.declared.message.Message.{Message}

-- the least and the most bytes that a message may be limited to
abbrev pub least_message : ℕ
least_message = 10000

abbrev pub most_message : ℕ
most_message = 1048576

-- the message with this head that carries a fragment of a window's body
abbrev pub carrying : Head → Offset → Offset → ℕ → ℕ → List ℕ → Message
carrying head prev upto total start fragment = record {
  from = head.from;
  to = head.to;
  resend_count = head.resend_count;
  prev = prev;
  upto = upto;
  total = total;
  start = start;
  fragment = fragment;
  confirm = head.confirm;
  ask_count = head.ask_count;
  ask_offset = head.ask_offset;
}

-- the length of its file, where the fragment has so many bytes
abbrev pub file_length : Head → ℕ → ℕ
file_length head size = 99 + length head.from + length head.to + size

-- the message without a body, of a window that ends where it begins
abbrev pub bodyless : Head → Offset → Message
bodyless head prev = carrying head prev prev 0 0 []

-- one window as it is sent: its transactions, and the fragments of their body
pub record Parcel : Type 0 where
  pub transactions : List Transaction
  pub fragments : List (List ℕ)

-- fragments, at least one and none of them empty: each but the last makes a message of exactly `limit` bytes, and the last one of no more
abbrev pub AreFragments : Head → ℕ → List (List ℕ) → Type 0
AreFragments head limit [] = ⊥
AreFragments head limit (last ∷ []) = ¬ (last ≡ []) × (file_length head (length last) ≤ limit)
AreFragments head limit (f ∷ g ∷ others) = (file_length head (length f) ≡ limit) × AreFragments head limit (g ∷ others)

-- a window has a transaction; its fragments are its body one after the other; it has several only where it has a single transaction
pub record IsParcel (head : Head) (limit : ℕ) (p : Parcel) : Type 0 where
  pub filled : ¬ (p.transactions ≡ [])
  pub parts : AreFragments head limit p.fragments
  pub body : concat p.fragments ≡ body_spelling p.transactions
  pub single : 2 ≤ length p.fragments → length p.transactions ≡ 1

-- the transactions of windows, one after the other
abbrev pub transactions_of : List Parcel → List Transaction
transactions_of parcels = flat_map (λ p. p.transactions) parcels

-- a message of these transactions and the first one behind them, if there is one, would be longer than `limit`
abbrev pub IsFull : Head → ℕ → List Transaction → List Transaction → Type 0
IsFull head limit ts [] = ⊤
IsFull head limit ts (next ∷ others) = limit < file_length head (length (body_spelling ts ++ transaction_spelling next))

-- no two adjacent windows could be one, and the last one could not take the first of the transactions that follow
abbrev pub AreFull : Head → ℕ → List Parcel → List Transaction → Type 0
AreFull head limit [] behind = ⊤
AreFull head limit (p ∷ parcels) behind = IsFull head limit p.transactions (transactions_of parcels ++ behind) × AreFull head limit parcels behind

-- the messages of one window, from a place of its body on
abbrev pub messages_from : Head → Offset → Offset → ℕ → ℕ → List (List ℕ) → List Message
messages_from head prev upto total start [] = []
messages_from head prev upto total start (f ∷ fragments) = carrying head prev upto total start f ∷ messages_from head prev upto total (start + length f) fragments

abbrev pub messages_of : Head → Offset → Parcel → List Message
messages_of head prev p = messages_from head prev (last_at prev p.transactions) (length (body_spelling p.transactions)) 0 p.fragments

-- the messages of windows, the first of which begins at `prev` and each further one where the one before it ends
abbrev pub all_messages : Head → Offset → List Parcel → List Message
all_messages head prev [] = []
all_messages head prev (p ∷ parcels) = messages_of head prev p ++ all_messages head (last_at prev p.transactions) parcels

-- the messages carry these transactions from `prev` on, each filled as far as `limit` allows
pub record AreCut (head : Head) (prev : Offset) (transactions : List Transaction) (limit : ℕ) (messages : List Message) : Type 0 where
  pub parcels : List Parcel
  pub windows : AllByRecursion (IsParcel head limit) parcels
  pub full : AreFull head limit parcels []
  pub covered : transactions_of parcels ≡ transactions
  pub sent : messages ≡ all_messages head prev parcels

-- what is made of transactions: for none, one message without a body
abbrev pub IsCut : Head → Offset → List Transaction → ℕ → List Message → Type 0
IsCut head prev [] limit messages = messages ≡ bodyless head prev ∷ []
IsCut head prev (t ∷ ts) limit messages = AreCut head prev (t ∷ ts) limit messages

-- ---- a cutter, which is given the transactions one by one

-- a cutter: the window that is being filled begins at `prev`; the transactions that it holds end at `upto` and have these bytes
pub record Cutting : Type 0 where
  pub head : Head
  pub limit : ℕ
  pub prev : Offset
  pub upto : Offset
  pub body : List ℕ

-- what a cutter has given, since it began at `first`, for the transactions that it was given
pub record HasGiven (cutter : Cutting) (first : Offset) (pushed : List Transaction) (messages : List Message) : Type 0 where
  pub parcels : List Parcel
  pub held : List Transaction
  pub windows : AllByRecursion (IsParcel cutter.head cutter.limit) parcels
  -- whatever comes next, no two adjacent windows could be one
  pub full : (next : Transaction) → AreFull cutter.head cutter.limit parcels (held ++ next ∷ [])
  pub covered : pushed ≡ transactions_of parcels ++ held
  pub sent : messages ≡ all_messages cutter.head first parcels
  pub begins : cutter.prev ≡ last_at first (transactions_of parcels)
  pub ends : cutter.upto ≡ last_at cutter.prev held
  pub bytes : cutter.body ≡ body_spelling held
  pub short : ¬ (held ≡ []) → file_length cutter.head (length cutter.body) ≤ cutter.limit
