-- Message files that come into a bag.
use Rattle.std.proofs.Common.{◌≡◌, ℕ, Bool, true, false, cond, List, [], ◌∷◌, ◌++◌, map, length, set, get_or, Option, Some, None, ◌+◌, refl, sym, ap, subst, ◌∙◌, arith, append_assoc, length-append}
use Rattle.std.specs.List.{AllByRecursion, filter}
use Rattle.std.specs.Str.{bytes_eq}
use Rattle.std.proofs.lemmas.List.{append-nil, map-append, set_at, get_or_at}
use Rattle.std.proofs.lemmas.List.Elements.{filter-append}
use Rattle.std.proofs.lemmas.Slice.Eq.{bytes_eq-Decides}
use Rattle.sr_mail_cut.proofs.Lists.{AllByRecursion-append}
use Rattle.sr_mail.specs.Inboxes.{is_dropped}
use Rattle.sr_mail.specs.Inner.Inboxes.{Adds}
use Rattle.sr_mail.specs.Seen.{same_window, window_of, piece_of}
use Rattle.sr_mail.specs.declared.piece.Piece.{Piece}
use Rattle.sr_mail.specs.declared.window.Window.{Window}
use Rattle.sr_msgform.specs.declared.message.Message.{Message}
use Rattle.sr_receive_gather.specs.Bags.{filed_of, partner_mail_of, Has, IsPlaceOf, IsPartnerMail, IsPartnerMailWhere}
use Rattle.sr_receive_gather.specs.Gathers.{Extends}
use Rattle.sr_receive_gather.specs.MessageFiles.{MessageFile, message_file, message_files_from}
use Rattle.sr_receive_gather.specs.Windows.{pieces_among}
use Rattle.sr_receive_gather.specs.declared.bag.PartnerMail.{PartnerMail}

same_name : (a b : List ℕ) → bytes_eq a b ≡ true → a ≡ b
same_name a b e = (bytes_eq-Decides a b).0 e

is_name : (a b : List ℕ) → a ≡ b → bytes_eq a b ≡ true
is_name a b e = (bytes_eq-Decides a b).1 e

other_name : (a b : List ℕ) → ¬ (a ≡ b) → bytes_eq a b ≡ false
other_name a b h = go (bytes_eq a b) refl where
  go : (r : Bool) → bytes_eq a b ≡ r → bytes_eq a b ≡ false
  go true e = absurd (h (same_name a b e))
  go false e = e

clash : (b : Bool) → b ≡ true → b ≡ false → ⊥
clash b e f = let g : true ≡ false = sym e ∙ f in absurd cc

-- the test of two names
pub same_test : (a a' b b' : List ℕ) (r : Bool) → a' ≡ a → b' ≡ b → r ≡ bytes_eq a' b' → bytes_eq a b ≡ r
same_test a a' b b' r e f is = sym (is ∙ ap (λ (x : List ℕ). bytes_eq x b') e ∙ ap (bytes_eq a) f)

-- ---- nothing came

more_behind : (b : Bool) (message_files : List MessageFile) (dropped_windows : List Window) (s : PartnerMail) (o p : Option PartnerMail) → (IsPartnerMailWhere message_files dropped_windows o → IsPartnerMailWhere message_files dropped_windows p)
    → IsPartnerMailWhere message_files dropped_windows (cond b (Some s) o) → IsPartnerMailWhere message_files dropped_windows (cond b (Some s) p)
more_behind true message_files dropped_windows s o p f h = h
more_behind false message_files dropped_windows s o p f h = f h

one_alone : (b : Bool) (s : PartnerMail) → IsPartnerMail [] [] s → IsPartnerMailWhere [] [] (cond b (Some s) None)
one_alone true s h = h
one_alone false s h = (refl, refl)

pub one_partner_mail_more : (partner_mails : List PartnerMail) (s : PartnerMail) (user : List ℕ) → IsPartnerMail [] [] s → Has partner_mails user [] [] → Has (partner_mails ++ s ∷ []) user [] []
one_partner_mail_more [] s user is h = one_alone (bytes_eq s.user user) s is
one_partner_mail_more (x ∷ partner_mails) s user is h = more_behind (bytes_eq x.user user) [] [] x (partner_mail_of partner_mails user) (partner_mail_of (partner_mails ++ s ∷ []) user) (one_partner_mail_more partner_mails s user is) h

-- ---- a message file more in a partner mail

one_end : (b : Bool) (old : List Piece) (p : Piece) → old ++ cond b (p ∷ []) [] ≡ cond b (old ++ p ∷ []) old
one_end true old p = refl
one_end false old p = append-nil old

pieces_more : (message_files : List MessageFile) (name : List ℕ) (m : Message) (w : Window)
    → pieces_among (message_files ++ (name, m) ∷ []) w ≡ cond (same_window (window_of (piece_of name m)) w) (pieces_among message_files w ++ piece_of name m ∷ []) (pieces_among message_files w)
pieces_more message_files name m w =
    let of = λ (l : MessageFile). piece_of l.0 l.1 in
    let own = λ (p : Piece). same_window (window_of p) w in
    ap (filter own) (map-append of message_files ((name, m) ∷ [])) ∙ filter-append own (map of message_files) (piece_of name m ∷ [])
    ∙ one_end (same_window (window_of (piece_of name m)) w) (pieces_among message_files w) (piece_of name m)

pub message_file_more : (message_files : List MessageFile) (dropped_windows : List Window) (partner_mail partner_mail' : PartnerMail) (name : List ℕ) (m : Message) → partner_mail'.files.items ≡ partner_mail.files.items ++ filed_of (name, m) ∷ []
    → Adds partner_mail.inbox (piece_of name m) partner_mail'.inbox → ((w : Window) → is_dropped partner_mail'.inbox w ≡ is_dropped partner_mail.inbox w) → IsPartnerMail message_files dropped_windows partner_mail → IsPartnerMail (message_files ++ (name, m) ∷ []) dropped_windows partner_mail'
message_file_more message_files dropped_windows partner_mail partner_mail' name m files adds dropped is = record {
  files = files ∙ ap (λ l. l ++ filed_of (name, m) ∷ []) is.files ∙ sym (map-append filed_of message_files ((name, m) ∷ []));
  inbox = record {
    pieces = λ w. adds w ∙ ap (λ (ps : List Piece). cond (same_window (window_of (piece_of name m)) w) (ps ++ piece_of name m ∷ []) ps) (is.inbox.pieces w) ∙ sym (pieces_more message_files name m w);
    dropped = λ w. dropped w ∙ is.inbox.dropped w;
  };
}

-- ---- and in the bag

message_files_his : (user name : List ℕ) (m : Message) → bytes_eq user m.from ≡ true → message_files_from user (message_file name m ∷ []) ≡ (name, m) ∷ []
message_files_his user name m e = ap (λ (b : Bool). cond b ((name, m) ∷ []) []) e

message_files_not : (user name : List ℕ) (m : Message) → bytes_eq user m.from ≡ false → message_files_from user (message_file name m ∷ []) ≡ []
message_files_not user name m e = ap (λ (b : Bool). cond b ((name, m) ∷ []) []) e

-- the message files of another stay
message_files_stay : (message_files : List MessageFile) (user name : List ℕ) (m : Message) → bytes_eq user m.from ≡ false → message_files ≡ message_files ++ message_files_from user (message_file name m ∷ [])
message_files_stay message_files user name m e = sym (ap (λ (l : List MessageFile). message_files ++ l) (message_files_not user name m e) ∙ append-nil message_files)

-- what a message file makes of a partner mail
pub Grown : PartnerMail → PartnerMail → List ℕ → Message → Type 0
Grown partner_mail partner_mail' name m = (message_files : List MessageFile) (dropped_windows : List Window) → IsPartnerMail message_files dropped_windows partner_mail → IsPartnerMail (message_files ++ (name, m) ∷ []) dropped_windows partner_mail'

extended_here : (b : Bool) (partner_mail partner_mail' : PartnerMail) (o : Option PartnerMail) (user name : List ℕ) (m : Message) (message_files : List MessageFile) (dropped_windows : List Window) → bytes_eq partner_mail.user user ≡ b → bytes_eq partner_mail.user m.from ≡ true
    → Grown partner_mail partner_mail' name m → IsPartnerMailWhere message_files dropped_windows (cond b (Some partner_mail) o) → IsPartnerMailWhere (message_files ++ message_files_from user (message_file name m ∷ [])) dropped_windows (cond b (Some partner_mail') o)
unfolding Grown
extended_here true partner_mail partner_mail' o user name m message_files dropped_windows e his grown h =
    let is : bytes_eq user m.from ≡ true = is_name user m.from (sym (same_name partner_mail.user user e) ∙ same_name partner_mail.user m.from his) in
    subst (λ (l : List MessageFile). IsPartnerMail (message_files ++ l) dropped_windows partner_mail') (sym (message_files_his user name m is)) (grown message_files dropped_windows h)
extended_here false partner_mail partner_mail' o user name m message_files dropped_windows e his grown h =
    let not : bytes_eq user m.from ≡ false = other_name user m.from (λ is. clash (bytes_eq partner_mail.user user) (is_name partner_mail.user user (same_name partner_mail.user m.from his ∙ sym is)) e) in
    subst (λ (l : List MessageFile). IsPartnerMailWhere l dropped_windows o) (message_files_stay message_files user name m not) h

extended_behind : (b : Bool) (f : PartnerMail) (o p : Option PartnerMail) (user name : List ℕ) (m : Message) (message_files : List MessageFile) (dropped_windows : List Window) → bytes_eq f.user user ≡ b → bytes_eq f.user m.from ≡ false
    → (IsPartnerMailWhere message_files dropped_windows o → IsPartnerMailWhere (message_files ++ message_files_from user (message_file name m ∷ [])) dropped_windows p)
    → IsPartnerMailWhere message_files dropped_windows (cond b (Some f) o) → IsPartnerMailWhere (message_files ++ message_files_from user (message_file name m ∷ [])) dropped_windows (cond b (Some f) p)
extended_behind true f o p user name m message_files dropped_windows e apart rest h =
    let not : bytes_eq user m.from ≡ false = subst (λ (u : List ℕ). bytes_eq u m.from ≡ false) (same_name f.user user e) apart in
    subst (λ (l : List MessageFile). IsPartnerMail l dropped_windows f) (message_files_stay message_files user name m not) h
extended_behind false f o p user name m message_files dropped_windows e apart rest h = rest h

extended_in : (prefix : List PartnerMail) (partner_mail partner_mail' : PartnerMail) (behind : List PartnerMail) (name : List ℕ) (m : Message) (user : List ℕ) (message_files : List MessageFile) (dropped_windows : List Window)
    → AllByRecursion (λ s. bytes_eq s.user m.from ≡ false) prefix → bytes_eq partner_mail.user m.from ≡ true → partner_mail'.user ≡ partner_mail.user → Grown partner_mail partner_mail' name m
    → Has (prefix ++ partner_mail ∷ behind) user message_files dropped_windows → Has (prefix ++ partner_mail' ∷ behind) user (message_files ++ message_files_from user (message_file name m ∷ [])) dropped_windows
extended_in [] partner_mail partner_mail' behind name m user message_files dropped_windows others his same grown h =
    subst (λ (u : List ℕ). IsPartnerMailWhere (message_files ++ message_files_from user (message_file name m ∷ [])) dropped_windows (cond (bytes_eq u user) (Some partner_mail') (partner_mail_of behind user))) (sym same)
    (extended_here (bytes_eq partner_mail.user user) partner_mail partner_mail' (partner_mail_of behind user) user name m message_files dropped_windows refl his grown h)
extended_in (f ∷ prefix) partner_mail partner_mail' behind name m user message_files dropped_windows others his same grown h =
    extended_behind (bytes_eq f.user user) f (partner_mail_of (prefix ++ partner_mail ∷ behind) user) (partner_mail_of (prefix ++ partner_mail' ∷ behind) user) user name m message_files dropped_windows refl others.0
    (extended_in prefix partner_mail partner_mail' behind name m user message_files dropped_windows others.1 his same grown) h

pub message_file_added : (partner_mails : List PartnerMail) (at : ℕ) (partner_mail partner_mail' : PartnerMail) (name : List ℕ) (m : Message) → IsPlaceOf partner_mails m.from at → partner_mail ≡ get_or partner_mails at partner_mail → partner_mail'.user ≡ partner_mail.user
    → partner_mail'.files.items ≡ partner_mail.files.items ++ filed_of (name, m) ∷ [] → Adds partner_mail.inbox (piece_of name m) partner_mail'.inbox → ((w : Window) → is_dropped partner_mail'.inbox w ≡ is_dropped partner_mail.inbox w)
    → Extends partner_mails (set partner_mails at partner_mail') (message_file name m ∷ [])
unfolding Grown
message_file_added partner_mails at partner_mail partner_mail' name m place is same files adds dropped = λ user message_files dropped_windows h.
    let it : partner_mail ≡ place.partner_mail = is ∙ ap (λ (l : List PartnerMail). get_or l at partner_mail) place.parts ∙ get_or_at place.prefix place.partner_mail place.behind partner_mail at (sym place.at_is) in
    let before : partner_mails ≡ place.prefix ++ partner_mail ∷ place.behind = place.parts ∙ ap (λ (s : PartnerMail). place.prefix ++ s ∷ place.behind) (sym it) in
    let after : set partner_mails at partner_mail' ≡ place.prefix ++ partner_mail' ∷ place.behind = ap (λ (l : List PartnerMail). set l at partner_mail') before ∙ set_at place.prefix partner_mail place.behind partner_mail' at (sym place.at_is) in
    let his : bytes_eq partner_mail.user m.from ≡ true = subst (λ (s : PartnerMail). bytes_eq s.user m.from ≡ true) (sym it) place.his in
    subst (λ (l : List PartnerMail). Has l user (message_files ++ message_files_from user (message_file name m ∷ [])) dropped_windows) (sym after)
    (extended_in place.prefix partner_mail partner_mail' place.behind name m user message_files dropped_windows place.others his same (λ ls ws. message_file_more ls ws partner_mail partner_mail' name m files adds dropped)
    (subst (λ (l : List PartnerMail). Has l user message_files dropped_windows) before h))

-- ---- the place of a partner mail

-- none of the partner mails before those that are left is the user's
pub record IsLooking (partner_mails : List PartnerMail) (user : List ℕ) (left : List PartnerMail) (at : ℕ) : Type 0 where
  pub prefix : List PartnerMail
  pub parts : partner_mails ≡ prefix ++ left
  pub at_is : at ≡ length prefix
  pub others : AllByRecursion (λ s. bytes_eq s.user user ≡ false) prefix

pub looking_more : (partner_mails : List PartnerMail) (user : List ℕ) (s : PartnerMail) (left : List PartnerMail) (at : ℕ) → bytes_eq s.user user ≡ false → IsLooking partner_mails user (s ∷ left) at → IsLooking partner_mails user left (at + 1)
looking_more partner_mails user s left at not l = record {
  prefix = l.prefix ++ s ∷ [];
  parts = l.parts ∙ sym (append_assoc l.prefix (s ∷ []) left);
  at_is = omega (arith, l.at_is, length-append l.prefix (s ∷ []));
  others = AllByRecursion-append (λ x. bytes_eq x.user user ≡ false) l.prefix (s ∷ []) l.others (not, tt);
}

pub looking_found : (partner_mails : List PartnerMail) (user : List ℕ) (s : PartnerMail) (left : List PartnerMail) (at : ℕ) → bytes_eq s.user user ≡ true → IsLooking partner_mails user (s ∷ left) at → IsPlaceOf partner_mails user at
looking_found partner_mails user s left at his l = record { prefix = l.prefix; partner_mail = s; behind = left; parts = l.parts; at_is = l.at_is; others = l.others; his = his }

none_there : (partner_mails : List PartnerMail) (user : List ℕ) → AllByRecursion (λ s. bytes_eq s.user user ≡ false) partner_mails → partner_mail_of partner_mails user ≡ None
none_there [] user h = refl
none_there (s ∷ partner_mails) user h = ap (λ (b : Bool). cond b (Some s) (partner_mail_of partner_mails user)) h.0 ∙ none_there partner_mails user h.1

pub looking_end : (partner_mails : List PartnerMail) (user : List ℕ) (left : List PartnerMail) (at : ℕ) → left ≡ [] → IsLooking partner_mails user left at → partner_mail_of partner_mails user ≡ None
looking_end partner_mails user left at none l =
    let all : partner_mails ≡ l.prefix = l.parts ∙ ap (λ (x : List PartnerMail). l.prefix ++ x) none ∙ append-nil l.prefix in
    none_there partner_mails user (subst (AllByRecursion (λ s. bytes_eq s.user user ≡ false)) (sym all) l.others)
