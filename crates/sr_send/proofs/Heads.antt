-- What the messages of a pass have in common.
use Rattle.std.proofs.Common.{◌≡◌, ℕ, ◌≤◌, [], length, true, false, refl, sym, ap, subst, ◌∙◌, arith}
use Rattle.std.specs.Prelude.{Bool, cond, IsTrue}
use Rattle.sr_book.specs.Entries.{Name}
use Rattle.sr_book.specs.declared.book.Book.{Book}
use Rattle.sr_mail_cut.specs.Cuts.{Cutting, HasGiven, file_length}
use Rattle.sr_mail_cut.specs.declared.head.Head.{Head}
use Rattle.sr_database.specs.Views.{View}
use Rattle.sr_send.specs.Inner.Aims.{IsAim, HasMade, aim_at}
use Rattle.sr_send.specs.PutFiles.{head_of}
use Rattle.sr_send.specs.declared.aim.Aim.{Aim}
use Rattle.sr_send.specs.declared.post.Post.{Post}

asked_none : (ask : Bool) (book : Book) → (IsTrue ask → 1 ≤ book.rereceive_count) → cond ask book.rereceive_count 0 ≡ 0 → cond ask book.log_received 0 ≡ 0
asked_none true book some e = absurd (omega (arith, some refl, e))
asked_none false book some e = refl

-- where nothing is asked no offset is
ask_of : (head : Head) (publisher user : Name) (book : Book) (ask : Bool) → head ≡ head_of publisher user book ask → (IsTrue ask → 1 ≤ book.rereceive_count) → head.ask_count ≡ 0 → head.ask_offset.0 ≡ 0
ask_of head publisher user book ask is some none =
    ap (λ (h : Head). h.ask_offset.0) is ∙ asked_none ask book some (sym (ap (λ (h : Head). h.ask_count) is) ∙ none)

pub good_aim : (aim : Aim) (publisher user : Name) (book : Book) (ask : Bool) → aim.head ≡ head_of publisher user book ask → (IsTrue ask → 1 ≤ book.rereceive_count) → file_length aim.head 0 ≤ 227 → 10000 ≤ aim.limit → aim.limit ≤ 1048576
    → IsAim aim
good_aim aim publisher user book ask is some names least most = record { ask = ask_of aim.head publisher user book ask is some; names = names; least = least; most = most }

names_short : (head : Head) → length head.from ≤ 64 → length head.to ≤ 64 → file_length head 0 ≤ 227
names_short head one two = omega (arith, one, two)

-- what the messages to a user have in common is good
pub good_at : (db : View) (user : Name) (book : Book) (limit : ℕ) (ask : Bool) (publisher : Name) → publisher ≡ db.base_catalog.publisher → (IsTrue ask → 1 ≤ book.rereceive_count) → length publisher ≤ 64 → length user ≤ 64
    → 10000 ≤ limit → limit ≤ 1048576 → IsAim (aim_at db user book limit ask)
good_at db user book limit ask publisher is some one two least most =
    let head = head_of db.base_catalog.publisher user book ask in
    let first : length db.base_catalog.publisher ≤ 64 = subst (λ (n : Name). length n ≤ 64) is one in
    good_aim (aim_at db user book limit ask) db.base_catalog.publisher user book ask refl some (names_short head first two) least most

-- at first nothing is made
pub made_none : (aim : Aim) (post : Post) → post.cutter ≡ record { head = aim.head; limit = aim.limit; prev = aim.prev; upto = aim.prev; body = [] } → HasGiven post.cutter aim.prev [] [] → post.end ≡ aim.prev → post.put ≡ 0
    → HasMade aim post [] []
made_none aim post is given end_is none = record {
  given = given;
  head_is = ap (λ (c : Cutting). c.head) is;
  limit_is = ap (λ (c : Cutting). c.limit) is;
  fits = refl;
  rises = tt;
  end_is = end_is;
  count = none;
}
