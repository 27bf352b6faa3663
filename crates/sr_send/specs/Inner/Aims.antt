-- The messages of a pass as they are made: what they are of, and what was made so far.
use Rattle.std.specs.Prelude.{◌≡◌, ◌≤◌, ℕ, Bool, None, List, ◌++◌, length}
use Rattle.sr_base.specs.Values.{offset_from}
use Rattle.sr_book.specs.Entries.{Name}
use Rattle.sr_book.specs.declared.book.Book.{Book}
use Rattle.sr_mail_cut.specs.Bodies.{RisesPast, last_at, first_long}
use Rattle.sr_mail_cut.specs.Cuts.{AreCut, HasGiven, file_length, least_message, most_message}
use Rattle.sr_database.specs.Views.{View}
use Rattle.sr_logform.specs.declared.op.Transaction.{Transaction}
use Rattle.sr_msgform.specs.declared.message.Message.{Message}
use Rattle.sr_send.specs.PutFiles.{head_of, address_in}
use Rattle.sr_send.specs.declared.aim.Aim.{Aim}
use Rattle.sr_send.specs.declared.post.Post.{Post}

-- what the messages of a database to a user have in common
abbrev pub aim_at : View → Name → Book → ℕ → Bool → Aim
aim_at db user book limit ask = record {
  head = head_of db.base_catalog.publisher user book ask;
  address = address_in db.catalog user;
  prev = offset_from book.log_sent;
  count = book.send_count;
  limit = limit;
}

-- nothing is asked past an offset where nothing is asked, names are short, and a message is no longer than one may be
pub record IsAim (aim : Aim) : Type 0 where
  pub ask : aim.head.ask_count ≡ 0 → aim.head.ask_offset.0 ≡ 0
  pub names : file_length aim.head 0 ≤ 227
  pub least : least_message ≤ aim.limit
  pub most : aim.limit ≤ most_message

-- of the transactions that were pushed these messages were made; the cutter holds the others
pub record HasMade (aim : Aim) (post : Post) (pushed : List Transaction) (messages : List Message) : Type 0 where
  pub given : HasGiven post.cutter aim.prev pushed messages
  pub head_is : post.cutter.head ≡ aim.head
  pub limit_is : post.cutter.limit ≡ aim.limit
  pub fits : first_long pushed ≡ None
  pub rises : RisesPast aim.prev.0 pushed
  pub end_is : post.end ≡ last_at aim.prev pushed
  pub count : post.put ≡ length messages

pub record HasMadeSome (aim : Aim) (post : Post) : Type 0 where
  pub pushed : List Transaction
  pub messages : List Message
  pub made : HasMade aim post pushed messages

-- messages that begin those of the transactions, whatever comes after these
pub record IsCutPrefix (aim : Aim) (pushed : List Transaction) (messages : List Message) : Type 0 where
  pub begins : (rest : List Transaction) → (left : List Message) × AreCut aim.head aim.prev (pushed ++ rest) aim.limit (messages ++ left)
