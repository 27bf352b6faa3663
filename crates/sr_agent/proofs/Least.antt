-- The least offset up to which a log was sent to partners.
use Rattle.std.proofs.Common.{◌≡◌, ℕ, ◌≤◌, List, [], ◌∷◌, length, sym, subst, arith}
use Rattle.std.specs.List.{AllByRecursion}
use Rattle.sr_database.specs.Views.{View}
use Rattle.sr_database_files.specs.Books.{book_in}
use Rattle.sr_agent.specs.Inner.Sharing.{IsSentUpTo, SentUpToBut}
use Rattle.sr_agent.specs.declared.partner.Partner.{Partner}

-- with one partner more
pub all_but : (db : View) (at at' : ℕ) (left all : List Partner) (p : Partner) (rest : List Partner) → left ≡ p ∷ rest → at' ≤ at → IsSentUpTo db at' p → SentUpToBut db at left all → SentUpToBut db at' rest all
all_but db at at' left all p rest is less sent so least no_more others =
    so least (omega arith) (subst (λ (ps : List Partner). AllByRecursion (IsSentUpTo db least) ps) (sym is) ((λ granted. let up : at' ≤ (book_in db.books p.user).log_sent = sent granted in omega arith), others))

-- none is left
pub none_left : (db : View) (at : ℕ) (left all : List Partner) → length left ≡ 0 → SentUpToBut db at left all → AllByRecursion (IsSentUpTo db at) all
none_left db at [] all is so = so at (omega arith) tt
none_left db at (p ∷ left) all is so = absurd (omega arith)
