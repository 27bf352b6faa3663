-- What is done to a database on its site, one thing after the other, and how it ends.
-- Here is what no contract of the program says by itself.
use Rattle.std.specs.Prelude.{ℕ, List, [], ◌∷◌, ◌++◌}
use Rattle.sr_database_history.specs.Recorded.{Recorded}
use Rattle.sr_database_meaning.specs.Events.{Event, commit, put}
use Rattle.sr_site.specs.Happenings.{Happening, attached, wrote, cut_to, synced, listed, fetched, sent, removed, handed_over}

-- one thing that was done: an entry was committed, or a call of the mail was made and succeeded, as it happened
pub data Effect : Type 0 where
  entered : Recorded → Effect
  called : Happening → Effect

-- how it ended: all was done; the disk refused the commit of an entry; a call of the mail failed, as these happened since the last thing that was done, the
-- newest first; an entry has no room, or is too long; there was no memory, and this had happened to the mail
pub data End : Type 0 where
  whole : End
  refused : Recorded → End
  failed : List Happening → End
  full : Recorded → ℕ → ℕ → End
  long : Recorded → ℕ → ℕ → End
  short : List Happening → End

-- the entries among effects
abbrev pub entries : List Effect → List Recorded
entries [] = []
entries (entered r ∷ effects) = r ∷ entries effects
entries (called h ∷ effects) = entries effects

-- the calls of the mail, the newest first, behind those before
abbrev pub mail_behind : List Effect → List Happening → List Happening
mail_behind [] before = before
mail_behind (entered r ∷ effects) before = mail_behind effects before
mail_behind (called h ∷ effects) before = mail_behind effects (h ∷ before)

-- a put is an event, as a commit is
abbrev pub put_in : Happening → List Event
put_in (attached name folder done) = []
put_in (wrote file place bytes done after) = []
put_in (cut_to file to done after) = []
put_in (synced file done after) = []
put_in (listed address folder listing) = []
put_in (fetched address name limit found) = []
put_in (sent address name bytes done) = put address name bytes ∷ []
put_in (removed address name done) = []
put_in (handed_over folders noted) = []

-- the events of calls, the newest of which comes first among them, and last among the events
abbrev pub puts_of : List Happening → List Event
puts_of [] = []
puts_of (h ∷ hs) = puts_of hs ++ put_in h

-- what effects come to in a trace
abbrev pub trace : List Effect → List Event
trace [] = []
trace (entered r ∷ effects) = commit r ∷ trace effects
trace (called h ∷ effects) = put_in h ++ trace effects

-- calls of the mail alone, of which the newest comes first
abbrev pub calls : List Happening → List Effect
calls [] = []
calls (h ∷ hs) = calls hs ++ called h ∷ []

-- what had happened to the mail where it ended
abbrev pub under_way : End → List Happening
under_way whole = []
under_way (refused r) = []
under_way (failed hs) = hs
under_way (full r end need) = []
under_way (long r size limit) = []
under_way (short hs) = hs

-- the entry that was to be committed
abbrev pub asked : End → List Recorded
asked whole = []
asked (refused r) = r ∷ []
asked (failed hs) = []
asked (full r end need) = r ∷ []
asked (long r size limit) = r ∷ []
asked (short hs) = []

-- the entry whose commit the disk refused
abbrev pub broken : End → List Recorded
broken whole = []
broken (refused r) = r ∷ []
broken (failed hs) = []
broken (full r end need) = []
broken (long r size limit) = []
broken (short hs) = []

-- the events that were begun and not done
abbrev pub begun : End → List Event
begun whole = []
begun (refused r) = commit r ∷ []
begun (failed hs) = puts_of hs
begun (full r end need) = []
begun (long r size limit) = []
begun (short hs) = puts_of hs
