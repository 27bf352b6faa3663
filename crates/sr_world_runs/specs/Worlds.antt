-- A run as steps of a world of databases: what of the world it is told, and where it leads.
use Rattle.std.specs.Prelude.{◌≡◌, ◌⊎◌, ⊤, ℕ, List, [], ◌∷◌, ◌++◌, map, Some, None, Ok, Err, Contains}
use Rattle.std.specs.List.{AllByRecursion}
use Rattle.sr_book.specs.Entries.{Name}
use Rattle.sr_database_history.specs.Recorded.{Recorded}
use Rattle.sr_world_model.specs.Steps.{DatabaseStep, append, put, crash, history_after_all, messages_after_all}
use Rattle.sr_world_model.specs.Worlds.{World, IsNamed, acts_by, after_all, happens, history}
use Rattle.sr_msgform.specs.Messages.{IsMessage, message_spelling}
use Rattle.sr_msgform.specs.declared.message.Message.{Message}
use Rattle.sr_site.specs.Causes.{Rose}
use Rattle.sr_site.specs.Files.{Files}
use Rattle.sr_site.specs.Happenings.{Happening, attached, wrote, cut_to, synced, listed, fetched, sent, removed, handed_over, mail_in, IsCall}
use Rattle.sr_site.specs.Images.{IsImage, IsSettled, MayLeave, RestsThroughout}
use Rattle.sr_site.specs.Seen.{Seen}
use Rattle.sr_database_meaning.specs.Events.{PutFile, puts_in}
use Rattle.sr_database_meaning.specs.Standing.{StandsAs}
use Rattle.sr_database_meaning.specs.Traces.{AtEach}
use Rattle.sr_world_untouched.specs.Untouched.{KeysAgree}
use Rattle.sr_world.specs.Real.{IsGoodWorld, MayDo}
use Rattle.sr_world_prefix.specs.Kept.{StandsKeeping}

-- ---- nothing is forged

-- bytes are known: where they are a message to this database, it is one of these
abbrev pub IsKnown : List Message → Name → List ℕ → Type 0
IsKnown messages receiver bytes = (m : Message) → IsMessage m → bytes ≡ message_spelling m → m.to ≡ receiver → Contains messages m

-- what a fetch gave is known
abbrev pub CameKnown : List Message → Name → Happening → Type 0
CameKnown messages receiver (attached name folder done) = ⊤
CameKnown messages receiver (wrote file place bytes done after) = ⊤
CameKnown messages receiver (cut_to file to done after) = ⊤
CameKnown messages receiver (synced file done after) = ⊤
CameKnown messages receiver (listed address folder listing) = ⊤
CameKnown messages receiver (fetched address name limit (Ok (Some bytes))) = IsKnown messages receiver bytes
CameKnown messages receiver (fetched address name limit (Ok None)) = ⊤
CameKnown messages receiver (fetched address name limit (Err fault)) = ⊤
CameKnown messages receiver (sent address name bytes done) = ⊤
CameKnown messages receiver (removed address name done) = ⊤
CameKnown messages receiver (handed_over folders noted) = ⊤

-- all that was fetched from the one moment to the other is known
pub record AllKnown (messages : List Message) (receiver : Name) (before now : Seen) : Type 0 where
  pub more : List Happening
  pub is : now.happened ≡ more ++ before.happened
  pub each : AllByRecursion (CameKnown messages receiver) more

-- ---- where a run leads

-- the messages that steps put, in order
abbrev pub put_in : List (DatabaseStep Recorded) → List Message
put_in [] = []
put_in (append r ∷ database_steps) = put_in database_steps
put_in (put m ∷ database_steps) = m ∷ put_in database_steps
put_in (crash ∷ database_steps) = put_in database_steps

-- the files of message files have the bytes of these messages, in order
abbrev pub AreFiles : List PutFile → List Message → Type 0
AreFiles put_files messages = map (λ (l : PutFile). l.2) put_files ≡ map message_spelling messages

-- files stand for a history with one entry more, which is a step of its database, and the log in force keeps what partners need
pub record HasOneMore (messages : List Message) (owner : Name) (es : List Recorded) (r : Recorded) (files : Files) : Type 0 where
  pub may : MayDo messages owner es (append r ∷ [])
  pub stands : StandsKeeping owner (es ++ r ∷ []) files

-- what a crash may leave rests on a history: all of it stands for that; or all of it for that, or for that and one and the same entry more, which is a step
-- of its database. In each the log in force keeps what partners need
pub data Rests (messages : List Message) (owner : Name) (es : List Recorded) (Left : Files → Type 0) : Type 0 where
  on_one : ((image : Files) → Left image → StandsKeeping owner es image) → Rests messages owner es Left
  on_two : (r : Recorded) → ((image : Files) → Left image → StandsKeeping owner es image ⊎ HasOneMore messages owner es r image) → Rests messages owner es Left

-- what a crash may leave rests on one history to which this one leads by steps that it and the messages allow, and which put these message files, each of which
-- can be read again
pub record RestsBehind (messages : List Message) (owner : Name) (es : List Recorded) (put_files : List PutFile) (Left : Files → Type 0) : Type 0 where
  pub database_steps : List (DatabaseStep Recorded)
  pub may : MayDo messages owner es database_steps
  pub put : AreFiles put_files (put_in database_steps)
  pub spelled : AllByRecursion IsMessage (put_in database_steps)
  pub rests : Rests (messages_after_all messages database_steps) owner (history_after_all es database_steps) Left

-- all of it stands for the one history
abbrev pub IsOne : {messages : List Message} {owner : Name} {es : List Recorded} {Left : Files → Type 0} → Rests messages owner es Left → Type 0
IsOne (on_one all) = ⊤
IsOne (on_two r each) = ⊥

-- where some of it may have an entry more, this is the next of these steps
abbrev pub IsNext : {messages : List Message} {owner : Name} {es : List Recorded} {Left : Files → Type 0} → Rests messages owner es Left → List (DatabaseStep Recorded) → Type 0
IsNext (on_one all) later = ⊤
IsNext (on_two r each) [] = ⊥
IsNext (on_two r each) (append q ∷ later) = q ≡ r
IsNext (on_two r each) (put m ∷ later) = ⊥
IsNext (on_two r each) (crash ∷ later) = ⊥

-- the last that happened is a call of the mail, or folders were handed over
abbrev pub IsAtMail : List Happening → Type 0
IsAtMail [] = ⊥
IsAtMail (attached name folder done ∷ before) = ⊥
IsAtMail (wrote file place bytes done after ∷ before) = ⊥
IsAtMail (cut_to file to done after ∷ before) = ⊥
IsAtMail (synced file done after ∷ before) = ⊥
IsAtMail (listed address folder listing ∷ before) = ⊤
IsAtMail (fetched address name limit found ∷ before) = ⊤
IsAtMail (sent address name bytes done ∷ before) = ⊤
IsAtMail (removed address name done ∷ before) = ⊤
IsAtMail (handed_over folders noted ∷ before) = ⊤

-- at a moment, after what happened since: it rests so after the message files that were put until then, and at a call of the mail on one history. The steps
-- that lead there are the first of these, and an entry more is the next of them, unless nothing is left but what could be at first
pub record RestsAt (messages : List Message) (owner : Name) (es : List Recorded) (all : List (DatabaseStep Recorded)) (since : List Happening) (First Left : Files → Type 0) : Type 0 where
  pub rest : RestsBehind messages owner es (puts_in since) Left
  pub settled : IsAtMail since → IsOne rest.rests
  pub later : List (DatabaseStep Recorded)
  pub on_the_way : all ≡ rest.database_steps ++ later
  pub next : IsNext rest.rests later ⊎ ((image : Files) → Left image → First image)

-- at a moment: and the world after these steps is good, so that untouched keys agree in it; it is good with one entry more, too, which some of it may have
pub record IsFaithful (w : World Recorded) (owner : Name) (before : Seen) (all : List (DatabaseStep Recorded)) (since : List Happening) : Type 0 where
  pub at : RestsAt w.messages owner (history w owner) all since (IsImage before) (MayLeave before.first (since ++ before.happened))
  pub good : IsGoodWorld (after_all w (acts_by owner at.rest.database_steps))
  pub keys : KeysAgree (after_all w (acts_by owner at.rest.database_steps))
  pub longer : (r : Recorded) → MayDo (messages_after_all w.messages at.rest.database_steps) owner (history_after_all (history w owner) at.rest.database_steps) (append r ∷ [])
      → IsGoodWorld (happens (after_all w (acts_by owner at.rest.database_steps)) (record { owner = owner; database_step = append r }))

-- ---- from the one moment to the other

-- what was found when the database was opened stands no more than one entry ahead
abbrev pub IsAhead : List (DatabaseStep Recorded) → Type 0
IsAhead [] = ⊤
IsAhead (append r ∷ []) = ⊤
IsAhead (append r ∷ other ∷ database_steps) = ⊥
IsAhead (put m ∷ database_steps) = ⊥
IsAhead (crash ∷ database_steps) = ⊥

-- at one of these moments all that a crash may have left stood for this history
pub record WasSettled (owner : Name) (es : List Recorded) (before : Seen) (more : List Happening) : Type 0 where
  pub later : List Happening
  pub since : List Happening
  pub is : more ≡ later ++ since
  pub settled : (image : Files) → MayLeave before.first (since ++ before.happened) image → StandsAs owner es image

-- before each of these steps it did so, for the history with just the steps before it
abbrev pub IsSettledBetween : Name → List Recorded → List (DatabaseStep Recorded) → Seen → List Happening → Type 0
IsSettledBetween owner es made before more =
    (prefix back : List (DatabaseStep Recorded)) (next : DatabaseStep Recorded) → made ≡ prefix ++ next ∷ back → WasSettled owner (history_after_all es prefix) before more

-- after a put nothing is done to the mail but further puts
abbrev pub PutsComeLast : List Happening → Type 0
PutsComeLast [] = ⊤
PutsComeLast (attached name folder done ∷ before) = PutsComeLast before
PutsComeLast (wrote file place bytes done after ∷ before) = PutsComeLast before
PutsComeLast (cut_to file to done after ∷ before) = PutsComeLast before
PutsComeLast (synced file done after ∷ before) = PutsComeLast before
PutsComeLast (listed address folder listing ∷ before) = (puts_in before ≡ []) × PutsComeLast before
PutsComeLast (fetched address name limit found ∷ before) = (puts_in before ≡ []) × PutsComeLast before
PutsComeLast (sent address name bytes done ∷ before) = PutsComeLast before
PutsComeLast (removed address name done ∷ before) = (puts_in before ≡ []) × PutsComeLast before
PutsComeLast (handed_over folders noted ∷ before) = (puts_in before ≡ []) × PutsComeLast before

-- at the return: where a database was opened and no call of the disk failed, all that a crash may leave stands for this history; where none was opened, it is
-- what it was before, and the mail was left alone
abbrev pub IsReturned : Name → List Recorded → Seen → Seen → Type 0
IsReturned owner es before now =
    (RestsThroughout (IsImage before) before now × (mail_in now.happened ≡ mail_in before.happened))
    ⊎ (¬ (Rose before.disk_faults now.disk_faults) → IsSettled (StandsAs owner es) now)

-- so it is at each moment from the one to the other, along one list of steps: those that had been made of what was found, and those that the run made.
-- Between two of these, before the first of them and at the return all that a crash may leave stands for one history; all that happened are calls, and
-- puts come last
pub record IsFaithfulThroughout (w : World Recorded) (owner : Name) (before now : Seen) : Type 0 where
  pub more : List Happening
  pub is : now.happened ≡ more ++ before.happened
  pub found : List (DatabaseStep Recorded)
  pub ahead : IsAhead found
  pub made : List (DatabaseStep Recorded)
  pub moments : AtEach (IsFaithful w owner before (found ++ made)) more
  pub joints : IsSettledBetween owner (history_after_all (history w owner) found) made before more
  pub calls : AllByRecursion IsCall more
  pub puts_come_last : PutsComeLast more
  pub returned : IsReturned owner (history_after_all (history w owner) (found ++ made)) before now

-- a database makes steps of its world alone. Let the world, as it was at the last fetch, be good; let what a crash may leave rest on the history that the
-- database has in it; and let each fetched message to it be of the world. Then at each moment what a crash may leave rests on one history, to which that of
-- the world leads by allowed steps that put what was put until then, and the world after them is good; and these are the first of one list of steps
abbrev pub MakesSteps : World Recorded → Name → Seen → Seen → Type 0
MakesSteps w owner before now = IsGoodWorld w → IsNamed w owner → Rests w.messages owner (history w owner) (IsImage before) → AllKnown w.messages owner before now
    → IsFaithfulThroughout w owner before now
