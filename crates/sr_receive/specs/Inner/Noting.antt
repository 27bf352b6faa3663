-- Entries that a pass commits besides those that it takes, and the faults that may end it.
-- Here is what no contract of the program says by itself.
use Rattle.std.specs.Prelude.{◌≡◌, List, [], ◌∷◌, ◌++◌, map, Result, Ok, Err}
use Rattle.sr_database_did.specs.Inner.Did.{PlaceView, Did}
use Rattle.sr_database_did.specs.Inner.Effects.{entered, End, whole, refused, failed, full, long, short, asked, under_way}
use Rattle.sr_database_history.specs.Recorded.{Recorded}
use Rattle.sr_receive_gather.specs.declared.fault.ReceiveFault.{ReceiveFault}
use Rattle.sr_receive_gather.specs.declared.fault.ReceiveFault.TheVariants.{Disk, Mail, Full, Long, Memory}

-- the fault that an end is told by; where all was done there is none
abbrev pub fault_of : End → ReceiveFault
fault_of whole = Memory
fault_of (refused r) = Disk
fault_of (failed hs) = Mail
fault_of (full r end need) = Full end need
fault_of (long r size limit) = Long size limit
fault_of (short hs) = Memory

-- it ended at the commit of this entry
abbrev pub IsEndOf : Recorded → End → Type 0
IsEndOf r whole = ⊥
IsEndOf r (refused s) = s ≡ r
IsEndOf r (failed hs) = ⊥
IsEndOf r (full s end need) = s ≡ r
IsEndOf r (long s size limit) = s ≡ r
IsEndOf r (short hs) = hs ≡ []

-- an entry was not committed
pub record NotEntered (a b : PlaceView) (r : Recorded) (fault : ReceiveFault) : Type 0 where
  pub end : End
  pub is : fault ≡ fault_of end
  pub of : IsEndOf r end
  pub did : Did a b [] end

abbrev pub Enters : PlaceView → PlaceView → Recorded → Result (Unit {0}) ReceiveFault → Type 0
Enters a b r (Ok done) = Did a b (entered r ∷ []) whole
Enters a b r (Err fault) = NotEntered a b r fault

-- of entries the first were committed, and the next was refused or none was
pub record NotAll (a b : PlaceView) (rs : List Recorded) (fault : ReceiveFault) : Type 0 where
  pub done : List Recorded
  pub rest : List Recorded
  pub end : End
  pub is : fault ≡ fault_of end
  pub parts : rs ≡ done ++ (asked end ++ rest)
  pub quiet : under_way end ≡ []
  pub did : Did a b (map entered done) end

-- entries were committed, one behind the other
abbrev pub EntersAll : {A : Type 0} → PlaceView → PlaceView → List Recorded → Result A ReceiveFault → Type 0
EntersAll a b rs (Ok done) = Did a b (map entered rs) whole
EntersAll a b rs (Err fault) = NotAll a b rs fault
