-- Message files, numbered on.
use Rattle.std.proofs.Common.{◌≡◌, ℕ, ◌+◌, ◌≤◌, ◌%◌, ◌^◌, List, [], ◌∷◌, ◌++◌, length, refl, sym, ap, subst, ◌∙◌, arith, append_assoc, length-append, inl, inr}
use Rattle.std.specs.Prelude.{◌⊎◌}
use Rattle.std.specs.List.{AllByRecursion}
use Rattle.std.proofs.lemmas.List.{append-nil}
use Rattle.sr_book.specs.Entries.{Name}
use Rattle.sr_mail_cut.proofs.Lists.{AllByRecursion-append}
use Rattle.sr_msgform.specs.Messages.{IsMessage, KeepsRules, message_length}
use Rattle.sr_msgform.specs.declared.message.Message.{Message}
use Rattle.sr_site.specs.Seen.{Seen}
use Rattle.sr_database_meaning.specs.Events.{Event, commits}
use Rattle.sr_send.specs.PutFiles.{put_file, put_files}
use Rattle.sr_send.specs.Posting.{IsSteady}
use Rattle.sr_send.specs.Inner.Posting.{Posted, PutFault}
use Rattle.sr_send.specs.Inner.Stops.{IsPartPut, IsPartSent}
use Rattle.sr_send.specs.declared.aim.Aim.{Aim}
use Rattle.sr_send.specs.declared.fault.SendFault.{SendFault}
use Rattle.sr_send.specs.declared.fault.SendFault.TheVariants.{Disk, Mail, Full, Long, Memory}
use Rattle.sr_send.proofs.Posts.{posted_none, posted_on, same_counts, steady_on, ends_on, ends_steady, rose_from}

-- message files commit nothing
pub no_commits : (address : Name) (count : ℕ) (messages : List Message) → commits (put_files address count messages) ≡ []
no_commits address count [] = refl
no_commits address count (m ∷ messages) = no_commits address (count + 1) messages

-- with what stands after them
pub commits_behind : (address : Name) (count : ℕ) (messages : List Message) (events : List Event) → commits (put_files address count messages ++ events) ≡ commits events
commits_behind address count [] events = refl
commits_behind address count (m ∷ messages) events = commits_behind address (count + 1) messages events

pub put_files-append : (address : Name) (count : ℕ) (xs ys : List Message) → put_files address count (xs ++ ys) ≡ put_files address count xs ++ put_files address (count + length xs) ys
put_files-append address count [] ys =
    let same : count ≡ count + 0 = omega arith in
    ap (λ (n : ℕ). put_files address n ys) same
put_files-append address count (x ∷ xs) ys =
    let same : count + 1 + length xs ≡ count + length (x ∷ xs) = omega arith in
    ap (λ (events : List Event). put_file address ((count + 1) % 2 ^ 64) x ∷ events)
    (put_files-append address (count + 1) xs ys ∙ ap (λ (n : ℕ). put_files address (count + 1) xs ++ put_files address n ys) same)

-- some message files after others
pub posted_more : (address : Name) (count : ℕ) (xs ys : List Message) (a b c : Seen) → Posted a b (put_files address count xs) → Posted b c (put_files address (count + length xs) ys) → Posted a c (put_files address count (xs ++ ys))
posted_more address count xs ys a b c one two =
    subst (λ (events : List Event). Posted a c events) (sym (put_files-append address count xs ys))
    (posted_on a b c (put_files address count xs) (put_files address (count + length xs) ys) (no_commits address count xs) one two)

-- ---- the loop over messages

-- which messages may be put
abbrev pub MayBePut : Message → Type 0
MayBePut m = KeepsRules m × (message_length m ≤ 2097152)

-- some of them are put and these are left
pub record IsPutting (address : Name) (count put : ℕ) (messages left : List Message) (total : ℕ) (before now : Seen) : Type 0 where
  pub done : List Message
  pub parts : messages ≡ done ++ left
  pub posted : Posted before now (put_files address (count + put) done)
  pub spelled : AllByRecursion IsMessage done
  pub total_is : total ≡ put + length done
  pub each : AllByRecursion MayBePut left
  pub steady : IsSteady before now

pub putting_start : (address : Name) (count put : ℕ) (messages : List Message) (seen : Seen) → AllByRecursion MayBePut messages → IsPutting address count put messages messages put seen seen
putting_start address count put messages seen each = record { done = []; parts = refl; posted = posted_none seen; spelled = tt; total_is = omega arith; each = each; steady = same_counts seen }

-- the number that comes next
next_number : (address : Name) (count put total number : ℕ) (done : List Message) (m : Message) → total ≡ put + length done → number ≡ (count + (total + 1)) % 2 ^ 64
    → put_file address number m ∷ [] ≡ put_files address (count + put + length done) (m ∷ [])
next_number address count put total number done m total_is is =
    let same : count + (total + 1) ≡ count + put + length done + 1 = omega (arith, total_is) in
    ap (λ (n : ℕ). put_file address n m ∷ []) (is ∙ ap (λ (n : ℕ). n % 2 ^ 64) same)

one_more : (address : Name) (count put total number : ℕ) (m : Message) (left messages : List Message) (before middle now : Seen) (p : IsPutting address count put messages (m ∷ left) total before middle)
    → number ≡ (count + (total + 1)) % 2 ^ 64 → Posted middle now (put_file address number m ∷ []) → Posted before now (put_files address (count + put) (p.done ++ m ∷ []))
one_more address count put total number m left messages before middle now p is posted =
    posted_more address (count + put) p.done (m ∷ []) before middle now p.posted
    (subst (λ (events : List Event). Posted middle now events) (next_number address count put total number p.done m p.total_is is) posted)

pub putting_more : (address : Name) (count put total number : ℕ) (m : Message) (left messages : List Message) (before middle now : Seen) → IsPutting address count put messages (m ∷ left) total before middle
    → number ≡ (count + (total + 1)) % 2 ^ 64 → Posted middle now (put_file address number m ∷ []) → IsMessage m → IsSteady middle now → IsPutting address count put messages left (total + 1) before now
putting_more address count put total number m left messages before middle now p is posted spelled steady = record {
  done = p.done ++ m ∷ [];
  parts = p.parts ∙ sym (append_assoc p.done (m ∷ []) left);
  posted = one_more address count put total number m left messages before middle now p is posted;
  spelled = AllByRecursion-append IsMessage p.done (m ∷ []) p.spelled (spelled, tt);
  total_is = omega (arith, p.total_is, length-append p.done (m ∷ []));
  each = p.each.1;
  steady = steady_on before middle now p.steady steady;
}

put_fault : (before middle now : Seen) (fault : SendFault) → IsSteady before middle → PutFault middle now fault → PutFault before now fault
put_fault before middle now Disk steady cause = cause
put_fault before middle now Mail steady cause = (rose_from before.mail_faults middle.mail_faults now.mail_faults steady.mail cause.0, cause.1 ∙ steady.disk)
put_fault before middle now (Full end need) steady cause = cause
put_fault before middle now (Long size limit) steady cause = cause
put_fault before middle now Memory steady cause = (cause.0 ∙ steady.disk, cause.1 ∙ steady.mail)

-- ends before the next, for want of memory
pub putting_short : (aim : Aim) (put total : ℕ) (left messages : List Message) (before now : Seen) → IsPutting aim.address aim.count put messages left total before now
    → IsPartSent aim (aim.count + put) before now messages Memory
putting_short aim put total left messages before now p = record { done = p.done; left = left; parts = p.parts; posted = p.posted; spelled = p.spelled; cause = (p.steady.disk, p.steady.mail); ends = ends_steady before now p.steady }

-- ends at the next
pub putting_stop : (aim : Aim) (put total number : ℕ) (m : Message) (left messages : List Message) (before middle now : Seen) (fault : SendFault) → IsPutting aim.address aim.count put messages (m ∷ left) total before middle
    → number ≡ (aim.count + (total + 1)) % 2 ^ 64 → IsPartPut middle now aim.address number m fault → IsPartSent aim (aim.count + put) before now messages fault
putting_stop aim put total number m left messages before middle now fault p is stop = stopped stop.posted
  where
    stopped : Posted middle now [] ⊎ (Posted middle now (put_file aim.address number m ∷ []) × IsMessage m) → IsPartSent aim (aim.count + put) before now messages fault
    stopped (inl posted) = record {
      done = p.done;
      left = m ∷ left;
      parts = p.parts;
      posted =
          subst (λ (events : List Event). Posted before now events) (append-nil (put_files aim.address (aim.count + put) p.done))
          (posted_on before middle now (put_files aim.address (aim.count + put) p.done) [] (no_commits aim.address (aim.count + put) p.done) p.posted posted);
      spelled = p.spelled;
      cause = put_fault before middle now fault p.steady stop.cause;
      ends = ends_on before middle now p.steady stop.ends;
    }
    stopped (inr begun) = record {
      done = p.done ++ m ∷ [];
      left = left;
      parts = p.parts ∙ sym (append_assoc p.done (m ∷ []) left);
      posted = one_more aim.address aim.count put total number m left messages before middle now p is begun.0;
      spelled = AllByRecursion-append IsMessage p.done (m ∷ []) p.spelled (begun.1, tt);
      cause = put_fault before middle now fault p.steady stop.cause;
      ends = ends_on before middle now p.steady stop.ends;
    }
