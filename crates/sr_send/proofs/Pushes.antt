-- Transactions pushed, with the messages that they close.
use Rattle.std.proofs.Common.{◌≡◌, ℕ, ◌+◌, ◌≤◌, ◌<◌, List, [], ◌∷◌, ◌++◌, length, Option, Some, None, Result, Ok, Err, refl, sym, ap, subst, ◌∙◌, arith, append_assoc, length-append, inl, inr}
use Rattle.std.specs.Prelude.{cond, nat_lt, true, false, Bool, OnOk, IfErr, IfSome}
use Rattle.std.specs.List.{AllByRecursion}
use Rattle.std.proofs.lemmas.List.{append-nil}
use Rattle.sr_base.specs.declared.offset.Offset.{Offset}
use Rattle.sr_mail_cut.specs.Bodies.{RisesPast, last_at}
use Rattle.sr_logform.specs.Limits.{longest_transaction}
use Rattle.sr_mail_cut.specs.Cuts.{Cutting, HasGiven}
use Rattle.sr_mail_cut.specs.Inner.Cuts.{CutCause}
use Rattle.sr_mail_cut.specs.declared.too_long.TooLong.{TooLong}
use Rattle.sr_mail_cut.specs.declared.too_long.TooLong.TheVariants as long
use Rattle.sr_mail_cut.proofs.Rising.{RisesPast-more, last-is}
use Rattle.sr_logform.specs.Ops.{transaction_spelling}
use Rattle.sr_logform.specs.declared.entry.Entry.{Entry}
use Rattle.sr_logform.specs.declared.op.Op.{Op}
use Rattle.sr_logform.specs.declared.op.Transaction.{Transaction}
use Rattle.sr_msgform.specs.Messages.{IsMessage}
use Rattle.sr_msgform.specs.declared.message.Message.{Message}
use Rattle.sr_scan.specs.Inner.Images.{told}
use Rattle.sr_scan.specs.Inner.Scanners.{Scan, IsFed, transaction_of}
use Rattle.sr_site.specs.Seen.{Seen}
use Rattle.sr_send.specs.Inner.Aims.{IsAim, HasMade, HasMadeSome, IsCutPrefix}
use Rattle.sr_send.specs.Inner.Faults.{fault_of_cut}
use Rattle.sr_send.specs.PutFiles.{put_files}
use Rattle.sr_send.specs.Inner.Passing.{IsPassed}
use Rattle.sr_send.specs.Posting.{IsSteady}
use Rattle.sr_send.specs.Inner.Posting.{Posted, PutFault}
use Rattle.sr_send.specs.Inner.Steps.{newer, EndsAt, EndsWith, Pushed, Fed}
use Rattle.sr_send.specs.Inner.Stops.{IsPartSent, StopFault, PushStop, FeedStop}
use Rattle.sr_send.specs.declared.aim.Aim.{Aim}
use Rattle.sr_send.specs.declared.fault.SendFault.{SendFault}
use Rattle.sr_send.specs.declared.fault.SendFault.TheVariants.{Disk, Mail, Full, Long, Memory}
use Rattle.sr_send.specs.declared.post.Post.{Post}
use Rattle.sr_send.proofs.Posts.{posted_none, same_counts, ends_same}
use Rattle.sr_send.proofs.Numbers.{MayBePut}
use Rattle.sr_send.proofs.Cutting.{given_prefix, made_prefix, prefix_more, fits_more, prefix_may}

-- ---- what a push does to the cutter

-- what `push` says where it succeeds
pub record IsCutBy (old new : Cutting) (t : Transaction) (closed : List Message) : Type 0 where
  pub given : (first : Offset) (pushed : List Transaction) (earlier : List Message) → HasGiven old first pushed earlier → HasGiven new first (pushed ++ t ∷ []) (earlier ++ closed)
  pub fits : length (transaction_spelling t) ≤ longest_transaction
  pub head : new.head ≡ old.head
  pub limit : new.limit ≡ old.limit

rises_more : (aim : Aim) (old : Post) (t : Transaction) (pushed : List Transaction) (messages : List Message) → HasMade aim old pushed messages → old.end.0 < t.at.0 → RisesPast aim.prev.0 (pushed ++ t ∷ [])
rises_more aim old t pushed messages made later =
    let last : (last_at aim.prev pushed).0 < t.at.0 = subst (λ (o : Offset). o.0 < t.at.0) made.end_is later in
    RisesPast-more aim.prev pushed t made.rises last

-- the messages that it closes may be put
pub closed_may : (aim : Aim) (old : Post) (cutter : Cutting) (t : Transaction) (closed : List Message) → IsAim aim → HasMadeSome aim old → old.end.0 < t.at.0 → IsCutBy old.cutter cutter t closed → AllByRecursion MayBePut closed
closed_may aim old cutter t closed good some later by =
    prefix_may aim cutter (some.pushed ++ t ∷ []) some.messages closed good (by.head ∙ some.made.head_is) (by.limit ∙ some.made.limit_is)
    (rises_more aim old t some.pushed some.messages some.made later)
    (fits_more some.pushed t some.made.fits by.fits)
    (by.given aim.prev some.pushed some.messages some.made.given)

made_more : (aim : Aim) (old new : Post) (t : Transaction) (closed : List Message) → old.end.0 < t.at.0 → IsCutBy old.cutter new.cutter t closed → new.end ≡ t.at → new.put ≡ old.put + length closed
    → (pushed : List Transaction) (messages : List Message) → HasMade aim old pushed messages → HasMade aim new (pushed ++ t ∷ []) (messages ++ closed)
made_more aim old new t closed later by end_is count pushed messages made = record {
  given = by.given aim.prev pushed messages made.given;
  head_is = by.head ∙ made.head_is;
  limit_is = by.limit ∙ made.limit_is;
  fits = fits_more pushed t made.fits by.fits;
  rises = rises_more aim old t pushed messages made later;
  end_is = end_is ∙ sym (last-is aim.prev aim.prev t pushed);
  count = omega (arith, count, made.count, length-append messages closed);
}

pub pushed_one : (aim : Aim) (old new : Post) (t : Transaction) (closed : List Message) (before now : Seen) → old.end.0 < t.at.0 → IsCutBy old.cutter new.cutter t closed → new.end ≡ t.at → new.put ≡ old.put + length closed
    → Posted before now (put_files aim.address (aim.count + old.put) closed) → AllByRecursion IsMessage closed → IsSteady before now → Pushed aim old new before now (t ∷ [])
pushed_one aim old new t closed before now later by end_is count posted spelled steady = record {
  closed = closed;
  made = made_more aim old new t closed later by end_is count;
  posted = posted;
  spelled = spelled;
  steady = steady;
}

-- ---- where it ends

pub nothing_put : (aim : Aim) (old : Post) (added : List Transaction) → IsAim aim → (pushed : List Transaction) (earlier : List Message) → HasMade aim old pushed earlier → IsCutPrefix aim (pushed ++ added) (earlier ++ [])
nothing_put aim old added good pushed earlier made = prefix_more aim pushed added (earlier ++ []) (made_prefix aim old pushed earlier good made)

pub stopped_short : (aim : Aim) (old : Post) (seen : Seen) (added : List Transaction) → IsAim aim → PushStop aim old seen seen added Memory
stopped_short aim old seen added good = record { messages = []; prefix = nothing_put aim old added good; posted = posted_none seen; spelled = tt; cause = (refl, refl); ends = ends_same seen }

cut_fault : (seen : Seen) (t : Transaction) (e : TooLong) → CutCause (t ∷ []) e → StopFault seen seen (t ∷ []) (fault_of_cut e)
cut_fault seen t (long.Transaction need) cause = (same_counts seen, refl, cause)
cut_fault seen t long.Memory cause = (refl, refl)

pub stopped_long : (aim : Aim) (old : Post) (seen : Seen) (t : Transaction) (e : TooLong) → IsAim aim → CutCause (t ∷ []) e → PushStop aim old seen seen (t ∷ []) (fault_of_cut e)
stopped_long aim old seen t e good cause = record { messages = []; prefix = nothing_put aim old (t ∷ []) good; posted = posted_none seen; spelled = tt; cause = cut_fault seen t e cause; ends = ends_same seen }

put_fault : (before now : Seen) (added : List Transaction) (fault : SendFault) → PutFault before now fault → StopFault before now added fault
put_fault before now added Disk cause = absurd cause
put_fault before now added Mail cause = cause
put_fault before now added (Full end need) cause = absurd cause
put_fault before now added (Long size limit) cause = absurd cause
put_fault before now added Memory cause = cause

part_prefix : (aim : Aim) (old : Post) (cutter : Cutting) (t : Transaction) (closed done left : List Message) → IsAim aim → IsCutBy old.cutter cutter t closed → closed ≡ done ++ left
    → (pushed : List Transaction) (earlier : List Message) → HasMade aim old pushed earlier → IsCutPrefix aim (pushed ++ t ∷ []) (earlier ++ done)
part_prefix aim old cutter t closed done left good by parts pushed earlier made =
    let all : earlier ++ closed ≡ (earlier ++ done) ++ left = ap (λ (ms : List Message). earlier ++ ms) parts ∙ sym (append_assoc earlier done left) in
    given_prefix aim cutter (pushed ++ t ∷ []) (earlier ++ done) left good (by.head ∙ made.head_is) (by.limit ∙ made.limit_is)
    (subst (λ (ms : List Message). HasGiven cutter aim.prev (pushed ++ t ∷ []) ms) all (by.given aim.prev pushed earlier made.given))

pub stopped_putting : (aim : Aim) (old : Post) (cutter : Cutting) (t : Transaction) (closed : List Message) (before now : Seen) (fault : SendFault) → IsAim aim → IsCutBy old.cutter cutter t closed
    → IsPartSent aim (aim.count + old.put) before now closed fault → PushStop aim old before now (t ∷ []) fault
stopped_putting aim old cutter t closed before now fault good by part = record {
  messages = part.done;
  prefix = part_prefix aim old cutter t closed part.done part.left good by part.parts;
  posted = part.posted;
  spelled = part.spelled;
  cause = put_fault before now (t ∷ []) fault part.cause;
  ends = part.ends;
}

-- ---- whether it lies past what was sent

pub not_newer : (sent : ℕ) (t : Transaction) → nat_lt sent t.at.0 ≡ false → newer sent (Some t) ≡ []
not_newer sent t before = ap (λ (b : Bool). cond b (t ∷ []) []) before

pub is_newer : (sent : ℕ) (t : Transaction) → nat_lt sent t.at.0 ≡ true → newer sent (Some t) ≡ t ∷ []
is_newer sent t past = ap (λ (b : Bool). cond b (t ∷ []) []) past

made_same : (aim : Aim) (post : Post) (pushed : List Transaction) (messages : List Message) → HasMade aim post pushed messages → HasMade aim post (pushed ++ []) (messages ++ [])
made_same aim post pushed messages made =
    subst (λ (ts : List Transaction). HasMade aim post ts (messages ++ [])) (sym (append-nil pushed))
    (subst (λ (ms : List Message). HasMade aim post pushed ms) (sym (append-nil messages)) made)

pub pushed_nothing : (aim : Aim) (post : Post) (seen : Seen) → Pushed aim post post seen seen []
pushed_nothing aim post seen = record { closed = []; made = made_same aim post; posted = posted_none seen; spelled = tt; steady = same_counts seen }

pub pushed_old : (aim : Aim) (post : Post) (t : Transaction) (seen : Seen) → nat_lt aim.prev.0 t.at.0 ≡ false → Pushed aim post post seen seen (newer aim.prev.0 (Some t))
pushed_old aim post t seen before = subst (λ (ts : List Transaction). Pushed aim post post seen seen ts) (sym (not_newer aim.prev.0 t before)) (pushed_nothing aim post seen)

pub pushed_new : (aim : Aim) (old new : Post) (t : Transaction) (before now : Seen) → nat_lt aim.prev.0 t.at.0 ≡ true → Pushed aim old new before now (t ∷ []) → Pushed aim old new before now (newer aim.prev.0 (Some t))
pushed_new aim old new t before now past pushed = subst (λ (ts : List Transaction). Pushed aim old new before now ts) (sym (is_newer aim.prev.0 t past)) pushed

pub stopped_new : (aim : Aim) (old : Post) (t : Transaction) (before now : Seen) (fault : SendFault) → nat_lt aim.prev.0 t.at.0 ≡ true → PushStop aim old before now (t ∷ []) fault → PushStop aim old before now (newer aim.prev.0 (Some t)) fault
stopped_new aim old t before now fault past stop = subst (λ (ts : List Transaction). PushStop aim old before now ts fault) (sym (is_newer aim.prev.0 t past)) stop

-- ---- what a scanner finds

at_case : (at : Offset) (ops : List Op) (t : Transaction) → Some t ≡ transaction_of at ops → t.at ≡ at
at_case at [] t e = absurd cc
at_case at (op ∷ ops) t e =
    let same : t ≡ record { at = at; ops = op ∷ ops } = cc in
    ap (λ (x : Transaction). x.at) same

-- it ends where the entry does
pub found_at : (old new : Scan) (at : Offset) (entry : Entry) (t : Transaction) → IsFed old at entry (Some t) new → t.at ≡ at
found_at old new at entry t fed = at_case at _ t fed.gives

fed_some : (aim : Aim) (scan scan' : Scan) (old new : Post) (at : Offset) (entry : Entry) (t : Transaction) (before now : Seen) → IsFed scan at entry (Some t) scan'
    → Pushed aim old new before now (newer aim.prev.0 (Some t)) → EndsAt old.end t.at new.end → Fed aim scan scan' old new at entry before now
fed_some aim scan scan' old new at entry t before now fed pushed end = record {
  added = newer aim.prev.0 (Some t);
  scanned = record { found = Some t; fed = fed; added_is = refl };
  pushed = pushed;
  end = subst (λ (o : Offset). EndsAt old.end o new.end) (found_at scan scan' at entry t fed) end;
}

-- an entry that ends no later than what was sent gives nothing newer
pub none_newer : (sent : ℕ) (at : Offset) (ops : List Op) → nat_lt sent at.0 ≡ false → newer sent (transaction_of at ops) ≡ []
none_newer sent at [] before = refl
none_newer sent at (op ∷ ops) before = not_newer sent (record { at = at; ops = op ∷ ops }) before

pub fed_old : (aim : Aim) (scan scan' : Scan) (post : Post) (at : Offset) (entry : Entry) (seen : Seen) → nat_lt aim.prev.0 at.0 ≡ false → IsPassed scan entry scan' → Fed aim scan scan' post post at entry seen seen
fed_old aim scan scan' post at entry seen before passed = record {
  added = [];
  scanned = record {
    found = transaction_of at (told scan.catalog entry passed.meant scan.user);
    fed = record { meant = passed.meant; are = passed.are; gives = refl; catalog = passed.catalog; user = passed.user };
    added_is = sym (none_newer aim.prev.0 at (told scan.catalog entry passed.meant scan.user) before);
  };
  pushed = pushed_nothing aim post seen;
  end = inl refl;
}

pub feed_short : (aim : Aim) (scan : Scan) (old : Post) (at : Offset) (entry : Entry) (seen : Seen) → IsAim aim → FeedStop aim scan old at entry seen seen Memory
feed_short aim scan old at entry seen good = record { added = []; found = inl refl; stop = stopped_short aim old seen [] good }

feed_stopped : (aim : Aim) (scan scan' : Scan) (old : Post) (at : Offset) (entry : Entry) (found : Option Transaction) (before now : Seen) (fault : SendFault) → IsFed scan at entry found scan'
    → PushStop aim old before now (newer aim.prev.0 found) fault → FeedStop aim scan old at entry before now fault
feed_stopped aim scan scan' old at entry found before now fault fed stop = record {
  added = newer aim.prev.0 found;
  found = inr (record { behind = scan'; scanned = record { found = found; fed = fed; added_is = refl } });
  stop = stop;
}

-- the last offset lies before the end of the entry where it lies before that of the transaction
later_at : (sent : ℕ) (end at : Offset) (t : Transaction) → t.at ≡ at → (sent < at.0 → end.0 < at.0) → sent < t.at.0 → end.0 < t.at.0
later_at sent end at t same later past = subst (λ (o : Offset). end.0 < o.0) (sym same) (later (subst (λ (o : Offset). sent < o.0) same past))

pub later_found : (sent : ℕ) (end at : Offset) (old new : Scan) (entry : Entry) (found : Option Transaction) → IsFed old at entry found new → (sent < at.0 → end.0 < at.0) → IfSome found (λ t. sent < t.at.0 → end.0 < t.at.0)
later_found sent end at old new entry None fed later = tt
later_found sent end at old new entry (Some t) fed later = later_at sent end at t (found_at old new at entry t fed) later

-- ---- the answer of a push, as that of a transaction that lies past what was sent

pub new_pushed : (aim : Aim) (old new : Post) (t : Transaction) (before now : Seen) (result : Result (Unit {0}) SendFault) → nat_lt aim.prev.0 t.at.0 ≡ true → OnOk result (Pushed aim old new before now (t ∷ []))
    → OnOk result (Pushed aim old new before now (newer aim.prev.0 (Some t)))
new_pushed aim old new t before now (Ok done) past pushed = pushed_new aim old new t before now past pushed
new_pushed aim old new t before now (Err fault) past pushed = tt

pub new_end : (old at new : Offset) (result : Result (Unit {0}) SendFault) → OnOk result (new ≡ at) → OnOk result (EndsAt old at new)
new_end old at new (Ok done) is = inr is
new_end old at new (Err fault) is = tt

pub new_stopped : (aim : Aim) (old : Post) (t : Transaction) (before now : Seen) (result : Result (Unit {0}) SendFault) → nat_lt aim.prev.0 t.at.0 ≡ true → IfErr result (PushStop aim old before now (t ∷ []))
    → IfErr result (PushStop aim old before now (newer aim.prev.0 (Some t)))
new_stopped aim old t before now (Ok done) past stop = tt
new_stopped aim old t before now (Err fault) past stop = stopped_new aim old t before now fault past stop

pub fed_answer : (aim : Aim) (scan scan' : Scan) (old new : Post) (at : Offset) (entry : Entry) (found : Option Transaction) (before now : Seen) (result : Result (Unit {0}) SendFault) → IsFed scan at entry found scan'
    → OnOk result (Pushed aim old new before now (newer aim.prev.0 found)) → OnOk result (EndsWith old.end found new.end) → OnOk result (Fed aim scan scan' old new at entry before now)
fed_answer aim scan scan' old new at entry None before now (Ok done) fed pushed end = record { added = []; scanned = record { found = None; fed = fed; added_is = refl }; pushed = pushed; end = inl end }
fed_answer aim scan scan' old new at entry (Some t) before now (Ok done) fed pushed end = fed_some aim scan scan' old new at entry t before now fed pushed end
fed_answer aim scan scan' old new at entry found before now (Err fault) fed pushed end = tt

pub feed_answer : (aim : Aim) (scan scan' : Scan) (old : Post) (at : Offset) (entry : Entry) (found : Option Transaction) (before now : Seen) (result : Result (Unit {0}) SendFault) → IsFed scan at entry found scan'
    → IfErr result (PushStop aim old before now (newer aim.prev.0 found)) → IfErr result (FeedStop aim scan old at entry before now)
feed_answer aim scan scan' old at entry found before now (Ok done) fed stop = tt
feed_answer aim scan scan' old at entry found before now (Err fault) fed stop = feed_stopped aim scan scan' old at entry found before now fault fed stop
