-- What was done of a step, with acts before it.
use Rattle.std.proofs.Common.{◌≡◌, ℕ, List, [], ◌∷◌, ◌++◌, Option, Result, Ok, Err, map, refl, sym, ap, subst, ◌∙◌, append_assoc}
use Rattle.std.proofs.lemmas.List.{append-nil}
use Rattle.sr_ast.specs.declared.stmt.Passthrough.{Passthrough}
use Rattle.sr_database_history.specs.Recorded.{Recorded, entry_of}
use Rattle.sr_site.specs.Seen.{Seen}
use Rattle.sr_database.specs.Causes.{IsTooFar, IsTooLong}
use Rattle.sr_database.specs.Views.{View}
use Rattle.sr_database_files.specs.declared.fault.DatabaseFault.{DatabaseFault}
use Rattle.sr_database_files.specs.declared.fault.DatabaseFault.TheVariants as store
use Rattle.sr_session_script.specs.Acts.{ScriptAct, commits}
use Rattle.sr_session_script.specs.Meaning.{Stepped, goes, stops, after}
use Rattle.sr_session_script.specs.Works.{Work}
use Rattle.sr_session.specs.Ends.{StopsAt, StoreEnd}
use Rattle.sr_session.specs.Said.{IsPrefix}
use Rattle.sr_session.specs.Inner.Steps.{acts_in, Came, Took}
use Rattle.sr_session.specs.declared.fault.StepFault.{StepFault}
use Rattle.sr_session.specs.declared.fault.StepFault.TheVariants.{Refused, Store, Memory}
use Rattle.sr_session.proofs.Reaching.{came_on}

pub acts_in-after : (acts : List ScriptAct) (meant : Stepped) → acts_in (after acts meant) ≡ acts ++ acts_in meant
acts_in-after acts (goes more w) = refl
acts_in-after acts (stops more fault) = refl

-- a prefix with acts before it
pub prefix_behind : (acts prefix whole : List ScriptAct) → IsPrefix prefix whole → IsPrefix (acts ++ prefix) (acts ++ whole)
prefix_behind acts prefix whole is = (is.0, ap (λ l. acts ++ l) is.1 ∙ sym (append_assoc acts prefix is.0))

-- a prefix of acts is one of more acts
pub prefix_longer : (prefix whole more : List ScriptAct) → IsPrefix prefix whole → IsPrefix prefix (whole ++ more)
prefix_longer prefix whole more is = (is.0 ++ more, ap (λ l. l ++ more) is.1 ∙ append_assoc prefix is.0 more)

stops_behind : (refuses : Recorded → Type 0) (before acts whole : List ScriptAct) → StopsAt refuses acts whole → StopsAt refuses (before ++ acts) (before ++ whole)
stops_behind refuses before acts whole at = record {
  entry = at.entry;
  prefix = subst (λ (prefix : List ScriptAct). IsPrefix prefix (before ++ whole)) (sym (append_assoc before acts (commits at.entry ∷ []))) (prefix_behind before (acts ++ commits at.entry ∷ []) whole at.prefix);
  why = at.why;
}

stops_longer : (refuses : Recorded → Type 0) (acts whole more : List ScriptAct) → StopsAt refuses acts whole → StopsAt refuses acts (whole ++ more)
stops_longer refuses acts whole more at = record { entry = at.entry; prefix = prefix_longer (acts ++ commits at.entry ∷ []) whole more at.prefix; why = at.why }

pub end_behind : (before acts whole : List ScriptAct) (new : View) (broken : List Recorded) (fault : DatabaseFault) → StoreEnd new acts whole broken fault → StoreEnd new (before ++ acts) (before ++ whole) broken fault
end_behind before acts whole new broken store.Missing end = end
end_behind before acts whole new broken store.Exists end = end
end_behind before acts whole new broken (store.Damaged file at) end = end
end_behind before acts whole new broken store.Disk end = stops_behind (λ r. broken ≡ r ∷ []) before acts whole end
end_behind before acts whole new broken (store.Full at need) end = (end.0, stops_behind (λ r. IsTooFar new.log (entry_of r) at need) before acts whole end.1)
end_behind before acts whole new broken (store.Long size limit) end = (end.0, stops_behind (λ r. IsTooLong (entry_of r) size limit) before acts whole end.1)
end_behind before acts whole new broken store.Memory end = end

pub end_longer : (acts whole more : List ScriptAct) (new : View) (broken : List Recorded) (fault : DatabaseFault) → StoreEnd new acts whole broken fault → StoreEnd new acts (whole ++ more) broken fault
end_longer acts whole more new broken store.Missing end = end
end_longer acts whole more new broken store.Exists end = end
end_longer acts whole more new broken (store.Damaged file at) end = end
end_longer acts whole more new broken store.Disk end = stops_longer (λ r. broken ≡ r ∷ []) acts whole more end
end_longer acts whole more new broken (store.Full at need) end = (end.0, stops_longer (λ r. IsTooFar new.log (entry_of r) at need) acts whole more end.1)
end_longer acts whole more new broken (store.Long size limit) end = (end.0, stops_longer (λ r. IsTooLong (entry_of r) size limit) acts whole more end.1)
end_longer acts whole more new broken store.Memory end = end

-- an end's acts, with the entry whose commit was refused, are a prefix
pub no_broken : (acts whole : List ScriptAct) (broken : List Recorded) → broken ≡ [] → IsPrefix acts whole → IsPrefix (acts ++ map commits broken) whole
no_broken acts whole broken none prefix =
    subst (λ (rs : List Recorded). IsPrefix (acts ++ map commits rs) whole) (sym none) (prefix.0, prefix.1 ∙ ap (λ l. l ++ prefix.0) (sym (append-nil acts)))

prefix_of_stop : (refuses : Recorded → Type 0) (acts whole : List ScriptAct) → StopsAt refuses acts whole → IsPrefix acts whole
prefix_of_stop refuses acts whole at = (commits at.entry ∷ at.prefix.0, at.prefix.1 ∙ append_assoc acts (commits at.entry ∷ []) at.prefix.0)

pub prefix_of_store : (new : View) (acts whole : List ScriptAct) (broken : List Recorded) (fault : DatabaseFault) → StoreEnd new acts whole broken fault → IsPrefix (acts ++ map commits broken) whole
prefix_of_store new acts whole broken store.Missing end = absurd end
prefix_of_store new acts whole broken store.Exists end = absurd end
prefix_of_store new acts whole broken (store.Damaged file at) end = absurd end
prefix_of_store new acts whole broken store.Disk end = subst (λ (rs : List Recorded). IsPrefix (acts ++ map commits rs) whole) (sym end.why) end.prefix
prefix_of_store new acts whole broken (store.Full at need) end = no_broken acts whole broken end.0 (prefix_of_stop (λ r. IsTooFar new.log (entry_of r) at need) acts whole end.1)
prefix_of_store new acts whole broken (store.Long size limit) end = no_broken acts whole broken end.0 (prefix_of_stop (λ r. IsTooLong (entry_of r) size limit) acts whole end.1)
prefix_of_store new acts whole broken store.Memory end = absurd end

-- a step behind acts that were done
pub took_after : (acts : List ScriptAct) (meant : Stepped) (a b c : View) (first second third : Seen) (l0 l1 l2 : List ℕ) (region : Option Passthrough) (result : Result (Unit {0}) StepFault)
    → Came a b first second l0 l1 acts [] → Took meant b c second third l1 l2 region result → Took (after acts meant) a c first third l0 l2 region result
took_after acts meant a b c first second third l0 l1 l2 region (Ok done) one two = record {
  acts = acts ++ two.acts;
  is = ap (after acts) two.is;
  came = came_on a b c first second third l0 l1 l2 acts two.acts [] one two.came;
}
took_after acts meant a b c first second third l0 l1 l2 region (Err (Refused fault)) one two = record {
  acts = acts ++ two.acts;
  is = ap (after acts) two.is;
  came = came_on a b c first second third l0 l1 l2 acts two.acts [] one two.came;
}
took_after acts meant a b c first second third l0 l1 l2 region (Err (Store fault)) one two = record {
  acts = acts ++ two.acts;
  broken = two.broken;
  end = subst (λ (whole : List ScriptAct). StoreEnd c (acts ++ two.acts) whole two.broken fault) (sym (acts_in-after acts meant)) (end_behind acts two.acts (acts_in meant) c two.broken fault two.end);
  came = came_on a b c first second third l0 l1 l2 acts two.acts two.broken one two.came;
}
took_after acts meant a b c first second third l0 l1 l2 region (Err Memory) one two = record {
  acts = acts ++ two.acts;
  prefix = subst (λ (whole : List ScriptAct). IsPrefix (acts ++ two.acts) whole) (sym (acts_in-after acts meant)) (prefix_behind acts two.acts (acts_in meant) two.prefix);
  came = came_on a b c first second third l0 l1 l2 acts two.acts [] one two.came;
}

goes_not : (acts more : List ScriptAct) (w : Work) (fault : _) → goes acts w ≡ stops more fault → ⊥
goes_not acts more w fault is = cc

-- acts that were not all done, with a step behind them
pub took_prefix : (acts : List ScriptAct) (w : Work) (behind : Stepped) (a b : View) (first second : Seen) (l0 l1 : List ℕ) (region : Option Passthrough) (fault : StepFault)
    → Took (goes acts w) a b first second l0 l1 region (Err fault) → Took (after acts behind) a b first second l0 l1 region (Err fault)
took_prefix acts w behind a b first second l0 l1 region (Refused fault) took = absurd (goes_not acts took.acts w fault took.is)
took_prefix acts w behind a b first second l0 l1 region (Store fault) took = record {
  acts = took.acts;
  broken = took.broken;
  end = subst (λ (whole : List ScriptAct). StoreEnd b took.acts whole took.broken fault) (sym (acts_in-after acts behind)) (end_longer took.acts acts (acts_in behind) b took.broken fault took.end);
  came = took.came;
}
took_prefix acts w behind a b first second l0 l1 region Memory took = record {
  acts = took.acts;
  prefix = subst (λ (whole : List ScriptAct). IsPrefix took.acts whole) (sym (acts_in-after acts behind)) (prefix_longer took.acts acts (acts_in behind) took.prefix);
  came = took.came;
}
