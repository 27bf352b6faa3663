-- Texts that are added to what is held, one after the other, and what is held written at the end.
use Rattle.std.proofs.Common.{◌≡◌, ℕ, List, [], ◌++◌, Result, Ok, Err, OnErr, refl, sym, ap, subst, ◌∙◌, append_assoc, le_refl}
use Rattle.std.proofs.lemmas.List.{append-nil}
use Rattle.sr_session.specs.Said.{Said, WrotePrefix}
use Rattle.sr_session.proofs.Stretches.{outputs_on}
use Rattle.sr_site.specs.Causes.{Rose}
use Rattle.sr_site.specs.Streams.{Output}
use Rattle.sr_agent.specs.Inner.Steps.{Added, AddedSome, Told, ToldInPart}
use Rattle.sr_agent.proofs.Written.{told_output}

-- ---- what was written and what is held

said_on : (held first held' second held'' a b c : List ℕ) → Said (held ++ first) held' a b → Said (held' ++ second) held'' b c → Said (held ++ (first ++ second)) held'' a c
said_on held first held' second held'' a b c one two = record {
  written = one.written ++ two.written;
  new_is = two.new_is ∙ ap (λ (t : List ℕ). t ++ two.written) one.new_is ∙ append_assoc a one.written two.written;
  all =
      sym (append_assoc held first second)
      ∙ ap (λ (t : List ℕ). t ++ second) one.all
      ∙ append_assoc one.written held' second
      ∙ ap (λ (t : List ℕ). one.written ++ t) two.all
      ∙ sym (append_assoc one.written two.written held'');
}

prefix_on : (held first held' second a b c : List ℕ) → Said (held ++ first) held' a b → WrotePrefix (held' ++ second) b c → WrotePrefix (held ++ (first ++ second)) a c
prefix_on held first held' second a b c one two = record {
  written = one.written ++ two.written;
  prefix = (
    two.prefix.0,
    sym (append_assoc held first second)
        ∙ ap (λ (t : List ℕ). t ++ second) one.all
        ∙ append_assoc one.written held' second
        ∙ ap (λ (t : List ℕ). one.written ++ t) two.prefix.1
        ∙ sym (append_assoc one.written two.written two.prefix.0),
  );
  new_is = two.new_is ∙ ap (λ (t : List ℕ). t ++ two.written) one.new_is ∙ append_assoc a one.written two.written;
}

prefix_first : (held first second a b : List ℕ) → WrotePrefix (held ++ first) a b → WrotePrefix (held ++ (first ++ second)) a b
prefix_first held first second a b part = record {
  written = part.written;
  prefix = (
    part.prefix.0 ++ second,
    sym (append_assoc held first second) ∙ ap (λ (t : List ℕ). t ++ second) part.prefix.1 ∙ append_assoc part.written part.prefix.0 second,
  );
  new_is = part.new_is;
}

-- ---- one text after another

pub added_on : (first second held held' held'' : List ℕ) (a b c : Output) → Added first held held' a b → Added second held' held'' b c → Added (first ++ second) held held'' a c
added_on first second held held' held'' a b c one two = record {
  written = λ told. said_on held first held' second held'' a.taken b.taken c.taken (one.written told) (two.written (told_output a b one.stays told));
  steady = two.steady ∙ one.steady;
  stays = outputs_on a b c one.stays two.stays;
}

-- the sink failed at the second
pub part_on : (first second held held' : List ℕ) (a b c : Output) → Added first held held' a b → ToldInPart (held' ++ second) b c → ToldInPart (held ++ (first ++ second)) a c
part_on first second held held' a b c one two = record {
  prefix = λ told. prefix_on held first held' second a.taken b.taken c.taken (one.written told) (two.prefix (told_output a b one.stays told));
  rose = subst (λ (n : ℕ). Rose n c.faults) one.steady two.rose;
  stays = outputs_on a b c one.stays two.stays;
}

-- or at the first
pub part_first : (first second held : List ℕ) (a b : Output) → ToldInPart (held ++ first) a b → ToldInPart (held ++ (first ++ second)) a b
part_first first second held a b one = record { prefix = λ told. prefix_first held first second a.taken b.taken (one.prefix told); rose = one.rose; stays = one.stays }

-- there was memory to hold it
pub added_held : (bytes held held' : List ℕ) (o : Output) → held' ≡ held ++ bytes → Added bytes held held' o o
added_held bytes held held' o is = record {
  written = λ told. record { written = []; new_is = sym (append-nil o.taken); all = sym is };
  steady = refl;
  stays = record { observable = refl; later = le_refl o.faults };
}

pub ruleset adding = (added_on, part_on, part_first, added_held)

-- what is so whatever the answer, is so of an answer that is a fault
pub whatever : {A E : Type 0} (P : Type 0) (result : Result A E) → P → OnErr result P
whatever P (Ok x) so = tt
whatever P (Err e) so = so

-- ---- a text in many parts

pub none_yet : (whole held : List ℕ) (o : Output) → AddedSome whole whole held held o o
none_yet whole held o = record { done = []; parts = refl; added = added_held [] held held o (sym (append-nil held)) }

pub one_more : (whole left next rest held held' held'' : List ℕ) (a b c : Output) → AddedSome whole left held held' a b → left ≡ next ++ rest → Added next held' held'' b c → AddedSome whole rest held held'' a c
one_more whole left next rest held held' held'' a b c some is one = record {
  done = some.done ++ next;
  parts = some.parts ∙ ap (λ (t : List ℕ). some.done ++ t) is ∙ sym (append_assoc some.done next rest);
  added = added_on some.done next held held' held'' a b c some.added one;
}

pub all_of_them : (whole left held held' : List ℕ) (a b : Output) → AddedSome whole left held held' a b → left ≡ [] → Added whole held held' a b
all_of_them whole left held held' a b some none =
    subst (λ (t : List ℕ). Added t held held' a b) (sym (some.parts ∙ ap (λ (t : List ℕ). some.done ++ t) none ∙ append-nil some.done)) some.added

pub cut_short : (whole left next rest held held' : List ℕ) (a b c : Output) → AddedSome whole left held held' a b → left ≡ next ++ rest → ToldInPart (held' ++ next) b c → ToldInPart (held ++ whole) a c
cut_short whole left next rest held held' a b c some is part =
    subst (λ (t : List ℕ). ToldInPart (held ++ t) a c) (sym (some.parts ∙ ap (λ (t : List ℕ). some.done ++ t) is))
    (part_on some.done (next ++ rest) held held' a b c some.added (part_first next rest held' b c part))

pub ruleset adding_some = (none_yet, one_more, all_of_them, cut_short)

-- ---- what is held, written

pub told_held : (said held held' : List ℕ) (a b c : Output) → Added said held held' a b → held ≡ [] → Told held' b c → Told said a c
told_held said held held' a b c added none told = record {
  taken = λ tells.
      let first = added.written tells in
      told.taken (told_output a b added.stays tells)
      ∙ ap (λ (t : List ℕ). t ++ held') first.new_is
      ∙ append_assoc a.taken first.written held'
      ∙ ap (λ (t : List ℕ). a.taken ++ t) (sym first.all ∙ ap (λ (t : List ℕ). t ++ said) none);
  steady = told.steady ∙ added.steady;
  stays = outputs_on a b c added.stays told.stays;
}

pub part_held : (said held held' : List ℕ) (a b c : Output) → Added said held held' a b → held ≡ [] → ToldInPart held' b c → ToldInPart said a c
part_held said held held' a b c added none part = record {
  prefix = λ tells.
      let first = added.written tells in
      let more = part.prefix (told_output a b added.stays tells) in
      record {
        written = first.written ++ more.written;
        prefix = (
          more.prefix.0,
          sym (ap (λ (t : List ℕ). t ++ said) none) ∙ first.all ∙ ap (λ (t : List ℕ). first.written ++ t) more.prefix.1
              ∙ sym (append_assoc first.written more.written more.prefix.0),
        );
        new_is = more.new_is ∙ ap (λ (t : List ℕ). t ++ more.written) first.new_is ∙ append_assoc a.taken first.written more.written;
      };
  rose = subst (λ (n : ℕ). Rose n c.faults) added.steady part.rose;
  stays = outputs_on a b c added.stays part.stays;
}

-- nothing was held before
pub part_alone : (said held : List ℕ) (a b : Output) → ToldInPart (held ++ said) a b → held ≡ [] → ToldInPart said a b
part_alone said held a b part none = subst (λ (t : List ℕ). ToldInPart (t ++ said) a b) none part

pub ruleset telling = (told_held, part_held, part_alone)
