-- A survey follows statements.
use Rattle.std.proofs.Common.{◌≡◌, ℕ, ◌≤◌, Bool, true, false, ◌||◌, List, [], ◌∷◌, ◌++◌, Option, Some, None, is_some, Result, Ok, Err, OnOk, refl, sym, ap, inl, inr, subst, ⊎_elim, ◌∙◌}
use Rattle.std.specs.List.{AllByRecursion}
use Rattle.sr_ast.specs.declared.stmt.Stmt.{Stmt}
use Rattle.sr_book.specs.Entries.{Name}
use Rattle.sr_catalog_change.specs.Changes.{refusal, next}
use Rattle.sr_catalog_schema.specs.Catalogs.{Lists}
use Rattle.sr_catalog_schema.specs.declared.fault.DdlFault.{DdlFault}
use Rattle.sr_logform.specs.declared.change.Change.{Change}
use Rattle.sr_logform.specs.declared.entry.Entry.TheVariants.{Pass}
use Rattle.sr_scan.specs.Inner.Images.{unless_refused, catalog_behind, catalog_after}
use Rattle.sr_scan.specs.Inner.Meanings.{texts_of, IsMeant, AreMeant}
use Rattle.sr_survey.proofs.Noting.{le_trans, max_itself, max_on, knows_itself, knows_on}
use Rattle.sr_survey.proofs.Served.{keys_stay}
use Rattle.sr_survey.specs.Inner.Alike.{touches, touched}
use Rattle.sr_survey.specs.Inner.Effects.{Notes}
use Rattle.sr_survey.specs.Inner.Following.{since_of, IsNoted, AreNoted, IsStarted, started_by, KeepsKeys, Follows}
use Rattle.sr_survey.specs.Inner.Keyed.{keys_of}
use Rattle.sr_survey.specs.Inner.Texts.{FollowsTexts}
use Rattle.sr_survey.specs.declared.survey.Survey.{Survey}
use Rattle.sr_ast.specs.declared.create.SubscriptionRule.{SubscriptionRule}
use Rattle.sr_survey_places.specs.declared.key.Key.{Key}

or_first : (a b : Bool) → (a || b) ≡ false → a ≡ false
or_first true b e = e
or_first false b e = refl

or_second : (a b : Bool) → (a || b) ≡ false → b ≡ false
or_second true b e = cc
or_second false b e = e

follows_itself : (s : Survey) (at : ℕ) → Follows s [] at s
follows_itself s at = record { catalog = refl; touched = λ user e. cc; bound = λ user. max_itself (since_of s user) at; others = λ user e. refl; noted = tt; only = λ user k h. inl h; knows = knows_itself s }

-- ---- several statements

after_both : (c : Lists) (ms ns : List (Option Stmt)) → catalog_after c (ms ++ ns) ≡ catalog_after (catalog_after c ms) ns
after_both c [] ns = refl
after_both c (m ∷ ms) ns = after_both (catalog_behind c m) ms ns

or_assoc : (a b c : Bool) → (a || (b || c)) ≡ ((a || b) || c)
or_assoc true b c = refl
or_assoc false b c = refl

touched_both : (user : Name) (ms ns : List (Option Stmt)) → touched user (ms ++ ns) ≡ (touched user ms || touched user ns)
touched_both user [] ns = refl
touched_both user (None ∷ ms) ns = touched_both user ms ns
touched_both user (Some s ∷ ms) ns = ap (λ b. touches user s || b) (touched_both user ms ns) ∙ or_assoc (touches user s) (touched user ms) (touched user ns)

rule_stays : (b c : Survey) → KeepsKeys b c → (o : Option SubscriptionRule) → AreNoted b o → AreNoted c o
rule_stays b c knows None h = tt
rule_stays b c knows (Some r) h = keys_stay b c r.user (keys_of r.publication r.value) knows h

pub noted_stays : (b c : Survey) → KeepsKeys b c → (m : Option Stmt) → IsNoted b m → IsNoted c m
noted_stays b c knows None h = tt
noted_stays b c knows (Some s) h = rule_stays b c knows (started_by s) h

noted_both : (b c : Survey) → KeepsKeys b c → (ms ns : List (Option Stmt)) → AllByRecursion (IsNoted b) ms → AllByRecursion (IsNoted c) ns → AllByRecursion (IsNoted c) (ms ++ ns)
noted_both b c knows [] ns x y = y
noted_both b c knows (m ∷ ms) ns x y = (noted_stays b c knows m x.0, noted_both b c knows ms ns x.1 y)

started_left : (ms ns : List (Option Stmt)) (user : Name) (k : Key) → IsStarted ms user k → IsStarted (ms ++ ns) user k
started_left [] ns user k h = absurd h
started_left (None ∷ ms) ns user k h = started_left ms ns user k h
started_left (Some s ∷ ms) ns user k (inl h) = inl h
started_left (Some s ∷ ms) ns user k (inr h) = inr (started_left ms ns user k h)

started_right : (ms ns : List (Option Stmt)) (user : Name) (k : Key) → IsStarted ns user k → IsStarted (ms ++ ns) user k
started_right [] ns user k h = h
started_right (None ∷ ms) ns user k h = started_right ms ns user k h
started_right (Some s ∷ ms) ns user k h = inr (started_right ms ns user k h)

follows_on : (a b c : Survey) (ms ns : List (Option Stmt)) (at : ℕ) → Follows a ms at b → Follows b ns at c → Follows a (ms ++ ns) at c
follows_on a b c ms ns at x y = record {
  catalog = y.catalog ∙ ap (λ d. catalog_after d ns) x.catalog ∙ sym (after_both a.catalog ms ns);
  touched = λ user e. go user (touched user ms) (touched user ns) refl refl (sym (touched_both user ms ns) ∙ e);
  bound = λ user. max_on (since_of a user) (since_of b user) (since_of c user) at (y.bound user) (x.bound user);
  others = λ user e. y.others user (or_second (touched user ms) (touched user ns) (sym (touched_both user ms ns) ∙ e)) ∙ x.others user (or_first (touched user ms) (touched user ns) (sym (touched_both user ms ns) ∙ e));
  noted = noted_both b c y.knows.keys ms ns x.noted y.noted;
  only = λ user k h. ⊎_elim (λ i. ⊎_elim (λ j. inl j) (λ j. inr (started_left ms ns user k j)) (x.only user k i)) (λ i. inr (started_right ms ns user k i)) (y.only user k h);
  knows = knows_on a b c x.knows y.knows;
} where
  go : (user : Name) (p q : Bool) → touched user ms ≡ p → touched user ns ≡ q → (p || q) ≡ true → at ≤ since_of c user
  go user true q is js e = le_trans at (since_of b user) (since_of c user) (x.touched user is) (y.knows.rises user)
  go user false true is js e = y.touched user js
  go user false false is js e = cc

-- ---- one statement

pub refused_followed : (a b : Survey) (s : Stmt) (at : ℕ) → Notes a s at b → is_some (refusal b.catalog s) ≡ true → Follows a (Some s ∷ []) at b
refused_followed a b s at notes refused = record {
  catalog = notes.catalog ∙ sym (stays (refusal a.catalog s) (subst (λ c. is_some (refusal c s) ≡ true) notes.catalog refused));
  touched = λ user e. notes.touched user (from_or (touches user s) e);
  bound = notes.bound;
  others = λ user e. notes.others user (or_first (touches user s) false e);
  noted = (notes.noted, tt);
  only = λ user k h. ⊎_elim (λ i. inl i) (λ i. inr (inl i)) (notes.only user k h);
  knows = notes.knows;
} where
  stays : (o : Option DdlFault) → is_some o ≡ true → unless_refused o a.catalog (next a.catalog s) ≡ a.catalog
  stays None e = cc
  stays (Some f) e = refl

  from_or : (p : Bool) → (p || false) ≡ true → p ≡ true
  from_or true e = refl
  from_or false e = e

pub accepted_followed : (a b : Survey) (s : Stmt) (at : ℕ) (d : Lists) → Notes a s at b → is_some (refusal b.catalog s) ≡ false → d ≡ next b.catalog s → Follows a (Some s ∷ []) at (record b { catalog = d })
accepted_followed a b s at d notes accepted is = record {
  catalog = is ∙ ap (λ c. next c s) notes.catalog ∙ sym (goes (refusal a.catalog s) (subst (λ c. is_some (refusal c s) ≡ false) notes.catalog accepted));
  touched = λ user e. notes.touched user (from_or (touches user s) e);
  bound = notes.bound;
  others = λ user e. notes.others user (or_first (touches user s) false e);
  noted = (noted_stays b (record b { catalog = d }) (record { his = λ user k h. h; begun = λ k h. h }) (Some s) notes.noted, tt);
  only = λ user k h. ⊎_elim (λ i. inl i) (λ i. inr (inl i)) (notes.only user k h);
  knows = record {
    keys = record { his = notes.knows.keys.his; begun = notes.knows.keys.begun };
    same = notes.knows.same;
    rises = notes.knows.rises;
    begin = notes.knows.begin;
    end = notes.knows.end;
    most = notes.knows.most;
    count = notes.knows.count;
    given_up = notes.knows.given_up;
  };
} where
  goes : (o : Option DdlFault) → is_some o ≡ false → unless_refused o a.catalog (next a.catalog s) ≡ next a.catalog s
  goes None e = refl
  goes (Some f) e = cc

  from_or : (p : Bool) → (p || false) ≡ true → p ≡ true
  from_or true e = refl
  from_or false e = e

-- ---- texts

pub follows_nothing : (s : Survey) (at : ℕ) → FollowsTexts s [] at s
follows_nothing s at = record { meant = []; are = tt; follows = follows_itself s at }

-- nothing is meant
unmeant : (s : Survey) (at : ℕ) → Follows s (None ∷ []) at s
unmeant s at = record { catalog = refl; touched = λ user e. cc; bound = λ user. max_itself (since_of s user) at; others = λ user e. refl; noted = (tt, tt); only = λ user k h. inl h; knows = knows_itself s }

pub follows_no_text : (s : Survey) (at : ℕ) → FollowsTexts s (None ∷ []) at s
follows_no_text s at = record { meant = None ∷ []; are = (refl, tt); follows = unmeant s at }

pub follows_no_statement : (s : Survey) (text : List ℕ) (at : ℕ) → IsMeant (Some text) None → FollowsTexts s (Some text ∷ []) at s
follows_no_statement s text at none = record { meant = None ∷ []; are = (none, tt); follows = unmeant s at }

pub follows_statement : (a b : Survey) (text : List ℕ) (s : Stmt) (at : ℕ) → IsMeant (Some text) (Some s) → Follows a (Some s ∷ []) at b → FollowsTexts a (Some text ∷ []) at b
follows_statement a b text s at is follows = record { meant = Some s ∷ []; are = (is, tt); follows = follows }

are_both : (ts us : List (Option (List ℕ))) (ms ns : List (Option Stmt)) → AreMeant ts ms → AreMeant us ns → AreMeant (ts ++ us) (ms ++ ns)
are_both [] us [] ns x y = y
are_both [] us (m ∷ ms) ns x y = absurd x
are_both (t ∷ ts) us [] ns x y = absurd x
are_both (t ∷ ts) us (m ∷ ms) ns x y = (x.0, are_both ts us ms ns x.1 y)

pub follows_both : (a b c : Survey) (ts us : List (Option (List ℕ))) (at : ℕ) → FollowsTexts a ts at b → FollowsTexts b us at c → FollowsTexts a (ts ++ us) at c
follows_both a b c ts us at x y = record { meant = x.meant ++ y.meant; are = are_both ts us x.meant y.meant x.are y.are; follows = follows_on a b c x.meant y.meant at x.follows y.follows }

-- ---- answers of calls

pub follows_so : {A E : Type 0} (a b : Survey) (text : List ℕ) (meant : Option Stmt) (x : Stmt) (at : ℕ) (r : Result A E) → IsMeant (Some text) meant → meant ≡ Some x
    → OnOk r (Follows a (Some x ∷ []) at b) → OnOk r (FollowsTexts a (Some text ∷ []) at b)
follows_so a b text meant x at (Err e) is so h = tt
follows_so a b text meant x at (Ok done) is so h = follows_statement a b text x at (subst (IsMeant (Some text)) so is) h

pub follows_none : (s : Survey) (t : Option (List ℕ)) (at : ℕ) → t ≡ None → FollowsTexts s (t ∷ []) at s
follows_none s t at e = subst (λ o. FollowsTexts s (o ∷ []) at s) (sym e) (follows_no_text s at)

pub follows_some : {A E : Type 0} (a b : Survey) (t : Option (List ℕ)) (text : List ℕ) (at : ℕ) (r : Result A E) → t ≡ Some text → OnOk r (FollowsTexts a (Some text ∷ []) at b) → OnOk r (FollowsTexts a (t ∷ []) at b)
follows_some a b t text at (Err f) e h = tt
follows_some a b t text at (Ok done) e h = subst (λ o. FollowsTexts a (o ∷ []) at b) (sym e) h

pub follows_only : (s : Survey) (users : List Name) (only : Bool) (text : List ℕ) (changes : List Change) (at : ℕ) → only ≡ true → FollowsTexts s (texts_of (Pass users only text changes)) at s
follows_only s users only text changes at e = subst (λ b. FollowsTexts s (texts_of (Pass users b text changes)) at s) (sym e) (follows_nothing s at)

pub follows_here : {A E : Type 0} (a b : Survey) (users : List Name) (only : Bool) (text : List ℕ) (changes : List Change) (at : ℕ) (r : Result A E) → only ≡ false → OnOk r (FollowsTexts a (Some text ∷ []) at b)
    → OnOk r (FollowsTexts a (texts_of (Pass users only text changes)) at b)
follows_here a b users only text changes at (Err f) e h = tt
follows_here a b users only text changes at (Ok done) e h = subst (λ o. FollowsTexts a (texts_of (Pass users o text changes)) at b) (sym e) h
