-- What a survey takes of an entry in brief it takes of the entry.
use Rattle.std.proofs.Common.{◌≡◌, ℕ, Bool, true, false, cond, ◌||◌, List, [], ◌∷◌, ◌++◌, Option, Some, None, map, flat_map, refl, sym, ap, subst, ◌∙◌, inl, inr}
use Rattle.std.specs.List.{list_any}
use Rattle.sr_base.specs.declared.offset.Offset.{Offset}
use Rattle.sr_catalog_schema.specs.Catalogs.{Lists}
use Rattle.sr_logform.specs.declared.entry.Entry.{Entry}
use Rattle.sr_logform.specs.declared.entry.Entry.TheVariants.{From}
use Rattle.sr_logform.specs.declared.op.Op.{Op}
use Rattle.sr_logform.specs.declared.op.Op.TheVariants.{Insert, Remove, Set, Clear, Exec}
use Rattle.sr_logform.specs.declared.outcome.Outcome.{Outcome}
use Rattle.sr_logform.specs.declared.outcome.Outcome.TheVariants.{Plain, Conflict, Clash}
use Rattle.sr_scan.specs.Inner.Meanings.{text_done, texts_of, AreMeant}
use Rattle.sr_survey.specs.Inner.Concerning.{has_run, is_conflict, outcome_keys, op_keys, ops_keys, back_key, taken_keys, entry_keys, runs}
use Rattle.sr_survey.specs.Inner.Keyed.{changes_keys}
use Rattle.sr_survey.specs.Inner.Surveyed.{Takes}
use Rattle.sr_survey.specs.declared.survey.Survey.{Survey}
use Rattle.sr_survey_brief.specs.Inner.Briefs.{is_passed, IsBriefOp, IsBriefOf, AreBrief, IsTaken, IsBrief}
use Rattle.sr_survey_places.specs.Inner.Listed.{IsListedUnder}
use Rattle.sr_survey_places.specs.declared.key.Key.{Key}

-- ---- an op

passed_text : (op : Op) (outcome : Outcome) → is_passed op ≡ true → text_done op outcome ≡ None
passed_text (Insert table values) outcome passed = refl
passed_text (Remove table key) outcome passed = refl
passed_text (Set table key columns) outcome passed = absurd cc
passed_text (Clear table) outcome passed = refl
passed_text (Exec text) outcome passed = absurd cc

-- the keys of an op by its outcome alone
abbrev outcome_alone : Lists → Outcome → List Key
outcome_alone c (Plain changes) = changes_keys c changes
outcome_alone c (Conflict inserts before after) = []
outcome_alone c (Clash why) = []

passed_keys : (c : Lists) (op : Op) (outcome : Outcome) → is_passed op ≡ true → outcome_keys c op outcome ≡ outcome_alone c outcome
passed_keys c op (Plain changes) passed = refl
passed_keys c (Insert table values) (Conflict inserts before after) passed = refl
passed_keys c (Remove table key) (Conflict inserts before after) passed = refl
passed_keys c (Set table key columns) (Conflict inserts before after) passed = absurd cc
passed_keys c (Clear table) (Conflict inserts before after) passed = refl
passed_keys c (Exec text) (Conflict inserts before after) passed = absurd cc
passed_keys c op (Clash why) passed = refl

op_text : (op brief : Op) (outcome : Outcome) → IsBriefOp op brief → text_done brief outcome ≡ text_done op outcome
op_text op brief outcome (inl same) = ap (λ (o : Op). text_done o outcome) same
op_text op brief outcome (inr passed) = passed_text brief outcome passed.1 ∙ sym (passed_text op outcome passed.0)

op_keyed : (c : Lists) (op brief : Op) (outcome : Outcome) → IsBriefOp op brief → outcome_keys c brief outcome ≡ outcome_keys c op outcome
op_keyed c op brief outcome (inl same) = ap (λ (o : Op). outcome_keys c o outcome) same
op_keyed c op brief outcome (inr passed) = passed_keys c brief outcome passed.1 ∙ sym (passed_keys c op outcome passed.0)

judged_text : (p q : Op × Outcome) → IsBriefOf p q → text_done q.0 q.1 ≡ text_done p.0 p.1
judged_text p q is = ap (text_done q.0) is.1 ∙ op_text p.0 q.0 p.1 is.0

judged_keyed : (c : Lists) (p q : Op × Outcome) → IsBriefOf p q → op_keys c q ≡ op_keys c p
judged_keyed c p q is = ap (outcome_keys c q.0) is.1 ∙ op_keyed c p.0 q.0 p.1 is.0

-- ---- ops

-- two lists to which a function gives the same item by item give the same
brief_texts : (ops briefs : List (Op × Outcome)) → AreBrief ops briefs → map (λ p. text_done p.0 p.1) briefs ≡ map (λ p. text_done p.0 p.1) ops
brief_texts [] [] are = refl
brief_texts [] (q ∷ briefs) are = absurd are
brief_texts (p ∷ ops) [] are = absurd are
brief_texts (p ∷ ops) (q ∷ briefs) are = rw (judged_text p q are.0, brief_texts ops briefs are.1) refl

brief_keys : (c : Lists) (ops briefs : List (Op × Outcome)) → AreBrief ops briefs → ops_keys c briefs ≡ ops_keys c ops
brief_keys c [] [] are = refl
brief_keys c [] (q ∷ briefs) are = absurd are
brief_keys c (p ∷ ops) [] are = absurd are
brief_keys c (p ∷ ops) (q ∷ briefs) are = rw (judged_keyed c p q are.0, brief_keys c ops briefs are.1) refl

brief_run : (ops briefs : List (Op × Outcome)) → AreBrief ops briefs → list_any has_run briefs ≡ list_any has_run ops
brief_run [] [] are = refl
brief_run [] (q ∷ briefs) are = absurd are
brief_run (p ∷ ops) [] are = absurd are
brief_run (p ∷ ops) (q ∷ briefs) are = rw (judged_text p q are.0, brief_run ops briefs are.1) refl

brief_conflict : (ops briefs : List (Op × Outcome)) → AreBrief ops briefs → list_any (λ p. is_conflict p.1) briefs ≡ list_any (λ p. is_conflict p.1) ops
brief_conflict [] [] are = refl
brief_conflict [] (q ∷ briefs) are = absurd are
brief_conflict (p ∷ ops) [] are = absurd are
brief_conflict (p ∷ ops) (q ∷ briefs) are = rw (are.0.1, brief_conflict ops briefs are.1) refl

-- ---- entries

-- two entries of which a survey takes the same
record AreAlike (entry brief : Entry) : Type 0 where
  same_texts : texts_of brief ≡ texts_of entry
  same_keys : (c : Lists) → entry_keys c brief ≡ entry_keys c entry
  same_runs : runs brief ≡ runs entry

taken_alike : (user : List ℕ) (at : Offset) (ops briefs : List (Op × Outcome)) → AreBrief ops briefs → AreAlike (From user at ops) (From user at briefs)
unfolding entry_keys
taken_alike user at ops briefs are = record {
  same_texts = brief_texts ops briefs are;
  same_keys = λ c. rw (brief_run ops briefs are, brief_conflict ops briefs are, brief_keys c ops briefs are) refl;
  same_runs = brief_run ops briefs are;
}

alike : (entry brief : Entry) → IsBrief entry brief → AreAlike entry brief
alike entry brief (inl same) = record { same_texts = ap texts_of same; same_keys = λ c. ap (entry_keys c) same; same_runs = ap runs same }
alike entry brief (inr t) =
    subst (λ (e : Entry). AreAlike e brief) (sym t.entry_is) (subst (λ (b : Entry). AreAlike (From t.user t.at t.ops) b) (sym t.brief_is) (taken_alike t.user t.at t.ops t.briefs t.are))

pub takes_brief : (old new : Survey) (entry brief : Entry) (at : ℕ) → IsBrief entry brief → Takes old brief at new → Takes old entry at new
takes_brief old new entry brief at is t =
    let a = alike entry brief is in
    record {
      meant = t.meant;
      are = subst (λ (texts : List (Option (List ℕ))). AreMeant texts t.meant) a.same_texts t.are;
      lists = t.lists;
      listed = subst (λ (ks : List Key). IsListedUnder old.places.lists ks (record { start = old.end; end = at }) t.lists) (a.same_keys old.catalog) t.listed;
      same = t.same;
      keys = t.keys;
      catalog = t.catalog;
      others = λ user untouched quiet. t.others user untouched (a.same_runs ∙ quiet);
      touched = t.touched;
      each = λ ran. t.each (a.same_runs ∙ ran);
      rises = t.rises;
      bound = t.bound;
      noted = t.noted;
      only = t.only;
      begin = t.begin;
      end = t.end;
      most = t.most;
      room = t.room;
    }
