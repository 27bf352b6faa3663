-- The entries of a log, as they are read.
use Rattle.std.proofs.Common.{◌≡◌, ◌≤◌, ◌<◌, ◌∙◌, ℕ, List, [], ◌∷◌, ◌++◌, map, Some, None, arith, refl, sym, ap, subst, append_assoc}
use Rattle.std.proofs.lemmas.List.{append-nil, map-append}
use Rattle.sr_base.specs.declared.offset.Offset.{Offset}
use Rattle.sr_book.specs.Entries.{Name}
use Rattle.sr_database.specs.Databases.{IsDatabase}
use Rattle.sr_database.specs.Inner.Sound.{IsSound}
use Rattle.sr_database.specs.Inner.Entries.{IsEntryAfter, IsNext}
use Rattle.sr_database.specs.Views.{View}
use Rattle.sr_database_history.specs.Folds.{end_of}
use Rattle.sr_database_history.specs.Recorded.{Recorded, entry_of}
use Rattle.sr_logform.specs.declared.entry.Entry.{Entry}
use Rattle.sr_site.specs.Seen.{Seen}

-- of a history, the entries before the offset were read
pub record Halves (es : List Recorded) (entries : List Entry) (after : Offset) : Type 0 where
  pub done : List Recorded
  pub left : List Recorded
  pub all : es ≡ done ++ left
  pub read : entries ≡ map entry_of done
  pub at : after.0 ≡ end_of done

-- where a log has all of its history, these entries of it were read
pub record AreRead (view : View) (entries : List Entry) (after : Offset) (before now : Seen) : Type 0 where
  pub from_base : view.log.base ≤ after.0
  pub within : after.0 ≤ view.log.end
  pub stands : (publisher : Name) (es : List Recorded) → IsDatabase view publisher es before → IsDatabase view publisher es now
  pub halves : view.log.base ≡ 0 → (publisher : Name) (es : List Recorded) → IsDatabase view publisher es before → Halves es entries after

pub none_read : (view : View) (after : Offset) (first : Seen) → after.0 ≡ view.log.base → view.log.base ≤ view.log.end → AreRead view [] after first first
none_read view after first at order = record {
  from_base = omega (arith, at);
  within = subst (λ (n : ℕ). n ≤ view.log.end) (sym at) order;
  stands = λ publisher es is. is;
  halves = λ whole publisher es is. record { done = []; left = es; all = refl; read = refl; at = at ∙ whole };
}

next_half : (es : List Recorded) (entries : List Entry) (after end : Offset) (entry : Entry) (half : Halves es entries after) → IsNext half.done half.left end entry
    → Halves es (entries ++ entry ∷ []) end
next_half es entries after end entry half next = record {
  done = half.done ++ next.r ∷ [];
  left = next.rest;
  all = half.all ∙ (ap (λ (rs : List Recorded). half.done ++ rs) next.left_is ∙ sym (append_assoc half.done (next.r ∷ []) next.rest));
  read = ap (λ (es : List Entry). es ++ entry ∷ []) half.read
      ∙ (ap (λ (e : Entry). map entry_of half.done ++ e ∷ []) next.entry_is ∙ sym (map-append entry_of half.done (next.r ∷ [])));
  at = next.end_is;
}

pub one_more : (view : View) (entries : List Entry) (after end : Offset) (entry : Entry) (first before now : Seen) → AreRead view entries after first before
    → ((publisher : Name) (done left : List Recorded) → IsDatabase view publisher (done ++ left) before → after.0 ≡ end_of done → IsEntryAfter done left (Some (end, entry)))
    → (after.0 < end.0) × (end.0 ≤ view.log.end)
    → ((publisher : Name) (es : List Recorded) → IsDatabase view publisher es before → IsDatabase view publisher es now) → AreRead view (entries ++ entry ∷ []) end first now
one_more view entries after end entry first before now way read within on = record {
  from_base = omega (arith, way.from_base, within.0);
  within = within.1;
  stands = λ publisher es is. on publisher es (way.stands publisher es is);
  halves = λ whole publisher es is.
      let half = way.halves whole publisher es is in
      let stood = subst (λ (rs : List Recorded). IsDatabase view publisher rs before) half.all (way.stands publisher es is) in
      next_half es entries after end entry half (read publisher half.done half.left stood half.at);
}

pub all_read : (view : View) (entries : List Entry) (after : Offset) (first before : Seen) → AreRead view entries after first before
    → ((publisher : Name) (done left : List Recorded) → IsDatabase view publisher (done ++ left) before → after.0 ≡ end_of done → IsEntryAfter done left None) → view.log.base ≡ 0
    → (publisher : Name) (es : List Recorded) → IsDatabase view publisher es first → entries ≡ map entry_of es
all_read view entries after first before way read whole publisher es is =
    let half = way.halves whole publisher es is in
    let stood = subst (λ (rs : List Recorded). IsDatabase view publisher rs before) half.all (way.stands publisher es is) in
    let none = read publisher half.done half.left stood half.at in
    half.read ∙ ap (λ (rs : List Recorded). map entry_of rs) (sym (half.all ∙ (ap (λ (rs : List Recorded). half.done ++ rs) none ∙ append-nil half.done)))

pub order : (view : View) → IsSound view → view.log.base ≤ view.log.end
order view sound = sound.order.order
