-- What a pass notes is allowed: whole windows lead to the offset that is noted as sent.
use Rattle.std.proofs.Common.{◌≡◌, ℕ, ◌<◌, ◌≤◌, Contains, List, [], ◌∷◌, length, refl, sym, ap, subst, inl, inr, arith}
use Rattle.std.specs.Prelude.{Bool, max, ◌⊎◌}
use Rattle.sr_base.specs.Values.{offset_from}
use Rattle.sr_base.specs.declared.offset.Offset.{Offset}
use Rattle.sr_book.specs.Entries.{Name}
use Rattle.sr_book.specs.Rising.{offsets}
use Rattle.sr_book.specs.declared.book.Book.{Book}
use Rattle.sr_mail_cut.specs.Bodies.{last_at}
use Rattle.sr_database_history.specs.Folds.{books_of}
use Rattle.sr_database_history.specs.Recorded.{Recorded}
use Rattle.sr_logform.specs.declared.op.Op.{Op}
use Rattle.sr_world_model.specs.Worlds.{AreAmong}
use Rattle.sr_world_model.proofs.Offsets.{le_or_lt, not_past_test, past_test}
use Rattle.sr_msgform.specs.declared.message.Message.{Message}
use Rattle.sr_scan.specs.Given.{given_of}
use Rattle.sr_send.specs.PutFiles.{head_of, sent_note}
use Rattle.sr_send.specs.Passes.{AreAll, sent_end, waiting}
use Rattle.sr_send.specs.Unsent.{past}
use Rattle.sr_world.specs.Real.{layers}
use Rattle.sr_world.proofs.Keeping.{given_same}
use Rattle.sr_world_runs.proofs.Chaining.{contains_first, contains_later, pass_leads}
use Rattle.sr_world_runs.proofs.DatabaseSteps.{CanStep}

-- ---- where the note ends

-- the last past an offset is given, and lies past it, where there is one
last_given : (sent : ℕ) (first : Offset) (txs : List (ℕ × List Op))
    → (last_at first (past sent txs) ≡ first) ⊎ ((sent < (last_at first (past sent txs)).0) × Contains (offsets txs) (last_at first (past sent txs)).0)
last_given sent first [] = inl refl
last_given sent first (tx ∷ txs) = elim (le_or_lt tx.0 sent) [
  | inl seen ↦ rw (not_past_test sent tx.0 seen) (skipped (last_given sent first txs))
  | inr ahead ↦ rw (past_test sent tx.0 ahead) (inr (found ahead (last_given sent (offset_from tx.0) txs)))
]
  where
    skipped : (last_at first (past sent txs) ≡ first) ⊎ ((sent < (last_at first (past sent txs)).0) × Contains (offsets txs) (last_at first (past sent txs)).0)
        → (last_at first (past sent txs) ≡ first) ⊎ ((sent < (last_at first (past sent txs)).0) × Contains (tx.0 ∷ offsets txs) (last_at first (past sent txs)).0)
    skipped (inl same) = inl same
    skipped (inr there) = inr (there.0, contains_later tx.0 (last_at first (past sent txs)).0 (offsets txs) there.1)

    found : sent < tx.0 → (last_at (offset_from tx.0) (past sent txs) ≡ offset_from tx.0)
        ⊎ ((sent < (last_at (offset_from tx.0) (past sent txs)).0) × Contains (offsets txs) (last_at (offset_from tx.0) (past sent txs)).0)
        → (sent < (last_at (offset_from tx.0) (past sent txs)).0) × Contains (tx.0 ∷ offsets txs) (last_at (offset_from tx.0) (past sent txs)).0
    found ahead (inl same) = subst (λ (o : Offset). (sent < o.0) × Contains (tx.0 ∷ offsets txs) o.0) (sym same) (ahead, contains_first tx.0 (offsets txs))
    found ahead (inr there) = (there.0, contains_later tx.0 (last_at (offset_from tx.0) (past sent txs)).0 (offsets txs) there.1)

end_given : (base : ℕ) (publisher : Name) (es : List Recorded) (user : Name)
    → ((sent_end base publisher es user (books_of user es)).0 ≡ (books_of user es).log_sent)
    ⊎ (((books_of user es).log_sent < (sent_end base publisher es user (books_of user es)).0) × Contains (offsets (layers.given publisher user es)) (sent_end base publisher es user (books_of user es)).0)
end_given base publisher es user =
    let sent : ℕ = (books_of user es).log_sent in
    elim (last_given (max base sent) (offset_from sent) (given_of publisher es user)) [
      | inl same ↦ inl (ap (λ (o : Offset). o.0) same)
      | inr there ↦ inr (
        (let past_both : max base sent < (sent_end base publisher es user (books_of user es)).0 = there.0 in omega (arith, past_both)),
        subst (λ (txs : List (ℕ × List Op)). Contains (offsets txs) (sent_end base publisher es user (books_of user es)).0) (sym (given_same publisher user es)) there.1,
      )
    ]

-- the note of a pass may be made, where all its messages are among these
pub all_noted : (base : ℕ) (messages : List Message) (publisher : Name) (es : List Recorded) (user : Name) (ask : Bool) (limit : ℕ) (pass : List Message) → AreAll base publisher es user (books_of user es) ask limit pass
    → AreAmong pass messages → 1 ≤ length pass → CanStep messages publisher es (sent_note user (books_of user es) (sent_end base publisher es user (books_of user es)) (length pass))
all_noted base messages publisher es user ask limit pass are among some =
    let book : Book = books_of user es in
    let leads = pass_leads messages (head_of publisher user book ask) book ask limit (waiting base publisher es user book) pass are among in
    record { windows = leads.windows; chain = leads.chain; given_there = end_given base publisher es user; some_message = some; confirms = refl }
