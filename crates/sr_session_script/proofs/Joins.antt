-- Acts joined.
use Rattle.std.proofs.Common.{◌≡◌, ℕ, ◌+◌, List, [], ◌∷◌, ◌++◌, refl, sym, ap, ◌∙◌, append_assoc}
use Rattle.sr_database_history.specs.Folds.{size, end_from}
use Rattle.sr_session_script.specs.Acts.{ScriptAct, commits, nothing, rolled_back, row, rows, region_begins, region_ends, entry_in, entries_of, end_after, end_behind, line_of, text_from}

pub entries_of-append : (acts more : List ScriptAct) → entries_of (acts ++ more) ≡ entries_of acts ++ entries_of more
entries_of-append [] more = refl
entries_of-append (a ∷ acts) more = ap (λ rs. entry_in a ++ rs) (entries_of-append acts more) ∙ sym (append_assoc (entry_in a) (entries_of acts) (entries_of more))

pub text_from-append : (place : ℕ) (acts more : List ScriptAct) → text_from place (acts ++ more) ≡ text_from place acts ++ text_from (end_behind place acts) more
text_from-append place [] more = refl
text_from-append place (a ∷ acts) more =
    ap (λ text. line_of place a ++ text) (text_from-append (end_after place a) acts more)
    ∙ sym (append_assoc (line_of place a) (text_from (end_after place a) acts) (text_from (end_behind (end_after place a) acts) more))

pub end_behind-append : (place : ℕ) (acts more : List ScriptAct) → end_behind place (acts ++ more) ≡ end_behind (end_behind place acts) more
end_behind-append place [] more = refl
end_behind-append place (a ∷ acts) more = end_behind-append (end_after place a) acts more

pub end_behind-is : (place : ℕ) (acts : List ScriptAct) → end_behind place acts ≡ end_from place (entries_of acts)
end_behind-is place [] = refl
end_behind-is place (commits r ∷ acts) = end_behind-is (place + (size r + 5)) acts
end_behind-is place (nothing ∷ acts) = end_behind-is place acts
end_behind-is place (rolled_back ∷ acts) = end_behind-is place acts
end_behind-is place (row values ∷ acts) = end_behind-is place acts
end_behind-is place (rows count ∷ acts) = end_behind-is place acts
end_behind-is place (region_begins ∷ acts) = end_behind-is place acts
end_behind-is place (region_ends ∷ acts) = end_behind-is place acts

pub ruleset joining = (entries_of-append, text_from-append, end_behind-append, end_behind-is)
