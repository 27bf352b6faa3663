-- What happened at a site: commits of files, and calls of the mail.
-- Here is what no contract of the program says by itself.
use Rattle.std.specs.Prelude.{◌≡◌, ◌⊎◌, ℕ, Bool, true, false, List, [], ◌∷◌}
use Rattle.sr_site.specs.Inner.Calls.{Call, write, cut, sync}
use Rattle.sr_site.specs.Happenings.{Happening}
use Rattle.sr_site.specs.Happenings.Happening.{wrote, cut_to, synced}

-- a call of the disk as it happened
abbrev pub happening : Call → Bool → List ℕ → Happening
happening (write file place bytes) done after = wrote file place bytes done after
happening (cut file to) done after = cut_to file to done after
happening (sync file) done after = synced file done after

-- these calls were made one after the other: all of them succeeded, or the first that failed was the last
abbrev pub Made : List Call → List Happening → List Happening → Bool → Type 0
Made [] before now done = (now ≡ before) × (done ≡ true)
Made (call ∷ calls) before now done = (after : List ℕ) × (((now ≡ happening call false after ∷ before) × (done ≡ false)) ⊎ Made calls (happening call true after ∷ before) now done)
