-- The calls of a commit, and of a fresh log, as they were made.
use Rattle.std.proofs.Common.{◌≡◌, ◌+◌, refl, Bool, true, false, List, [], ◌∷◌, ℕ, inl, inr, ◌∙◌, ap, subst}
use Rattle.sr_site.specs.Inner.Calls.{Call, write, cut, sync}
use Rattle.sr_site.specs.Happenings.{Happening, wrote, cut_to, synced}
use Rattle.sr_site.specs.Inner.Happenings.{happening, Made}
use Rattle.sr_site.specs.declared.file.File.{File}
use Rattle.sr_logfile.specs.Inner.Calls.{commit_calls, fresh_calls}
use Rattle.sr_logfile.specs.Inner.Records.{fresh_bytes}

-- the first of some calls failed
stops : (call : Call) (calls : List Call) (before now : List Happening) (after : List ℕ) (told done : Bool) → now ≡ happening call told after ∷ before → told ≡ false → done ≡ false → Made (call ∷ calls) before now done
stops call calls before now after told done is failed same = (after, inl (is ∙ ap (λ (b : Bool). happening call b after ∷ before) failed, same))

-- it succeeded, and the others were made then
goes_on : (call : Call) (calls : List Call) (before then now : List Happening) (after : List ℕ) (told done : Bool) → then ≡ happening call told after ∷ before → told ≡ true → Made calls then now done → Made (call ∷ calls) before now done
goes_on call calls before then now after told done is succeeded made =
    (after, inr (subst (λ (l : List Happening). Made calls l now done) (is ∙ ap (λ (b : Bool). happening call b after ∷ before) succeeded) made))

module _ (file : File) (gate : ℕ) (framed : List ℕ) (h0 h1 h2 h3 h4 : List Happening) (a1 a2 a3 a4 : List ℕ) (d1 d2 d3 d4 done : Bool) where
  abbrev behind : Call
  behind = write file (gate + 1) framed

  abbrev opening : Call
  opening = write file gate (1 ∷ [])

  pub commit_stops_1 : h1 ≡ wrote file (gate + 1) framed d1 a1 ∷ h0 → d1 ≡ false → done ≡ false → Made (commit_calls file gate framed) h0 h1 done
  commit_stops_1 is failed same = stops behind (sync file ∷ opening ∷ sync file ∷ []) h0 h1 a1 d1 done is failed same

  pub commit_stops_2 : h1 ≡ wrote file (gate + 1) framed d1 a1 ∷ h0 → d1 ≡ true → h2 ≡ synced file d2 a2 ∷ h1 → d2 ≡ false → done ≡ false → Made (commit_calls file gate framed) h0 h2 done
  commit_stops_2 is did is2 failed same =
      goes_on behind (sync file ∷ opening ∷ sync file ∷ []) h0 h1 h2 a1 d1 done is did (stops (sync file) (opening ∷ sync file ∷ []) h1 h2 a2 d2 done is2 failed same)

  pub commit_stops_3 : h1 ≡ wrote file (gate + 1) framed d1 a1 ∷ h0 → d1 ≡ true → h2 ≡ synced file d2 a2 ∷ h1 → d2 ≡ true → h3 ≡ wrote file gate (1 ∷ []) d3 a3 ∷ h2 → d3 ≡ false → done ≡ false → Made (commit_calls file gate framed) h0 h3 done
  commit_stops_3 is did is2 did2 is3 failed same =
      goes_on behind (sync file ∷ opening ∷ sync file ∷ []) h0 h1 h3 a1 d1 done is did
      (goes_on (sync file) (opening ∷ sync file ∷ []) h1 h2 h3 a2 d2 done is2 did2 (stops opening (sync file ∷ []) h2 h3 a3 d3 done is3 failed same))

  -- the last one failed, or all of them succeeded
  pub commit_made : h1 ≡ wrote file (gate + 1) framed d1 a1 ∷ h0 → d1 ≡ true → h2 ≡ synced file d2 a2 ∷ h1 → d2 ≡ true → h3 ≡ wrote file gate (1 ∷ []) d3 a3 ∷ h2 → d3 ≡ true → h4 ≡ synced file d4 a4 ∷ h3 → d4 ≡ done → Made (commit_calls file gate framed) h0 h4 done
  commit_made is did is2 did2 is3 did3 is4 same =
      goes_on behind (sync file ∷ opening ∷ sync file ∷ []) h0 h1 h4 a1 d1 done is did
      (goes_on (sync file) (opening ∷ sync file ∷ []) h1 h2 h4 a2 d2 done is2 did2
      (goes_on opening (sync file ∷ []) h2 h3 h4 a3 d3 done is3 did3 (last done d4 is4 same)))
    where
      last : (done d4 : Bool) → h4 ≡ synced file d4 a4 ∷ h3 → d4 ≡ done → Made (sync file ∷ []) h3 h4 done
      last true d4 is same = goes_on (sync file) [] h3 h4 h4 a4 d4 true is same (refl, refl)
      last false d4 is same = stops (sync file) [] h3 h4 a4 d4 false is same refl

module _ (file : File) (base : ℕ) (bytes : List ℕ) (same_bytes : bytes ≡ fresh_bytes base) (h0 h1 h2 h3 : List Happening) (a1 a2 a3 : List ℕ) (d1 d2 d3 done : Bool) where
  abbrev filling : Call
  filling = write file 0 (fresh_bytes base)

  filled : h2 ≡ wrote file 0 bytes d2 a2 ∷ h1 → h2 ≡ wrote file 0 (fresh_bytes base) d2 a2 ∷ h1
  filled is = subst (λ (l : List ℕ). h2 ≡ wrote file 0 l d2 a2 ∷ h1) same_bytes is

  pub fresh_stops_1 : h1 ≡ cut_to file 0 d1 a1 ∷ h0 → d1 ≡ false → done ≡ false → Made (fresh_calls file base) h0 h1 done
  fresh_stops_1 is failed same = stops (cut file 0) (filling ∷ sync file ∷ []) h0 h1 a1 d1 done is failed same

  pub fresh_stops_2 : h1 ≡ cut_to file 0 d1 a1 ∷ h0 → d1 ≡ true → h2 ≡ wrote file 0 bytes d2 a2 ∷ h1 → d2 ≡ false → done ≡ false → Made (fresh_calls file base) h0 h2 done
  fresh_stops_2 is did is2 failed same =
      goes_on (cut file 0) (filling ∷ sync file ∷ []) h0 h1 h2 a1 d1 done is did (stops filling (sync file ∷ []) h1 h2 a2 d2 done (filled is2) failed same)

  pub fresh_made : h1 ≡ cut_to file 0 d1 a1 ∷ h0 → d1 ≡ true → h2 ≡ wrote file 0 bytes d2 a2 ∷ h1 → d2 ≡ true → h3 ≡ synced file d3 a3 ∷ h2 → d3 ≡ done → Made (fresh_calls file base) h0 h3 done
  fresh_made is did is2 did2 is3 same =
      goes_on (cut file 0) (filling ∷ sync file ∷ []) h0 h1 h3 a1 d1 done is did
      (goes_on filling (sync file ∷ []) h1 h2 h3 a2 d2 done (filled is2) did2 (last done d3 is3 same))
    where
      last : (done d3 : Bool) → h3 ≡ synced file d3 a3 ∷ h2 → d3 ≡ done → Made (sync file ∷ []) h2 h3 done
      last true d3 is same = goes_on (sync file) [] h2 h3 h3 a3 d3 true is same (refl, refl)
      last false d3 is same = stops (sync file) [] h2 h3 a3 d3 false is same refl
