-- What is kept stays what happened.
use Rattle.std.proofs.Common.{◌≡◌, ℕ, List, [], ◌∷◌, ◌++◌, map, Option, Some, None, Result, Ok, Err, Vec, Global, Bool, refl, sym, ap, subst, ◌∙◌, inl, inr}
use Rattle.std.proofs.lemmas.List.{map-append}
use Rattle.std.specs.Prelude.{Contains}
use Rattle.std.specs.List.{AllByRecursion}
use Rattle.std.specs.Option.{option_map}
use Rattle.std.specs.Result.{result_map_both}
use Rattle.sr_site.specs.Happenings.{Happening, attached, wrote, cut_to, synced, listed, fetched, sent, removed}
use Rattle.sr_site.specs.declared.file.File.{File}
use Rattle.sr_site.specs.declared.mail.Listing.{Listing}
use Rattle.sr_site.specs.declared.mail.MailFault.{MailFault}
use Rattle.sr_database_meaning.specs.Events.{PutFile, puts_in}
use Rattle.sr_world_runs.specs.Lives.{CameOf}
use Rattle.world_lives_kept.specs.Inner.Kept.{AreKept, AreOf, bytes_of_all, came_in}

-- of more files the first are among these, and so is the last
first_of : (others files more : List (List ℕ)) → AreOf others (files ++ more) → AreOf others files
first_of others [] more are = tt
first_of others (x ∷ files) more are = (are.0, first_of others files more are.1)

last_of : (others files : List (List ℕ)) (x : List ℕ) → AreOf others (files ++ x ∷ []) → Contains others x
last_of others [] x are = are.0
last_of others (y ∷ files) x are = last_of others files x are.1

-- after a call of these kinds
module _ (put files : List (List ℕ)) (before now : List Happening) (kept : AreKept put files before) where
  with_step : (step : Happening) → now ≡ step ∷ before → puts_in (step ∷ before) ≡ puts_in before → ((all : List PutFile) → CameOf all step) → AreKept put files now
  with_step step is none came = subst (AreKept put files) (sym is) (record { put_are = ap bytes_of_all none ∙ kept.put_are; came = λ all are. (came all, kept.came all are) })

  pub attached_kept : (name folder : List ℕ) (done : Bool) → now ≡ attached name folder done ∷ before → AreKept put files now
  attached_kept name folder done is = with_step (attached name folder done) is refl (λ all. tt)

  pub wrote_kept : (file : File) (place : ℕ) (bytes after : List ℕ) (done : Bool) → now ≡ wrote file place bytes done after ∷ before → AreKept put files now
  wrote_kept file place bytes after done is = with_step (wrote file place bytes done after) is refl (λ all. tt)

  pub cut_kept : (file : File) (to : ℕ) (after : List ℕ) (done : Bool) → now ≡ cut_to file to done after ∷ before → AreKept put files now
  cut_kept file to after done is = with_step (cut_to file to done after) is refl (λ all. tt)

  pub synced_kept : (file : File) (after : List ℕ) (done : Bool) → now ≡ synced file done after ∷ before → AreKept put files now
  synced_kept file after done is = with_step (synced file done after) is refl (λ all. tt)

  pub listed_kept : (address : List ℕ) (names : List (List ℕ)) (listing : Result Listing MailFault) → now ≡ listed address names listing ∷ before → AreKept put files now
  listed_kept address names listing is = with_step (listed address names listing) is refl (λ all. tt)

  pub removed_kept : (address name : List ℕ) (done : Bool) → now ≡ removed address name done ∷ before → AreKept put files now
  removed_kept address name done is = with_step (removed address name done) is refl (λ all. tt)

-- after a fetch
fetch_kept : (put files : List (List ℕ)) (happened : List Happening) (address name : List ℕ) (limit : ℕ) (found : Result (Option (Vec ℕ Global)) MailFault) → AreKept put files happened
    → AreKept put (files ++ came_in found) (fetched address name limit (result_map_both (option_map (λ (bytes : Vec ℕ Global). bytes.items)) (λ fault. fault) found) ∷ happened)
fetch_kept put files happened address name limit (Ok (Some bytes)) kept = record {
  put_are = kept.put_are;
  came = λ all are. (inl (last_of (bytes_of_all all) files bytes.items are), kept.came all (first_of (bytes_of_all all) files (bytes.items ∷ []) are));
}
fetch_kept put files happened address name limit (Ok None) kept = record {
  put_are = kept.put_are;
  came = λ all are. (tt, kept.came all (first_of (bytes_of_all all) files [] are));
}
fetch_kept put files happened address name limit (Err fault) kept = record {
  put_are = kept.put_are;
  came = λ all are. (tt, kept.came all (first_of (bytes_of_all all) files [] are));
}

-- after a put
send_kept : (put files : List (List ℕ)) (happened : List Happening) (address name bytes : List ℕ) (done : Bool) → AreKept put files happened
    → AreKept (put ++ bytes ∷ []) files (sent address name bytes done ∷ happened)
send_kept put files happened address name bytes done kept = record {
  put_are = map-append (λ (l : PutFile). l.2) (puts_in happened) ((address, name, bytes) ∷ []) ∙ ap (λ (l : List (List ℕ)). l ++ bytes ∷ []) kept.put_are;
  came = λ all are. (tt, kept.came all are);
}

pub fetched_kept : (put put' files files' : List (List ℕ)) (before now : List Happening) (address name : List ℕ) (limit : ℕ) (found : Result (Option (Vec ℕ Global)) MailFault)
    → AreKept put files before → now ≡ fetched address name limit (result_map_both (option_map (λ (bytes : Vec ℕ Global). bytes.items)) (λ fault. fault) found) ∷ before → put' ≡ put
    → files' ≡ files ++ came_in found → AreKept put' files' now
fetched_kept put put' files files' before now address name limit found kept is same more =
    subst (λ (p : List (List ℕ)). AreKept p files' now) (sym same)
    (subst (λ (f : List (List ℕ)). AreKept put f now) (sym more) (subst (AreKept put (files ++ came_in found)) (sym is) (fetch_kept put files before address name limit found kept)))

pub sent_kept : (put put' files files' : List (List ℕ)) (before now : List Happening) (address name bytes : List ℕ) (done : Bool) → AreKept put files before
    → now ≡ sent address name bytes done ∷ before → put' ≡ put ++ bytes ∷ [] → files' ≡ files → AreKept put' files' now
sent_kept put put' files files' before now address name bytes done kept is more same =
    subst (λ (f : List (List ℕ)). AreKept put' f now) (sym same)
    (subst (λ (p : List (List ℕ)). AreKept p files now) (sym more) (subst (AreKept (put ++ bytes ∷ []) files) (sym is) (send_kept put files before address name bytes done kept)))
