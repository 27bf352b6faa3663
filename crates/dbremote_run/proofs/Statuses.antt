-- What the status of a run tells.
use Rattle.std.proofs.Common.{◌≡◌, ℕ, Option, Some, None, refl, ap, inl, inr}
use Rattle.std.specs.Prelude.{◌≢◌, ◌⊎◌}
use Rattle.sr_database_files.specs.declared.fault.DatabaseFault.TheVariants.{Memory}
use Rattle.sr_site.specs.Causes.{Rose}
use Rattle.sr_site.specs.Seen.{Seen}
use Rattle.dbremote_command.proofs.Counted.{tells}
use Rattle.dbremote_command.proofs.Statuses.{order_words, order_disk, order_stream, order_mail, order_amiss, refused_disk, refused_stream, refused_mail}
use Rattle.dbremote_command.proofs.Statuses.{no_disk_words, no_disk_memory, no_words_memory, no_stream_words, no_stream_memory, no_mail_words, no_mail_memory, told_words, told_never_one}
use Rattle.dbremote_command.specs.Counts.{TellsFaults}
use Rattle.dbremote_command.specs.Outside.{Outside}
use Rattle.dbremote_command.specs.declared.fault.Fault.TheVariants.{Words, Database}
use Rattle.dbremote_run.proofs.Demonstrations.{demo_amiss, demo_disk, demo_mail, demo_streams, demo_words}
use Rattle.dbremote_run.specs.Runs.{HasAlarms, HasMailFault, RanProgram, RanAsked}
use Rattle.dbremote_words.specs.declared.asked.Asked.{Asked}
use Rattle.dbremote_words.specs.declared.asked.Asked.TheVariants.{Demo, Order}

-- ---- what was asked for

asked_words : (asked : Asked) (old new : Outside) (status : ℕ) → RanAsked asked old new status → status ≢ 2
asked_words (Order order) old new status ran two = order_words order old new status ran two
asked_words (Demo seed statements) old new status ran two = demo_words seed statements old.output new.output status ran.demonstrated two

asked_disk : (asked : Asked) (old new : Outside) (status : ℕ) → RanAsked asked old new status → status ≡ 5 → Rose old.site.disk_faults new.site.disk_faults
asked_disk (Order order) old new status ran five = order_disk order old new status ran five
asked_disk (Demo seed statements) old new status ran five = absurd (demo_disk seed statements old.output new.output status ran.demonstrated five)

asked_streams : (asked : Asked) (old new : Outside) (status : ℕ) → RanAsked asked old new status → status ≡ 7 → Rose old.input.faults new.input.faults ⊎ Rose old.output.faults new.output.faults
asked_streams (Order order) old new status ran seven = order_stream order old new status ran seven
asked_streams (Demo seed statements) old new status ran seven = inr (demo_streams seed statements old.output new.output status ran.demonstrated seven)

asked_mail : (asked : Asked) (old new : Outside) (status : ℕ) → RanAsked asked old new status → status ≡ 6 → HasMailFault (Some asked) old new
asked_mail (Order order) old new status ran six = order_mail order old new status ran six
asked_mail (Demo seed statements) old new status ran six = demo_mail seed statements old.output new.output status ran.demonstrated six

asked_amiss : (asked : Asked) (old new : Outside) (status : ℕ) → RanAsked asked old new status → status ≡ 1 → HasAlarms (Some asked) old new
asked_amiss (Order order) old new status ran one = order_amiss order old new status ran one
asked_amiss (Demo seed statements) old new status ran one = absurd (demo_amiss seed statements old.output new.output status ran.demonstrated one)

-- ---- the words

pub run_words : (asked : Option Asked) (old new : Outside) (status : ℕ) → RanProgram asked old new status → status ≡ 2 → asked ≡ None
run_words None old new status ran two = refl
run_words (Some asked) old new status (inl ran) two = absurd (asked_words asked old new status ran two)
run_words (Some asked) old new status (inr want) two = absurd (no_words_memory (told_words (Database Memory) old.output new.output status want.line two))

pub run_disk : (asked : Option Asked) (old new : Outside) (status : ℕ) → RanProgram asked old new status → status ≡ 5 → Rose old.site.disk_faults new.site.disk_faults
run_disk None old new status (inl refused) five = absurd (no_disk_words (refused_disk Words old new status refused five))
run_disk None old new status (inr want) five = absurd (no_disk_memory (refused_disk (Database Memory) old new status want five))
run_disk (Some asked) old new status (inl ran) five = asked_disk asked old new status ran five
run_disk (Some asked) old new status (inr want) five = absurd (no_disk_memory (refused_disk (Database Memory) old new status want five))

pub run_streams : (asked : Option Asked) (old new : Outside) (status : ℕ) → RanProgram asked old new status → status ≡ 7 → Rose old.input.faults new.input.faults ⊎ Rose old.output.faults new.output.faults
run_streams None old new status (inl refused) seven = absurd (no_stream_words (refused_stream Words old new status refused seven))
run_streams None old new status (inr want) seven = absurd (no_stream_memory (refused_stream (Database Memory) old new status want seven))
run_streams (Some asked) old new status (inl ran) seven = asked_streams asked old new status ran seven
run_streams (Some asked) old new status (inr want) seven = absurd (no_stream_memory (refused_stream (Database Memory) old new status want seven))

pub run_mail : (asked : Option Asked) (old new : Outside) (status : ℕ) → RanProgram asked old new status → status ≡ 6 → HasMailFault asked old new
run_mail None old new status (inl refused) six = absurd (no_mail_words (refused_mail Words old new status refused six))
run_mail None old new status (inr want) six = absurd (no_mail_memory (refused_mail (Database Memory) old new status want six))
run_mail (Some asked) old new status (inl ran) six = asked_mail asked old new status ran six
run_mail (Some asked) old new status (inr want) six = absurd (no_mail_memory (refused_mail (Database Memory) old new status want six))

pub run_amiss : (asked : Option Asked) (old new : Outside) (status : ℕ) → RanProgram asked old new status → status ≡ 1 → HasAlarms asked old new
run_amiss None old new status (inl refused) one = absurd (told_never_one Words old.output new.output status refused.line one)
run_amiss None old new status (inr want) one = absurd (told_never_one (Database Memory) old.output new.output status want.line one)
run_amiss (Some asked) old new status (inl ran) one = asked_amiss asked old new status ran one
run_amiss (Some asked) old new status (inr want) one = absurd (told_never_one (Database Memory) old.output new.output status want.line one)

-- ---- the counts

still_tells : (old new : Outside) (status : ℕ) → new.site ≡ old.site → TellsFaults old new status
still_tells old new status same = record { disk = inl (ap (λ (s : Seen). s.disk_faults) same); mail = inl (ap (λ (s : Seen). s.mail_faults) same) }

asked_tells : (asked : Asked) (old new : Outside) (status : ℕ) → RanAsked asked old new status → TellsFaults old new status
asked_tells (Order order) old new status ran = tells order old new status ran
asked_tells (Demo seed statements) old new status ran = still_tells old new status ran.site

pub run_tells : (asked : Option Asked) (old new : Outside) (status : ℕ) → RanProgram asked old new status → TellsFaults old new status
run_tells None old new status (inl refused) = still_tells old new status refused.site
run_tells None old new status (inr want) = still_tells old new status want.site
run_tells (Some asked) old new status (inl ran) = asked_tells asked old new status ran
run_tells (Some asked) old new status (inr want) = still_tells old new status want.site

pub ruleset of_runs = (run_words, run_disk, run_streams, run_mail, run_amiss, run_tells)
