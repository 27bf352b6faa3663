-- The four databases: their numbers and names.
use Rattle.std.specs.Prelude.{ℕ, ◌==◌, List, codes, if◌then◌else◌}
use Rattle.dbremote_demo_draws.specs.declared.demo_site.DemoSite.{DemoSite}
use Rattle.dbremote_demo_draws.specs.declared.demo_site.DemoSite.TheVariants.{Cons, R1, R2, R3}

abbrev pub number_of_site : DemoSite → ℕ
number_of_site Cons = 0
number_of_site R1 = 1
number_of_site R2 = 2
number_of_site R3 = 3

abbrev pub demo_site_at : ℕ → DemoSite
demo_site_at n = if n == 0 then Cons else (if n == 1 then R1 else (if n == 2 then R2 else R3))

-- the publisher's name, and that of the files
abbrev pub text_of : DemoSite → List ℕ
text_of Cons = codes "cons"
text_of R1 = codes "r1"
text_of R2 = codes "r2"
text_of R3 = codes "r3"
