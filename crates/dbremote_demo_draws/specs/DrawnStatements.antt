-- The statements that drawn numbers make.
use Rattle.std.specs.Prelude.{ℕ, zero, suc, ◌+◌, ◌*◌, ◌%◌, ◌==◌, List, [], ◌∷◌, ◌++◌, codes, if◌then◌else◌}
use Rattle.std.specs.Fmt.{decimal}
use Rattle.dbremote_demo_draws.specs.Draws.{next_state, number_of}
use Rattle.dbremote_demo_draws.specs.Names.{number_of_site, demo_site_at, text_of}
use Rattle.dbremote_demo_draws.specs.declared.statements.DrawnStatement.{DrawnStatement}
use Rattle.dbremote_demo_draws.specs.declared.statements.DrawnStatement.TheVariants.{Insert, Raise, Move, Delete}
use Rattle.dbremote_demo_draws.specs.declared.statements.Drawn.{Drawn}
use Rattle.dbremote_demo_draws.specs.declared.demo_site.DemoSite.{DemoSite}
use Rattle.dbremote_demo_draws.specs.declared.demo_site.DemoSite.TheVariants.{Cons, R1, R2, R3}

-- ---- which statement

-- who a new row is for: at the consolidated database the one that was drawn, below it the database itself
abbrev pub rep_at : DemoSite → DemoSite → DemoSite
rep_at Cons rep = rep
rep_at R1 rep = R1
rep_at R2 rep = R2
rep_at R3 rep = R3

-- a row goes to another at the consolidated database, and is deleted below it
abbrev pub gone : DemoSite → ℕ → DemoSite → DrawnStatement
gone Cons id rep = Move id rep
gone R1 id rep = Delete id
gone R2 id rep = Delete id
gone R3 id rep = Delete id

-- the statement of a kind on a row, for a representative
abbrev pub statement_on : DemoSite → ℕ → ℕ → DemoSite → ℕ → DrawnStatement
statement_on at kind id rep i =
    if kind == 2 then Raise id
    else (if kind == 3 then gone at id rep else Insert (4 * i + number_of_site at) (rep_at at rep))

-- the statement with the number i: `c` says which row, of those that may be there by then, and which representative
abbrev pub statement_of : DemoSite → ℕ → ℕ → ℕ → DrawnStatement
statement_of at kind c i = statement_on at kind (c % (4 * i + 4)) (demo_site_at (1 + c % 3)) i

-- the state behind the three draws of a statement
abbrev pub third_state : ℕ → ℕ
third_state x = next_state (next_state (next_state x))

-- the statement that the next three draws make: the first number says at which database, the second which kind
unfoldable pub drawn : ℕ → ℕ → Drawn
drawn x i = record {
  at = demo_site_at (number_of (next_state x) % 4);
  statement = statement_of (demo_site_at (number_of (next_state x) % 4)) (number_of (next_state (next_state x)) % 4) (number_of (third_state x)) i;
}

-- so many statements, from the number i on
abbrev pub all_drawn : ℕ → ℕ → ℕ → List Drawn
all_drawn x i zero = []
all_drawn x i (suc n) = drawn x i ∷ all_drawn (third_state x) (i + 1) n

-- the state behind them
abbrev pub state_behind : ℕ → ℕ → ℕ
state_behind x zero = x
state_behind x (suc n) = state_behind (third_state x) n

-- ---- how it reads

abbrev pub insert_text : ℕ → DemoSite → List ℕ
insert_text id rep = codes "INSERT INTO cust VALUES (" ++ decimal id ++ codes ", '" ++ text_of rep ++ codes "', 0)"

abbrev pub raise_text : ℕ → List ℕ
raise_text id = codes "UPDATE cust SET qty = qty + 1 WHERE id = " ++ decimal id

abbrev pub move_text : ℕ → DemoSite → List ℕ
move_text id rep = codes "UPDATE cust SET rep = '" ++ text_of rep ++ codes "' WHERE id = " ++ decimal id

abbrev pub delete_text : ℕ → List ℕ
delete_text id = codes "DELETE FROM cust WHERE id = " ++ decimal id

abbrev pub statement_text : DrawnStatement → List ℕ
statement_text (Insert id rep) = insert_text id rep
statement_text (Raise id) = raise_text id
statement_text (Move id rep) = move_text id rep
statement_text (Delete id) = delete_text id

-- a transaction of one statement
abbrev pub transaction : DrawnStatement → List ℕ
transaction statement = statement_text statement ++ codes "; COMMIT; "

-- the transactions at one database
abbrev pub script_at : DemoSite → List Drawn → List ℕ
script_at demo_site [] = []
script_at demo_site (d ∷ ds) = if number_of_site d.at == number_of_site demo_site then transaction d.statement ++ script_at demo_site ds else script_at demo_site ds
