-- The scripts of the demonstration that are the same each time, line by line.
use Rattle.std.specs.Prelude.{ℕ, List, [], ◌∷◌, ◌++◌, codes}

-- a text, and a line feed behind it
abbrev pub line : List ℕ → List ℕ
line text = text ++ 10 ∷ []

-- the table, which all four have
abbrev pub cust : List ℕ
cust = line (codes "CREATE TABLE cust (id INTEGER PRIMARY KEY, rep VARCHAR(8), qty INTEGER);")

-- at the consolidated database: the publication by which a row goes to its representative, the three partners, and the trigger that adds both
-- sides' changes of a quantity
unfoldable pub consolidated : List ℕ
consolidated =
    cust
    ++ line (codes "CREATE PUBLICATION p (TABLE cust SUBSCRIBE BY rep);")
    ++ line (codes "GRANT REMOTE TO r1;")
    ++ line (codes "GRANT REMOTE TO r2;")
    ++ line (codes "GRANT REMOTE TO r3;")
    ++ line (codes "CREATE SUBSCRIPTION TO p ('r1') FOR r1;")
    ++ line (codes "CREATE SUBSCRIPTION TO p ('r2') FOR r2;")
    ++ line (codes "CREATE SUBSCRIPTION TO p ('r3') FOR r3;")
    ++ line (codes "START SUBSCRIPTION TO p ('r1') FOR r1;")
    ++ line (codes "START SUBSCRIPTION TO p ('r2') FOR r2;")
    ++ line (codes "START SUBSCRIPTION TO p ('r3') FOR r3;")
    ++ line (codes "CREATE TRIGGER fix RESOLVE UPDATE OF qty ON cust")
    ++ line (codes "REFERENCING OLD AS o NEW AS n REMOTE AS r FOR EACH ROW")
    ++ line (codes "BEGIN SET n.qty = o.qty + n.qty - r.qty; END;")

-- at each database below it: all of the table goes to the consolidated database
unfoldable pub remote : List ℕ
remote =
    cust
    ++ line (codes "GRANT CONSOLIDATE TO cons;")
    ++ line (codes "CREATE PUBLICATION p (TABLE cust);")
    ++ line (codes "CREATE SUBSCRIPTION TO p FOR cons;")
    ++ line (codes "START SUBSCRIPTION TO p FOR cons;")

-- at the end: a last row for each database below, and a last row of each
unfoldable pub last_of_cons : List ℕ
last_of_cons =
    line (codes "INSERT INTO cust VALUES (-1, 'r1', 0); COMMIT;")
    ++ line (codes "INSERT INTO cust VALUES (-2, 'r2', 0); COMMIT;")
    ++ line (codes "INSERT INTO cust VALUES (-3, 'r3', 0); COMMIT;")

unfoldable pub last_of_r1 : List ℕ
last_of_r1 = line (codes "INSERT INTO cust VALUES (-4, 'r1', 0); COMMIT;")

unfoldable pub last_of_r2 : List ℕ
last_of_r2 = line (codes "INSERT INTO cust VALUES (-5, 'r2', 0); COMMIT;")

unfoldable pub last_of_r3 : List ℕ
last_of_r3 = line (codes "INSERT INTO cust VALUES (-6, 'r3', 0); COMMIT;")
