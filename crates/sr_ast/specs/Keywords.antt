-- The key words: how each is spelled, which words they are, and which of them are names too.
use Rattle.std.specs.Prelude.{◌≡◌, ℕ, List, map, Option, Some, None, codes}
use Rattle.std.specs.Char.{to_ascii_lowercase}
use Rattle.sr_ast.specs.declared.keyword.Keyword.{Keyword}
use Rattle.sr_ast.specs.declared.keyword.Keyword.TheVariants as key

-- how a key word is spelled
abbrev pub spelling : Keyword → List ℕ
spelling key.Create = codes "CREATE"
spelling key.Table = codes "TABLE"
spelling key.Primary = codes "PRIMARY"
spelling key.Key = codes "KEY"
spelling key.Not = codes "NOT"
spelling key.Null = codes "NULL"
spelling key.Integer = codes "INTEGER"
spelling key.Int = codes "INT"
spelling key.Bigint = codes "BIGINT"
spelling key.Varchar = codes "VARCHAR"
spelling key.Date = codes "DATE"
spelling key.Drop = codes "DROP"
spelling key.Publication = codes "PUBLICATION"
spelling key.Where = codes "WHERE"
spelling key.Subscribe = codes "SUBSCRIBE"
spelling key.By = codes "BY"
spelling key.Grant = codes "GRANT"
spelling key.Remote = codes "REMOTE"
spelling key.To = codes "TO"
spelling key.Type = codes "TYPE"
spelling key.File = codes "FILE"
spelling key.Address = codes "ADDRESS"
spelling key.Consolidate = codes "CONSOLIDATE"
spelling key.Start = codes "START"
spelling key.Stop = codes "STOP"
spelling key.Synchronize = codes "SYNCHRONIZE"
spelling key.Subscription = codes "SUBSCRIPTION"
spelling key.For = codes "FOR"
spelling key.Trigger = codes "TRIGGER"
spelling key.Resolve = codes "RESOLVE"
spelling key.Update = codes "UPDATE"
spelling key.Of = codes "OF"
spelling key.On = codes "ON"
spelling key.Referencing = codes "REFERENCING"
spelling key.Old = codes "OLD"
spelling key.New = codes "NEW"
spelling key.As = codes "AS"
spelling key.Each = codes "EACH"
spelling key.Row = codes "ROW"
spelling key.Begin = codes "BEGIN"
spelling key.Declare = codes "DECLARE"
spelling key.End = codes "END"
spelling key.Set = codes "SET"
spelling key.Insert = codes "INSERT"
spelling key.Into = codes "INTO"
spelling key.Values = codes "VALUES"
spelling key.If = codes "IF"
spelling key.Then = codes "THEN"
spelling key.Else = codes "ELSE"
spelling key.Delete = codes "DELETE"
spelling key.From = codes "FROM"
spelling key.Select = codes "SELECT"
spelling key.Count = codes "COUNT"
spelling key.Sum = codes "SUM"
spelling key.Min = codes "MIN"
spelling key.Max = codes "MAX"
spelling key.Inner = codes "INNER"
spelling key.Join = codes "JOIN"
spelling key.Order = codes "ORDER"
spelling key.Asc = codes "ASC"
spelling key.Desc = codes "DESC"
spelling key.Commit = codes "COMMIT"
spelling key.Work = codes "WORK"
spelling key.Rollback = codes "ROLLBACK"
spelling key.Passthrough = codes "PASSTHROUGH"
spelling key.Only = codes "ONLY"
spelling key.Or = codes "OR"
spelling key.And = codes "AND"
spelling key.Is = codes "IS"
spelling key.Option = codes "OPTION"
spelling key.Alter = codes "ALTER"
spelling key.Add = codes "ADD"
spelling key.Default = codes "DEFAULT"
spelling key.Global = codes "GLOBAL"
spelling key.Autoincrement = codes "AUTOINCREMENT"
spelling key.Send = codes "SEND"
spelling key.Every = codes "EVERY"
spelling key.At = codes "AT"

-- a word with its letters in lower case
abbrev pub lower : List ℕ → List ℕ
lower word = map to_ascii_lowercase word

-- a word is a key word, without regard to the case of its letters
abbrev pub IsKeyword : List ℕ → Keyword → Type 0
IsKeyword word k = lower word ≡ lower (spelling k)

-- a word is no key word
abbrev pub IsNoKeyword : List ℕ → Type 0
IsNoKeyword word = (k : Keyword) → IsKeyword word k → ⊥

-- the name that a key word also is
abbrev pub named : Keyword → Option (List ℕ)
named key.Old = Some (codes "old")
named key.New = Some (codes "new")
named key.Remote = Some (codes "remote")
named key.Type = Some (codes "type")
named key.File = Some (codes "file")
named key.Address = Some (codes "address")
named key.Option = Some (codes "option")
named key.Alter = Some (codes "alter")
named key.Add = Some (codes "add")
named key.Default = Some (codes "default")
named key.Global = Some (codes "global")
named key.Autoincrement = Some (codes "autoincrement")
named key.Send = Some (codes "send")
named key.Every = Some (codes "every")
named key.At = Some (codes "at")
named k = None
