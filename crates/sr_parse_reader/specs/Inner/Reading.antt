-- What a reader of a production owes: what it read, and where and why it is refused.
use Rattle.std.specs.Prelude.{◌≡◌, [], ◌++◌, Result, Ok, Err}
use Rattle.sr_ast.specs.declared.keyword.Keyword.{Keyword}
use Rattle.sr_parse_grammar.specs.declared.symbol.Sign.{Sign}
use Rattle.sr_parse_reader.specs.declared.reader.Broken.{Broken}
use Rattle.sr_parse_reader.specs.declared.reader.Broken.TheVariants.{Memory, Refused}
use Rattle.sr_parse_grammar.specs.Symbols.{Symbols, Production, first, IsWord, IsSign}
pub use Rattle.sr_parse_grammar.specs.Inner.Meant.{Spells, GoesOn}

-- the same symbol is next, or none is
abbrev pub Alike : Symbols → Symbols → Type 0
Alike here there = first here ≡ first there

-- A value was read: what was taken spells it, and whatever begins with that and the next symbol spells no other, where it ends with the property.
pub record WasRead {A : Type 0} (X : Production A) (P : Symbols → Type 0) (before here : Symbols) (value : A) : Type 0 where
  pub taken : Symbols
  pub parts : before ≡ taken ++ here
  pub spells : Spells X taken value
  pub only : (there : Symbols) → Alike here there → (x : A) (rest : Symbols) → X (taken ++ there) x rest → P rest → (value ≡ x) × (there ≡ rest)

-- It was refused at the next symbol: something begins with what was taken, and nothing that ends with the property with the next symbol too.
pub record WasRefused {A : Type 0} (X : Production A) (P : Symbols → Type 0) (before here : Symbols) : Type 0 where
  pub taken : Symbols
  pub parts : before ≡ taken ++ here
  pub goes : GoesOn X taken
  pub none : (there : Symbols) → Alike here there → (x : A) (rest : Symbols) → X (taken ++ there) x rest → P rest → ⊥

-- What a reader owes that stands before and then here. Want of memory is free.
pub data Reading {A : Type 0} (X : Production A) (P : Symbols → Type 0) (before here : Symbols) : Result A Broken → Type 0 where
  read : {value : A} → WasRead X P before here value → Reading X P before here (Ok value)
  refused : WasRefused X P before here → Reading X P before here (Err Refused)
  memory : Reading X P before here (Err Memory)

-- an answer made of another
abbrev pub mapped : {A B : Type 0} → (A → B) → Result A Broken → Result B Broken
mapped f (Ok x) = Ok (f x)
mapped f (Err e) = Err e

-- a production may end anywhere
abbrev pub Anywhere : Symbols → Type 0
Anywhere after = Unit {0}

-- where two properties hold
abbrev pub Both : (Symbols → Type 0) → (Symbols → Type 0) → Symbols → Type 0
Both P Q after = P after × Q after

-- before a key word, before a sign, and at the end
abbrev pub BeforeWord : Keyword → Symbols → Type 0
BeforeWord k after = (next : Symbols) × IsWord after k next

abbrev pub BeforeSign : Sign → Symbols → Type 0
BeforeSign s after = (next : Symbols) × IsSign after s next

abbrev pub AtEnd : Symbols → Type 0
AtEnd after = after ≡ []

-- the answer has the property, or memory ended; nothing is refused
abbrev pub Gives : {A : Type 0} → Result A Broken → (A → Type 0) → Type 0
Gives (Ok x) P = P x
Gives (Err e) P = e ≡ Memory
