-- What a script that is refused, or read, is answered with.
use Rattle.std.specs.Prelude.{◌≡◌, ℕ, List, Result, Ok, Err, ◌⊎◌}
use Rattle.sr_ast.specs.declared.stmt.Stmt.{Stmt}
use Rattle.sr_lex.specs.declared.fault.LexFault.{LexFault}
use Rattle.sr_lex.specs.declared.fault.LexFault.TheVariants as lexed
use Rattle.sr_parse_grammar.specs.declared.fault.ParseFault.{ParseFault}
use Rattle.sr_parse_grammar.specs.declared.fault.ParseFault.TheVariants.{Refused, Memory}
use Rattle.sr_parse_grammar.specs.Meanings.{IsWritten}

-- a fault of the tokens as a fault of the script
abbrev pub fault_of : LexFault → ParseFault
fault_of (lexed.NoToken at) = Refused at
fault_of lexed.Memory = Memory

-- the answer is this script, or memory ended
abbrev pub Answers : Result (List Stmt) ParseFault → List Stmt → Type 0
Answers result script = (result ≡ Ok script) ⊎ (result ≡ Err Memory)

-- a text that spells a script is answered with it: it is not refused
abbrev pub IsRead : List ℕ → Result (List Stmt) ParseFault → Type 0
IsRead text result = (script : List Stmt) → IsWritten text script → Answers result script
