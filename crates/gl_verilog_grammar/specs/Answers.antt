-- What is answered for tokens: the module that they spell, or the first fault and its place.
use Rattle.std.specs.Prelude.{◌≡◌, ℕ, zero, suc, ◌+◌, false, List, [], ◌∷◌, ◌++◌, length, Result, Ok, Err}
use Rattle.gl_verilog.specs.Tokens.{Token}
use Rattle.gl_verilog.specs.Written.{WrittenModule}
use Rattle.gl_verilog.specs.Text.{IsSpelling}
use Rattle.gl_verilog_faults.specs.Counts.{Counts, none_counted, keeps_limits}
use Rattle.gl_verilog_faults.specs.Marks.{State as Place, Header, marks}
use Rattle.gl_verilog_faults.specs.Faults.{CanBegin, KeepsFront, Stops}
use Rattle.gl_verilog_tokens.specs.declared.token.Lexeme.{Lexeme}
use Rattle.gl_verilog_tokens.specs.declared.fault.VerilogFault.{VerilogFault}
use Rattle.gl_verilog_tokens.specs.declared.fault.VerilogFault.TheVariants as fault
use Rattle.gl_verilog_tokens.specs.declared.written.WrittenModule as code
use Rattle.gl_verilog_tokens.specs.View.{module_of, tokens_in}
use Rattle.gl_verilog_grammar.specs.declared.reading.Reading.{Reading}
use Rattle.gl_verilog_grammar.specs.declared.counting.Counter.{Counter}
use Rattle.gl_verilog_grammar.specs.Machine.{State, start}
use Rattle.gl_verilog_grammar.specs.Reading.{Fault, Syntax, TooDeep, read_from}
use Rattle.gl_verilog_grammar.specs.Counting.{place_of, counts_of}
use Rattle.gl_verilog_grammar.specs.View.{view}

-- the place of a token by its number; behind the last one it is the text's end
abbrev pub place_in : List Lexeme → ℕ → ℕ → ℕ
place_in [] end' k = end'
place_in (x ∷ xs) end' zero = x.at
place_in (x ∷ xs) end' (suc k) = place_in xs end' k

-- the token with this number cannot stand there, or more is wanted at the end
pub record IsSyntaxAt (tokens : List Token) (k : ℕ) : Type 0 where
  pub read : List Token
  pub left : List Token
  pub parts : tokens ≡ read ++ left
  pub limits : KeepsFront read
  pub begins : CanBegin read
  pub stops : Stops read left
  pub place : k ≡ length read

-- the token with this number may stand there, but passes a limit
pub record IsDeepAt (tokens : List Token) (k : ℕ) : Type 0 where
  pub read : List Token
  pub deep : Token
  pub left : List Token
  pub parts : tokens ≡ read ++ deep ∷ left
  pub limits : KeepsFront read
  pub past : keeps_limits none_counted (marks Header (read ++ deep ∷ [])) ≡ false
  pub begins : CanBegin (read ++ deep ∷ [])
  pub place : k ≡ length read

-- a fault of these tokens, at this place, which is that of the token with this number; want of memory says nothing of
-- them
abbrev pub IsFaultOf : VerilogFault → List Token → ℕ → ℕ → Type 0
IsFaultOf fault.Memory tokens place k = Unit {0}
IsFaultOf (fault.Syntax at) tokens place k = (at ≡ place) × IsSyntaxAt tokens k
IsFaultOf (fault.TooDeep at) tokens place k = (at ≡ place) × IsDeepAt tokens k
IsFaultOf _ tokens place k = ⊥

-- the module that the tokens spell, or their first fault
abbrev pub IsAnswer : Result code.WrittenModule VerilogFault → List Lexeme → ℕ → Type 0
IsAnswer (Ok w) lexemes end' = IsSpelling (tokens_in lexemes) (module_of w)
IsAnswer (Err e) lexemes end' = (k : ℕ) × IsFaultOf e (tokens_in lexemes) (place_in lexemes end' k) k

-- where these tokens spell a module, it is answered, unless memory runs out
abbrev pub IsOnly : Result code.WrittenModule VerilogFault → List Token → Type 0
IsOnly (Ok v) tokens = (w : WrittenModule) → IsSpelling tokens w → module_of v ≡ w
IsOnly (Err e) tokens = (w : WrittenModule) → IsSpelling tokens w → e ≡ fault.Memory

-- ---- by the machine

-- where the machine stands, and the counts
pub record Stand : Type 0 where
  pub state : State
  pub place : Place
  pub counts : Counts

-- where the reader stands: what was read, the place for counting, and the counts
abbrev pub stand : Reading → Counter → Stand
stand r c = record { state = view r; place = place_of c.place; counts = counts_of c }

-- what reading gives from where the reader stands, over these tokens
abbrev pub read_on : ℕ → Stand → List Token → Result WrittenModule Fault
read_on at s tokens = read_from at s.state s.place s.counts tokens

-- what reading gives over all tokens of a text
abbrev pub read_all : List Token → Result WrittenModule Fault
read_all tokens = read_from 0 start Header none_counted tokens

-- from one standing to the other by this token, whatever follows
abbrev pub Goes : Token → Stand → Stand → Type 0
Goes t s s' = (at : ℕ) (ts : List Token) → read_on at s (t ∷ ts) ≡ read_on (at + 1) s' ts

-- a fault at this place is what the machine gives at the token with this number
abbrev pub IsGiven : VerilogFault → ℕ → ℕ → Result WrittenModule Fault → Type 0
IsGiven fault.Memory place k run = Unit {0}
IsGiven (fault.Syntax at) place k run = (at ≡ place) × (run ≡ Err (Syntax k))
IsGiven (fault.TooDeep at) place k run = (at ≡ place) × (run ≡ Err (TooDeep k))
IsGiven _ place k run = ⊥

-- whatever follows, reading stops at this token with this fault
abbrev pub StopsAt : VerilogFault → ℕ → Token → Stand → Type 0
StopsAt e place t s = (at : ℕ) (ts : List Token) → IsGiven e place at (read_on at s (t ∷ ts))

-- what code answers for tokens is what reading gives; want of memory may come with any
abbrev pub IsRead : Result code.WrittenModule VerilogFault → List Lexeme → ℕ → Result WrittenModule Fault → Type 0
IsRead (Ok w) lexemes end' run = run ≡ Ok (module_of w)
IsRead (Err e) lexemes end' run = (k : ℕ) × IsGiven e (place_in lexemes end' k) k run
