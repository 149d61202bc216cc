-- Reading all tokens: the statement as it is written, or the first fault from the left.
-- A middle layer, proved equal to `Grammar`: no promise rests on it.
use Rattle.std.specs.Prelude.{◌≡◌, ℕ, Bool, true, false, is_some, List, [], ◌∷◌, Option, Some, None, Result, Ok, Err, if◌then◌else◌}
use Rattle.gl_query.specs.declared.tree.Statement as tree
use Rattle.gl_query.specs.declared.fault.QueryFault.{QueryFault}
use Rattle.gl_query.specs.declared.fault.QueryFault.TheVariants as fault
use Rattle.gl_query_tokens.specs.declared.token.Lexeme.{Lexeme}
use Rattle.gl_query_reader.specs.declared.limits.Counts.{Counts}
use Rattle.gl_query_reader.specs.declared.parsing.ReadFault.{ReadFault}
use Rattle.gl_query_reader.specs.declared.parsing.ReadFault.TheVariants.{Syntax, TooDeep, Memory}
use Rattle.gl_query_reader.specs.declared.written.WrittenStatement.{WrittenStatement}
use Rattle.gl_query_reader.specs.Written.{Statement}
use Rattle.gl_query_reader.specs.States.{Frame, State}
use Rattle.gl_query_reader.specs.Machine.{step, finish}
use Rattle.gl_query_reader.specs.Limits.{after, is_past}
use Rattle.gl_query_reader.specs.declared.state.Control.{Control}
use Rattle.gl_query_reader.specs.Trees.{statement_of, state_of}
use Rattle.gl_query_reader.specs.Meaning.{statement_meaning}
use Rattle.gl_query.specs.Trees.{StatementTree, statement_tree}
use Rattle.gl_query_reader.specs.Mixed.{mixed_in}

-- a statement that is there, or else a fault of the grammar at this place
abbrev pub or_syntax : Option Statement → ℕ → Result Statement ReadFault
or_syntax None at = Err (Syntax at)
or_syntax (Some s) at = Ok s

-- goes on where the token stands and no limit is passed
abbrev pub checked : ℕ → Option State → Bool → (State → Result Statement ReadFault) → Result Statement ReadFault
checked at None past next = Err (Syntax at)
checked at (Some s) past next = if past then Err (TooDeep at) else next s

-- the statement of the tokens behind a state, or the first fault; a text that ends too soon is at fault at its length
unfoldable pub run : ℕ → Counts → State → List Lexeme → Result Statement ReadFault
run len n s [] = or_syntax (finish s) len
run len n s (l ∷ ls) = checked l.at (step s l.token) (is_past (after n l.token)) (λ s'. run len (after n l.token) s' ls)

-- what a function returned is what reading gives, unless memory ran out
abbrev pub Fails : ReadFault → Result Statement ReadFault → Type 0
Fails Memory read = Unit {0}
Fails (Syntax at) read = read ≡ Err (Syntax at)
Fails (TooDeep at) read = read ≡ Err (TooDeep at)

-- what code answers is what reading the text gives; want of memory may come with any text
abbrev pub Gives : Result WrittenStatement ReadFault → Result Statement ReadFault → Type 0
Gives (Ok s) read = read ≡ Ok (statement_of s)
Gives (Err e) read = Fails e read

-- a token leads to a place in these frames, or shows a fault
abbrev pub StepGives : ℕ → Option State → Bool → List Frame → Result Control ReadFault → Type 0
StepGives at next past fs (Ok c) = (next ≡ Some (state_of c fs)) × (past ≡ false)
StepGives at next past fs (Err (Syntax a)) = (a ≡ at) × (next ≡ None)
StepGives at next past fs (Err (TooDeep a)) = (a ≡ at) × (is_some next ≡ true) × (past ≡ true)
StepGives at next past fs (Err Memory) = Unit {0}

-- what is answered of a statement that is written
abbrev pub with_items : Option ℕ → Statement → Result StatementTree QueryFault
with_items None w = Ok (statement_meaning w)
with_items (Some at) w = Err (fault.MixedItems at)

-- what is answered of what was read
abbrev pub answered : Result Statement ReadFault → Result StatementTree QueryFault
answered (Ok w) = with_items (mixed_in w.query) w
answered (Err (Syntax at)) = Err (fault.Syntax at)
answered (Err (TooDeep at)) = Err (fault.TooDeep at)
answered (Err Memory) = Err fault.Memory

-- what a function returned is this answer, unless memory ran out
abbrev pub Answers : Result tree.Statement QueryFault → Result StatementTree QueryFault → Type 0
Answers (Ok s) r = r ≡ Ok (statement_tree s)
Answers (Err fault.Memory) r = Unit {0}
Answers (Err e) r = r ≡ Err e
