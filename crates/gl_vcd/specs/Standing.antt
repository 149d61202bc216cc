-- What the reader keeps, seen as what was read, and what a token does to it.
-- A middle layer, proved equal to `Reading`: no promise rests on it.
use Rattle.std.specs.Prelude.{◌≡◌, ℕ, ◌^◌, ◌<◌, ◌≤◌, Bool, true, false, List, [], map, Option, Some, None, option_and_then, option_map, Result, Ok, Err, IsOk, length, slice_get, unwrap_or}
use Rattle.std.specs.List.{AllByRecursion}
use Rattle.std.specs.Borrow.{Bor}
use Rattle.gl_bits.specs.Limits.{latest_time}
use Rattle.gl_bits.specs.Words.{IsWidth, Word}
use Rattle.gl_vcd.specs.declared.fault.VcdFault.{VcdFault}
use Rattle.gl_vcd.specs.declared.stop.Stop.{Stop}
use Rattle.gl_vcd.specs.declared.stop.Stop.TheVariants as stop
use Rattle.gl_vcd.specs.declared.signals.Signal.{Signal as Here}
use Rattle.gl_vcd.specs.declared.signals.Signals.{Signals}
use Rattle.gl_vcd.specs.declared.declaring.Stage.{Stage as Coming}
use Rattle.gl_vcd.specs.declared.declaring.Stage.TheVariants as coming
use Rattle.gl_vcd.specs.declared.declaring.Scope.{Scope as Around}
use Rattle.gl_vcd.specs.declared.declaring.Scope.TheVariants as around
use Rattle.gl_vcd.specs.declared.declaring.Declaring.{Declaring}
use Rattle.gl_vcd.specs.declared.changing.Waiting.{Waiting}
use Rattle.gl_vcd.specs.declared.changing.Waiting.TheVariants as waiting
use Rattle.gl_vcd.specs.declared.changing.Changing.{Changing}
use Rattle.gl_vcd.specs.declared.outcome.Undump.{Undump}
use Rattle.gl_vcd.specs.declared.outcome.Undump.TheVariants as undump
use Rattle.gl_vcd.specs.Lexing.{tokens_behind}
use Rattle.gl_vcd.specs.Reading.{are_bits, dump_from, dump_of, next, Reading, Scope, Stage, Step, Before, Changes, Closed, Comment, DefinitionsEnd, Open, Passed, ScopeEnd, ScopeKind, ScopeName, Section, UpscopeEnd, VarCode, VarEnd, VarName, VarRange, VarType, VarWidth, Vector}
use Rattle.gl_vcd.specs.Tokens.{Token}
use Rattle.gl_vcd.specs.Signals.{Dump, Signal, number_of_code, number_of_name, show_none, value_at}

-- ---- signals

-- a signal as the reader holds it
abbrev pub signal_of : Here → Signal
signal_of s = record { code = s.code.now; name = s.name.now; width = s.width }

-- the signals that the reader holds, in their order
abbrev pub signals_of : Signals → List Signal
signals_of s = map signal_of s.list.items

-- the words of a set, in their order
abbrev pub words_in : List (Bor (List ℕ)) → List (List ℕ)
words_in keys = map (λ k. k.now) keys

-- the number of the name of each signal is its own
abbrev pub AreNumbered : List Signal → Type 0
AreNumbered signals = (i : ℕ) (s : Signal) → slice_get signals i ≡ Some s → number_of_name signals s.name ≡ Some i

-- identifiers and names have the numbers of their signals, no two of which have one name, and each signal has 1 to 128 bits
pub record IsIndexed (s : Signals) : Type 0 where
  pub codes' : words_in s.codes.keys ≡ map (λ x. x.code) (signals_of s)
  pub names' : words_in s.names.keys ≡ map (λ x. x.name) (signals_of s)
  pub widths' : AllByRecursion (λ x. IsWidth x.width) (signals_of s)
  pub apart' : AreNumbered (signals_of s)

-- the reader stopped at a fault of the text, and not for want of memory
abbrev pub is_fault : Stop → Bool
is_fault stop.Memory = false
is_fault (stop.Fault fault) = true

-- ---- declarations

-- where the reader of declarations stands, as the spec names it
abbrev pub stage_of : Coming → Stage
stage_of coming.Section = Section
stage_of coming.Passed = Passed
stage_of coming.ScopeKind = ScopeKind
stage_of coming.ScopeName = ScopeName
stage_of coming.ScopeEnd = ScopeEnd
stage_of coming.UpscopeEnd = UpscopeEnd
stage_of coming.VarType = VarType
stage_of coming.VarWidth = VarWidth
stage_of (coming.VarCode width) = VarCode width
stage_of (coming.VarName width code) = VarName width code.now
stage_of (coming.VarRange signal) = VarRange (signal_of signal)
stage_of (coming.VarEnd signal) = VarEnd (signal_of signal)
stage_of coming.DefinitionsEnd = DefinitionsEnd
stage_of coming.Changes = Changes

-- how far the one scope has come, as the spec names it
abbrev pub scope_of : Around → Scope
scope_of around.Before = Before
scope_of around.Open = Open
scope_of around.Closed = Closed

-- what was read while the declarations last: signals alone, and neither time nor change
abbrev pub declaring_of : Declaring → Reading
declaring_of d = record {
  stage = stage_of d.stage;
  scope = scope_of d.scope;
  signals = signals_of d.signals;
  time = None;
  changes = [];
}

-- a signal has 1 to 128 bits, and an identifier and a name that none of these has
pub record IsNew (all : List Signal) (s : Signal) : Type 0 where
  pub width' : IsWidth s.width
  pub code' : number_of_code all s.code ≡ None
  pub name' : number_of_name all s.name ≡ None

-- so much is known of a signal that is begun, and of all signals behind the last
abbrev pub IsNewAt : List Signal → Stage → Type 0
IsNewAt all (VarCode width) = IsWidth width
IsNewAt all (VarName width code) = IsWidth width × (number_of_code all code ≡ None)
IsNewAt all (VarRange signal) = IsNew all signal
IsNewAt all (VarEnd signal) = IsNew all signal
IsNewAt all DefinitionsEnd = show_none all ≡ false
IsNewAt all Changes = show_none all ≡ false
IsNewAt all _ = Unit {0}

-- the reader of declarations is sound: its signals are numbered, and what it has begun is new among them
pub record CanDeclare (d : Declaring) : Type 0 where
  pub indexed : IsIndexed d.signals
  pub new : IsNewAt (signals_of d.signals) (stage_of d.stage)

-- what a token did to the declarations, where this is said of it, and no memory was taken
abbrev pub Declares : Step → Declaring → Result (Unit {0}) VcdFault → Type 0
Declares said new (Ok u) = (said ≡ Ok (declaring_of new)) × CanDeclare new
Declares said new (Err fault) = said ≡ Err fault

-- a fault of a token, as why reading stops
abbrev pub stop_of : Result (Unit {0}) VcdFault → Result (Unit {0}) Stop
stop_of (Ok u) = Ok u
stop_of (Err fault) = Err (stop.Fault fault)

-- what a token did where memory may be taken; want of it says nothing
abbrev pub DeclaresOrStops : Step → Declaring → Result (Unit {0}) Stop → Type 0
DeclaresOrStops said new (Ok u) = Declares said new (Ok u)
DeclaresOrStops said new (Err (stop.Fault fault)) = Declares said new (Err fault)
DeclaresOrStops said new (Err stop.Memory) = Unit {0}

-- ---- changes

-- where the reader of changes stands, as the spec names it
abbrev pub waiting_of : Waiting → Stage
waiting_of waiting.Change = Changes
waiting_of waiting.Comment = Comment
waiting_of (waiting.Code at digits) = Vector at digits.now

-- the time that has come, 0 before the first
abbrev pub now_of : Reading → ℕ
now_of r = unwrap_or r.time 0

-- the value that a signal of this number has
abbrev pub bits_in : List (Option Word) → ℕ → Option ℕ
bits_in values i = option_and_then (option_map (λ w. w.bits)) (slice_get values i)

-- each value has room in its signal
abbrev pub HaveRoom : List Signal → List (Option Word) → Type 0
HaveRoom signals values =
    (i v : ℕ) (s : Signal) → slice_get signals i ≡ Some s → bits_in values i ≡ Some v → v < 2 ^ s.width

-- what is held of a change that is begun are binary digits
abbrev pub HoldsBits : Waiting → Type 0
HoldsBits (waiting.Code at digits) = are_bits digits.now ≡ true
HoldsBits _ = Unit {0}

-- there is a place for the value of each signal
pub record IsReady (c : Changing) : Type 0 where
  pub indexed : IsIndexed c.signals.now
  pub long : length c.values.items ≡ length (signals_of c.signals.now)
  pub room : HaveRoom (signals_of c.signals.now) c.values.items
  pub bits : HoldsBits c.waits

-- a token leaves the signals as they are, and the time does not fall
pub record GoesOn (old new : Changing) : Type 0 where
  pub signals' : new.signals ≡ old.signals
  pub later : unwrap_or old.time 0 ≤ unwrap_or new.time 0
  pub ready : IsReady new

-- of what was read this keeps the last value of each signal
pub record Holds (r : Reading) (c : Changing) : Type 0 where
  pub signals' : r.signals ≡ signals_of c.signals.now
  pub time' : r.time ≡ c.time
  pub early : AllByRecursion (λ x. x.time ≤ now_of r) r.changes
  pub late : now_of r ≤ latest_time
  pub values' : (i : ℕ) → i < length c.values.items → bits_in c.values.items i ≡ value_at r.changes i (now_of r)

-- what is held agrees with what was read, and so does what may come next
pub record Keeps (r : Reading) (c : Changing) : Type 0 where
  pub stage' : r.stage ≡ waiting_of c.waits
  pub holds : Holds r c

-- what a token did to the changes
pub record KeepsNext (said : Step) (c : Changing) : Type 0 where
  pub read : Reading
  pub says : said ≡ Ok read
  pub keeps : Keeps read c

-- what a token did to the changes agrees with the spec: a reading that is kept, or the fault
abbrev pub Changed : Step → Changing → Result (Unit {0}) VcdFault → Type 0
Changed said new (Ok u) = KeepsNext said new
Changed said new (Err fault) = said ≡ Err fault

-- some reading that it keeps goes on over a token, or over these tokens to the end of a text of this length
pub record Takes (c : Changing) (t : Token) : Type 0 where
  pub read : Reading
  pub keeps : Keeps read c
  pub behind : Reading
  pub says : next read t ≡ Ok behind

-- the reader of changes keeps a reading from which the tokens left give a dump
pub record IsJudged (len : ℕ) (ts : List Token) (c : Changing) : Type 0 where
  pub read : Reading
  pub keeps : Keeps read c
  pub tells : IsOk (dump_from len ts read)

-- the declarations are read, of these signals, and no change
pub record IsBehind (signals : List Signal) (r : Reading) : Type 0 where
  pub stage' : r.stage ≡ Changes
  pub signals' : r.signals ≡ signals
  pub time' : r.time ≡ None
  pub changes' : r.changes ≡ []

-- what the end of the text is judged to be
abbrev pub Ended : Result Dump VcdFault → Result (Unit {0}) VcdFault → Type 0
Ended said (Ok u) = IsOk said
Ended said (Err fault) = said ≡ Err fault

-- ---- the text

-- the declarations were read up to this place
pub record IsDeclared (text : List ℕ) (d : Declaring) (from : ℕ) : Type 0 where
  pub inside : from ≤ length text
  pub indexed : IsIndexed d.signals
  pub shows : show_none (signals_of d.signals) ≡ false
  pub read : Reading
  pub behind : IsBehind (signals_of d.signals) read
  pub same : dump_of text ≡ dump_from (length text) (tokens_behind text from) read

-- what reading the declarations comes to
abbrev pub Declared : List ℕ → Declaring → Result ℕ Stop → Type 0
Declared text d (Ok from) = IsDeclared text d from
Declared text d (Err (stop.Fault fault)) = dump_of text ≡ Err fault
Declared text d (Err stop.Memory) = Unit {0}

-- what judging the changes comes to
abbrev pub Judged : Result Dump VcdFault → Result (Unit {0}) Stop → Type 0
Judged said (Ok u) = IsOk said
Judged said (Err (stop.Fault fault)) = said ≡ Err fault
Judged said (Err stop.Memory) = Unit {0}

-- the answer where reading stops
abbrev pub undump_of : Stop → Undump
undump_of (stop.Fault fault) = undump.Fault fault
undump_of stop.Memory = undump.Memory
