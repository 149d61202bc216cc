-- What is answered for a text that has no module.
use Rattle.std.specs.Prelude.{◌≡◌, ℕ, List, Some, Result, Ok, Err, slice_get}
use Rattle.gl_verilog.specs.Written.{WrittenModule}
use Rattle.gl_verilog.specs.View.{module_of}
use Rattle.gl_verilog.specs.declared.module.Module.{Module}
use Rattle.gl_verilog_faults.specs.Demands.{Rule, Undeclared, TwiceDeclared, TwiceDriven, NeverDriven, WidthsDiffer, Loop, BadMemory, ClockRead, TooWide, BadTarget}
use Rattle.gl_verilog_faults.specs.Faults.{IsSyntaxFault, IsDepthFault, IsJudgedFault, IsBroken}
use Rattle.gl_verilog_tokens.specs.declared.fault.VerilogFault.{VerilogFault}
use Rattle.gl_verilog_tokens.specs.declared.fault.VerilogFault.TheVariants as fault
use Rattle.gl_verilog_elaborator.specs.Meant.{IsMeant}

-- the fault of a rule at a place
abbrev pub fault_as : Rule → ℕ → VerilogFault
fault_as Undeclared at = fault.Undeclared at
fault_as TwiceDeclared at = fault.TwiceDeclared at
fault_as TwiceDriven at = fault.TwiceDriven at
fault_as NeverDriven at = fault.NeverDriven at
fault_as WidthsDiffer at = fault.WidthsDiffer at
fault_as Loop at = fault.Loop at
fault_as BadMemory at = fault.BadMemory at
fault_as ClockRead at = fault.ClockRead at
fault_as TooWide at = fault.TooWide at
fault_as BadTarget at = fault.BadTarget at

-- by the rules alone, what each fault says; want of memory says nothing
abbrev pub ByRules : (Rule → ℕ → Type 0) → VerilogFault → Type 0
ByRules Says fault.Memory = Unit {0}
ByRules Says (fault.Undeclared at) = Says Undeclared at
ByRules Says (fault.TwiceDeclared at) = Says TwiceDeclared at
ByRules Says (fault.TwiceDriven at) = Says TwiceDriven at
ByRules Says (fault.NeverDriven at) = Says NeverDriven at
ByRules Says (fault.WidthsDiffer at) = Says WidthsDiffer at
ByRules Says (fault.Loop at) = Says Loop at
ByRules Says (fault.BadMemory at) = Says BadMemory at
ByRules Says (fault.ClockRead at) = Says ClockRead at
ByRules Says (fault.TooWide at) = Says TooWide at
ByRules Says (fault.BadTarget at) = Says BadTarget at
ByRules Says (fault.Syntax at) = ⊥
ByRules Says (fault.TooDeep at) = ⊥
ByRules Says (fault.BadPort at) = ⊥

-- the first fault of a text, kind and place
abbrev pub IsFaultIn : List ℕ → VerilogFault → Type 0
IsFaultIn text (fault.Syntax at) = IsSyntaxFault text at
IsFaultIn text (fault.TooDeep at) = IsDepthFault text at
IsFaultIn text e = ByRules (IsJudgedFault text) e

-- a token with this place shows that a rule is broken
abbrev pub Shows : List ℕ → WrittenModule → Rule → ℕ → Type 0
Shows places w rule at = (token : ℕ) × (slice_get places token ≡ Some at) × IsBroken w rule token

-- the valid module that a written one means, or the first rule that it breaks
abbrev pub IsJudged : List ℕ → WrittenModule → Result Module VerilogFault → Type 0
IsJudged places w (Ok m) = IsMeant w (module_of m)
IsJudged places w (Err e) = ByRules (Shows places w) e
