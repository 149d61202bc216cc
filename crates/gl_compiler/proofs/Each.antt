-- From the runs of the module that was read to each run of the text's module.
use Rattle.std.proofs.Common.{◌≡◌, ℕ, List, sym, subst, map}
use Rattle.std.specs.Prelude.{IsOk}
use Rattle.gl_values.specs.declared.kind.Kind.{Kind}
use Rattle.gl_values.specs.Kinds.{width_of}
use Rattle.gl_schema.specs.declared.schema.Schema.{Schema}
use Rattle.gl_schema.specs.Beats.{Beats, AreBeats}
use Rattle.gl_schema.specs.Ports.{PortValues}
use Rattle.gl_verilog.specs.Module.{Module}
use Rattle.gl_verilog.specs.declared.module.Module.{Module as Rust}
use Rattle.gl_verilog.specs.Run.{port_of}
use Rattle.gl_verilog.specs.Text.{HasModule}
use Rattle.gl_verilog.specs.View.{module_of}
use Rattle.gl_verilog.specs.declared.start.Start.{Start}
use Rattle.gl_outside.specs.States.{SinkState}
use Rattle.gl_runner.specs.declared.executing.Outcome.{Outcome}
use Rattle.gl_runner.specs.declared.executing.Outcome.TheVariants.{Done, WriteFault, Memory}
use Rattle.gl_runner.specs.Cycles.{CanFollow, OfTimely}
use Rattle.gl_runner.specs.Dumps.{Dumped, DumpsFront, DumpsWhole, OfEachPorts, OfTimelyPorts}
use Rattle.gl_runner.specs.Prints.{CanRun, EndsWithin, IsRunOver, OfEachRun, Ran, Writes, WritesFront}
use Rattle.gl_verilog_ports.specs.Fit.{fit_of}
use Rattle.gl_verilog_ports.specs.Profile.{HasInputPorts, result_names, result_widths}
use Rattle.gl_verilog_ports.proofs.Fits.{fits_ok}

-- a text has one module
abbrev pub HasOne : List ℕ → Type 0
HasOne text = (m n : Module) → HasModule text m → HasModule text n → m ≡ n

-- the module that was read is the one that can run
pub can_follow : (text : List ℕ) (schema : Schema) (kinds : List Kind) (beats : Beats) (latency : ℕ) (start : Start) (d : Rust) → HasOne text → HasInputPorts (module_of d)
    → CanRun text schema kinds beats latency start → HasModule text (module_of d) → AreBeats schema beats → CanFollow (module_of d) schema kinds beats
can_follow text schema kinds beats latency start d one inputs can has are =
    let mine : can.design ≡ module_of d = one can.design (module_of d) can.has has in
    record {
      valid = has.valid;
      inputs = inputs;
      fits = fits_ok (module_of d) schema has.valid.names inputs (subst (λ (m : Module). IsOk (fit_of m schema)) mine can.fits);
      widths = subst (λ (m : Module). result_widths m ≡ map width_of kinds) mine can.widths;
      beats' = are;
    }

-- each run of the text's module ends in time
pub of_each_run : (text : List ℕ) (schema : Schema) (kinds : List Kind) (beats : Beats) (latency : ℕ) (start : Start) (d : Rust) (Q : List (List ℕ) → PortValues → Type 0) → HasOne text → CanRun text schema kinds beats latency start → HasModule text (module_of d)
    → OfTimely latency (module_of d) schema beats start Q → OfEachRun text schema beats start Q
of_each_run text schema kinds beats latency start d Q one can has h = λ m value word its run.
    let this : m ≡ module_of d = one m (module_of d) its has in
    let mine : module_of d ≡ can.design = one (module_of d) can.design has can.has in
    let over : IsRunOver (module_of d) schema beats start value word = subst (λ (x : Module). IsRunOver x schema beats start value word) this run in
    let ends : EndsWithin latency beats (result_names (module_of d)) (port_of (module_of d) value) =
    subst (λ (x : Module). EndsWithin latency beats (result_names x) (port_of x value)) (sym mine) (can.ends value word (subst (λ (x : Module). IsRunOver x schema beats start value word) mine over)) in
    subst (λ (x : Module). Q (result_names x) (port_of x value)) (sym this) (h value word over ends)

-- how the dump of the text's module ended is how that of each run of the text did
pub of_each_ports : (text : List ℕ) (schema : Schema) (kinds : List Kind) (beats : Beats) (latency : ℕ) (start : Start) (d : Rust) (Q : Module → PortValues → Type 0) → HasOne text → CanRun text schema kinds beats latency start → HasModule text (module_of d)
    → OfTimelyPorts latency (module_of d) schema beats start Q → OfEachPorts text schema beats start Q
of_each_ports text schema kinds beats latency start d Q one can has h = λ m value word its run.
    let this : m ≡ module_of d = one m (module_of d) its has in
    let mine : module_of d ≡ can.design = one (module_of d) can.design has can.has in
    let over : IsRunOver (module_of d) schema beats start value word = subst (λ (x : Module). IsRunOver x schema beats start value word) this run in
    let ends : EndsWithin latency beats (result_names (module_of d)) (port_of (module_of d) value) =
    subst (λ (x : Module). EndsWithin latency beats (result_names x) (port_of x value)) (sym mine) (can.ends value word (subst (λ (x : Module). IsRunOver x schema beats start value word) mine over)) in
    subst (λ (x : Module). Q x (port_of x value)) (sym this) (h value word over ends)

pub dumped_each : (text : List ℕ) (schema : Schema) (kinds : List Kind) (beats : Beats) (latency : ℕ) (start : Start) (d : Rust) (old new : SinkState) (r : Outcome) → HasOne text → CanRun text schema kinds beats latency start → HasModule text (module_of d)
    → Dumped (OfTimelyPorts latency (module_of d) schema beats start) beats old new r → Dumped (OfEachPorts text schema beats start) beats old new r
dumped_each text schema kinds beats latency start d old new Done one can has h = (h.0, of_each_ports text schema kinds beats latency start d (λ m port. DumpsWhole m beats port old.taken new.taken) one can has h.1)
dumped_each text schema kinds beats latency start d old new WriteFault one can has h = (h.0, of_each_ports text schema kinds beats latency start d (λ m port. DumpsFront m beats port old.taken new.taken) one can has h.1)
dumped_each text schema kinds beats latency start d old new Memory one can has h = h

-- how the run of the text's module ended is how each run of the text did
pub ran_each : (text : List ℕ) (schema : Schema) (kinds : List Kind) (beats : Beats) (latency : ℕ) (start : Start) (d : Rust) (old new : SinkState) (r : Outcome) → HasOne text → CanRun text schema kinds beats latency start → HasModule text (module_of d)
    → Ran (OfTimely latency (module_of d) schema beats start) kinds beats old new r → Ran (OfEachRun text schema beats start) kinds beats old new r
ran_each text schema kinds beats latency start d old new Done one can has h = (h.0, of_each_run text schema kinds beats latency start d (λ outs port. Writes kinds beats outs port old.taken new.taken) one can has h.1)
ran_each text schema kinds beats latency start d old new WriteFault one can has h = (h.0, of_each_run text schema kinds beats latency start d (λ outs port. WritesFront kinds beats outs port old.taken new.taken) one can has h.1)
ran_each text schema kinds beats latency start d old new Memory one can has h = h
