-- From the runs of the module that was read to each run of the text's module.
use Rattle.std.proofs.Common.{◌≡◌, ℕ, List, sym, subst}
use Rattle.std.specs.List.{AllByRecursion}
use Rattle.gl_schema.specs.declared.schema.Schema.{Schema}
use Rattle.gl_schema.specs.Beats.{Beats}
use Rattle.gl_schema.specs.Ports.{PortValues}
use Rattle.gl_verilog.specs.Module.{Module}
use Rattle.gl_verilog.specs.declared.module.Module.{Module as Rust}
use Rattle.gl_verilog.specs.Run.{port_of}
use Rattle.gl_verilog.specs.Text.{HasModule}
use Rattle.gl_verilog.specs.View.{module_of}
use Rattle.gl_verilog.specs.declared.start.Start.{Start}
use Rattle.gl_outside.specs.States.{SinkState}
use Rattle.gl_runner.specs.declared.executing.Outcome.{Outcome}
use Rattle.gl_runner.specs.declared.executing.Outcome.TheVariants.{Done, WriteFault, Memory}
use Rattle.gl_runner.specs.declared.faces.Face.{Face}
use Rattle.gl_runner.specs.Cycles.{CanDrive}
use Rattle.gl_runner.specs.Faces.{HasFace}
use Rattle.gl_runner.specs.Prints.{IsRunOver}
use Rattle.gl_runner.specs.Several.{AllEndWithin, OfTimelyFaces, RanAll, WritesAll, WritesAllFront}
use Rattle.gl_many.specs.Runs.{CanRunAll, OfAllRuns}

-- a text has one module
abbrev HasOne : List ℕ → Type 0
HasOne text = (m n : Module) → HasModule text m → HasModule text n → m ≡ n

module _ (text : List ℕ) (schema : Schema) (faces : List Face) (beats : Beats) (latency : ℕ) (start : Start) (d : Rust)
    (one : HasOne text) (can : CanRunAll text schema faces beats latency start) (has : HasModule text (module_of d)) where
  -- the module that was read is the one that can run
  mine : can.design ≡ module_of d
  mine = one can.design (module_of d) can.has has

  pub can_drive : CanDrive (module_of d) schema beats
  can_drive = subst (λ (m : Module). CanDrive m schema beats) mine can.drive

  pub have_faces : AllByRecursion (HasFace (module_of d)) faces
  have_faces = subst (λ (m : Module). AllByRecursion (HasFace m) faces) mine can.faces'

  -- in each run of the text's module the ends come in time
  of_all_runs : (P : PortValues → Type 0) → OfTimelyFaces latency (module_of d) schema beats start faces P → OfAllRuns text schema beats start P
  of_all_runs P h = λ m value word its run.
      let this : m ≡ module_of d = one m (module_of d) its has in
      let over : IsRunOver (module_of d) schema beats start value word = subst (λ (x : Module). IsRunOver x schema beats start value word) this run in
      let ends : AllEndWithin latency beats faces (port_of (module_of d) value) =
      subst (λ (x : Module). AllEndWithin latency beats faces (port_of x value)) mine (can.end value word (subst (λ (x : Module). IsRunOver x schema beats start value word) (sym mine) over)) in
      subst (λ (x : Module). P (port_of x value)) (sym this) (h value word over ends)

  -- how the run of the text's module ended is how each run of the text did
  pub ran_all : (old new : SinkState) (r : Outcome) → RanAll (OfTimelyFaces latency (module_of d) schema beats start faces) faces beats old new r
      → RanAll (OfAllRuns text schema beats start) faces beats old new r
  ran_all old new Done h = (h.0, of_all_runs (λ port. WritesAll faces beats port old.taken new.taken) h.1)
  ran_all old new WriteFault h = (h.0, of_all_runs (λ port. WritesAllFront faces beats port old.taken new.taken) h.1)
  ran_all old new Memory h = h
