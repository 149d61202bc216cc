-- What is answered for a written module: the valid one that it means, or the first rule that it breaks.
use Rattle.std.specs.Prelude.{◌≡◌, ℕ, true, Some, Result, Ok, Err}
use Rattle.gl_verilog.specs.Module as spec
use Rattle.gl_verilog.specs.Written.{WrittenModule}
use Rattle.gl_verilog.specs.Resolve.{resolve}
use Rattle.gl_verilog.specs.Valid.{IsValid}
use Rattle.gl_verilog.specs.View.{module_of}
use Rattle.gl_verilog.specs.declared.module.Module.{Module}
use Rattle.gl_verilog_faults.specs.Demands.{Loop}
use Rattle.gl_verilog_faults.specs.Faults.{IsBroken}
use Rattle.gl_verilog_elaborator.specs.declared.stop.Stop.{Stop}
use Rattle.gl_verilog_elaborator.specs.Judged.{Broken}
use Rattle.gl_verilog_elaborator.specs.View.{is_broken, broken_of}

-- what is told of a loop, at a token
abbrev pub looped_at : ℕ → Broken
looped_at token = record { rule = Loop; token = token }

-- a valid module is what is meant
pub record IsMeant (w : WrittenModule) (m : spec.Module) : Type 0 where
  pub resolved : resolve w ≡ Some m
  pub valid : IsValid m

-- exactly the valid module that is meant, where there is one; else the first rule that is broken, at its token; want of
-- memory aside
abbrev pub IsElaboration : WrittenModule → Result Module Stop → Type 0
IsElaboration w (Ok m) = IsMeant w (module_of m)
IsElaboration w (Err e) = is_broken e ≡ true → IsBroken w (broken_of e).rule (broken_of e).token
