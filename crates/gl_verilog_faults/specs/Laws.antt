-- What the definitions of faults owe: the demands are validity, and the counts are the limits.
use Rattle.std.specs.Prelude.{◌≡◌, ◌⊎◌, ◌↔◌, ℕ, Some}
use Rattle.gl_verilog.specs.Module.{Module}
use Rattle.gl_verilog.specs.Written.{WrittenModule, IsWritten, spell}
use Rattle.gl_verilog.specs.Limits.{IsWithinLimits}
use Rattle.gl_verilog.specs.Resolve.{resolve}
use Rattle.gl_verilog.specs.Valid.{HasNoLoop, IsValid}
use Rattle.gl_verilog_faults.specs.Demands.{Rule, AreMet, demands_of}
use Rattle.gl_verilog_faults.specs.Faults.{KeepsFront, IsBroken}

-- a written module means a valid one
pub record MeansValid (w : WrittenModule) : Type 0 where
  pub meant : Module
  pub resolved : resolve w ≡ Some meant
  pub valid : IsValid meant

-- no net of what is meant depends on itself
abbrev pub MeansNoLoop : WrittenModule → Type 0
MeansNoLoop w = (m : Module) → resolve w ≡ Some m → HasNoLoop m.assignments

-- where all demands are met and no net depends on itself, a valid module is meant
abbrev pub DemandsSuffice : Type 0
DemandsSuffice = (w : WrittenModule) → IsWritten w → AreMet (demands_of w) → MeansNoLoop w → MeansValid w

-- where a valid module is meant, all demands are met
abbrev pub DemandsAreNeeded : Type 0
DemandsAreNeeded = (w : WrittenModule) → MeansValid w → AreMet (demands_of w)

-- a written module means a valid one, or it breaks a rule
abbrev pub AreValidOrBroken : Type 0
AreValidOrBroken =
    (w : WrittenModule) → IsWritten w → MeansValid w ⊎ ((rule : Rule) × (token : ℕ) × IsBroken w rule token)

-- a module keeps the limits where the counts of its tokens do
abbrev pub LimitsAreCounted : Type 0
LimitsAreCounted = (w : WrittenModule) → IsWithinLimits w ↔ KeepsFront (spell w)
