use Rattle.std.proofs.Common.{inl, inr}
use Rattle.gl_verilog_faults.proofs.Exact.{valid_or_broken}
use Rattle.gl_verilog_faults.proofs.laws.valid_or_broken.Goals as goal

pub returns : goal.returns
returns c = λ w g. elim (valid_or_broken w g) [
  | inl v ↦ inl (record { meant = v.0; resolved = v.1; valid = v.2 })
  | inr b ↦ inr b
]
