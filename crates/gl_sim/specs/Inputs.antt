-- Inputs put on their ports.
use Rattle.std.specs.Prelude.{ℕ, List, [], ◌∷◌}
use Rattle.gl_verilog.specs.Module.{Nets}
use Rattle.gl_verilog.specs.Order.{with_net}

-- each port has its input, all else is as before
abbrev pub with_inputs : List ℕ → List ℕ → Nets → Nets
with_inputs [] inputs v = v
with_inputs (p ∷ ports) [] v = v
with_inputs (p ∷ ports) (x ∷ inputs) v = with_inputs ports inputs (with_net v p x)
