-- Beats reset a netlist in cycle 0 alone.
use Rattle.std.proofs.Common.{◌≡◌, ℕ, suc, sym, ap, ◌∙◌}
use Rattle.std.specs.Prelude.{nat_eq}
use Rattle.gl_schema.specs.declared.schema.Schema.{Schema}
use Rattle.gl_schema.specs.Beats.{Beats}
use Rattle.gl_schema.specs.Ports.{IsStimulus, rst}
use Rattle.gl_net.specs.declared.node.Direction.TheVariants.{In}
use Rattle.gl_net.specs.Net.{Net, Run, IsTrace, IsReset, IsPort}
use Rattle.gl_net.specs.Finished.{HasReset}
use Rattle.gl_net.specs.PortValues.{input_values}
use Rattle.gl_wiring.proofs.Outputs.{AreApart, input_is, has_input}
use Rattle.gl_wiring.proofs.Following.{carried}

-- the reset input carries 1 in cycle 0, and 0 from then on
reset_first : (schema : Schema) (beats : Beats) (net : Net) (run : Run) (n : ℕ) → AreApart net → IsPort net In rst n → IsStimulus schema beats (input_values net run) → run.at 0 n ≡ 1
reset_first schema beats net run n apart port stimulus =
    sym (input_is net run 0 rst n apart port) ∙ carried (input_values net run) 0 rst 1 (has_input net run rst n apart port) (stimulus.carries 0).0

reset_later : (schema : Schema) (beats : Beats) (net : Net) (run : Run) (n t : ℕ) → AreApart net → IsPort net In rst n → IsStimulus schema beats (input_values net run) → run.at (suc t) n ≡ 0
reset_later schema beats net run n t apart port stimulus =
    sym (input_is net run (suc t) rst n apart port) ∙ carried (input_values net run) (suc t) rst 0 (has_input net run rst n apart port) (stimulus.carries (suc t)).0

pub is_reset : (schema : Schema) (beats : Beats) (net : Net) (run : Run) → AreApart net → HasReset net → IsTrace net run → IsStimulus schema beats (input_values net run) → IsReset run
unfolding rst
is_reset schema beats net run apart reset trace stimulus = record {
  first = trace.line reset.node reset.port 0 ∙ ap (λ (v : ℕ). nat_eq v 1) (reset_first schema beats net run reset.node apart reset.port stimulus);
  later = λ t. trace.line reset.node reset.port (suc t) ∙ ap (λ (v : ℕ). nat_eq v 1) (reset_later schema beats net run reset.node t apart reset.port stimulus);
}
