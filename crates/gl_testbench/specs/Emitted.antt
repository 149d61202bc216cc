-- What emitting a netlist gives.
use Rattle.std.specs.Prelude.{◌≡◌, ◌≤◌, Bool, List, length}
use Rattle.gl_bits.specs.Limits.{most_weight}
use Rattle.gl_schema.specs.declared.schema.Schema.{Schema}
use Rattle.gl_schema.specs.Profile.{ProfilePort}
use Rattle.gl_schema.specs.Schemas.{IsSchema}
use Rattle.gl_net.specs.Net.{Net, memory_bits_of, register_bits_of, size_of}
use Rattle.gl_verilog_writer.specs.Size.{most_bytes}
use Rattle.gl_testbench.specs.declared.emitting.Emitted.{Emitted}
use Rattle.gl_testbench.specs.Emission.{IsEmission, TakesBeats}

-- the text of a netlist, whichever schema's beats it takes, its bits of registers and of memories, and no more bytes
-- than its nodes and ports account for: at most 64 MiB where it is no larger than a plan may weigh and has at most 3,900
-- ports
pub record IsEmitted (net : Net) (made : Emitted) : Type 0 where
  pub text : (ticks : Bool) (schema : Schema) (outputs : List ProfilePort) → IsSchema schema
      → TakesBeats ticks schema outputs net → IsEmission net schema made.text.items
  pub registers : made.cost.registers ≡ register_bits_of net
  pub memories : made.cost.memories ≡ memory_bits_of net
  pub short : length made.text.items ≤ most_bytes net
  pub fits : size_of net ≤ most_weight → length net.ports ≤ 3900 → length made.text.items ≤ 67108864
