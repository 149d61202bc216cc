-- Choices between lines.
use Rattle.std.specs.Prelude.{ℕ, List, Bool, if◌then◌else◌}
use Rattle.gl_net.specs.declared.node.Bit.{Bit}
use Rattle.gl_net.specs.Net.{Run}
use Rattle.gl_wire.specs.Wire.{line_at}
use Rattle.gl_wire_registers.specs.Lines.{line_of}

-- one line where a test is 1, and else another
unfoldable pub chosen : Bit → Bit → Bit → Run → ℕ → Bool
chosen test left right run t = if line_at run test t then line_at run left t else line_at run right t

-- for each copy
unfoldable pub chosen_to : Bit → List Bit → List Bit → Run → ℕ → ℕ → Bool
chosen_to test left right run k t = if line_at run test t then line_of run left k t else line_of run right k t
