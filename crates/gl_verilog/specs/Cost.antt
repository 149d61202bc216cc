-- What a module costs: the register bits and the memory bits that it declares.
use Rattle.std.specs.Prelude.{ℕ, ◌*◌, ◌^◌}
use Rattle.std.specs.List.{sum_by}
use Rattle.gl_verilog.specs.Module.{Kind, OutputRegister, Register, Memory, Module}

-- a register costs one bit for each bit of its width; wires, inputs and memories cost no register bit
abbrev pub register_bits_of : Kind → ℕ → ℕ
register_bits_of OutputRegister width = width
register_bits_of Register width = width
register_bits_of _ width = 0

-- a memory costs its width for each of its words; what is no memory costs no memory bit
abbrev pub memory_bits_of : Kind → ℕ → ℕ
memory_bits_of (Memory address_bits) width = 2 ^ address_bits * width
memory_bits_of _ width = 0

-- the bits of all registers, output registers included
abbrev pub register_bits : Module → ℕ
register_bits m = sum_by (λ d. register_bits_of d.kind d.width) m.declarations

-- the bits of all memories
abbrev pub memory_bits : Module → ℕ
memory_bits m = sum_by (λ d. memory_bits_of d.kind d.width) m.declarations
