-- Registers with reset values, from the reset cycle on, and what counters make of their values.
use Rattle.std.specs.Prelude.{ℕ, zero, suc, ◌+◌, ◌-◌, Bool, true, false, if◌then◌else◌, nat_eq}
use Rattle.gl_net.specs.declared.node.Bus.{Bus}
use Rattle.gl_net.specs.Net.{Run}
use Rattle.gl_wire.specs.Costs.{Cost}

-- what a register carries; in the reset cycle it counts as what reset gives it
unfoldable pub held_at : ℕ → Run → Bus → ℕ → ℕ
held_at reset run b zero = reset
held_at reset run b (suc t) = run.at (suc t) b.node

-- a counter that goes down to 0 and begins anew at a number, or at another one where a line is 1
abbrev pub counted_down : ℕ → ℕ → Bool → Bool → ℕ → ℕ
counted_down cleared again true tick v = cleared
counted_down cleared again false true v = if nat_eq v 0 then again else (v - 1)
counted_down cleared again false false v = v

-- a pointer that goes up to the last of some and begins anew
abbrev pub turned : ℕ → Bool → ℕ → ℕ
turned last false v = v
turned last true v = if nat_eq v last then 0 else (v + 1)

-- so many nodes, and registers of so many bits
abbrev pub with_registers : ℕ → ℕ → Cost
with_registers n bits = record { nodes = n; registers = bits; memories = 0 }
