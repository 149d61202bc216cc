-- Memories whose words have addresses of few bits.
use Rattle.std.specs.Prelude.{◌≡◌, ℕ, ◌≤◌, List, Some, slice_get}
use Rattle.gl_net.specs.declared.node.Node.{Node}
use Rattle.gl_net.specs.declared.node.Node.TheVariants.{Memory}

-- a memory's addresses have at most 32 bits
abbrev pub IsAddressed : Node → Type 0
IsAddressed (Memory bits width drive) = bits ≤ 32
IsAddressed _ = Unit {0}

-- every memory among the nodes has addresses of few bits
abbrev pub AreAddressed : List Node → Type 0
AreAddressed nodes = (n : ℕ) (x : Node) → slice_get nodes n ≡ Some x → IsAddressed x
