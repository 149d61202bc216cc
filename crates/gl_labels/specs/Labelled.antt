-- How many nodes of a netlist have labels.
use Rattle.std.specs.Prelude.{ℕ, nat_le, if◌then◌else◌}

-- each has one, up to 65,536 nodes; where there are more, none has
abbrev pub labelled_of : ℕ → ℕ
labelled_of nodes = if nat_le nodes 65536 then nodes else 0
