-- How long the text of a netlist may be.
use Rattle.std.specs.Prelude.{ℕ, ◌+◌, ◌*◌, ◌≤◌, [], length, unwrap_or, nat_le, if◌then◌else◌}
use Rattle.std.specs.List.{sum_by}
use Rattle.gl_net.specs.declared.node.Port.{Port}
use Rattle.gl_net.specs.Net.{Net}

-- a port has a line in the head, and an output an assignment that shows its node: the name twice, and 120 bytes around
-- it
abbrev pub port_bytes : Port → ℕ
port_bytes p = 120 + 2 * length p.name

-- the titles of the three parts, `module` and the brackets behind its name, the clock's line and `endmodule`
abbrev pub frame_bytes : ℕ
frame_bytes = 120

-- the lines in front of the module
abbrev pub header_bytes : ℕ
header_bytes = 77600

-- a node has its declaration, and what drives it; where labels are shown, names are longer and headings stand above
abbrev pub node_bytes : ℕ → ℕ
node_bytes nodes = if nat_le nodes 65536 then 1000 else 220

-- the most bytes that the text has
unfoldable pub most_bytes : Net → ℕ
most_bytes net =
    node_bytes (length net.nodes) * length net.nodes + sum_by port_bytes net.ports + length (unwrap_or net.name [])
    + header_bytes + frame_bytes

-- the text of a netlist of at most 297,000 nodes and 3,900 ports has room in 64 MiB
abbrev pub HasRoom : Net → Type 0
HasRoom net = length net.nodes ≤ 297000 → length net.ports ≤ 3900 → most_bytes net ≤ 67108864
