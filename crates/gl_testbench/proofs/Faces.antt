-- The ports of a text's module are the clock and those of its netlist.
use Rattle.std.proofs.Common.{◌≡◌, ℕ, not, List, [], ◌∷◌, map, Some, refl, ap, subst, ◌∙◌}
use Rattle.std.specs.Prelude.{◌==◌, slice_get}
use Rattle.gl_bits.proofs.AllLists.{get_unmapped}
use Rattle.gl_schema.specs.Profile.{Direction, In, Out, ProfilePort, clk, input}
use Rattle.gl_net.specs.declared.node.Direction as circuit
use Rattle.gl_net.specs.declared.node.Direction.TheVariants as way
use Rattle.gl_net.specs.declared.node.Port.{Port}
use Rattle.gl_net.specs.Net.{Net}
use Rattle.gl_net.specs.PortValues.{port_shape, port_shapes}
use Rattle.gl_verilog.specs.Module.{Module, Declaration, Kind}
use Rattle.gl_verilog.specs.Widths.{IsNet}
use Rattle.gl_verilog_writer.specs.Meaning.{declaration_of, clock, kind_of}
use Rattle.gl_verilog_ports.specs.Profile.{declared, declared_kind, ports_of}
use Rattle.gl_testbench.specs.Emission.{port_like, profile_ports, way_of}

kind_same : (d : circuit.Direction) → kind_of d ≡ declared_kind (way_of d)
kind_same way.In = refl
kind_same way.Out = refl

-- a port is declared as that of the profile is
declared_same : (n : Net) (ports : List Port) → map (declaration_of n) ports ≡ map declared (map port_like (map (port_shape n) ports))
declared_same n [] = refl
declared_same n (p ∷ ports) =
    let s = port_shape n p in
    let one : declaration_of n p ≡ declared (port_like s) = ap (λ (k : Kind). record { name = s.name; width = s.width; is_vector = not (s.width == 1); kind = k }) (kind_same p.direction) in
    ap (λ (d : Declaration). d ∷ map (declaration_of n) ports) one ∙ ap (λ (ds : List Declaration). declared (port_like s) ∷ ds) (declared_same n ports)

pub faced : (n : Net) (m : Module) → ports_of m ≡ clock ∷ map (declaration_of n) n.ports → ports_of m ≡ map declared (input clk 1 ∷ profile_ports n)
unfolding port_shapes clk
faced n m e = e ∙ ap (λ (ds : List Declaration). clock ∷ ds) (declared_same n n.ports)

-- a port of a profile is declared as a net
pub declared_net : (ps : List ProfilePort) (n : ℕ) (d : Declaration) → slice_get (map declared ps) n ≡ Some d → IsNet d.kind
declared_net ps n d at =
    let p = get_unmapped declared ps n d at in
    subst (λ (x : Declaration). IsNet x.kind) p.2 (net p.0.direction)
  where
    net : (way : Direction) → IsNet (declared_kind way)
    net In = tt
    net Out = tt
