-- What the nodes of a netlist are as nets of its module.
use Rattle.std.proofs.Common.{◌≡◌, ℕ, ◌+◌, ◌-◌, ◌<◌, ◌≤◌, ◌^◌, List, length, Option, Some, None, refl, sym, ap, subst, ◌∙◌, arith, pow_mono, lt_of_lt_of_le}
use Rattle.std.specs.Prelude.{slice_get, option_map, IsSomeAnd}
use Rattle.std.proofs.lemmas.Option.{slice_get_within}
use Rattle.gl_bits.specs.Words.{IsWidth}
use Rattle.gl_net.specs.declared.node.Node.{Node}
use Rattle.gl_net.specs.declared.node.Node.TheVariants.{Input, Constant, Not, Binary, Choose, Join, Cut, Register, Memory, MemoryRead}
use Rattle.gl_net.specs.declared.node.Bus.{Bus}
use Rattle.gl_net.specs.declared.node.Bit.{Bit}
use Rattle.gl_net.specs.declared.node.Store.{Store}
use Rattle.gl_net.specs.declared.node.Port.{Port}
use Rattle.gl_net.specs.declared.node.Direction.{Direction}
use Rattle.gl_net.specs.Net.{Net, Shape, Value, Words, shape_of, shape_in, IsBus, IsBit, IsStore}
use Rattle.gl_net.specs.PortValues.{bits_of}
use Rattle.gl_net.specs.WellFormed.{NodeFits}
use Rattle.gl_net.proofs.Growth.{shape_there, binary_is_width}
use Rattle.gl_verilog.specs.Module as verilog
use Rattle.gl_verilog.specs.Module.{Declaration}
use Rattle.gl_verilog.specs.Widths.{IsNet, IsMemory, IsReadable, KeepsWidths, width_at}
use Rattle.gl_verilog.specs.Resolve.{number_read}
use Rattle.gl_verilog_writer.specs.Design.{node_width}
use Rattle.gl_verilog_writer.proofs.Digits.{IsPlain, name-plain}
use Rattle.gl_verilog_writer.proofs.Model.{Named, at_node, kind_for, declarations_in}
use Rattle.gl_verilog_writer.proofs.Named.{node_there, node_found}

-- every node has 1 to 128 bits
pub width-fits : (net : Net) (n : ℕ) (x : Node) → NodeFits net n x → IsWidth (node_width x)
width-fits net n (Input place w) h = h.0
width-fits net n (Constant word) h = h.width
width-fits net n (Not x) h = h.bus.width
width-fits net n (Binary o x y) h = binary_is_width o x.width h.0.bus.width
width-fits net n (Choose test x y) h = h.1.bus.width
width-fits net n (Join x y) h =
    let a = h.0.bus.width.some' in
    record { some' = (let q : 1 ≤ x.width + y.width = omega (arith, a) in q); most = h.2 }
width-fits net n (Cut x high low) h =
    let a = h.1 in let b = h.2 in let d = h.0.bus.width.most in
    record { some' = (let q : 1 ≤ high + 1 - low = omega (arith, a) in q); most = (let q : high + 1 - low ≤ 128 = omega (arith, b, d) in q) }
width-fits net n (Register w reset next) h = h.0
width-fits net n (Memory bits w drive) h = h.1
width-fits net n (MemoryRead store x) h = h.0.store.width

net-kind : (x : Node) (w : ℕ) → shape_of x ≡ Value w → IsNet (kind_for x)
net-kind (Input place w') w e = tt
net-kind (Constant word) w e = tt
net-kind (Not x) w e = tt
net-kind (Binary o x y) w e = tt
net-kind (Choose test x y) w e = tt
net-kind (Join x y) w e = tt
net-kind (Cut x high low) w e = tt
net-kind (Register w' reset next) w e = tt
net-kind (Memory bits w' drive) w e = absurd (cc)
net-kind (MemoryRead store x) w e = tt

bits_same : (a b w v : ℕ) → Words a w ≡ Words b v → a ≡ b
bits_same a b w v e = cc

memory-kind : (x : Node) (bits w : ℕ) → shape_of x ≡ Words bits w → IsMemory (kind_for x) bits
memory-kind (Input place w') bits w e = absurd (cc)
memory-kind (Constant word) bits w e = absurd (cc)
memory-kind (Not x) bits w e = absurd (cc)
memory-kind (Binary o x y) bits w e = absurd (cc)
memory-kind (Choose test x y) bits w e = absurd (cc)
memory-kind (Join x y) bits w e = absurd (cc)
memory-kind (Cut x high low) bits w e = absurd (cc)
memory-kind (Register w' reset next) bits w e = absurd (cc)
memory-kind (Memory bits' w' drive) bits w e = bits_same bits' bits w' w e
memory-kind (MemoryRead store x) bits w e = absurd (cc)

pub port_end : (o : Option Port) (y : Direction × ℕ) → option_map (λ (p : Port). (p.direction, p.node)) o ≡ Some y → (p : Port) × (o ≡ Some p) × (p.direction ≡ y.0) × (p.node ≡ y.1)
port_end None y e = absurd (cc)
port_end (Some p) y e =
    let f : Some (p.direction, p.node) ≡ Some y = e in
    let g : (p.direction, p.node) ≡ y = some_pair (p.direction, p.node) y f in
    (p, refl, ap (λ (z : Direction × ℕ). z.0) g, ap (λ (z : Direction × ℕ). z.1) g)
  where
    some_pair : (a b : Direction × ℕ) → Some a ≡ Some b → a ≡ b
    some_pair a b e = cc

-- a node of the netlist is a net of the module
pub record IsCarried (net : Net) (names : ℕ → List ℕ) (n w : ℕ) : Type 0 where
  pub node : Node
  pub there : slice_get net.nodes n ≡ Some node
  pub width : node_width node ≡ w
  pub net_kind : IsNet (kind_for node)

-- a memory of the netlist is one of the module
pub record IsStored (net : Net) (names : ℕ → List ℕ) (n bits w : ℕ) : Type 0 where
  pub node : Node
  pub there : slice_get net.nodes n ≡ Some node
  pub width : node_width node ≡ w
  pub memory_kind : IsMemory (kind_for node) bits

module _ (net : Net) (names : ℕ → List ℕ) (c : Named net names) where
  carried : (n w : ℕ) → shape_in net.nodes n ≡ Some (Value w) → IsCarried net names n w
  unfolding shape_in
  carried n w h =
      let x = shape_there (slice_get net.nodes n) (Value w) h in
      record { node = x.0; there = x.1; width = ap (λ (s : Shape). bits_of (Some s)) x.2; net_kind = net-kind x.0 w x.2 }

  pub bus : (b : Bus) → IsBus net b → IsCarried net names b.node b.width
  bus b h = carried b.node b.width h.there

  pub bit : (b : Bit) → IsBit net b → IsCarried net names b.node 1
  bit b h = carried b.node 1 h.there

  pub shown : (n w : ℕ) → shape_in net.nodes n ≡ Some (Value w) → IsCarried net names n w
  shown n w h = carried n w h

  pub stored : (s : Store) → IsStore net s → IsStored net names s.node s.address_bits s.width
  unfolding shape_in
  stored s h =
      let x = shape_there (slice_get net.nodes s.node) (Words s.address_bits s.width) h.there in
      record { node = x.0; there = x.1; width = ap (λ (t : Shape). bits_of (Some t)) x.2; memory_kind = memory-kind x.0 s.address_bits s.width x.2 }

  pub node-plain : (n : ℕ) (x : Node) → slice_get net.nodes n ≡ Some x → IsPlain (names n)
  node-plain n x e = name-plain (names n) (c.naming.plain n (slice_get_within net.nodes n x e))

  pub node-read : (n : ℕ) (x : Node) → slice_get net.nodes n ≡ Some x → number_read (declarations_in net names) (names n) ≡ Some (at_node (length net.ports) n)
  node-read n x e = let f = c.naming.no_clock n in let g = node_found net names c n x e in rw (f, g) refl

  pub node-width : (n : ℕ) (x : Node) → slice_get net.nodes n ≡ Some x → width_at (declarations_in net names) (at_node (length net.ports) n) ≡ node_width x
  node-width n x e = let g = node_there net names c n x e in rw g refl

  pub carried-width : (n w : ℕ) → IsCarried net names n w → width_at (declarations_in net names) (at_node (length net.ports) n) ≡ w
  carried-width n w h = node-width n h.node h.there ∙ h.width

  pub carried-keeps : (n w : ℕ) → IsCarried net names n w → KeepsWidths (declarations_in net names) (verilog.Net (at_node (length net.ports) n))
  carried-keeps n w h = subst (λ (o : Option Declaration). IsSomeAnd o IsReadable) (sym (node_there net names c n h.node h.there)) (h.net_kind, c.naming.no_clock n)

pub word-small : (v w : ℕ) → w ≤ 128 → v < 2 ^ w → v < 10 ^ 64
word-small v w m h = let a : v < 2 ^ 128 = lt_of_lt_of_le h (pow_mono m) in omega (arith, a)
