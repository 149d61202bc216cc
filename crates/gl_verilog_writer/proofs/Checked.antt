-- The module of a netlist keeps widths: every assignment and every block.
use Rattle.std.proofs.Common.{◌≡◌, ℕ, suc, ◌+◌, ◌-◌, ◌<◌, ◌≤◌, ◌==◌, Bool, true, false, List, ◌++◌, length, Option, Some, None, IfSome, IsSomeAnd, IsTrue, refl, sym, ap, subst, ◌∙◌, arith, inl, inr, eqb-true}
use Rattle.std.specs.Prelude.{slice_get, option_map, not, if◌then◌else◌}
use Rattle.std.specs.List.{AllByRecursion}
use Rattle.gl_bits.proofs.AllLists.{all_by_place, all_append}
use Rattle.gl_bits.proofs.Options.{some_same}
use Rattle.gl_net.specs.declared.node.BinaryOp.{BinaryOp}
use Rattle.gl_net.specs.declared.node.BinaryOp.TheVariants.{Add, Sub, Mul, And, Xor, Or, Eq, Ne, Lt, Le}
use Rattle.gl_net.specs.declared.node.Node.{Node}
use Rattle.gl_net.specs.declared.node.Node.TheVariants.{Input, Constant, Not, Binary, Choose, Join, Cut, Register, Memory, MemoryRead}
use Rattle.gl_net.specs.declared.node.Bus.{Bus}
use Rattle.gl_net.specs.declared.node.Port.{Port}
use Rattle.gl_net.specs.declared.node.Direction.{Direction}
use Rattle.gl_net.specs.declared.node.Direction.TheVariants.{In, Out}
use Rattle.gl_net.specs.Net.{Net, Value, shape_of, shape_in, binary_width}
use Rattle.gl_net.specs.PortValues.{bits_of}
use Rattle.gl_net.specs.WellFormed.{NodeFits, EndFits, end_at}
use Rattle.gl_net.specs.Finished.{HasReset, has_reset_value, needs_reset}
use Rattle.gl_verilog.specs.Module as verilog
use Rattle.gl_verilog.specs.Module.{Declaration, Expr}
use Rattle.gl_verilog.specs.Run.{IsRegister}
use Rattle.gl_verilog.specs.Widths.{IsNet, IsDriven, IsMemory, IsReadable, HasSize, width_at, width_of, KeepsWidths, KeepsWidth, KeepsWidthsIn}
use Rattle.gl_verilog_writer.specs.Meaning.{kind_of}
use Rattle.gl_verilog_writer.specs.Design.{node_width, numbered}
use Rattle.gl_verilog_writer.proofs.Model.{Named, at_node, net_of, binary_meaning, kind_for, assigned_to, assignment_for, shown_by, output_for, block_for, declarations_in, line_in}
use Rattle.gl_verilog_writer.proofs.Lists.{numbered-all, get-from_zero}
use Rattle.gl_verilog_writer.proofs.Named.{node_there, port_there, port_found, port_no_clock, sorted}
use Rattle.gl_verilog_writer.proofs.Fitted.{width-fits, port_end, bus, bit, shown, stored, carried-width, carried-keeps, node-width}
use Rattle.gl_verilog_writer.proofs.Resolved.{port-width, line-found, some-any}

-- two values under an operation have the width that the netlist's node has
width-op : (ds : List Declaration) (o : BinaryOp) (w : ℕ) (x y : Expr) → width_of ds (binary_meaning o w x y) ≡ binary_width o w
width-op ds Add w x y = refl
width-op ds Sub w x y = refl
width-op ds Mul w x y = refl
width-op ds And w x y = refl
width-op ds Xor w x y = refl
width-op ds Or w x y = refl
width-op ds Eq w x y = refl
width-op ds Ne w x y = refl
width-op ds Lt w x y = by (w == 1)
  where
    by : (t : Bool) → width_of ds (if t then verilog.Binary verilog.And 1 (verilog.Invert 1 x) y else verilog.Binary verilog.Lt w x y) ≡ 1
    by true = refl
    by false = refl
width-op ds Le w x y = by (w == 1)
  where
    by : (t : Bool) → width_of ds (if t then verilog.Binary verilog.Or 1 (verilog.Invert 1 x) y else verilog.Binary verilog.Le w x y) ≡ 1
    by true = refl
    by false = refl

-- their operands have one width
keeps-op : (ds : List Declaration) (o : BinaryOp) (w : ℕ) (x y : Expr) → width_of ds x ≡ w → width_of ds y ≡ w → KeepsWidths ds x → KeepsWidths ds y → KeepsWidths ds (binary_meaning o w x y)
keeps-op ds Add w x y a b k l = (a, b, k, l)
keeps-op ds Sub w x y a b k l = (a, b, k, l)
keeps-op ds Mul w x y a b k l = (a, b, k, l)
keeps-op ds And w x y a b k l = (a, b, k, l)
keeps-op ds Xor w x y a b k l = (a, b, k, l)
keeps-op ds Or w x y a b k l = (a, b, k, l)
keeps-op ds Eq w x y a b k l = (a, b, k, l)
keeps-op ds Ne w x y a b k l = (a, b, k, l)
keeps-op ds Lt w x y a b k l = by (w == 1) refl
  where
    by : (t : Bool) → (w == 1) ≡ t → KeepsWidths ds (if t then verilog.Binary verilog.And 1 (verilog.Invert 1 x) y else verilog.Binary verilog.Lt w x y)
    by true f = let s = eqb-true w 1 f in (refl, b ∙ s, (a ∙ s, k), l)
    by false f = (a, b, k, l)
keeps-op ds Le w x y a b k l = by (w == 1) refl
  where
    by : (t : Bool) → (w == 1) ≡ t → KeepsWidths ds (if t then verilog.Binary verilog.Or 1 (verilog.Invert 1 x) y else verilog.Binary verilog.Le w x y)
    by true f = let s = eqb-true w 1 f in (refl, b ∙ s, (a ∙ s, k), l)
    by false f = (a, b, k, l)

port-kind : (d : Direction) → IsNet (kind_of d)
port-kind In = tt
port-kind Out = tt

module _ (net : Net) (names : ℕ → List ℕ) (c : Named net names) where
  abbrev ds : List Declaration
  ds = declarations_in net names

  abbrev p : ℕ
  p = length net.ports

  -- the net of a port that leads in
  input-width : (place n w : ℕ) (q : Port) → slice_get net.ports place ≡ Some q → q.node ≡ n → slice_get net.nodes n ≡ Some (Input place w) → width_at ds (suc place) ≡ w
  unfolding shape_in
  input-width place n w q e f g =
      let t = port_there net names c place q e in
      let s : shape_in net.nodes q.node ≡ Some (Value w) = ap (λ (m : ℕ). option_map shape_of (slice_get net.nodes m)) f ∙ ap (option_map shape_of) g in
      rw t (ap bits_of s)

  pub port-keeps : (place : ℕ) (q : Port) → slice_get net.ports place ≡ Some q → KeepsWidths ds (verilog.Net (suc place))
  port-keeps place q e = subst (λ (o : Option Declaration). IsSomeAnd o IsReadable) (sym (port_there net names c place q e)) (port-kind q.direction, port_no_clock net names c place q e)

  keeps-at : (n : ℕ) (x : Node) → slice_get net.nodes n ≡ Some x → (v : Expr) → IsDriven (kind_for x) → width_of ds v ≡ node_width x → KeepsWidths ds v → KeepsWidth ds (assigned_to (at_node p n) v)
  keeps-at n x e v k w h = (subst (λ (o : Option Declaration). IsSomeAnd o (λ d. IsDriven d.kind × (width_of ds v ≡ d.width))) (sym (node_there net names c n x e)) (k, w), h)

  -- some bits of a net, of which one of a single bit is taken whole
  cut-keeps : (n : ℕ) (x : Bus) (high low : ℕ) → slice_get net.nodes n ≡ Some (Cut x high low) → NodeFits net n (Cut x high low) → (b : Bool) → (x.width == 1) ≡ b → KeepsWidth ds (assigned_to (at_node p n) (if b then verilog.Net (at_node p x.node) else verilog.Select high low (at_node p x.node)))
  cut-keeps n x high low e h true f =
      let i = bus net names c x h.0.bus in
      let one = eqb-true x.width 1 f in let a = h.1 in let b = h.2 in
      keeps-at n _ e (verilog.Net (at_node p x.node)) tt (carried-width net names c x.node x.width i ∙ (let q : x.width ≡ high + 1 - low = omega (arith, one, a, b) in q)) (carried-keeps net names c x.node x.width i)
  cut-keeps n x high low e h false f =
      let i = bus net names c x h.0.bus in
      let v : IsTrue (not (x.width == 1)) = rw f refl in
      keeps-at n _ e (verilog.Select high low (at_node p x.node)) tt refl (
        subst (λ (o : Option Declaration). IsSomeAnd o (λ d. IsReadable d × IsTrue d.is_vector × (high < d.width))) (sym (node_there net names c x.node i.node i.there))
            ((i.net_kind, c.naming.no_clock x.node), subst (λ (w : ℕ). IsTrue (not (w == 1))) (sym i.width) v, subst (λ (w : ℕ). high < w) (sym i.width) h.2),
        h.1,
      )

  value-keeps : (n : ℕ) (x : Node) → slice_get net.nodes n ≡ Some x → NodeFits net n x → IfSome (assignment_for p n x) (KeepsWidth ds)
  unfolding end_at
  value-keeps n (Input place w) e h =
      let q = port_end (slice_get net.ports place) (In, n) h.1 in
      keeps-at n _ e (verilog.Net (suc place)) tt (input-width place n w q.0 q.1 q.3 e) (port-keeps place q.0 q.1)
  value-keeps n (Constant word) e h = keeps-at n _ e (verilog.Literal word.bits word.width) tt refl (h.width, h.fits)
  value-keeps n (Not x) e h =
      let i = bus net names c x h.bus in
      keeps-at n _ e (verilog.Invert x.width (net_of p x.node)) tt refl (carried-width net names c x.node x.width i, carried-keeps net names c x.node x.width i)
  value-keeps n (Binary o x y) e h =
      let i = bus net names c x h.0.bus in
      let j = bus net names c y h.1.bus in
      keeps-at n _ e (binary_meaning o x.width (net_of p x.node) (net_of p y.node)) tt (width-op ds o x.width (net_of p x.node) (net_of p y.node))
      (keeps-op ds o x.width (net_of p x.node) (net_of p y.node) (carried-width net names c x.node x.width i) (carried-width net names c y.node y.width j ∙ sym h.2) (carried-keeps net names c x.node x.width i) (carried-keeps net names c y.node y.width j))
  value-keeps n (Choose test x y) e h =
      let t = bit net names c test h.0.bit in
      let i = bus net names c x h.1.bus in
      let j = bus net names c y h.2.bus in
      keeps-at n _ e (verilog.Choose (net_of p test.node) (net_of p x.node) (net_of p y.node)) tt (carried-width net names c x.node x.width i) (
        carried-width net names c test.node 1 t,
        carried-width net names c y.node y.width j ∙ sym h.3 ∙ sym (carried-width net names c x.node x.width i),
        carried-keeps net names c test.node 1 t,
        carried-keeps net names c x.node x.width i,
        carried-keeps net names c y.node y.width j,
      )
  value-keeps n (Join x y) e h =
      let i = bus net names c x h.0.bus in
      let j = bus net names c y h.1.bus in
      let a = carried-width net names c x.node x.width i in
      keeps-at n _ e (verilog.Join y.width (net_of p x.node) (net_of p y.node)) tt (ap (λ (w : ℕ). w + y.width) a)
      (carried-width net names c y.node y.width j, subst (λ (w : ℕ). w + y.width ≤ 128) (sym a) h.2, carried-keeps net names c x.node x.width i, carried-keeps net names c y.node y.width j)
  value-keeps n (Cut x high low) e h = cut-keeps n x high low e h (x.width == 1) refl
  value-keeps n (MemoryRead store x) e h =
      let s = stored net names c store h.0.store in
      let i = bus net names c x h.1.bus in
      let a = carried-width net names c x.node x.width i ∙ h.2 in
      keeps-at n _ e (verilog.Read (at_node p store.node) (net_of p x.node)) tt (node-width net names c store.node s.node s.there ∙ s.width) (
        subst (λ (o : Option Declaration). IsSomeAnd o (λ d. IsMemory d.kind (width_of ds (net_of p x.node)))) (sym (node_there net names c store.node s.node s.there))
            (subst (λ (w : ℕ). IsMemory (kind_for s.node) w) (sym a) s.memory_kind),
        carried-keeps net names c x.node x.width i,
      )
  value-keeps n (Register w reset next) e h = tt
  value-keeps n (Memory bits w drive) e h = tt

  output-keeps : (place : ℕ) (q : Port) → slice_get net.ports place ≡ Some q → (d : Direction) → q.direction ≡ d → EndFits net place d q.node → IfSome (shown_by p place d q.node) (KeepsWidth ds)
  output-keeps place q e In g f = tt
  output-keeps place q e Out g f =
      let i = shown net names c q.node f.0 f.1 in
      let w = carried-width net names c q.node f.0 i in
      let k : IsDriven (kind_of q.direction) = subst (λ (d : Direction). IsDriven (kind_of d)) (sym g) tt in (
        subst (λ (o : Option Declaration). IsSomeAnd o (λ d. IsDriven d.kind × (width_of ds (net_of p q.node) ≡ d.width))) (sym (port_there net names c place q e)) (k, w ∙ sym (ap bits_of f.1)),
        carried-keeps net names c q.node f.0 i,
      )

  pub assignments-keep : AllByRecursion (KeepsWidth ds) (numbered (assignment_for p) 0 net.nodes ++ numbered (output_for p) 0 net.ports)
  assignments-keep = all_append (KeepsWidth ds) (numbered (assignment_for p) 0 net.nodes) (numbered (output_for p) 0 net.ports)
      (numbered-all (KeepsWidth ds) (assignment_for p) 0 net.nodes (λ k x e. value-keeps (0 + k) x (get-from_zero net.nodes k x e) (c.netlist.formed.nodes (0 + k) x (get-from_zero net.nodes k x e))))
      (numbered-all (KeepsWidth ds) (output_for p) 0 net.ports (λ k q e. output-keeps (0 + k) q (get-from_zero net.ports k q e) q.direction refl (c.netlist.formed.ends (0 + k) q (get-from_zero net.ports k q e))))

  -- ---- blocks

  -- the port that is the reset line
  pub reset-line : (n : ℕ) (x : Node) → slice_get net.nodes n ≡ Some x → has_reset_value x ≡ true → (r : HasReset net) × (line_in net names ≡ suc r.port.place)
  unfolding needs_reset
  reset-line n x e t =
      let r : HasReset net = c.netlist.finished.reset (some-any has_reset_value net.nodes n x e t) in
      (r, some_same _ _ (sym (line-found net names c n x e t) ∙ port_found net names c r.port.place _ r.port.there))

  line-width : (r : HasReset net) → width_at ds (suc r.port.place) ≡ 1
  line-width r = let t = port_there net names c r.port.place _ r.port.there in rw t (ap bits_of r.bit)

  line-keeps : (n : ℕ) (x : Node) → slice_get net.nodes n ≡ Some x → has_reset_value x ≡ true → (width_at ds (line_in net names) ≡ 1) × KeepsWidths ds (verilog.Net (line_in net names))
  line-keeps n x e t =
      let r = reset-line n x e t in
      (ap (width_at ds) r.1 ∙ line-width r.0, subst (λ (m : ℕ). KeepsWidths ds (verilog.Net m)) (sym r.1) (port-keeps r.0.port.place _ r.0.port.there))

  put-keeps : (n : ℕ) (x : Node) → slice_get net.nodes n ≡ Some x → (v : Expr) → IsRegister (kind_for x) → width_of ds v ≡ node_width x → KeepsWidths ds v → KeepsWidthsIn ds (verilog.Put (at_node p n) v)
  put-keeps n x e v k w h = (subst (λ (o : Option Declaration). IsSomeAnd o (λ d. IsRegister d.kind × (width_of ds v ≡ d.width))) (sym (node_there net names c n x e)) (k, w), h)

  block-keeps : (n : ℕ) (x : Node) → slice_get net.nodes n ≡ Some x → NodeFits net n x → IfSome (block_for p (line_in net names) n x) (KeepsWidthsIn ds)
  block-keeps n (Register w None None) e h = tt
  block-keeps n (Register w (Some value) None) e h = tt
  block-keeps n (Register w None (Some next)) e h =
      let i = bus net names c next h.2.0 in
      put-keeps n _ e (net_of p next.node) tt (carried-width net names c next.node next.width i ∙ h.2.1) (carried-keeps net names c next.node next.width i)
  block-keeps n (Register w (Some value) (Some next)) e h =
      let i = bus net names c next h.2.0 in
      let l = line-keeps n _ e refl in (
        l.0,
        l.1,
        put-keeps n _ e (verilog.Literal value w) tt refl (h.0, h.1),
        put-keeps n _ e (net_of p next.node) tt (carried-width net names c next.node next.width i ∙ h.2.1) (carried-keeps net names c next.node next.width i),
      )
  block-keeps n (Memory bits w None) e h = tt
  block-keeps n (Memory bits w (Some drive)) e h =
      let t = bit net names c drive.write h.2.write in
      let a = bus net names c drive.address h.2.address in
      let v = bus net names c drive.value h.2.value in
      let wa : bits ≡ width_of ds (net_of p drive.address.node) = sym (carried-width net names c drive.address.node drive.address.width a ∙ h.2.address_width) in
      let wv = carried-width net names c drive.value.node drive.value.width v ∙ h.2.value_width in (
        carried-width net names c drive.write.node 1 t,
        carried-keeps net names c drive.write.node 1 t,
        (
          subst (λ (o : Option Declaration). IsSomeAnd o (λ d. IsMemory d.kind (width_of ds (net_of p drive.address.node)) × (width_of ds (net_of p drive.value.node) ≡ d.width))) (sym (node_there net names c n _ e)) (wa, wv),
          carried-keeps net names c drive.address.node drive.address.width a,
          carried-keeps net names c drive.value.node drive.value.width v,
        ),
        tt,
      )
  block-keeps n (Input place w) e h = tt
  block-keeps n (Constant word) e h = tt
  block-keeps n (Not x) e h = tt
  block-keeps n (Binary o x y) e h = tt
  block-keeps n (Choose test x y) e h = tt
  block-keeps n (Join x y) e h = tt
  block-keeps n (Cut x high low) e h = tt
  block-keeps n (MemoryRead store x) e h = tt

  pub blocks-keep : AllByRecursion (KeepsWidthsIn ds) (numbered (block_for p (line_in net names)) 0 net.nodes)
  blocks-keep = numbered-all (KeepsWidthsIn ds) (block_for p (line_in net names)) 0 net.nodes (λ k x e. block-keeps (0 + k) x (get-from_zero net.nodes k x e) (c.netlist.formed.nodes (0 + k) x (get-from_zero net.nodes k x e)))

  -- ---- sizes

  node-size : (n : ℕ) (x : Node) → NodeFits net n x → (bits : ℕ) → IsMemory (kind_for x) bits → (1 ≤ bits) × (bits ≤ 32)
  node-size n (Memory b w drive) h bits m = (subst (λ (k : ℕ). 1 ≤ k) m h.0.some', subst (λ (k : ℕ). k ≤ 32) m h.0.most)
  node-size n (Register w reset next) h bits m = absurd m
  node-size n (Input place w) h bits m = absurd m
  node-size n (Constant word) h bits m = absurd m
  node-size n (Not x) h bits m = absurd m
  node-size n (Binary o x y) h bits m = absurd m
  node-size n (Choose test x y) h bits m = absurd m
  node-size n (Join x y) h bits m = absurd m
  node-size n (Cut x high low) h bits m = absurd m
  node-size n (MemoryRead store x) h bits m = absurd m

  port-size : (d : Direction) (bits : ℕ) → IsMemory (kind_of d) bits → (1 ≤ bits) × (bits ≤ 32)
  port-size In bits m = absurd m
  port-size Out bits m = absurd m

  pub sizes-fit : AllByRecursion HasSize ds
  sizes-fit = all_by_place HasSize ds (λ i d e. elim (sorted net names c i d e) [
    | inl a ↦ subst HasSize (sym a.1) (record { some' = omega arith; most = omega arith }, (λ bits m. absurd m))
    | inr a ↦ elim a [
      | inl a ↦ subst HasSize (sym a.is) (port-width net names c a.place a.port a.there, (λ bits m. port-size a.port.direction bits m))
      | inr a ↦ (let f = c.netlist.formed.nodes a.n a.node a.there in subst HasSize (sym a.is) (width-fits net a.n a.node f, (λ bits m. node-size a.n a.node f bits m)))
    ]
  ])
