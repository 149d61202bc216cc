-- A netlist whose nodes and ports are all in another one with the same numbers.
use Rattle.std.proofs.Common.{◌≡◌, ℕ, zero, suc, cond, ◌+◌, ◌<◌, List, [], ◌∷◌, ◌++◌, length, Option, Some, None, Bool, true, false, refl, sym, ap, ◌∙◌, subst, inl, inr, arith}
use Rattle.std.specs.Prelude.{slice_get, option_and_then, IfSome, is_none, if◌then◌else◌}
use Rattle.std.specs.Option.{option_map}
use Rattle.std.proofs.lemmas.List.Sums.{sum_by_push}
use Rattle.std.proofs.lemmas.Option.{slice_get_within}
use Rattle.std.proofs.lemmas.Bool.{cases_eq}
use Rattle.gl_bits.proofs.AllLists.{get_front, get_last}
use Rattle.gl_bits.specs.Words.{Word, IsWidth}
use Rattle.gl_net.specs.declared.node.BinaryOp.{BinaryOp}
use Rattle.gl_net.specs.declared.node.BinaryOp.TheVariants.{Add, Sub, Mul, And, Xor, Or, Eq, Ne, Lt, Le}
use Rattle.gl_net.specs.declared.node.Node.{Node}
use Rattle.gl_net.specs.declared.node.Node.TheVariants.{Input, Constant, Not, Binary, Choose, Join, Cut, Register, Memory, MemoryRead}
use Rattle.gl_net.specs.declared.node.MemoryDrive.{MemoryDrive}
use Rattle.gl_net.specs.declared.node.Bus.{Bus}
use Rattle.gl_net.specs.declared.node.Bit.{Bit}
use Rattle.gl_net.specs.declared.node.Store.{Store}
use Rattle.gl_net.specs.declared.node.Port.{Port}
use Rattle.gl_net.specs.declared.node.Direction.{Direction}
use Rattle.gl_net.specs.declared.node.Direction.TheVariants.{In, Out}
use Rattle.gl_net.specs.Net.{Net, Run, Shape, shape_of, shape_in, open_in, open_at, open_shape, Holds, IsHeld, IsTrace, IsRun, held_ports, is_held, IsBus, IsBit, IsStore, Grows, Keeps, is_inner, size_of, register_bits, memory_bits, register_bits_of, memory_bits_of, has_no_reset, is_free, binary_width}
use Rattle.gl_net.specs.WellFormed.{ReadsBus, ReadsBit, ReadsStore, IsDrive, end_at, NodeFits, EndFits, IsWellFormed}
use Rattle.gl_net.specs.Steps.{Adds}
use Rattle.gl_net.proofs.Lists.{get_push_other, get_push_cases, get_past}

-- the node behind a shape
pub shape_there : (o : Option Node) (s : Shape) → option_map shape_of o ≡ Some s → (x : Node) × (o ≡ Some x) × (shape_of x ≡ s)
shape_there None s h = absurd (cc)
shape_there (Some x) s h = (x, refl, cc)

-- what stays of nodes and ports where the shape of each node stays, and each port
module _ (old new : Net) (shapes : (n : ℕ) (s : Shape) → shape_in old.nodes n ≡ Some s → shape_in new.nodes n ≡ Some s)
    (ends : (k : ℕ) (e : Direction × ℕ) → end_at old k ≡ Some e → end_at new k ≡ Some e) where
  pub kept_bus : (b : Bus) → IsBus old b → IsBus new b
  kept_bus b i = record { there = shapes b.node _ i.there; width = i.width }

  pub kept_bit : (b : Bit) → IsBit old b → IsBit new b
  kept_bit b i = record { there = shapes b.node _ i.there }

  reads_bus : (n : ℕ) (b : Bus) → ReadsBus old n b → ReadsBus new n b
  reads_bus n b r = record { before = r.before; bus = kept_bus b r.bus }

  reads_bit : (n : ℕ) (b : Bit) → ReadsBit old n b → ReadsBit new n b
  reads_bit n b r = record { before = r.before; bit = kept_bit b r.bit }

  reads_store : (n : ℕ) (s : Store) → ReadsStore old n s → ReadsStore new n s
  reads_store n s r = record {
    before = r.before;
    store = record { there = shapes s.node _ r.store.there; bits = r.store.bits; width = r.store.width };
  }

  pub kept_drive : (bits w : ℕ) (d : MemoryDrive) → IsDrive old bits w d → IsDrive new bits w d
  kept_drive bits w d i = record {
    write = kept_bit _ i.write;
    address = kept_bus _ i.address;
    address_width = i.address_width;
    value = kept_bus _ i.value;
    value_width = i.value_width;
  }

  kept_next : (w : ℕ) (next : Option Bus) → IfSome next (λ b. IsBus old b × (b.width ≡ w)) → IfSome next (λ b. IsBus new b × (b.width ≡ w))
  kept_next w None h = h
  kept_next w (Some b) h = (kept_bus b h.0, h.1)

  kept_drives : (bits w : ℕ) (drive : Option MemoryDrive) → IfSome drive (λ d. IsDrive old bits w d) → IfSome drive (λ d. IsDrive new bits w d)
  kept_drives bits w None h = h
  kept_drives bits w (Some d) h = kept_drive bits w d h

  pub kept_node : (n : ℕ) (x : Node) → NodeFits old n x → NodeFits new n x
  kept_node n (Input k w) h = (h.0, ends k _ h.1)
  kept_node n (Constant word) h = h
  kept_node n (Not x) h = reads_bus n x h
  kept_node n (Binary op x y) h = (reads_bus n x h.0, reads_bus n y h.1, h.2)
  kept_node n (Choose test x y) h = (reads_bit n test h.0, reads_bus n x h.1, reads_bus n y h.2, h.3)
  kept_node n (Join x y) h = (reads_bus n x h.0, reads_bus n y h.1, h.2)
  kept_node n (Cut x high low) h = (reads_bus n x h.0, h.1, h.2)
  kept_node n (Register w reset next) h = (h.0, h.1, kept_next w next h.2)
  kept_node n (Memory bits w drive) h = (h.0, h.1, kept_drives bits w drive h.2)
  kept_node n (MemoryRead store x) h = (reads_store n store h.0, reads_bus n x h.1, h.2)

-- a port stays where input nodes and shapes stay
pub kept_end : (old new : Net) → ((n k w : ℕ) → slice_get old.nodes n ≡ Some (Input k w) → slice_get new.nodes n ≡ Some (Input k w))
    → ((n : ℕ) (s : Shape) → shape_in old.nodes n ≡ Some s → shape_in new.nodes n ≡ Some s)
    → (k : ℕ) (d : Direction) (n : ℕ) → EndFits old k d n → EndFits new k d n
kept_end old new inputs shapes k In n h = (h.0, inputs n k h.0 h.1)
kept_end old new inputs shapes k Out n h = (h.0, shapes n _ h.1)

-- all nodes and ports of the old netlist are in the new one
pub record Extends (old new : Net) : Type 0 where
  pub nodes : (n : ℕ) (x : Node) → slice_get old.nodes n ≡ Some x → slice_get new.nodes n ≡ Some x
  pub ports : (k : ℕ) (p : Port) → slice_get old.ports k ≡ Some p → slice_get new.ports k ≡ Some p

-- the ports that are held in the front of a list are so in the list, under their numbers
held_there : (xs ys : List Port) → ((k : ℕ) (p : Port) → slice_get xs k ≡ Some p → slice_get ys k ≡ Some p)
    → (k : ℕ) (p : Port) → slice_get (held_ports xs) k ≡ Some p → slice_get (held_ports ys) k ≡ Some p
held_there [] ys front k p e = absurd (cc)
held_there (x ∷ xs) [] front k p e = absurd (let z : None ≡ Some x = front 0 x refl in cc)
held_there (x ∷ xs) (y ∷ ys) front k p e =
    let same : y ≡ x = some_is y x (front 0 x refl) in
    subst (λ (z : Port). slice_get (held_ports (z ∷ ys)) k ≡ Some p) (sym same)
    (behind (is_held x) k p (held_there xs ys (λ i q h. front (suc i) q h)) e)
  where
    some_is : (y x : Port) → Some y ≡ Some x → y ≡ x
    some_is y x h = cc

    behind : (b : Bool) (k : ℕ) (p : Port) → ((i : ℕ) (q : Port) → slice_get (held_ports xs) i ≡ Some q → slice_get (held_ports ys) i ≡ Some q)
        → slice_get (cond b (x ∷ held_ports xs) (held_ports xs)) k ≡ Some p → slice_get (cond b (x ∷ held_ports ys) (held_ports ys)) k ≡ Some p
    behind true zero p later e = e
    behind true (suc k) p later e = later k p e
    behind false k p later e = later k p e

module _ (old new : Net) (ext : Extends old new) where
  pub ext_shape : (n : ℕ) (s : Shape) → shape_in old.nodes n ≡ Some s → shape_in new.nodes n ≡ Some s
  unfolding shape_in
  ext_shape n s h = let x = shape_there (slice_get old.nodes n) s h in let e : slice_get new.nodes n ≡ Some x.0 = ext.nodes n x.0 x.1 in rw e (ap Some x.2)

  pub ext_end : (k : ℕ) (e : Direction × ℕ) → end_at old k ≡ Some e → end_at new k ≡ Some e
  unfolding end_at
  ext_end k e h = let x = port_there (slice_get old.ports k) e h in let q : slice_get new.ports k ≡ Some x.0 = ext.ports k x.0 x.1 in rw q (ap Some x.2)
    where
      port_there : (o : Option Port) (e : Direction × ℕ) → option_map (λ p. (p.direction, p.node)) o ≡ Some e → (p : Port) × (o ≡ Some p) × ((p.direction, p.node) ≡ e)
      port_there None e h = absurd (cc)
      port_there (Some p) e h = (p, refl, cc)

  pub ext_trace : (run : Run) → IsTrace new run → IsTrace old run
  ext_trace run tr = record {
    fits = λ n x h. tr.fits n x (ext.nodes n x h);
    holds = λ n x h. tr.holds n x (ext.nodes n x h);
    line = λ n p. tr.line n (record { place = p.place; there = ext.ports p.place _ p.there });
  }

  pub ext_held : (run : Run) → IsHeld new run → IsHeld old run
  ext_held run h = record { each = λ k p e t. h.each k p (held_there old.ports new.ports ext.ports k p e) t }

  pub ext_grows : Grows old new
  ext_grows = record {
    runs = λ run r. record { trace = ext_trace run r.trace; reset = r.reset; held = ext_held run r.held };
    shapes = ext_shape;
  }

  pub ext_node : (n : ℕ) (x : Node) → NodeFits old n x → NodeFits new n x
  ext_node = kept_node old new ext_shape ext_end

  pub ext_port : (k : ℕ) (d : Direction) (n : ℕ) → EndFits old k d n → EndFits new k d n
  ext_port = kept_end old new (λ n k w h. ext.nodes n _ h) ext_shape

-- what is there stands before the end of the list
there_before : (net : Net) (n : ℕ) (s : Shape) → shape_in net.nodes n ≡ Some s → n < length net.nodes
unfolding shape_in
there_before net n s h = let x = shape_there (slice_get net.nodes n) s h in slice_get_within net.nodes n x.0 x.1

pub bus_read : (net : Net) (b : Bus) → IsBus net b → ReadsBus net (length net.nodes) b
bus_read net b i = record { before = there_before net _ _ i.there; bus = i }

pub bit_read : (net : Net) (b : Bit) → IsBit net b → ReadsBit net (length net.nodes) b
bit_read net b i = record { before = there_before net _ _ i.there; bit = i }

pub store_read : (net : Net) (s : Store) → IsStore net s → ReadsStore net (length net.nodes) s
store_read net s i = record { before = there_before net _ _ i.there; store = i }

-- nothing more
pub same_keeps : (net : Net) → Keeps net net
same_keeps net = record { runs = λ run r. r; shapes = λ n s h. h; undriven = λ n. refl; ports = refl; name = refl }

pub same_grows : (net : Net) → Grows net net
same_grows net = record { runs = λ run r. r; shapes = λ n s h. h }

-- one node more
module _ (old new : Net) (x : Node) (n : ℕ) (adds : Adds old new x n) where
  pub adds_extends : Extends old new
  adds_extends = record {
    nodes = λ k y h. rw adds.nodes (get_front old.nodes (x ∷ []) k y h);
    ports = λ k p h. rw adds.ports h;
  }

  pub adds_there : slice_get new.nodes n ≡ Some x
  adds_there = rw (adds.nodes, adds.number) (get_last old.nodes x)

  pub adds_grows : Grows old new
  adds_grows = ext_grows old new adds_extends

  pub adds_shape : shape_in new.nodes n ≡ Some (shape_of x)
  unfolding shape_in
  adds_shape = let e = adds_there in rw e refl

  pub adds_holds : (run : Run) → IsRun new run → Holds run n x
  adds_holds run r = r.trace.holds n x adds_there

  pub adds_open : open_at new n ≡ open_shape x
  unfolding open_in
  adds_open = let e = adds_there in rw e refl

  pub adds_fresh : open_at old n ≡ None
  unfolding open_in
  adds_fresh = let e : slice_get old.nodes n ≡ None = rw adds.number (get_past old.nodes) in rw e refl

  pub adds_open_other : (k : ℕ) → (k ≡ n → ⊥) → open_at new k ≡ open_at old k
  unfolding open_in
  adds_open_other k h = rw adds.nodes (ap (option_and_then open_shape) (get_push_other old.nodes x k (rw adds.number at h)))

  pub adds_closed : open_shape x ≡ None → (k : ℕ) → open_at new k ≡ open_at old k
  adds_closed e k = elim (cases_eq k n) [
    | inl h ↦ (let a : open_at new k ≡ None = subst (λ i. open_at new i ≡ None) (sym h) (adds_open ∙ e) in
        let b : open_at old k ≡ None = subst (λ i. open_at old i ≡ None) (sym h) adds_fresh in a ∙ sym b)
    | inr h ↦ adds_open_other k h
  ]

  pub adds_keeps : open_shape x ≡ None → Keeps old new
  adds_keeps e = record {
    runs = adds_grows.runs;
    shapes = adds_grows.shapes;
    undriven = adds_closed e;
    ports = adds.ports;
    name = adds.name;
  }

  pub adds_size : size_of new ≡ size_of old + (if is_inner x then 1 else 0)
  unfolding size_of
  adds_size = rw adds.nodes (sum_by_push (λ y. if is_inner y then 1 else 0) old.nodes x)

  pub adds_register_bits : register_bits_of new ≡ register_bits_of old + register_bits x
  unfolding register_bits_of
  adds_register_bits = rw adds.nodes (sum_by_push register_bits old.nodes x)

  pub adds_memory_bits : memory_bits_of new ≡ memory_bits_of old + memory_bits x
  unfolding memory_bits_of
  adds_memory_bits = rw adds.nodes (sum_by_push memory_bits old.nodes x)

  pub adds_has : (s : Shape) → shape_of x ≡ s → shape_in new.nodes n ≡ Some s
  adds_has s e = adds_shape ∙ ap Some e

pub adds_fits : (old new : Net) (x : Node) (n : ℕ) → Adds old new x n → IsWellFormed old → NodeFits old (length old.nodes) x → IsWellFormed new
adds_fits old new x n adds w f = record {
  nodes = λ k y e. elim (get_push_cases old.nodes x k y (rw adds.nodes at e)) [
    | inl h ↦ ext_node old new ext k y (w.nodes k y h)
    | inr h ↦ (let g : NodeFits old k x = subst (λ i. NodeFits old i x) (sym h.0) f in subst (NodeFits new k) h.1 (ext_node old new ext k x g))
  ];
  ends = λ k p e. ext_port old new ext k p.direction p.node (w.ends k p (rw adds.ports at e));
}
  where
    ext : Extends old new
    ext = adds_extends old new x n adds

pub empty_fits : IsWellFormed (record { nodes = []; ports = []; name = None })
empty_fits = record { nodes = λ n x e. absurd (cc); ends = λ k p e. absurd (cc) }

-- the node at the end, or no change
pub push_fits : (pushed : Bool) (nodes : List Node) (ports : List Port) (name : Option (List ℕ)) (x : Node)
    → IsWellFormed (record { nodes = nodes; ports = ports; name = name }) → NodeFits (record { nodes = nodes; ports = ports; name = name }) (length nodes) x
    → IsWellFormed (record { nodes = if pushed then nodes ++ x ∷ [] else nodes; ports = ports; name = name })
push_fits false nodes ports name x w f = w
push_fits true nodes ports name x w f = adds_fits _ _ x _ (record { nodes = refl; number = refl; ports = refl; name = refl }) w f

pub binary_is_width : (op : BinaryOp) (w : ℕ) → IsWidth w → IsWidth (binary_width op w)
binary_is_width Add w h = h
binary_is_width Sub w h = h
binary_is_width Mul w h = h
binary_is_width And w h = h
binary_is_width Xor w h = h
binary_is_width Or w h = h
binary_is_width Eq w h = record { some' = omega arith; most = omega arith }
binary_is_width Ne w h = record { some' = omega arith; most = omega arith }
binary_is_width Lt w h = record { some' = omega arith; most = omega arith }
binary_is_width Le w h = record { some' = omega arith; most = omega arith }

-- a register with a reset value holds it in cycle 1 of a run
pub start_value : (old new : Net) (w n : ℕ) (value : Option ℕ) (reset : Option Word) → Adds old new (Register w value None) n
    → value ≡ option_map (λ word. word.bits) reset → IfSome reset (λ word. (run : Run) → IsRun new run → run.at 1 n ≡ word.bits)
start_value old new w n value None adds e = tt
start_value old new w n value (Some word) adds e = λ run r.
    let h : Holds run n (Register w (Some word.bits) None) = subst (λ v. Holds run n (Register w v None)) e (adds_holds old new _ n adds run r) in
    h 0 r.reset.first

pub register_free : (old new : Net) (w n : ℕ) (value : Option ℕ) (reset : Option Word) → Adds old new (Register w value None) n
    → value ≡ option_map (λ word. word.bits) reset → is_free new n ≡ is_none reset
unfolding is_free
register_free old new w n value reset adds e = let h = adds_there old new _ n adds in rw (h, e) (same_kind reset)
  where
    same_kind : (r : Option Word) → has_no_reset (Register w (option_map (λ word. word.bits) r) None) ≡ is_none r
    same_kind None = refl
    same_kind (Some word) = refl
