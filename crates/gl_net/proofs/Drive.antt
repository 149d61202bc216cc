-- A netlist in which one node is replaced by another of its shape, as by a drive.
use Rattle.std.proofs.Common.{◌≡◌, ℕ, suc, List, Option, Some, None, true, false, refl, sym, ap, ◌∙◌, subst, inl, inr}
use Rattle.std.specs.Prelude.{slice_get, slice_set, option_and_then, if◌then◌else◌}
use Rattle.std.specs.Option.{option_map}
use Rattle.std.proofs.lemmas.Bool.{cases_eq}
use Rattle.gl_net.specs.declared.node.Node.{Node}
use Rattle.gl_net.specs.declared.node.Node.TheVariants.{Input, Constant, Not, Binary, Choose, Join, Cut, Register, Memory, MemoryRead}
use Rattle.gl_net.specs.declared.node.MemoryDrive.{MemoryDrive}
use Rattle.gl_net.specs.declared.node.Bus.{Bus}
use Rattle.gl_net.specs.declared.node.Store.{Store}
use Rattle.gl_net.specs.declared.node.Port.{Port}
use Rattle.gl_net.specs.declared.node.Direction.{Direction}
use Rattle.gl_net.specs.Net.{Net, Run, Shape, Value, Words, shape_of, shape_in, open_in, open_at, open_shape, Holds, Fits, IsTrace, IsRun, IsBus, Grows, Keeps, stored_of, is_inner, size_of, register_bits, memory_bits, register_bits_of, memory_bits_of, has_no_reset, is_free}
use Rattle.gl_net.specs.WellFormed.{IsDrive, end_at, NodeFits, IsWellFormed}
use Rattle.gl_net.specs.Steps.{Drives, DrivesMemory}
use Rattle.gl_net.specs.Builds.{OthersStay}
use Rattle.gl_net.proofs.Lists.{get_set_same, get_set_other, sum_by-replaced}
use Rattle.gl_net.proofs.Growth.{kept_bus, kept_drive, kept_node, kept_end}

-- x at the place gives way to y
record Replaces (old new : Net) (at : ℕ) (x y : Node) : Type 0 where
  pub there : slice_get old.nodes at ≡ Some x
  pub nodes : new.nodes ≡ slice_set old.nodes at y
  pub ports : new.ports ≡ old.ports
  pub shape : shape_of y ≡ shape_of x
  pub inner : is_inner x ≡ true
  pub inner' : is_inner y ≡ true
  pub register_bits' : register_bits y ≡ register_bits x
  pub memory_bits' : memory_bits y ≡ memory_bits x

module _ (old new : Net) (at : ℕ) (x y : Node) (r : Replaces old new at x y) where
  now_there : slice_get new.nodes at ≡ Some y
  now_there = rw r.nodes (get_set_same old.nodes at _ _ r.there)

  others : (k : ℕ) → (at ≡ k → ⊥) → slice_get new.nodes k ≡ slice_get old.nodes k
  others k h = rw r.nodes (get_set_other old.nodes at k _ h)

  same_shape : (k : ℕ) → shape_in new.nodes k ≡ shape_in old.nodes k
  unfolding shape_in
  same_shape k = elim (cases_eq at k) [
    | inl e ↦ subst (λ i. shape_in new.nodes i ≡ shape_in old.nodes i) e
        (let a = now_there in let b = r.there in rw (a, b) (ap Some r.shape))
    | inr ne ↦ ap (option_map shape_of) (others k ne)
  ]

  same_end : (k : ℕ) (e : Direction × ℕ) → end_at old k ≡ Some e → end_at new k ≡ Some e
  unfolding end_at
  same_end k e h = rw r.ports h

  same_shapes : (k : ℕ) (s : Shape) → shape_in old.nodes k ≡ Some s → shape_in new.nodes k ≡ Some s
  same_shapes k s h = same_shape k ∙ h

  was_there : (k : ℕ) (z : Node) → at ≡ k → slice_get old.nodes k ≡ Some z → x ≡ z
  was_there k z e h = let g : slice_get old.nodes k ≡ Some x = subst (λ i. slice_get old.nodes i ≡ Some x) e r.there in cc

  is_there : (k : ℕ) → at ≡ k → slice_get new.nodes k ≡ Some y
  is_there k e = subst (λ i. slice_get new.nodes i ≡ Some y) e now_there

  -- a run of the new netlist is one of the old, where the new node says all that the old one said
  old_trace : ((run : Run) → Holds run at y → Holds run at x) → (run : Run) → IsTrace new run → IsTrace old run
  old_trace weaker run tr = record {
    fits = λ k z h. elim (cases_eq at k) [
      | inl e ↦ subst (λ u. Fits run k (shape_of u)) (was_there k z e h) (subst (Fits run k) r.shape (tr.fits k y (is_there k e)))
      | inr ne ↦ tr.fits k z (others k ne ∙ h)
    ];
    holds = λ k z h. elim (cases_eq at k) [
      | inl e ↦ subst (λ u. Holds run k u) (was_there k z e h) (subst (λ i. Holds run i x) e (weaker run (tr.holds at y now_there)))
      | inr ne ↦ tr.holds k z (others k ne ∙ h)
    ];
    line = λ n p. tr.line n (record { place = p.place; there = rw r.ports p.there });
  }

  replaced_grows : ((run : Run) → Holds run at y → Holds run at x) → Grows old new
  replaced_grows weaker = record {
    runs = λ run q. record {
      trace = old_trace weaker run q.trace;
      reset = q.reset;
      held = record { each = λ k p e. q.held.each k p (rw r.ports e) };
    };
    shapes = same_shapes;
  }

  replaced_open : open_shape y ≡ None → open_at new at ≡ None
  unfolding open_in
  replaced_open e = let q = now_there in rw q e

  replaced_others : (k : ℕ) → (k ≡ at → ⊥) → open_at new k ≡ open_at old k
  unfolding open_in
  replaced_others k h = ap (option_and_then open_shape) (others k (λ e. h (sym e)))

  replaced_size : size_of new ≡ size_of old
  unfolding size_of
  replaced_size = rw r.nodes (sum_by-replaced _ old.nodes at x y r.there (ap (λ b. if b then 1 else 0) (r.inner' ∙ sym r.inner)))

  replaced_register_bits : register_bits_of new ≡ register_bits_of old
  unfolding register_bits_of
  replaced_register_bits = rw r.nodes (sum_by-replaced register_bits old.nodes at x y r.there r.register_bits')

  replaced_memory_bits : memory_bits_of new ≡ memory_bits_of old
  unfolding memory_bits_of
  replaced_memory_bits = rw r.nodes (sum_by-replaced memory_bits old.nodes at x y r.there r.memory_bits')

  -- an input node is not replaced
  inputs : (n k w : ℕ) → slice_get old.nodes n ≡ Some (Input k w) → slice_get new.nodes n ≡ Some (Input k w)
  inputs n k w h = elim (cases_eq at n) [
    | inl e ↦ absurd (let q : x ≡ Input k w = was_there n _ e h in let i : is_inner (Input k w) ≡ true = subst (λ u. is_inner u ≡ true) q r.inner in cc)
    | inr ne ↦ others n ne ∙ h
  ]

  replaced_fits : IsWellFormed old → NodeFits new at y → IsWellFormed new
  replaced_fits w f = record {
    nodes = λ k z h. elim (cases_eq at k) [
      | inl e ↦ (let q : slice_get new.nodes k ≡ Some y = is_there k e in let s : y ≡ z = cc in
          subst (λ u. NodeFits new k u) s (subst (λ i. NodeFits new i y) e f))
      | inr ne ↦ kept_node old new same_shapes same_end k z (w.nodes k z (sym (others k ne) ∙ h))
    ];
    ends = λ k p h. kept_end old new inputs same_shapes k p.direction p.node (w.ends k p (rw r.ports at h));
  }

-- the register behind an open width
pub register_there : (o : Option Node) (w : ℕ) → option_and_then open_shape o ≡ Some (Value w) → (r : Option ℕ) × (o ≡ Some (Register w r None))
register_there None w h = absurd (cc)
register_there (Some (Register v r None)) w h = (r, let e : v ≡ w = cc in ap (λ u. Some (Register u r None)) e)
register_there (Some (Register v r (Some n))) w h = absurd (cc)
register_there (Some (Memory a v None)) w h = absurd (cc)
register_there (Some (Memory a v (Some d))) w h = absurd (cc)
register_there (Some (Input k v)) w h = absurd (cc)
register_there (Some (Constant x)) w h = absurd (cc)
register_there (Some (Not x)) w h = absurd (cc)
register_there (Some (Binary op x y)) w h = absurd (cc)
register_there (Some (Choose c x y)) w h = absurd (cc)
register_there (Some (Join x y)) w h = absurd (cc)
register_there (Some (Cut x u v)) w h = absurd (cc)
register_there (Some (MemoryRead s x)) w h = absurd (cc)

-- the memory behind open words
pub memory_there : (o : Option Node) (a w : ℕ) → option_and_then open_shape o ≡ Some (Words a w) → o ≡ Some (Memory a w None)
memory_there None a w h = absurd (cc)
memory_there (Some (Register v r None)) a w h = absurd (cc)
memory_there (Some (Register v r (Some n))) a w h = absurd (cc)
memory_there (Some (Memory b v None)) a w h = let e : b ≡ a = cc in let f : v ≡ w = cc in cc
memory_there (Some (Memory b v (Some d))) a w h = absurd (cc)
memory_there (Some (Input k v)) a w h = absurd (cc)
memory_there (Some (Constant x)) a w h = absurd (cc)
memory_there (Some (Not x)) a w h = absurd (cc)
memory_there (Some (Binary op x y)) a w h = absurd (cc)
memory_there (Some (Choose c x y)) a w h = absurd (cc)
memory_there (Some (Join x y)) a w h = absurd (cc)
memory_there (Some (Cut x u v)) a w h = absurd (cc)
memory_there (Some (MemoryRead s x)) a w h = absurd (cc)

-- a register with its drive says all that it said without
undriven : (run : Run) (n w : ℕ) (r : Option ℕ) (next : Bus) → Holds run n (Register w r (Some next)) → Holds run n (Register w r None)
undriven run n w None next h = tt
undriven run n w (Some v) next h = λ t e. h t ∙ ap (λ b. if b then v else run.at t next.node) e

driven : (run : Run) (n w : ℕ) (r : Option ℕ) (next : Bus) → Holds run n (Register w r (Some next)) → (t : ℕ) → run.rst t ≡ false → run.at (suc t) n ≡ run.at t next.node
driven run n w None next h t e = h t
driven run n w (Some v) next h t e = h t ∙ ap (λ b. if b then v else run.at t next.node) e

module _ (old new : Net) (b next : Bus) (d : Drives old new b next) where
  drives_replaces : Replaces old new b.node (Register b.width d.reset None) (Register b.width d.reset (Some next))
  drives_replaces = record { there = d.there; nodes = d.nodes; ports = d.ports; shape = refl; inner = refl; inner' = refl; register_bits' = refl; memory_bits' = refl }

  pub drive_grows : Grows old new
  drive_grows = replaced_grows _ _ _ _ _ drives_replaces (λ run h. undriven run b.node b.width d.reset next h)

  pub drive_open : open_at new b.node ≡ None
  drive_open = replaced_open _ _ _ _ _ drives_replaces refl

  pub drive_others : (k : ℕ) → (k ≡ b.node → ⊥) → open_at new k ≡ open_at old k
  drive_others = replaced_others _ _ _ _ _ drives_replaces

  pub drive_size : size_of new ≡ size_of old
  drive_size = replaced_size _ _ _ _ _ drives_replaces

  pub drive_register_bits : register_bits_of new ≡ register_bits_of old
  drive_register_bits = replaced_register_bits _ _ _ _ _ drives_replaces

  pub drive_memory_bits : memory_bits_of new ≡ memory_bits_of old
  drive_memory_bits = replaced_memory_bits _ _ _ _ _ drives_replaces

  pub drive_value : (run : Run) → IsRun new run → (t : ℕ) → run.at (suc (suc t)) b.node ≡ run.at (suc t) next.node
  drive_value run q t = driven run b.node b.width d.reset next (q.trace.holds b.node _ (now_there _ _ _ _ _ drives_replaces)) (suc t) (q.reset.later t)

  pub drive_first : is_free old b.node ≡ true → (run : Run) → IsRun new run → run.at 1 b.node ≡ run.at 0 next.node
  unfolding is_free
  drive_first f run q =
      let e : d.reset ≡ None = free_reset d.reset (let a = d.there in rw a at f) in
      let h : Holds run b.node (Register b.width None (Some next)) =
      subst (λ r. Holds run b.node (Register b.width r (Some next))) e (q.trace.holds b.node _ (now_there _ _ _ _ _ drives_replaces)) in h 0
    where
      free_reset : (r : Option ℕ) → has_no_reset (Register b.width r None) ≡ true → r ≡ None
      free_reset None f = refl
      free_reset (Some v) f = absurd (cc)

pub register_fits : (nodes : List Node) (ports : List Port) (name : Option (List ℕ)) (at w : ℕ) (r : Option ℕ) (next : Bus)
    → slice_get nodes at ≡ Some (Register w r None) → IsBus (record { nodes = nodes; ports = ports; name = name }) next → next.width ≡ w
    → IsWellFormed (record { nodes = nodes; ports = ports; name = name })
    → IsWellFormed (record { nodes = slice_set nodes at (Register w r (Some next)); ports = ports; name = name })
register_fits nodes ports name at w r next h i e f =
    let q : Replaces (record { nodes = nodes; ports = ports; name = name }) (record { nodes = slice_set nodes at (Register w r (Some next)); ports = ports; name = name }) at (Register w r None) (Register w r (Some next))
    = record { there = h; nodes = refl; ports = refl; shape = refl; inner = refl; inner' = refl; register_bits' = refl; memory_bits' = refl } in
    let g : NodeFits (record { nodes = nodes; ports = ports; name = name }) at (Register w r None) = f.nodes at _ h in
    replaced_fits _ _ _ _ _ q f (g.0, g.1, (kept_bus _ _ (same_shapes _ _ _ _ _ q) (same_end _ _ _ _ _ q) next i, e))

module _ (old new : Net) (s : Store) (drive : MemoryDrive) (d : DrivesMemory old new s drive) where
  memory_replaces : Replaces old new s.node (Memory s.address_bits s.width None) (Memory s.address_bits s.width (Some drive))
  memory_replaces = record { there = d.there; nodes = d.nodes; ports = d.ports; shape = refl; inner = refl; inner' = refl; register_bits' = refl; memory_bits' = refl }

  pub memory_grows : Grows old new
  memory_grows = replaced_grows _ _ _ _ _ memory_replaces (λ run h. tt)

  pub memory_open : open_at new s.node ≡ None
  memory_open = replaced_open _ _ _ _ _ memory_replaces refl

  pub memory_others : (k : ℕ) → (k ≡ s.node → ⊥) → open_at new k ≡ open_at old k
  memory_others = replaced_others _ _ _ _ _ memory_replaces

  pub memory_size : size_of new ≡ size_of old
  memory_size = replaced_size _ _ _ _ _ memory_replaces

  pub memory_register_bits : register_bits_of new ≡ register_bits_of old
  memory_register_bits = replaced_register_bits _ _ _ _ _ memory_replaces

  pub memory_memory_bits : memory_bits_of new ≡ memory_bits_of old
  memory_memory_bits = replaced_memory_bits _ _ _ _ _ memory_replaces

  pub memory_value : (run : Run) → IsRun new run → (t k : ℕ)
      → run.word (suc t) s.node k ≡ stored_of (run.at t drive.write.node) (run.at t drive.address.node) (run.at t drive.value.node) k (run.word t s.node k)
  memory_value run q = q.trace.holds s.node _ (now_there _ _ _ _ _ memory_replaces)

pub memory_fits : (nodes : List Node) (ports : List Port) (name : Option (List ℕ)) (at a w : ℕ) (drive : MemoryDrive)
    → slice_get nodes at ≡ Some (Memory a w None) → IsDrive (record { nodes = nodes; ports = ports; name = name }) a w drive
    → IsWellFormed (record { nodes = nodes; ports = ports; name = name })
    → IsWellFormed (record { nodes = slice_set nodes at (Memory a w (Some drive)); ports = ports; name = name })
memory_fits nodes ports name at a w drive h i f =
    let q : Replaces (record { nodes = nodes; ports = ports; name = name }) (record { nodes = slice_set nodes at (Memory a w (Some drive)); ports = ports; name = name }) at (Memory a w None) (Memory a w (Some drive))
    = record { there = h; nodes = refl; ports = refl; shape = refl; inner = refl; inner' = refl; register_bits' = refl; memory_bits' = refl } in
    let g : NodeFits (record { nodes = nodes; ports = ports; name = name }) at (Memory a w None) = f.nodes at _ h in
    replaced_fits _ _ _ _ _ q f (g.0, g.1, kept_drive _ _ (same_shapes _ _ _ _ _ q) (same_end _ _ _ _ _ q) a w drive i)

-- a register that is opened, read by a block and driven behind it: nothing else has changed
pub driven_keeps : (old made mid new : Net) (n : ℕ) → Grows old made → made.ports ≡ old.ports → made.name ≡ old.name → OthersStay old made n → open_at old n ≡ None
    → Keeps made mid → Grows mid new → new.ports ≡ mid.ports → new.name ≡ mid.name → OthersStay mid new n → open_at new n ≡ None → Keeps old new
driven_keeps old made mid new n grows ports name others fresh keeps drives ports' name' others' driven = record {
  runs = λ run r. grows.runs run (keeps.runs run (drives.runs run r));
  shapes = λ k shape h. drives.shapes k shape (keeps.shapes k shape (grows.shapes k shape h));
  undriven = λ k. elim (cases_eq k n) [
    | inl e ↦ ap (open_at new) e ∙ driven ∙ sym fresh ∙ sym (ap (open_at old) e)
    | inr e ↦ others' k e ∙ keeps.undriven k ∙ others k e
  ];
  ports = ports' ∙ keeps.ports ∙ ports;
  name = name' ∙ keeps.name ∙ name;
}
