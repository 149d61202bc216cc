-- Each run of a netlist's module is one of the netlist.
use Rattle.std.proofs.Common.{◌≡◌, ℕ, zero, suc, ◌+◌, ◌-◌, ◌/◌, ◌%◌, ◌<◌, ◌≤◌, ◌^◌, Bool, true, false, ◌&&◌, List, [], ◌∷◌, ◌++◌, length, take, map, Option, Some, None, refl, sym, ap, ◌∙◌, arith, add-one, eq-eqb, eqb-true, ne_eqb, subst, take_at}
use Rattle.std.specs.Prelude.{slice_get, codes, option_map, option_and_then, unwrap_or, nat_eq, ◌==◌, bit_and, bit_or, if◌then◌else◌, find, bytes_eq}
use Rattle.std.proofs.lemmas.List.{length-map}
use Rattle.std.proofs.Math.Nat.{div-one, mod-eq_of_lt}
use Rattle.std.specs.Option.{option_map_or}
use Rattle.gl_bits.proofs.AllLists.{all_front, all_back}
use Rattle.gl_bits.proofs.Options.{some_same, not_some}
use Rattle.gl_bits.proofs.Bools.{bytes_other, not_both}
use Rattle.gl_bits.specs.Words.{not_of, lt_of, le_of, cut_of}
use Rattle.gl_net.specs.declared.node.BinaryOp.{BinaryOp}
use Rattle.gl_net.specs.declared.node.BinaryOp.TheVariants.{Add, Sub, Mul, And, Xor, Or, Eq, Ne, Lt, Le}
use Rattle.gl_net.specs.declared.node.Node.{Node}
use Rattle.gl_net.specs.declared.node.Node.TheVariants.{Input, Constant, Not, Binary, Choose, Join, Cut, Register, Memory, MemoryRead}
use Rattle.gl_net.specs.declared.node.Port.{Port}
use Rattle.gl_net.specs.declared.node.Direction.{Direction}
use Rattle.gl_net.specs.declared.node.Direction.TheVariants.{In, Out}
use Rattle.gl_net.specs.Net as circuit
use Rattle.gl_net.specs.Net.{Net, Run, Shape, Value, Words, shape_of, Holds, Fits, IsPort, reset_name, stored_of, open_in, open_shape}
use Rattle.gl_net.specs.WellFormed.{EndFits}
use Rattle.gl_net.specs.PortValues as circuit_ports
use Rattle.gl_net.specs.PortValues.{port_values, leads_in, bits_of}
use Rattle.gl_verilog.specs.Module as verilog
use Rattle.gl_verilog.specs.Module.{Declaration, Expr, Statement, Assignment, Nets, Memories, value_of, later_or, taken, assigned, written, assigned_by, written_by, number_of}
use Rattle.gl_verilog.specs.Run.{IsRegister, IsSettled, IsRun, port_of, is_input, is_input_at, input_values}
use Rattle.gl_verilog.proofs.Edges.{later_or-none}
use Rattle.gl_verilog_writer.specs.Meaning.{declaration_of, clock, kind_of, IsRunOf}
use Rattle.gl_verilog_writer.specs.Design.{with_option, numbered}
use Rattle.gl_verilog_writer.proofs.Model.{Named, at_node, net_of, binary_meaning, kind_for, declaration_for, expression_of, assigned_to, assignment_for, shown_by, output_for, block_for, counted, declarations_in, line_in, module_in}
use Rattle.gl_verilog_writer.proofs.Lists.{numbered-each}
use Rattle.gl_verilog_writer.proofs.Named.{node_there, port_there, port_found}
use Rattle.gl_verilog_writer.proofs.Fitted.{IsCarried, bus}

-- ---- the later of what blocks give

module _ (one : Statement → Option ℕ) where
  abbrev latest : List Statement → Option ℕ
  latest [] = None
  latest (b ∷ bs) = later_or (latest bs) (one b)

  abbrev given : Option Statement → Option ℕ
  given None = None
  given (Some b) = one b

  latest-with : (o : Option Statement) (bs : List Statement) → latest (with_option o bs) ≡ later_or (latest bs) (given o)
  latest-with None bs = sym (later_or-none (latest bs))
  latest-with (Some b) bs = refl

  latest-none : {A : Type 0} (f : ℕ → A → Option Statement) (n : ℕ) (xs : List A) → ((k : ℕ) (x : A) → slice_get xs k ≡ Some x → given (f (n + k) x) ≡ None) → latest (numbered f n xs) ≡ None
  latest-none f n [] h = refl
  latest-none f n (x ∷ xs) h =
      let a : given (f n x) ≡ None = ap (λ (m : ℕ). given (f m x)) (let q : n ≡ n + 0 = omega arith in q) ∙ h 0 x refl in
      let b = latest-none f (n + 1) xs (λ k y e. ap (λ (m : ℕ). given (f m y)) (let q : n + 1 + k ≡ n + suc k = omega arith in q) ∙ h (suc k) y e) in
      latest-with (f n x) (numbered f (n + 1) xs) ∙ ap (λ (o : Option ℕ). later_or o (given (f n x))) b ∙ a

  latest-one : {A : Type 0} (f : ℕ → A → Option Statement) (n : ℕ) (xs : List A) (k : ℕ) (x : A) → slice_get xs k ≡ Some x → ((j : ℕ) (y : A) → slice_get xs j ≡ Some y → (j ≡ k → ⊥) → given (f (n + j) y) ≡ None) → latest (numbered f n xs) ≡ given (f (n + k) x)
  latest-one f n [] k x e h = absurd (not_some x e)
  latest-one {A} f n (z ∷ xs) zero x e h =
      let a : given (f n z) ≡ given (f (n + 0) x) = ap (λ (y : A). given (f n y)) (some_same z x e) ∙ ap (λ (m : ℕ). given (f m x)) (let q : n ≡ n + 0 = omega arith in q) in
      let b = latest-none f (n + 1) xs (λ j y g. ap (λ (m : ℕ). given (f m y)) (let q : n + 1 + j ≡ n + suc j = omega arith in q) ∙ h (suc j) y g (λ q. omega arith)) in
      latest-with (f n z) (numbered f (n + 1) xs) ∙ ap (λ (o : Option ℕ). later_or o (given (f n z))) b ∙ a
  latest-one f n (z ∷ xs) (suc k) x e h =
      let a : given (f n z) ≡ None = ap (λ (m : ℕ). given (f m z)) (let q : n ≡ n + 0 = omega arith in q) ∙ h 0 z refl (λ q. omega arith) in
      let b = latest-one f (n + 1) xs k x e (λ j y g ne. ap (λ (m : ℕ). given (f m y)) (let q : n + 1 + j ≡ n + suc j = omega arith in q) ∙ h (suc j) y g (λ q. ne (let r : j ≡ k = omega (arith, q) in r))) in
      latest-with (f n z) (numbered f (n + 1) xs) ∙ ap (later_or (latest (numbered f (n + 1) xs))) a ∙ later_or-none (latest (numbered f (n + 1) xs)) ∙ b ∙ ap (λ (m : ℕ). given (f m x)) (let q : n + 1 + k ≡ n + suc k = omega arith in q)

assigned-latest : (v : Nets) (m : Memories) (bs : List Statement) (r : ℕ) → assigned_by v m bs r ≡ latest (λ b. assigned v m b r) bs
assigned-latest v m [] r = refl
assigned-latest v m (b ∷ bs) r = ap (λ (o : Option ℕ). later_or o (assigned v m b r)) (assigned-latest v m bs r)

written-latest : (v : Nets) (m : Memories) (bs : List Statement) (k at : ℕ) → written_by v m bs k at ≡ latest (λ b. written v m b k at) bs
written-latest v m [] k at = refl
written-latest v m (b ∷ bs) k at = ap (λ (o : Option ℕ). later_or o (written v m b k at)) (written-latest v m bs k at)

taken-none : (b : Bool) (o : Option ℕ) → (if b then o else o) ≡ o
taken-none true o = refl
taken-none false o = refl

not-same : (p m n : ℕ) → (m ≡ n → ⊥) → nat_eq (at_node p m) (at_node p n) ≡ false
not-same p m n ne = ne_eqb (at_node p m) (at_node p n) (λ e. ne (let q : m ≡ n = omega (arith, e) in q))

assigned-not : (v : Nets) (w : Memories) (p line m n : ℕ) (x : Node) → (m ≡ n → ⊥) → given (λ b. assigned v w b (at_node p n)) (block_for p line m x) ≡ None
assigned-not v w p line m n (Register u None None) ne = refl
assigned-not v w p line m n (Register u (Some value) None) ne = refl
assigned-not v w p line m n (Register u None (Some next)) ne = let f = not-same p m n ne in rw f refl
assigned-not v w p line m n (Register u (Some value) (Some next)) ne = let f = not-same p m n ne in rw f (taken-none (nat_eq (v line) 1) None)
assigned-not v w p line m n (Memory bits u None) ne = refl
assigned-not v w p line m n (Memory bits u (Some drive)) ne = taken-none (nat_eq (v (at_node p drive.write.node)) 1) None
assigned-not v w p line m n (Input place u) ne = refl
assigned-not v w p line m n (Constant word) ne = refl
assigned-not v w p line m n (Not x) ne = refl
assigned-not v w p line m n (Binary o x y) ne = refl
assigned-not v w p line m n (Choose test x y) ne = refl
assigned-not v w p line m n (Join x y) ne = refl
assigned-not v w p line m n (Cut x high low) ne = refl
assigned-not v w p line m n (MemoryRead store x) ne = refl

written-not : (v : Nets) (w : Memories) (p line m n at : ℕ) (x : Node) → (m ≡ n → ⊥) → given (λ b. written v w b (at_node p n) at) (block_for p line m x) ≡ None
written-not v w p line m n at (Register u None None) ne = refl
written-not v w p line m n at (Register u (Some value) None) ne = refl
written-not v w p line m n at (Register u None (Some next)) ne = refl
written-not v w p line m n at (Register u (Some value) (Some next)) ne = taken-none (nat_eq (v line) 1) None
written-not v w p line m n at (Memory bits u None) ne = refl
written-not v w p line m n at (Memory bits u (Some drive)) ne = let f = not-same p m n ne in rw f (taken-none (nat_eq (v (at_node p drive.write.node)) 1) None)
written-not v w p line m n at (Input place u) ne = refl
written-not v w p line m n at (Constant word) ne = refl
written-not v w p line m n at (Not x) ne = refl
written-not v w p line m n at (Binary o x y) ne = refl
written-not v w p line m n at (Choose test x y) ne = refl
written-not v w p line m n at (Join x y) ne = refl
written-not v w p line m n at (Cut x high low) ne = refl
written-not v w p line m n at (MemoryRead store x) ne = refl

chosen : (b : Bool) (x y z : ℕ) → unwrap_or (if b then Some x else Some y) z ≡ (if b then x else y)
chosen true x y z = refl
chosen false x y z = refl

stored : (b d : Bool) (x z : ℕ) → unwrap_or (if b then (if d then Some x else None) else None) z ≡ (if b && d then x else z)
stored true true x z = refl
stored true false x z = refl
stored false d x z = refl

-- a gate of single bits is the comparison
gate-below : (x y : ℕ) → x < 2 → y < 2 → bit_and (not_of 1 x) y ≡ lt_of x y
unfolding not_of lt_of
gate-below zero zero h k = refl
gate-below zero (suc zero) h k = refl
gate-below (suc zero) zero h k = refl
gate-below (suc zero) (suc zero) h k = refl
gate-below (suc (suc x)) y h k = absurd (omega (arith, h))
gate-below zero (suc (suc y)) h k = absurd (omega (arith, k))
gate-below (suc zero) (suc (suc y)) h k = absurd (omega (arith, k))

gate-most : (x y : ℕ) → x < 2 → y < 2 → bit_or (not_of 1 x) y ≡ le_of x y
unfolding not_of le_of
gate-most zero zero h k = refl
gate-most zero (suc zero) h k = refl
gate-most (suc zero) zero h k = refl
gate-most (suc zero) (suc zero) h k = refl
gate-most (suc (suc x)) y h k = absurd (omega (arith, h))
gate-most zero (suc (suc y)) h k = absurd (omega (arith, k))
gate-most (suc zero) (suc (suc y)) h k = absurd (omega (arith, k))

-- what two nets mean under an operation is what the netlist's node says of them
binary-same : (v : Nets) (w' : Memories) (o : BinaryOp) (w m n : ℕ) → v m < 2 ^ w → v n < 2 ^ w
    → verilog.value_of v w' (binary_meaning o w (verilog.Net m) (verilog.Net n)) ≡ circuit.binary_of o w (v m) (v n)
binary-same v w' Add w m n h k = refl
binary-same v w' Sub w m n h k = refl
binary-same v w' Mul w m n h k = refl
binary-same v w' And w m n h k = refl
binary-same v w' Xor w m n h k = refl
binary-same v w' Or w m n h k = refl
binary-same v w' Eq w m n h k = refl
binary-same v w' Ne w m n h k = refl
binary-same v w' Lt w m n h k = by (w == 1) refl
  where
    by : (b : Bool) → (w == 1) ≡ b → verilog.value_of v w' (if b then verilog.Binary verilog.And 1 (verilog.Invert 1 (verilog.Net m)) (verilog.Net n) else verilog.Binary verilog.Lt w (verilog.Net m) (verilog.Net n)) ≡ lt_of (v m) (v n)
    by true e = let s : w ≡ 1 = eqb-true w 1 e in gate-below (v m) (v n) (subst (λ (z : ℕ). v m < 2 ^ z) s h) (subst (λ (z : ℕ). v n < 2 ^ z) s k)
    by false e = refl
binary-same v w' Le w m n h k = by (w == 1) refl
  where
    by : (b : Bool) → (w == 1) ≡ b → verilog.value_of v w' (if b then verilog.Binary verilog.Or 1 (verilog.Invert 1 (verilog.Net m)) (verilog.Net n) else verilog.Binary verilog.Le w (verilog.Net m) (verilog.Net n)) ≡ le_of (v m) (v n)
    by true e = let s : w ≡ 1 = eqb-true w 1 e in gate-most (v m) (v n) (subst (λ (z : ℕ). v m < 2 ^ z) s h) (subst (λ (z : ℕ). v n < 2 ^ z) s k)
    by false e = refl

-- ---- ports by name

moved-up : (v : ℕ → Option ℕ) (o : Option ℕ) → option_and_then v (option_map (λ n. n + 1) o) ≡ option_and_then (λ n. v (n + 1)) o
moved-up v None = refl
moved-up v (Some n) = refl

map-then : {A B : Type 0} (f : A → B) (o : Option A) → option_map f o ≡ option_and_then (λ x. Some (f x)) o
map-then f None = refl
map-then f (Some x) = refl

then-map : {A B C : Type 0} (g : B → C) (f : A → Option B) (o : Option A) → option_map g (option_and_then f o) ≡ option_and_then (λ x. option_map g (f x)) o
then-map g f None = refl
then-map g f (Some x) = refl

port-lookup : (net : Net) (name : List ℕ) (v : ℕ → Option ℕ) (shows : Port → Option ℕ) (qs : List Port) → ((k : ℕ) (q : Port) → slice_get qs k ≡ Some q → v k ≡ shows q)
    → option_and_then v (number_of (map (declaration_of net) qs) name) ≡ option_and_then shows (find (λ (q : Port). bytes_eq q.name name) qs)
port-lookup net name v shows [] h = refl
port-lookup net name v shows (q ∷ qs) h = by (bytes_eq q.name name) (port-lookup net name (λ n. v (n + 1)) shows qs (λ k r e. ap v (add-one k) ∙ h (suc k) r e))
  where
    by : (b : Bool) → option_and_then (λ n. v (n + 1)) (number_of (map (declaration_of net) qs) name) ≡ option_and_then shows (find (λ (q : Port). bytes_eq q.name name) qs)
        → option_and_then v (if b then Some 0 else option_map (λ n. n + 1) (number_of (map (declaration_of net) qs) name)) ≡ option_and_then shows (if b then Some q else find (λ (q : Port). bytes_eq q.name name) qs)
    by true e = h 0 q refl
    by false e = moved-up v (number_of (map (declaration_of net) qs) name) ∙ e

-- a port is an input in the module where it is one in the netlist
-- one bit is all of its net
cut-same : (v : Nets) (word : Memories) (w high low n : ℕ) → low ≤ high → high < w → v n < 2 ^ w → (b : Bool) → (w == 1) ≡ b → value_of v word (if b then verilog.Net n else verilog.Select high low n) ≡ cut_of high low (v n)
unfolding cut_of
cut-same v word w high low n l h f true e =
    let one = eqb-true w 1 e in
    let a : low ≡ 0 = omega (arith, one, l, h) in
    let b : high ≡ 0 = omega (arith, one, h) in
    let g : v n < 2 ^ 1 = subst (λ (k : ℕ). v n < 2 ^ k) one f in
    rw (a, b) (let q : v n ≡ (v n / 2 ^ 0) % 2 ^ (0 + 1 - 0) = sym (mod-eq_of_lt (let z : v n / 1 < 2 = omega (arith, g, div-one (v n)) in z) ∙ div-one (v n)) in q)
cut-same v word w high low n l h f false e = refl

kind-same : (d : Direction) → is_input (kind_of d) ≡ leads_in d
kind-same In = refl
kind-same Out = refl

fits-shape : (run : Run) (n : ℕ) (s : Shape) → ((t : ℕ) → (run.at t n < 2 ^ bits_of (Some s)) × ((k : ℕ) → run.word t n k < 2 ^ bits_of (Some s))) → Fits run n s
fits-shape run n (Value w) h = λ t. (h t).0
fits-shape run n (Words bits w) h = λ t k. (h t).1 k

module _ (net : Net) (names : ℕ → List ℕ) (c : Named net names) (value : ℕ → Nets) (word : ℕ → Memories) (r : IsRun (module_in net names) value word) where
  abbrev ds : List Declaration
  ds = declarations_in net names

  abbrev p : ℕ
  p = length net.ports

  abbrev line : ℕ
  line = line_in net names

  abbrev run : Run
  run = record { at = λ t n. value t (at_node p n); word = λ t n k. word t (at_node p n) k; rst = λ t. nat_eq (value t line) 1; held = λ k. 0 }

  settled : (t : ℕ) → IsSettled (numbered (assignment_for p) 0 net.nodes ++ numbered (output_for p) 0 net.ports) (value t) (word t)
  unfolding module_in
  settled t = r.settled t

  -- each net has its value
  value-at : (t n : ℕ) (x : Node) (e : Expr) → slice_get net.nodes n ≡ Some x → expression_of p x ≡ Some e → value t (at_node p n) ≡ value_of (value t) (word t) e
  value-at t n x e f g =
      numbered-each (λ (a : Assignment). value t a.target ≡ value_of (value t) (word t) a.value) (assignment_for p) 0 net.nodes n x (assigned_to (at_node p n) e)
      (all_front (λ (a : Assignment). value t a.target ≡ value_of (value t) (word t) a.value) (numbered (assignment_for p) 0 net.nodes) (numbered (output_for p) 0 net.ports) (settled t))
      f (ap (option_map (assigned_to (at_node p (0 + n)))) g ∙ ap (λ (m : ℕ). Some (assigned_to (at_node p m) e)) (let q : 0 + n ≡ n = omega arith in q))

  output-at : (t place : ℕ) (q : Port) → slice_get net.ports place ≡ Some q → q.direction ≡ Out → value t (suc place) ≡ value t (at_node p q.node)
  output-at t place q f g =
      numbered-each (λ (a : Assignment). value t a.target ≡ value_of (value t) (word t) a.value) (output_for p) 0 net.ports place q (assigned_to (suc place) (net_of p q.node))
      (all_back (λ (a : Assignment). value t a.target ≡ value_of (value t) (word t) a.value) (numbered (assignment_for p) 0 net.nodes) (numbered (output_for p) 0 net.ports) (settled t))
      f (ap (λ (d : Direction). shown_by p (0 + place) d q.node) g ∙ ap (λ (m : ℕ). Some (assigned_to (suc m) (net_of p q.node))) (let q : 0 + place ≡ place = omega arith in q))

  -- the node of a port shows the same
  port-at : (t place : ℕ) (q : Port) → slice_get net.ports place ≡ Some q → value t (suc place) ≡ value t (at_node p q.node)
  port-at t place q f = by q.direction refl (c.netlist.formed.ends place q f)
    where
      by : (d : Direction) → q.direction ≡ d → EndFits net place d q.node → value t (suc place) ≡ value t (at_node p q.node)
      by In g e = sym (value-at t q.node _ _ e.1 refl)
      by Out g e = output-at t place q f g

  -- what a register holds in the next cycle
  next-at : (t n : ℕ) (x : Node) → slice_get net.nodes n ≡ Some x → IsRegister (kind_for x) → value (suc t) (at_node p n) ≡ unwrap_or (given (λ b. assigned (value t) (word t) b (at_node p n)) (block_for p line n x)) (value t (at_node p n))
  unfolding module_in
  next-at t n x e k =
      let m = at_node p n in
      let a : assigned_by (value t) (word t) (numbered (block_for p line) 0 net.nodes) m ≡ given (λ b. assigned (value t) (word t) b m) (block_for p line n x) =
      assigned-latest (value t) (word t) (numbered (block_for p line) 0 net.nodes) m
      ∙ latest-one (λ b. assigned (value t) (word t) b m) (block_for p line) 0 net.nodes n x e (λ j y f ne. assigned-not (value t) (word t) p line (0 + j) n y (λ q. ne (let s : j ≡ n = omega (arith, q) in s)))
      ∙ ap (λ (i : ℕ). given (λ b. assigned (value t) (word t) b m) (block_for p line i x)) (let q : 0 + n ≡ n = omega arith in q) in
      ap (λ (s : ℕ). value s m) (sym (add-one t)) ∙ r.registers t m (declaration_for names n x) (node_there net names c n x e) k ∙ ap (λ (o : Option ℕ). unwrap_or o (value t m)) a

  -- what a memory holds in the next cycle
  word-at : (t n k : ℕ) (x : Node) → slice_get net.nodes n ≡ Some x → word (suc t) (at_node p n) k ≡ unwrap_or (given (λ b. written (value t) (word t) b (at_node p n) k) (block_for p line n x)) (word t (at_node p n) k)
  unfolding module_in
  word-at t n k x e =
      let m = at_node p n in
      let a : written_by (value t) (word t) (numbered (block_for p line) 0 net.nodes) m k ≡ given (λ b. written (value t) (word t) b m k) (block_for p line n x) =
      written-latest (value t) (word t) (numbered (block_for p line) 0 net.nodes) m k
      ∙ latest-one (λ b. written (value t) (word t) b m k) (block_for p line) 0 net.nodes n x e (λ j y f ne. written-not (value t) (word t) p line (0 + j) n k y (λ q. ne (let s : j ≡ n = omega (arith, q) in s)))
      ∙ ap (λ (i : ℕ). given (λ b. written (value t) (word t) b m k) (block_for p line i x)) (let q : 0 + n ≡ n = omega arith in q) in
      ap (λ (s : ℕ). word s m k) (sym (add-one t)) ∙ r.memories t m k ∙ ap (λ (o : Option ℕ). unwrap_or o (word t m k)) a

  -- what a net carries is below 2 ^ width
  carried-small : (t n w : ℕ) → IsCarried net names n w → value t (at_node p n) < 2 ^ w
  unfolding module_in
  carried-small t n w h = subst (λ (k : ℕ). value t (at_node p n) < 2 ^ k) h.width (r.fits t (at_node p n) (declaration_for names n h.node) (node_there net names c n h.node h.there)).0

  itself : (n : ℕ) → nat_eq (at_node p n) (at_node p n) ≡ true
  itself n = eq-eqb (at_node p n) (at_node p n) refl

  holds : (n : ℕ) (x : Node) → slice_get net.nodes n ≡ Some x → Holds run n x
  unfolding stored_of open_in
  holds n (Input place w) e = tt
  holds n (Constant word') e = λ t. value-at t n _ _ e refl
  holds n (Not x) e = λ t. value-at t n _ _ e refl
  holds n (Binary o x y) e = λ t.
      let h = c.netlist.formed.nodes n (Binary o x y) e in
      let k : value t (at_node p y.node) < 2 ^ x.width = subst (λ (w : ℕ). value t (at_node p y.node) < 2 ^ w) (sym h.2) (carried-small t y.node y.width (bus net names c y h.1.bus)) in
      value-at t n _ _ e refl ∙ binary-same (value t) (word t) o x.width (at_node p x.node) (at_node p y.node) (carried-small t x.node x.width (bus net names c x h.0.bus)) k
  holds n (Choose test x y) e = λ t. value-at t n _ _ e refl
  holds n (Join x y) e = λ t. value-at t n _ _ e refl
  holds n (Cut x high low) e = λ t.
      let h = c.netlist.formed.nodes n (Cut x high low) e in
      value-at t n _ _ e refl ∙ cut-same (value t) (word t) x.width high low (at_node p x.node) h.1 h.2 (carried-small t x.node x.width (bus net names c x h.0.bus)) (x.width == 1) refl
  holds n (MemoryRead store x) e = λ t. value-at t n _ _ e refl
  holds n (Register w None None) e = tt
  holds n (Register w (Some value') None) e = λ t h. (let f : None ≡ Some (Value w) = sym (c.netlist.finished.driven n) ∙ ap (option_and_then open_shape) e in absurd (not_some (Value w) f))
  holds n (Register w None (Some next)) e = λ t. next-at t n _ e tt ∙ (let i = itself n in rw i refl)
  holds n (Register w (Some value') (Some next)) e = λ t. next-at t n _ e tt ∙ (let i = itself n in rw i (chosen (nat_eq (value t line) 1) value' (value t (at_node p next.node)) (value t (at_node p n))))
  holds n (Memory bits w None) e = tt
  holds n (Memory bits w (Some drive)) e = λ t k. word-at t n k _ e ∙ (let i = itself n in rw i (stored (nat_eq (value t (at_node p drive.write.node)) 1) (nat_eq (value t (at_node p drive.address.node)) k) (value t (at_node p drive.value.node)) (word t (at_node p n) k)))

  fits : (n : ℕ) (x : Node) → slice_get net.nodes n ≡ Some x → Fits run n (shape_of x)
  unfolding module_in
  fits n x e = fits-shape run n (shape_of x) (λ t. r.fits t (at_node p n) (declaration_for names n x) (node_there net names c n x e))

  line-is : (n : ℕ) → IsPort net In reset_name n → (t : ℕ) → run.rst t ≡ nat_eq (run.at t n) 1
  line-is n h t =
      let f = port_found net names c h.place _ h.there in
      let l : line ≡ suc h.place = ap (λ (o : Option ℕ). unwrap_or o 0) f in
      ap (λ (m : ℕ). nat_eq (value t m) 1) l ∙ ap (λ (m : ℕ). nat_eq m 1) (port-at t h.place _ h.there)

  -- what is found by a port's name, the clock's aside
  found-same : (v : ℕ → Option ℕ) (shows : Port → Option ℕ) (name : List ℕ) → ((k : ℕ) (q : Port) → slice_get net.ports k ≡ Some q → v (suc k) ≡ shows q) → bytes_eq name (codes "clk") ≡ false
      → option_and_then v (number_of (take (suc p) ds) name) ≡ option_and_then shows (find (λ (q : Port). bytes_eq q.name name) net.ports)
  found-same v shows name h e =
      let ps = map (declaration_of net) net.ports in
      let ns = counted (declaration_for names) 0 net.nodes in
      let f : bytes_eq (codes "clk") name ≡ false = bytes_other (codes "clk") name (λ q. not_both (bytes_eq name (codes "clk")) (ap (λ (w : List ℕ). bytes_eq w (codes "clk")) (sym q)) e) in
      let g : take p (ps ++ ns) ≡ ps = ap (λ (m : ℕ). take m (ps ++ ns)) (sym (length-map net.ports (declaration_of net))) ∙ take_at ps ns (length ps) refl in
      ap (λ (l : List Declaration). option_and_then v (if bytes_eq (codes "clk") name then Some 0 else option_map (λ n. n + 1) (number_of l name))) g
      ∙ ap (λ (b : Bool). option_and_then v (if b then Some 0 else option_map (λ n. n + 1) (number_of ps name))) f
      ∙ moved-up v (number_of ps name)
      ∙ port-lookup net name (λ n. v (n + 1)) shows net.ports (λ k q i. ap v (add-one k) ∙ h k q i)

  ports-same : (t : ℕ) (name : List ℕ) → bytes_eq name (codes "clk") ≡ false → port_of (module_in net names) value t name ≡ port_values net run t name
  unfolding module_in
  ports-same t name e =
      map-then (value t) (number_of (take (suc p) ds) name)
      ∙ found-same (λ n. Some (value t n)) (λ (q : Port). Some (value t (at_node p q.node))) name (λ k q h. ap Some (port-at t k q h)) e
      ∙ sym (map-then (λ (q : Port). value t (at_node p q.node)) (find (λ (q : Port). bytes_eq q.name name) net.ports))

  input-at : (k : ℕ) (q : Port) → slice_get net.ports k ≡ Some q → is_input_at ds (suc k) ≡ leads_in q.direction
  input-at k q h = ap (λ (o : Option Declaration). option_map_or (λ d. is_input d.kind) o false) (port_there net names c k q h) ∙ kind-same q.direction

  inputs-same : (t : ℕ) (name : List ℕ) → bytes_eq name (codes "clk") ≡ false → input_values (module_in net names) value t name ≡ circuit_ports.input_values net run t name
  unfolding module_in
  inputs-same t name e =
      let number : ℕ → Option ℕ = λ n. if is_input_at ds n then Some n else None in
      let port : Port → Option Port = λ (q : Port). if leads_in q.direction then Some q else None in
      let shows : Port → ℕ = λ (q : Port). value t (at_node p q.node) in
      then-map (value t) number (number_of (take (suc p) ds) name)
      ∙ found-same (λ n. option_map (value t) (number n)) (λ (q : Port). option_map shows (port q)) name (λ k q h. ap (λ (b : Bool). option_map (value t) (if b then Some (suc k) else None)) (input-at k q h) ∙ either-same t k q h q.direction) e
      ∙ sym (then-map shows port (find (λ (q : Port). bytes_eq q.name name) net.ports))
    where
      either-same : (t k : ℕ) (q : Port) → slice_get net.ports k ≡ Some q → (d : Direction)
          → option_map (value t) (if leads_in d then Some (suc k) else None) ≡ option_map (λ (q : Port). value t (at_node p q.node)) (if leads_in d then Some q else None)
      either-same t k q h In = ap Some (port-at t k q h)
      either-same t k q h Out = refl

  pub runs-same : IsRunOf net (module_in net names) value
  runs-same = record { run = run; trace = record { fits = fits; holds = holds; line = line-is }; ports = ports-same; inputs = inputs-same }

pub ports-declared : (net : Net) (names : ℕ → List ℕ) → take (suc (length net.ports)) (declarations_in net names) ≡ clock ∷ map (declaration_of net) net.ports
ports-declared net names =
    let ps = map (declaration_of net) net.ports in
    let ns = counted (declaration_for names) 0 net.nodes in
    ap (λ (l : List Declaration). clock ∷ l) (ap (λ (m : ℕ). take m (ps ++ ns)) (sym (length-map net.ports (declaration_of net))) ∙ take_at ps ns (length ps) refl)
