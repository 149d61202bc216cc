-- Each net of a netlist's module has one driver, and none depends on itself.
use Rattle.std.proofs.Common.{◌≡◌, ℕ, zero, suc, ◌+◌, ◌<◌, ◌≤◌, Bool, true, false, ◌&&◌, ◌||◌, List, [], ◌∷◌, ◌++◌, length, Option, Some, None, IfSome, is_some, refl, sym, ap, subst, ◌∙◌, arith, inl, inr, eq-eqb, eqb-true, ne_eqb, zero-add}
use Rattle.std.specs.Prelude.{slice_get, option_map, option_and_then, nat_eq, ◌==◌, if◌then◌else◌}
use Rattle.std.specs.List.{AllByRecursion}
use Rattle.std.proofs.lemmas.Option.{slice_get_within, slice_get_past}
use Rattle.gl_bits.proofs.AllLists.{all_append}
use Rattle.gl_bits.proofs.Bools.{or_cases, and_parts}
use Rattle.gl_bits.proofs.Options.{not_some}
use Rattle.gl_net.specs.declared.node.BinaryOp.{BinaryOp}
use Rattle.gl_net.specs.declared.node.BinaryOp.TheVariants.{Add, Sub, Mul, And, Xor, Or, Eq, Ne, Lt, Le}
use Rattle.gl_net.specs.declared.node.Node.{Node}
use Rattle.gl_net.specs.declared.node.Node.TheVariants.{Input, Constant, Not, Binary, Choose, Join, Cut, Register, Memory, MemoryRead}
use Rattle.gl_net.specs.declared.node.Bus.{Bus}
use Rattle.gl_net.specs.declared.node.MemoryDrive.{MemoryDrive}
use Rattle.gl_net.specs.declared.node.Port.{Port}
use Rattle.gl_net.specs.declared.node.Direction.{Direction}
use Rattle.gl_net.specs.declared.node.Direction.TheVariants.{In, Out}
use Rattle.gl_net.specs.Net.{Net, Value, Words, open_in, open_shape}
use Rattle.gl_net.specs.WellFormed.{NodeFits, EndFits, end_at}
use Rattle.gl_verilog.specs.Module as verilog
use Rattle.gl_verilog.specs.Module.{Declaration, Expr, Statement, Assignment}
use Rattle.gl_verilog.specs.Order.{IsOrdered}
use Rattle.gl_verilog.specs.Valid.{drivers_of, assigns, AssignsOnce, blocks_of, writes_in, writes_of, HasDriver, mentions, depends, IsChain, HasNoLoop, IsValid}
use Rattle.gl_verilog_writer.specs.Meaning.{kind_of}
use Rattle.gl_verilog_writer.specs.Design.{numbered}
use Rattle.gl_verilog_writer.proofs.Model.{Named, at_node, binary_meaning, cut_meaning, kind_for, expression_of, assigned_to, assignment_for, shown_by, output_for, block_for, declarations_in, line_in, module_in}
use Rattle.gl_verilog_writer.proofs.Ordered.{Descends, Above, if_some, in-order, rises-append, rises-numbered}
use Rattle.gl_verilog_writer.proofs.Lists.{numbered-all, total, count, total-append, total-none, total-one, get-from_zero}
use Rattle.gl_verilog_writer.proofs.Named.{sorted, distinct, apart}
use Rattle.gl_verilog_writer.proofs.Fitted.{port_end, shown}
use Rattle.gl_verilog_writer.proofs.Checked.{sizes-fit, assignments-keep, blocks-keep}

-- an operation mentions its two operands
binary-mentions : (o : BinaryOp) (w a b m : ℕ) → mentions (binary_meaning o w (verilog.Net a) (verilog.Net b)) m ≡ (nat_eq a m || nat_eq b m)
binary-mentions Add w a b m = refl
binary-mentions Sub w a b m = refl
binary-mentions Mul w a b m = refl
binary-mentions And w a b m = refl
binary-mentions Xor w a b m = refl
binary-mentions Or w a b m = refl
binary-mentions Eq w a b m = refl
binary-mentions Ne w a b m = refl
binary-mentions Lt w a b m = by (w == 1)
  where
    by : (t : Bool) → mentions (if t then verilog.Binary verilog.And 1 (verilog.Invert 1 (verilog.Net a)) (verilog.Net b) else verilog.Binary verilog.Lt w (verilog.Net a) (verilog.Net b)) m ≡ (nat_eq a m || nat_eq b m)
    by true = refl
    by false = refl
binary-mentions Le w a b m = by (w == 1)
  where
    by : (t : Bool) → mentions (if t then verilog.Binary verilog.Or 1 (verilog.Invert 1 (verilog.Net a)) (verilog.Net b) else verilog.Binary verilog.Le w (verilog.Net a) (verilog.Net b)) m ≡ (nat_eq a m || nat_eq b m)
    by true = refl
    by false = refl

-- a cut mentions its net
cut-mentions : (w high low k m : ℕ) → mentions (cut_meaning w high low k) m ≡ nat_eq k m
cut-mentions w high low k m = by (w == 1)
  where
    by : (t : Bool) → mentions (if t then verilog.Net k else verilog.Select high low k) m ≡ nat_eq k m
    by true = refl
    by false = refl

-- ---- counts as sums

abbrev drives : ℕ → Assignment → ℕ
drives n a = if nat_eq a.target n then 1 else 0

abbrev sets : ℕ → Statement → ℕ
sets r b = if assigns b r then 1 else 0

abbrev writes : ℕ → Statement → ℕ
writes k b = writes_in b k

drivers-total : (as' : List Assignment) (n : ℕ) → drivers_of as' n ≡ total (drives n) as'
drivers-total [] n = refl
drivers-total (a ∷ as') n = ap (λ (m : ℕ). drives n a + m) (drivers-total as' n)

blocks-total : (bs : List Statement) (r : ℕ) → blocks_of bs r ≡ total (sets r) bs
blocks-total [] r = refl
blocks-total (b ∷ bs) r = ap (λ (m : ℕ). sets r b + m) (blocks-total bs r)

writes-total : (bs : List Statement) (k : ℕ) → writes_of bs k ≡ total (writes k) bs
writes-total [] k = refl
writes-total (b ∷ bs) k = ap (λ (m : ℕ). writes k b + m) (writes-total bs k)

-- ---- assignments

drives-not : (t n : ℕ) (o : Option Expr) → (t ≡ n → ⊥) → count (drives n) (option_map (assigned_to t) o) ≡ 0
drives-not t n None ne = refl
drives-not t n (Some e) ne = let f : nat_eq t n ≡ false = ne_eqb t n ne in rw f refl

drives-once : (t n : ℕ) (o : Option Expr) → t ≡ n → is_some o ≡ true → count (drives n) (option_map (assigned_to t) o) ≡ 1
drives-once t n None e s = absurd (cc)
drives-once t n (Some v) e s = let f : nat_eq t n ≡ true = eq-eqb t n e in rw f refl

shows-not : (p place t m : ℕ) (d : Direction) → (suc place ≡ t → ⊥) → count (drives t) (shown_by p place d m) ≡ 0
shows-not p place t m In ne = refl
shows-not p place t m Out ne = let f : nat_eq (suc place) t ≡ false = ne_eqb (suc place) t ne in rw f refl

shows-once : (p place t m : ℕ) (d : Direction) → d ≡ Out → suc place ≡ t → count (drives t) (shown_by p place d m) ≡ 1
shows-once p place t m In g e = absurd (cc)
shows-once p place t m Out g e = let f : nat_eq (suc place) t ≡ true = eq-eqb (suc place) t e in rw f refl

-- ---- blocks

sets-not : (p line m n : ℕ) (x : Node) → (m ≡ n → ⊥) → count (sets (at_node p n)) (block_for p line m x) ≡ 0
sets-not p line m n (Register w None None) ne = refl
sets-not p line m n (Register w (Some value) None) ne = refl
sets-not p line m n (Register w None (Some next)) ne = let f : nat_eq (at_node p m) (at_node p n) ≡ false = ne_eqb (at_node p m) (at_node p n) (λ e. ne (let q : m ≡ n = omega (arith, e) in q)) in rw f refl
sets-not p line m n (Register w (Some value) (Some next)) ne = let f : nat_eq (at_node p m) (at_node p n) ≡ false = ne_eqb (at_node p m) (at_node p n) (λ e. ne (let q : m ≡ n = omega (arith, e) in q)) in rw f refl
sets-not p line m n (Memory bits w None) ne = refl
sets-not p line m n (Memory bits w (Some drive)) ne = refl
sets-not p line m n (Input place w) ne = refl
sets-not p line m n (Constant word) ne = refl
sets-not p line m n (Not x) ne = refl
sets-not p line m n (Binary o x y) ne = refl
sets-not p line m n (Choose test x y) ne = refl
sets-not p line m n (Join x y) ne = refl
sets-not p line m n (Cut x high low) ne = refl
sets-not p line m n (MemoryRead store x) ne = refl

writes-not : (p line m n : ℕ) (x : Node) → (m ≡ n → ⊥) → count (writes (at_node p n)) (block_for p line m x) ≡ 0
writes-not p line m n (Register w None None) ne = refl
writes-not p line m n (Register w (Some value) None) ne = refl
writes-not p line m n (Register w None (Some next)) ne = refl
writes-not p line m n (Register w (Some value) (Some next)) ne = refl
writes-not p line m n (Memory bits w None) ne = refl
writes-not p line m n (Memory bits w (Some drive)) ne = let f : nat_eq (at_node p m) (at_node p n) ≡ false = ne_eqb (at_node p m) (at_node p n) (λ e. ne (let q : m ≡ n = omega (arith, e) in q)) in rw f refl
writes-not p line m n (Input place w) ne = refl
writes-not p line m n (Constant word) ne = refl
writes-not p line m n (Not x) ne = refl
writes-not p line m n (Binary o x y) ne = refl
writes-not p line m n (Choose test x y) ne = refl
writes-not p line m n (Join x y) ne = refl
writes-not p line m n (Cut x high low) ne = refl
writes-not p line m n (MemoryRead store x) ne = refl

once-each : (p line m r : ℕ) (x : Node) → IfSome (block_for p line m x) (AssignsOnce r)
once-each p line m r (Register w None None) = tt
once-each p line m r (Register w (Some value) None) = tt
once-each p line m r (Register w None (Some next)) = tt
once-each p line m r (Register w (Some value) (Some next)) = (tt, tt)
once-each p line m r (Memory bits w None) = tt
once-each p line m r (Memory bits w (Some drive)) = (tt, tt)
once-each p line m r (Input place w) = tt
once-each p line m r (Constant word) = tt
once-each p line m r (Not x) = tt
once-each p line m r (Binary o x y) = tt
once-each p line m r (Choose test x y) = tt
once-each p line m r (Join x y) = tt
once-each p line m r (Cut x high low) = tt
once-each p line m r (MemoryRead store x) = tt

-- ---- ranks

abbrev rank_by : ℕ → ℕ → Direction → ℕ
rank_by most k In = 0
rank_by most k Out = most + k

abbrev rank_at : ℕ → Option Port → ℕ → ℕ
rank_at most None k = suc k
rank_at most (Some q) k = rank_by most k q.direction

-- a net comes after all that it depends on: outputs last, inputs first
abbrev rank : List Port → ℕ → ℕ → ℕ
rank ports most zero = 0
rank ports most (suc k) = rank_at most (slice_get ports k) k

descends : (r : ℕ → ℕ) (as' : List Assignment) → AllByRecursion (Descends r) as' → (t n : ℕ) → depends as' t n ≡ true → r n < r t
descends r [] h t n e = absurd (cc)
descends r (a ∷ as') h t n e = elim (or_cases (nat_eq a.target t && mentions a.value n) (depends as' t n) e) [
  | inl f ↦ (let g = and_parts (nat_eq a.target t) (mentions a.value n) f in subst (λ (k : ℕ). r n < r k) (eqb-true a.target t g.0) (h.0 n g.1))
  | inr f ↦ descends r as' h.1 t n f
]

chain-descends : (r : ℕ → ℕ) (related : ℕ → ℕ → Bool) → ((t n : ℕ) → related t n ≡ true → r n < r t) → (x : ℕ) (us : List ℕ) (y : ℕ) → IsChain related x us y → r y < r x
chain-descends r related h x [] y e = h x y e
chain-descends r related h x (u ∷ us) y e =
    let a = h x u e.0 in let b = chain-descends r related h u us y e.1 in
    let q : r y < r x = omega (arith, a, b) in q

no-loop : (r : ℕ → ℕ) (as' : List Assignment) → AllByRecursion (Descends r) as' → HasNoLoop as'
no-loop r as' h = λ n us e. (let a = chain-descends r (depends as') (descends r as' h) n us n e in omega (arith, a))

module _ (net : Net) (names : ℕ → List ℕ) (c : Named net names) where
  abbrev ds : List Declaration
  ds = declarations_in net names

  abbrev p : ℕ
  p = length net.ports

  abbrev values : List Assignment
  values = numbered (assignment_for p) 0 net.nodes

  abbrev outputs : List Assignment
  outputs = numbered (output_for p) 0 net.ports

  abbrev blocks : List Statement
  blocks = numbered (block_for p (line_in net names)) 0 net.nodes

  wire-driven : (n : ℕ) (x : Node) → slice_get net.nodes n ≡ Some x → is_some (expression_of p x) ≡ true → drivers_of (values ++ outputs) (at_node p n) ≡ 1
  wire-driven n x e s =
      let t = at_node p n in
      let a : total (drives t) values ≡ 1 =
      total-one (drives t) (assignment_for p) 0 net.nodes n x e (λ j y f ne. drives-not (at_node p (0 + j)) t (expression_of p y) (λ q. ne (let r : j ≡ n = omega (arith, q) in r)))
      ∙ drives-once (at_node p (0 + n)) t (expression_of p x) (ap (at_node p) (zero-add n)) s in
      let b : total (drives t) outputs ≡ 0 =
      total-none (drives t) (output_for p) 0 net.ports (λ k q f. shows-not p (0 + k) t q.node q.direction (λ r. (let l = slice_get_within net.ports k q f in omega (arith, l, r)))) in
      drivers-total (values ++ outputs) t ∙ total-append (drives t) values outputs ∙ rw (a, b) refl

  output-driven : (place : ℕ) (q : Port) → slice_get net.ports place ≡ Some q → q.direction ≡ Out → drivers_of (values ++ outputs) (suc place) ≡ 1
  output-driven place q e d =
      let t = suc place in
      let l = slice_get_within net.ports place q e in
      let a : total (drives t) values ≡ 0 =
      total-none (drives t) (assignment_for p) 0 net.nodes (λ k x f. drives-not (at_node p (0 + k)) t (expression_of p x) (λ r. omega (arith, l, r))) in
      let b : total (drives t) outputs ≡ 1 =
      total-one (drives t) (output_for p) 0 net.ports place q e (λ j y f ne. shows-not p (0 + j) t y.node y.direction (λ r. ne (let z : j ≡ place = omega (arith, r) in z)))
      ∙ shows-once p (0 + place) t q.node q.direction d (ap suc (zero-add place)) in
      drivers-total (values ++ outputs) t ∙ total-append (drives t) values outputs ∙ rw (a, b) refl

  register-set : (n w : ℕ) (reset : Option ℕ) (next : Option Bus) → slice_get net.nodes n ≡ Some (Register w reset next) → count (sets (at_node p n)) (block_for p (line_in net names) (0 + n) (Register w reset next)) ≡ 1
  unfolding open_in
  register-set n w None (Some next) e = let f : nat_eq (at_node p (0 + n)) (at_node p n) ≡ true = eq-eqb (at_node p (0 + n)) (at_node p n) (ap (at_node p) (zero-add n)) in rw f refl
  register-set n w (Some value) (Some next) e = let f : nat_eq (at_node p (0 + n)) (at_node p n) ≡ true = eq-eqb (at_node p (0 + n)) (at_node p n) (ap (at_node p) (zero-add n)) in rw f refl
  register-set n w None None e = let f : None ≡ Some (Value w) = sym (c.netlist.finished.driven n) ∙ ap (option_and_then open_shape) e in absurd (not_some (Value w) f)
  register-set n w (Some value) None e = let f : None ≡ Some (Value w) = sym (c.netlist.finished.driven n) ∙ ap (option_and_then open_shape) e in absurd (not_some (Value w) f)

  register-driven : (n w : ℕ) (reset : Option ℕ) (next : Option Bus) → slice_get net.nodes n ≡ Some (Register w reset next) → blocks_of blocks (at_node p n) ≡ 1
  register-driven n w reset next e =
      blocks-total blocks (at_node p n)
      ∙ total-one (sets (at_node p n)) (block_for p (line_in net names)) 0 net.nodes n _ e (λ j y f ne. sets-not p (line_in net names) (0 + j) n y (λ q. ne (let r : j ≡ n = omega (arith, q) in r)))
      ∙ register-set n w reset next e

  memory-set : (n bits w : ℕ) (drive : Option MemoryDrive) → slice_get net.nodes n ≡ Some (Memory bits w drive) → count (writes (at_node p n)) (block_for p (line_in net names) (0 + n) (Memory bits w drive)) ≡ 1
  unfolding open_in
  memory-set n bits w (Some drive) e = let f : nat_eq (at_node p (0 + n)) (at_node p n) ≡ true = eq-eqb (at_node p (0 + n)) (at_node p n) (ap (at_node p) (zero-add n)) in rw f refl
  memory-set n bits w None e = let f : None ≡ Some (Words bits w) = sym (c.netlist.finished.driven n) ∙ ap (option_and_then open_shape) e in absurd (not_some (Words bits w) f)

  memory-driven : (n bits w : ℕ) (drive : Option MemoryDrive) → slice_get net.nodes n ≡ Some (Memory bits w drive) → writes_of blocks (at_node p n) ≡ 1
  memory-driven n bits w drive e =
      writes-total blocks (at_node p n)
      ∙ total-one (writes (at_node p n)) (block_for p (line_in net names)) 0 net.nodes n _ e (λ j y f ne. writes-not p (line_in net names) (0 + j) n y (λ q. ne (let r : j ≡ n = omega (arith, q) in r)))
      ∙ memory-set n bits w drive e

  all-once : (r : ℕ) → AllByRecursion (AssignsOnce r) blocks
  all-once r = numbered-all (AssignsOnce r) (block_for p (line_in net names)) 0 net.nodes (λ k x e. once-each p (line_in net names) (0 + k) r x)

  node-driven : (n : ℕ) (x : Node) → slice_get net.nodes n ≡ Some x → HasDriver (module_in net names) (at_node p n) (kind_for x)
  unfolding module_in
  node-driven n (Input place w) e = wire-driven n _ e refl
  node-driven n (Constant word) e = wire-driven n _ e refl
  node-driven n (Not x) e = wire-driven n _ e refl
  node-driven n (Binary o x y) e = wire-driven n _ e refl
  node-driven n (Choose test x y) e = wire-driven n _ e refl
  node-driven n (Join x y) e = wire-driven n _ e refl
  node-driven n (Cut x high low) e = wire-driven n _ e refl
  node-driven n (MemoryRead store x) e = wire-driven n _ e refl
  node-driven n (Register w reset next) e = (register-driven n w reset next e, all-once (at_node p n))
  node-driven n (Memory bits w drive) e = memory-driven n bits w drive e

  port-driven : (place : ℕ) (q : Port) → slice_get net.ports place ≡ Some q → (d : Direction) → q.direction ≡ d → HasDriver (module_in net names) (suc place) (kind_of d)
  unfolding module_in
  port-driven place q e In g = tt
  port-driven place q e Out g = output-driven place q e g

  each-driven : (i : ℕ) (d : Declaration) → slice_get ds i ≡ Some d → HasDriver (module_in net names) i d.kind
  each-driven i d e = elim (sorted net names c i d e) [
    | inl a ↦ subst (λ (x : Declaration). HasDriver (module_in net names) i x.kind) (sym a.1) tt
    | inr a ↦ elim a [
      | inl a ↦ subst (λ (k : ℕ). HasDriver (module_in net names) k d.kind) (sym a.number) (subst (λ (x : Declaration). HasDriver (module_in net names) (suc a.place) x.kind) (sym a.is) (port-driven a.place a.port a.there a.port.direction refl))
      | inr a ↦ subst (λ (k : ℕ). HasDriver (module_in net names) k d.kind) (sym a.number) (subst (λ (x : Declaration). HasDriver (module_in net names) (at_node p a.n) x.kind) (sym a.is) (node-driven a.n a.node a.there))
    ]
  ]

  -- ---- no loop

  -- behind all nodes
  abbrev last : ℕ
  last = suc (suc (p + length net.nodes))

  abbrev ranks : ℕ → ℕ
  ranks = rank net.ports last

  rank-node : (n : ℕ) → ranks (at_node p n) ≡ suc (p + n)
  rank-node n = ap (λ (o : Option Port). rank_at last o (p + n)) (slice_get_past net.ports (p + n) (let q : p ≤ p + n = omega arith in q))

  rank-output : (place : ℕ) (q : Port) → slice_get net.ports place ≡ Some q → q.direction ≡ Out → ranks (suc place) ≡ last + place
  rank-output place q e g = ap (λ (o : Option Port). rank_at last o place) e ∙ ap (rank_by last place) g

  reads : (b n m : ℕ) → b < n → nat_eq (at_node p b) m ≡ true → ranks m < ranks (at_node p n)
  reads b n m l e =
      let a : ranks m ≡ suc (p + b) = ap ranks (sym (eqb-true (at_node p b) m e)) ∙ rank-node b in
      let d = rank-node n in
      let q : ranks m < ranks (at_node p n) = omega (arith, a, d, l) in q

  value-descends : (n : ℕ) (x : Node) → slice_get net.nodes n ≡ Some x → NodeFits net n x → IfSome (assignment_for p n x) (Descends ranks)
  unfolding end_at
  value-descends n (Input place w) e h = λ m t.
      let q = port_end (slice_get net.ports place) (In, n) h.1 in
      let a : ranks m ≡ 0 = ap ranks (sym (eqb-true (suc place) m t)) ∙ ap (λ (o : Option Port). rank_at last o place) q.1 ∙ ap (rank_by last place) q.2 in
      let d = rank-node n in
      let z : ranks m < ranks (at_node p n) = omega (arith, a, d) in z
  value-descends n (Constant word) e h = λ m t. absurd (cc)
  value-descends n (Not x) e h = λ m t. reads x.node n m h.before t
  value-descends n (Binary o x y) e h = λ m t.
      elim (or_cases (nat_eq (at_node p x.node) m) (nat_eq (at_node p y.node) m) (sym (binary-mentions o x.width (at_node p x.node) (at_node p y.node) m) ∙ t)) [ inl f ↦ reads x.node n m h.0.before f | inr f ↦ reads y.node n m h.1.before f ]
  value-descends n (Choose test x y) e h = λ m t. elim (or_cases (nat_eq (at_node p test.node) m) (nat_eq (at_node p x.node) m || nat_eq (at_node p y.node) m) t) [
    | inl f ↦ reads test.node n m h.0.before f
    | inr f ↦ elim (or_cases (nat_eq (at_node p x.node) m) (nat_eq (at_node p y.node) m) f) [ inl g ↦ reads x.node n m h.1.before g | inr g ↦ reads y.node n m h.2.before g ]
  ]
  value-descends n (Join x y) e h = λ m t. elim (or_cases (nat_eq (at_node p x.node) m) (nat_eq (at_node p y.node) m) t) [ inl f ↦ reads x.node n m h.0.before f | inr f ↦ reads y.node n m h.1.before f ]
  value-descends n (Cut x high low) e h = λ m t. reads x.node n m h.0.before (sym (cut-mentions x.width high low (at_node p x.node) m) ∙ t)
  value-descends n (MemoryRead store x) e h = λ m t. reads x.node n m h.1.before t
  value-descends n (Register w reset next) e h = tt
  value-descends n (Memory bits w drive) e h = tt

  output-descends : (place : ℕ) (q : Port) → slice_get net.ports place ≡ Some q → (d : Direction) → q.direction ≡ d → EndFits net place d q.node → IfSome (shown_by p place d q.node) (Descends ranks)
  output-descends place q e In g f = tt
  output-descends place q e Out g f = λ m t.
      let i = shown net names c q.node f.0 f.1 in
      let l = slice_get_within net.nodes q.node i.node i.there in
      let a : ranks m ≡ suc (p + q.node) = ap ranks (sym (eqb-true (at_node p q.node) m t)) ∙ rank-node q.node in
      let b = rank-output place q e g in
      let z : ranks m < ranks (suc place) = omega (arith, a, b, l) in z

  all-descend : AllByRecursion (Descends ranks) (values ++ outputs)
  all-descend = all_append (Descends ranks) values outputs
      (numbered-all (Descends ranks) (assignment_for p) 0 net.nodes (λ k x e. value-descends (0 + k) x (get-from_zero net.nodes k x e) (c.netlist.formed.nodes (0 + k) x (get-from_zero net.nodes k x e))))
      (numbered-all (Descends ranks) (output_for p) 0 net.ports (λ k q e. output-descends (0 + k) q (get-from_zero net.ports k q e) q.direction refl (c.netlist.formed.ends (0 + k) q (get-from_zero net.ports k q e))))

  loop-free : HasNoLoop (values ++ outputs)
  loop-free = no-loop ranks (values ++ outputs) all-descend

  -- ---- the order

  value-rank : (n : ℕ) (o : Option Expr) → IfSome (option_map (assigned_to (at_node p n)) o) (λ a. ranks a.target ≡ suc p + n)
  value-rank n None = tt
  value-rank n (Some v) = let d = rank-node n in let q : ranks (at_node p n) ≡ suc p + n = omega (arith, d) in q

  output-rank : (place : ℕ) (q : Port) → slice_get net.ports place ≡ Some q → (d : Direction) → q.direction ≡ d → IfSome (shown_by p place d q.node) (λ a. ranks a.target ≡ last + place)
  output-rank place q e In g = tt
  output-rank place q e Out g = rank-output place q e g

  output-at : (k : ℕ) (q : Port) → slice_get net.ports k ≡ Some q → IfSome (output_for p (0 + k) q) (λ a. ranks a.target ≡ last + (0 + k))
  output-at k q e = output-rank (0 + k) q (get-from_zero net.ports k q e) q.direction refl

  -- every output stands behind the node
  outputs-behind : (n k : ℕ) → n ≡ suc p + (0 + k) → k < length net.nodes → Above ranks n outputs
  outputs-behind n k e l = numbered-all (λ b. n < ranks b.target) (output_for p) 0 net.ports (λ j q f. if_some (output_for p (0 + j) q) (λ b i. (let z : n < ranks b.target = omega (arith, e, i, l) in z)) (output-at j q f))

  pub assignments-ordered : IsOrdered (values ++ outputs)
  assignments-ordered = in-order ranks (values ++ outputs)
      (rises-append ranks values outputs
      (rises-numbered ranks (assignment_for p) (suc p) 0 net.nodes (λ k x e. value-rank (0 + k) (expression_of p x)))
      (rises-numbered ranks (output_for p) last 0 net.ports output-at)
      (numbered-all (λ a. Above ranks (ranks a.target) outputs) (assignment_for p) 0 net.nodes (λ k x e.
      if_some (assignment_for p (0 + k) x) (λ a i. outputs-behind (ranks a.target) k i (slice_get_within net.nodes k x e)) (value-rank (0 + k) (expression_of p x)))))
      all-descend

  pub module-valid : IsValid (module_in net names)
  unfolding module_in
  module-valid = record {
    names = distinct ds (apart net names c);
    sizes = sizes-fit net names c;
    assignments = assignments-keep net names c;
    blocks = blocks-keep net names c;
    driven = each-driven;
    acyclic = loop-free;
  }
