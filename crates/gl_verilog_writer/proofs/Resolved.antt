-- The written module of a netlist means its module: names become numbers.
use Rattle.std.proofs.Common.{◌≡◌, ℕ, zero, suc, ◌+◌, ◌<◌, ◌^◌, Bool, true, false, List, [], ◌∷◌, ◌++◌, length, map, Option, Some, None, refl, sym, ap, subst, ◌∙◌, arith, append_assoc, append-nil, eqb-true, is_some}
use Rattle.std.specs.Prelude.{slice_get, codes, decimal, option_map, option_and_then, unwrap_or, ◌==◌, not, if◌then◌else◌}
use Rattle.std.specs.List.{list_any}
use Rattle.std.specs.Option.{option_map_or}
use Rattle.std.proofs.lemmas.List.{length-map}
use Rattle.gl_bits.proofs.Options.{some_same, not_some}
use Rattle.gl_bits.proofs.Bools.{or_right}
use Rattle.gl_bits.specs.Words.{IsWidth}
use Rattle.gl_net.specs.declared.node.BinaryOp.{BinaryOp}
use Rattle.gl_net.specs.declared.node.BinaryOp.TheVariants.{Add, Sub, Mul, And, Xor, Or, Eq, Ne, Lt, Le}
use Rattle.gl_net.specs.declared.node.Node.{Node}
use Rattle.gl_net.specs.declared.node.Node.TheVariants.{Input, Constant, Not, Binary, Choose, Join, Cut, Register, Memory, MemoryRead}
use Rattle.gl_net.specs.declared.node.Bus.{Bus}
use Rattle.gl_net.specs.declared.node.Port.{Port}
use Rattle.gl_net.specs.declared.node.Direction.{Direction}
use Rattle.gl_net.specs.declared.node.Direction.TheVariants.{In, Out}
use Rattle.gl_net.specs.Net.{Net, shape_of, shape_in}
use Rattle.gl_net.specs.PortValues.{bits_of}
use Rattle.gl_net.specs.WellFormed.{NodeFits, EndFits, end_at}
use Rattle.gl_net.specs.Finished.{has_reset_value, needs_reset}
use Rattle.gl_verilog.specs.Tokens.{number_in}
use Rattle.gl_verilog.specs.Written as written
use Rattle.gl_verilog.specs.Written.{BitNot, BitAnd, BitOr, Below, AtMost, Prefix, Infix, WrittenExpr, WrittenStatement, WrittenItem, Assign, Always}
use Rattle.gl_verilog.specs.Module as verilog
use Rattle.gl_verilog.specs.Module.{Declaration, Expr, Statement, Assignment, number_of}
use Rattle.gl_verilog.specs.Widths.{width_of}
use Rattle.gl_verilog.specs.Resolve.{number_read, both, three, prefixed, resolve_expr, resolve_statement, declare, port_kind, declare_port, Resolved, clocked, resolve_items, module_from, resolve}
use Rattle.gl_verilog_writer.specs.Meaning.{declaration_of, clock, kind_of}
use Rattle.gl_verilog_writer.specs.Design.{port_name, binary_expr, named, literal, range_of, takes, does, with_option, numbered, declaring, assigning, shows, showing, clocking, driving, leads, written_port, items_of, written_as}
use Rattle.gl_verilog_writer.proofs.Digits.{number_in-decimal}
use Rattle.gl_verilog_writer.proofs.Model.{Named, at_node, net_of, binary_meaning, expression_of, assigned_to, assignment_for, shown_by, output_for, block_for, declarations_in, line_in, module_in}
use Rattle.gl_verilog_writer.proofs.Ranges.{range-declares, declare-all}
use Rattle.gl_verilog_writer.proofs.Lists.{with-append, get-from_zero}
use Rattle.gl_verilog_writer.proofs.Named.{node_found, port_found, port_no_clock}
use Rattle.gl_verilog_writer.proofs.Fitted.{width-fits, port_end, IsCarried, bus, bit, shown, stored, node-read, carried-width, word-small}

-- ---- assignments and blocks

-- an item means an assignment, or both are none
abbrev pub MeansAssignment : List Declaration → Option WrittenItem → Option Assignment → Type 0
MeansAssignment ds i a = (is : List WrittenItem) (r : Resolved) → resolve_items ds is ≡ Some r → resolve_items ds (with_option i is) ≡ Some (record r { assignments = with_option a r.assignments })

abbrev pub MeansBlock : List Declaration → Option WrittenItem → Option Statement → Type 0
MeansBlock ds i b = (is : List WrittenItem) (r : Resolved) → resolve_items ds is ≡ Some r → resolve_items ds (with_option i is) ≡ Some (record r { blocks = with_option b r.blocks })

-- an item means an assignment or a block
abbrev pub MeansDriver : List Declaration → Option WrittenItem → Option Assignment → Option Statement → Type 0
MeansDriver ds i a b = (is : List WrittenItem) (r : Resolved) → resolve_items ds is ≡ Some r → resolve_items ds (with_option i is) ≡ Some (record r { assignments = with_option a r.assignments; blocks = with_option b r.blocks })

means-assignment : (ds : List Declaration) (name : List ℕ) (e : WrittenExpr) (target : ℕ) (value : Expr) → number_of ds name ≡ Some target → resolve_expr ds e ≡ Some value → MeansAssignment ds (Some (Assign name e)) (Some (assigned_to target value))
means-assignment ds name e target value f g = λ is r h. rw (f, g, h) refl

means-block : (ds : List Declaration) (s : WrittenStatement) (b : Statement) → clocked ds (codes "clk") ≡ Some 0 → resolve_statement ds s ≡ Some b → MeansBlock ds (Some (Always (codes "clk") s)) (Some b)
means-block ds s b f g = λ is r h. rw (f, g, h) refl

up : (n k : ℕ) → n + suc k ≡ n + 1 + k
up n k = omega arith

all-assignments : {A : Type 0} (ds : List Declaration) (f : ℕ → A → Option WrittenItem) (g : ℕ → A → Option Assignment) (n : ℕ) (xs : List A) → ((k : ℕ) (x : A) → slice_get xs k ≡ Some x → MeansAssignment ds (f (n + k) x) (g (n + k) x)) → (is : List WrittenItem) (r : Resolved) → resolve_items ds is ≡ Some r → resolve_items ds (numbered f n xs ++ is) ≡ Some (record r { assignments = numbered g n xs ++ r.assignments })
all-assignments ds f g n [] h is r e = e
all-assignments ds f g n (x ∷ xs) h is r e =
    let m : MeansAssignment ds (f n x) (g n x) = subst (λ (k : ℕ). MeansAssignment ds (f k x) (g k x)) (let q : n + 0 ≡ n = omega arith in q) (h 0 x refl) in
    let rest = all-assignments ds f g (n + 1) xs (λ k y p. subst (λ (k : ℕ). MeansAssignment ds (f k y) (g k y)) (up n k) (h (suc k) y p)) is r e in
    ap (resolve_items ds) (with-append (f n x) (numbered f (n + 1) xs) is)
    ∙ m (numbered f (n + 1) xs ++ is) (record r { assignments = numbered g (n + 1) xs ++ r.assignments }) rest
    ∙ ap (λ (as' : List Assignment). Some (record r { assignments = as' })) (sym (with-append (g n x) (numbered g (n + 1) xs) r.assignments))

all-drivers : {A : Type 0} (ds : List Declaration) (f : ℕ → A → Option WrittenItem) (g : ℕ → A → Option Assignment) (b : ℕ → A → Option Statement) (n : ℕ) (xs : List A) → ((k : ℕ) (x : A) → slice_get xs k ≡ Some x → MeansDriver ds (f (n + k) x) (g (n + k) x) (b (n + k) x)) → (is : List WrittenItem) (r : Resolved) → resolve_items ds is ≡ Some r → resolve_items ds (numbered f n xs ++ is) ≡ Some (record r { assignments = numbered g n xs ++ r.assignments; blocks = numbered b n xs ++ r.blocks })
all-drivers ds f g b n [] h is r e = e
all-drivers ds f g b n (x ∷ xs) h is r e =
    let m : MeansDriver ds (f n x) (g n x) (b n x) = subst (λ (k : ℕ). MeansDriver ds (f k x) (g k x) (b k x)) (let q : n + 0 ≡ n = omega arith in q) (h 0 x refl) in
    let rest = all-drivers ds f g b (n + 1) xs (λ k y p. subst (λ (k : ℕ). MeansDriver ds (f k y) (g k y) (b k y)) (up n k) (h (suc k) y p)) is r e in
    ap (resolve_items ds) (with-append (f n x) (numbered f (n + 1) xs) is)
    ∙ m (numbered f (n + 1) xs ++ is) (record r { assignments = numbered g (n + 1) xs ++ r.assignments; blocks = numbered b (n + 1) xs ++ r.blocks }) rest
    ∙ ap (λ (as' : List Assignment). Some (record r { assignments = as'; blocks = with_option (b n x) (numbered b (n + 1) xs ++ r.blocks) })) (sym (with-append (g n x) (numbered g (n + 1) xs) r.assignments))
    ∙ ap (λ (bs : List Statement). Some (record r { assignments = with_option (g n x) (numbered g (n + 1) xs) ++ r.assignments; blocks = bs })) (sym (with-append (b n x) (numbered b (n + 1) xs) r.blocks))

-- what is written of two values under an operation means that operation
binary-means : (ds : List Declaration) (o : BinaryOp) (a b : WrittenExpr) (x y : Expr) (w : ℕ) → resolve_expr ds a ≡ Some x → resolve_expr ds b ≡ Some y → width_of ds x ≡ w → resolve_expr ds (binary_expr o w a b) ≡ Some (binary_meaning o w x y)
binary-means ds Add a b x y w p q e = rw (p, q) (ap (λ (k : ℕ). Some (verilog.Binary verilog.Add k x y)) e)
binary-means ds Sub a b x y w p q e = rw (p, q) (ap (λ (k : ℕ). Some (verilog.Binary verilog.Sub k x y)) e)
binary-means ds Mul a b x y w p q e = rw (p, q) (ap (λ (k : ℕ). Some (verilog.Binary verilog.Mul k x y)) e)
binary-means ds And a b x y w p q e = rw (p, q) (ap (λ (k : ℕ). Some (verilog.Binary verilog.And k x y)) e)
binary-means ds Xor a b x y w p q e = rw (p, q) (ap (λ (k : ℕ). Some (verilog.Binary verilog.Xor k x y)) e)
binary-means ds Or a b x y w p q e = rw (p, q) (ap (λ (k : ℕ). Some (verilog.Binary verilog.Or k x y)) e)
binary-means ds Eq a b x y w p q e = rw (p, q) (ap (λ (k : ℕ). Some (verilog.Binary verilog.Eq k x y)) e)
binary-means ds Ne a b x y w p q e = rw (p, q) (ap (λ (k : ℕ). Some (verilog.Binary verilog.Ne k x y)) e)
binary-means ds Lt a b x y w p q e = by (w == 1) refl
  where
    by : (t : Bool) → (w == 1) ≡ t → resolve_expr ds (if t then Infix BitAnd (Prefix BitNot a) b else Infix Below a b) ≡ Some (if t then verilog.Binary verilog.And 1 (verilog.Invert 1 x) y else verilog.Binary verilog.Lt w x y)
    by true f = let s : width_of ds x ≡ 1 = e ∙ eqb-true w 1 f in rw (p, q) (ap (λ (k : ℕ). Some (verilog.Binary verilog.And k (verilog.Invert k x) y)) s)
    by false f = rw (p, q) (ap (λ (k : ℕ). Some (verilog.Binary verilog.Lt k x y)) e)
binary-means ds Le a b x y w p q e = by (w == 1) refl
  where
    by : (t : Bool) → (w == 1) ≡ t → resolve_expr ds (if t then Infix BitOr (Prefix BitNot a) b else Infix AtMost a b) ≡ Some (if t then verilog.Binary verilog.Or 1 (verilog.Invert 1 x) y else verilog.Binary verilog.Le w x y)
    by true f = let s : width_of ds x ≡ 1 = e ∙ eqb-true w 1 f in rw (p, q) (ap (λ (k : ℕ). Some (verilog.Binary verilog.Or k (verilog.Invert k x) y)) s)
    by false f = rw (p, q) (ap (λ (k : ℕ). Some (verilog.Binary verilog.Le k x y)) e)

literal-means : (ds : List Declaration) (v w : ℕ) → IsWidth w → v < 2 ^ w → resolve_expr ds (literal v w) ≡ Some (verilog.Literal v w)
literal-means ds v w i h =
    let m = i.most in
    let e : number_in 10 (decimal v) ≡ v = number_in-decimal v (word-small v w i.most h) in
    let f : number_in 10 (decimal w) ≡ w = number_in-decimal w (omega (arith, m)) in
    ap (λ (a : ℕ). Some (verilog.Literal a (number_in 10 (decimal w)))) e ∙ ap (λ (b : ℕ). Some (verilog.Literal v b)) f

pub some-any : (p : Node → Bool) (xs : List Node) (k : ℕ) (x : Node) → slice_get xs k ≡ Some x → p x ≡ true → list_any p xs ≡ true
some-any p [] k x e t = absurd (not_some x e)
some-any p (z ∷ xs) zero x e t = let f : p z ≡ true = ap p (some_same z x e) ∙ t in rw f refl
some-any p (z ∷ xs) (suc k) x e t = or_right (p z) (list_any p xs) (some-any p xs k x e t)

module _ (net : Net) (names : ℕ → List ℕ) (c : Named net names) where
  abbrev ds : List Declaration
  ds = declarations_in net names

  abbrev p : ℕ
  p = length net.ports

  net-means : (n w : ℕ) → IsCarried net names n w → resolve_expr ds (named names n) ≡ Some (net_of p n)
  net-means n w h = ap (option_map verilog.Net) (node-read net names c n h.node h.there)

  -- some bits of a net, of which one of a single bit is written without a range
  cut-means : (x : Bus) (high low : ℕ) → IsCarried net names x.node x.width → high < 10 ^ 64 → low < 10 ^ 64 → (b : Bool) → resolve_expr ds (if b then written.Named (names x.node) else written.PartOf (names x.node) (decimal high) (decimal low)) ≡ Some (if b then verilog.Net (at_node p x.node) else verilog.Select high low (at_node p x.node))
  cut-means x high low i wh wl true = net-means x.node x.width i
  cut-means x high low i wh wl false =
      let f : number_in 10 (decimal high) ≡ high = number_in-decimal high wh in
      let g : number_in 10 (decimal low) ≡ low = number_in-decimal low wl in
      ap (option_map (verilog.Select (number_in 10 (decimal high)) (number_in 10 (decimal low)))) (node-read net names c x.node i.node i.there)
      ∙ ap (λ (a : ℕ). Some (verilog.Select a (number_in 10 (decimal low)) (at_node p x.node))) f ∙ ap (λ (b : ℕ). Some (verilog.Select high b (at_node p x.node))) g

  -- what is assigned to a node's net means its expression
  pub value-means : (n : ℕ) (x : Node) → NodeFits net n x → option_and_then (resolve_expr ds) (takes names net.ports x) ≡ expression_of p x
  unfolding end_at
  value-means n (Input place w) h =
      let q = port_end (slice_get net.ports place) (In, n) h.1 in
      let a : port_name net.ports place ≡ q.0.name = ap (λ (o : Option Port). option_map_or (λ (r : Port). r.name) o []) q.1 in
      let f = port_no_clock net names c place q.0 q.1 in
      let g = port_found net names c place q.0 q.1 in
      let k : number_read ds q.0.name ≡ Some (suc place) = rw (f, g) refl in
      ap (λ (m : List ℕ). option_map verilog.Net (number_read ds m)) a ∙ ap (option_map verilog.Net) k
  value-means n (Constant word) h = literal-means ds word.bits word.width h.width h.fits
  value-means n (Not x) h =
      let i = bus net names c x h.bus in
      ap (option_map (prefixed ds BitNot)) (net-means x.node x.width i) ∙ ap (λ (w : ℕ). Some (verilog.Invert w (net_of p x.node))) (carried-width net names c x.node x.width i)
  value-means n (Binary o x y) h =
      let i = bus net names c x h.0.bus in
      let j = bus net names c y h.1.bus in
      binary-means ds o (named names x.node) (named names y.node) (net_of p x.node) (net_of p y.node) x.width (net-means x.node x.width i) (net-means y.node y.width j) (carried-width net names c x.node x.width i)
  value-means n (Choose test x y) h =
      let t = net-means test.node 1 (bit net names c test h.0.bit) in
      let a = net-means x.node x.width (bus net names c x h.1.bus) in
      let b = net-means y.node y.width (bus net names c y h.2.bus) in
      rw (t, a, b) refl
  value-means n (Join x y) h =
      let j = bus net names c y h.1.bus in
      let a = net-means x.node x.width (bus net names c x h.0.bus) in
      let b = net-means y.node y.width j in
      rw (a, b) (ap (λ (w : ℕ). Some (verilog.Join w (net_of p x.node) (net_of p y.node))) (carried-width net names c y.node y.width j))
  value-means n (Cut x high low) h =
      let most = h.0.bus.width.most in let below = h.2 in let order = h.1 in
      cut-means x high low (bus net names c x h.0.bus) (omega (arith, most, below)) (omega (arith, most, below, order)) (x.width == 1)
  value-means n (MemoryRead store x) h =
      let s = stored net names c store h.0.store in
      let a = node-read net names c store.node s.node s.there in
      let b = net-means x.node x.width (bus net names c x h.1.bus) in
      rw (a, b) refl
  value-means n (Register w reset next) h = refl
  value-means n (Memory bits w drive) h = refl

  -- the reset line
  pub line-found : (n : ℕ) (x : Node) → slice_get net.nodes n ≡ Some x → has_reset_value x ≡ true → number_of ds (codes "rst") ≡ Some (line_in net names)
  unfolding needs_reset
  line-found n x e t =
      let r = c.netlist.finished.reset (some-any has_reset_value net.nodes n x e t) in
      let f = port_found net names c r.port.place _ r.port.there in
      f ∙ ap Some (sym (ap (λ (o : Option ℕ). unwrap_or o 0) f))

  line-read : (n : ℕ) (x : Node) → slice_get net.nodes n ≡ Some x → has_reset_value x ≡ true → resolve_expr ds (written.Named (codes "rst")) ≡ Some (verilog.Net (line_in net names))
  line-read n x e t = ap (option_map verilog.Net) (line-found n x e t)

  update-means : (n m w : ℕ) (x : Node) → slice_get net.nodes n ≡ Some x → IsCarried net names m w → resolve_statement ds (written.Update (names n) (named names m)) ≡ Some (verilog.Put (at_node p n) (net_of p m))
  update-means n m w x e i = let a = node_found net names c n x e in let b = net-means m w i in rw (a, b) refl

  reset-means : (n v w : ℕ) (x : Node) → slice_get net.nodes n ≡ Some x → IsWidth w → v < 2 ^ w → resolve_statement ds (written.Update (names n) (literal v w)) ≡ Some (verilog.Put (at_node p n) (verilog.Literal v w))
  reset-means n v w x e i h =
      ap (λ (o : Option ℕ). both verilog.Put o (resolve_expr ds (literal v w))) (node_found net names c n x e)
      ∙ ap (both verilog.Put (Some (at_node p n))) (literal-means ds v w i h)

  block-means : (n : ℕ) (x : Node) → slice_get net.nodes n ≡ Some x → NodeFits net n x → option_and_then (resolve_statement ds) (does names n x) ≡ block_for p (line_in net names) n x
  block-means n (Register w None None) e h = refl
  block-means n (Register w (Some value) None) e h = refl
  block-means n (Register w None (Some next)) e h = update-means n next.node next.width _ e (bus net names c next h.2.0)
  block-means n (Register w (Some value) (Some next)) e h =
      let r = line-read n _ e refl in
      let a = reset-means n value w _ e h.0 h.1 in
      let b = update-means n next.node next.width _ e (bus net names c next h.2.0) in
      let set = resolve_statement ds (written.Update (names n) (literal value w)) in
      let go = resolve_statement ds (written.Update (names n) (named names next.node)) in
      ap (λ (o : Option Expr). three verilog.If o set go) r
      ∙ ap (λ (o : Option Statement). three verilog.If (Some (verilog.Net (line_in net names))) o go) a
      ∙ ap (three verilog.If (Some (verilog.Net (line_in net names))) (Some (verilog.Put (at_node p n) (verilog.Literal value w)))) b
  block-means n (Memory bits w None) e h = refl
  block-means n (Memory bits w (Some drive)) e h =
      let t = net-means drive.write.node 1 (bit net names c drive.write h.2.write) in
      let a = net-means drive.address.node drive.address.width (bus net names c drive.address h.2.address) in
      let b = net-means drive.value.node drive.value.width (bus net names c drive.value h.2.value) in
      let m = node_found net names c n _ e in
      rw (t, m, a, b) refl
  block-means n (Input place w) e h = refl
  block-means n (Constant word) e h = refl
  block-means n (Not x) e h = refl
  block-means n (Binary o x y) e h = refl
  block-means n (Choose test x y) e h = refl
  block-means n (Join x y) e h = refl
  block-means n (Cut x high low) e h = refl
  block-means n (MemoryRead store x) e h = refl

  assign-by : (n : ℕ) (x : Node) → slice_get net.nodes n ≡ Some x → (o : Option WrittenExpr) (e : Option Expr) → is_some o ≡ is_some e → option_and_then (resolve_expr ds) o ≡ e → MeansAssignment ds (option_map (Assign (names n)) o) (option_map (assigned_to (at_node p n)) e)
  assign-by n x t None None g f = λ is r h. h
  assign-by n x t None (Some e) g f = absurd (cc)
  assign-by n x t (Some o) None g f = absurd (cc)
  assign-by n x t (Some o) (Some e) g f = means-assignment ds (names n) o (at_node p n) e (node_found net names c n x t) f

  assigned-both : (x : Node) → is_some (takes names net.ports x) ≡ is_some (expression_of p x)
  assigned-both (Input place w) = refl
  assigned-both (Constant word) = refl
  assigned-both (Not x) = refl
  assigned-both (Binary o x y) = refl
  assigned-both (Choose test x y) = refl
  assigned-both (Join x y) = refl
  assigned-both (Cut x high low) = refl
  assigned-both (MemoryRead store x) = refl
  assigned-both (Register w reset next) = refl
  assigned-both (Memory bits w drive) = refl

  clock-by : (o : Option WrittenStatement) (b : Option Statement) → is_some o ≡ is_some b → option_and_then (resolve_statement ds) o ≡ b → MeansBlock ds (option_map (Always (codes "clk")) o) b
  clock-by None None g f = λ is r h. h
  clock-by None (Some b) g f = absurd (cc)
  clock-by (Some o) None g f = absurd (cc)
  clock-by (Some o) (Some b) g f = means-block ds o b refl f

  clocked-both : (n : ℕ) (x : Node) → is_some (does names n x) ≡ is_some (block_for p (line_in net names) n x)
  clocked-both n (Register w None None) = refl
  clocked-both n (Register w (Some value) None) = refl
  clocked-both n (Register w None (Some next)) = refl
  clocked-both n (Register w (Some value) (Some next)) = refl
  clocked-both n (Memory bits w None) = refl
  clocked-both n (Memory bits w (Some drive)) = refl
  clocked-both n (Input place w) = refl
  clocked-both n (Constant word) = refl
  clocked-both n (Not x) = refl
  clocked-both n (Binary o x y) = refl
  clocked-both n (Choose test x y) = refl
  clocked-both n (Join x y) = refl
  clocked-both n (Cut x high low) = refl
  clocked-both n (MemoryRead store x) = refl

  -- what drives a node means its assignment or its block
  drive-means : (n : ℕ) (x : Node) → slice_get net.nodes n ≡ Some x → NodeFits net n x → MeansDriver ds (driving names net.ports n x) (assignment_for p n x) (block_for p (line_in net names) n x)
  drive-means n x e f = by x (assign-by n x e (takes names net.ports x) (expression_of p x) (assigned-both x) (value-means n x f)) (clock-by (does names n x) (block_for p (line_in net names) n x) (clocked-both n x) (block-means n x e f))
    where
      by : (x : Node) → MeansAssignment ds (assigning names net.ports n x) (assignment_for p n x) → MeansBlock ds (clocking names n x) (block_for p (line_in net names) n x) → MeansDriver ds (driving names net.ports n x) (assignment_for p n x) (block_for p (line_in net names) n x)
      by (Input place w) a b = a
      by (Constant word) a b = a
      by (Not x) a b = a
      by (Binary o x y) a b = a
      by (Choose test x y) a b = a
      by (Join x y) a b = a
      by (Cut x high low) a b = a
      by (MemoryRead store x) a b = a
      by (Register w reset next) a b = b
      by (Memory bits w drive) a b = b

  -- an output port shows its node
  show-by : (place : ℕ) (q : Port) → slice_get net.ports place ≡ Some q → (d : Direction) → EndFits net place d q.node → MeansAssignment ds (shows names d q.name q.node) (shown_by p place d q.node)
  show-by place q t In f = λ is r h. h
  show-by place q t Out f = means-assignment ds q.name (named names q.node) (suc place) (net_of p q.node) (port_found net names c place q t) (net-means q.node f.0 (shown net names c q.node f.0 f.1))

  fits : (n : ℕ) (x : Node) → slice_get net.nodes n ≡ Some x → NodeFits net n x
  fits n x e = c.netlist.formed.nodes n x e

  -- the ports
  port-declares : (name : List ℕ) (d : Direction) (w : ℕ) → IsWidth w → declare (port_kind (leads d)) (range_of w) name ≡ record { name = name; width = w; is_vector = not (w == 1); kind = kind_of d }
  port-declares name In w i = range-declares verilog.Input name w i
  port-declares name Out w i = range-declares verilog.OutputWire name w i

  pub port-width : (place : ℕ) (q : Port) → slice_get net.ports place ≡ Some q → IsWidth (bits_of (shape_in net.nodes q.node))
  unfolding shape_in
  port-width place q t = by q.direction (c.netlist.formed.ends place q t)
    where
      by : (d : Direction) → EndFits net place d q.node → IsWidth (bits_of (shape_in net.nodes q.node))
      by In f = rw f.1 (c.netlist.formed.nodes q.node (Input place f.0) f.1).0
      by Out f = (let i = shown net names c q.node f.0 f.1 in let g = i.there in let h = width-fits net q.node i.node (c.netlist.formed.nodes q.node i.node i.there) in subst (λ (o : Option Node). IsWidth (bits_of (option_map shape_of o))) (sym g) h)

  declare-port : (place : ℕ) (q : Port) → slice_get net.ports place ≡ Some q → declare_port (written_port net.nodes q) ≡ declaration_of net q
  declare-port place q t = port-declares q.name q.direction (bits_of (shape_in net.nodes q.node)) (port-width place q t)

  declare-ports : (n : ℕ) (qs : List Port) → ((k : ℕ) (q : Port) → slice_get qs k ≡ Some q → slice_get net.ports (n + k) ≡ Some q) → map declare_port (map (written_port net.nodes) qs) ≡ map (declaration_of net) qs
  declare-ports n [] h = refl
  declare-ports n (q ∷ qs) h =
      let a = declare-port (n + 0) q (h 0 q refl) in
      let b = declare-ports (n + 1) qs (λ k r e. ap (λ (m : ℕ). slice_get net.ports m) (sym (up n k)) ∙ h (suc k) r e) in
      ap (λ (d : Declaration). d ∷ map declare_port (map (written_port net.nodes) qs)) a ∙ ap (λ (l : List Declaration). declaration_of net q ∷ l) b

  -- all of it
  pub items-mean : resolve_items (clock ∷ map declare_port (map (written_port net.nodes) net.ports)) (items_of names net.nodes net.ports)
      ≡ Some (record { declarations = ds; assignments = numbered (assignment_for p) 0 net.nodes ++ numbered (output_for p) 0 net.ports; blocks = numbered (block_for p (line_in net names)) 0 net.nodes })
  items-mean =
      let d = numbered (declaring names) 0 net.nodes in
      let s = numbered (driving names net.ports) 0 net.nodes in
      let o = numbered (showing names) 0 net.ports in
      let ports : map declare_port (map (written_port net.nodes) net.ports) ≡ map (declaration_of net) net.ports = declare-ports 0 net.ports (λ k q e. get-from_zero net.ports k q e) in
      let order : d ++ s ++ o ≡ d ++ (s ++ (o ++ [])) = ap (λ (z : List WrittenItem). d ++ s ++ z) (sym (append-nil o)) ∙ append_assoc d s (o ++ []) in
      let r0 : Resolved = record { declarations = ds; assignments = []; blocks = [] } in
      let r1 : Resolved = record r0 { assignments = numbered (output_for p) 0 net.ports ++ [] } in
      let outputs = all-assignments ds (showing names) (output_for p) 0 net.ports
      (λ k q e. (let z = get-from_zero net.ports k q e in show-by (0 + k) q z q.direction (c.netlist.formed.ends (0 + k) q z))) [] r0 refl in
      let drivers = all-drivers ds (driving names net.ports) (assignment_for p) (block_for p (line_in net names)) 0 net.nodes
      (λ k x e. (let z = get-from_zero net.nodes k x e in drive-means (0 + k) x z (fits (0 + k) x z))) (o ++ []) r1 outputs in
      ap (λ (l : List Declaration). resolve_items (clock ∷ l) (d ++ s ++ o)) ports
      ∙ ap (resolve_items (clock ∷ map (declaration_of net) net.ports)) order
      ∙ declare-all net names 0 net.nodes (clock ∷ map (declaration_of net) net.ports) (s ++ (o ++ [])) (λ k x e. fits (0 + k) x (get-from_zero net.nodes k x e))
      ∙ drivers
      ∙ ap (λ (z : List Statement). Some (record { declarations = ds; assignments = numbered (assignment_for p) 0 net.nodes ++ (numbered (output_for p) 0 net.ports ++ []); blocks = z })) (append-nil (numbered (block_for p (line_in net names)) 0 net.nodes))
      ∙ ap (λ (z : List Assignment). Some (record { declarations = ds; assignments = numbered (assignment_for p) 0 net.nodes ++ z; blocks = numbered (block_for p (line_in net names)) 0 net.nodes })) (append-nil (numbered (output_for p) 0 net.ports))

  -- the written module resolves to the module
  pub resolves : resolve (written_as names net) ≡ Some (module_in net names)
  unfolding module_in
  resolves =
      ap (option_map (module_from (written_as names net))) items-mean
      ∙ ap (λ (n : ℕ). Some (record { name = unwrap_or net.name []; ports = suc n; declarations = ds; assignments = numbered (assignment_for p) 0 net.nodes ++ numbered (output_for p) 0 net.ports; blocks = numbered (block_for p (line_in net names)) 0 net.nodes })) (length-map net.ports (written_port net.nodes))
