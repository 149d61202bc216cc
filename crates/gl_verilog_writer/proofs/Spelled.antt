-- The text of a netlist spells its written module, which keeps the grammar and the limits.
use Rattle.std.proofs.Common.{◌≡◌, ℕ, suc, ◌+◌, ◌-◌, ◌<◌, ◌≤◌, ◌^◌, Bool, true, false, List, [], ◌∷◌, ◌++◌, map, Option, Some, None, IfSome, IsSomeAnd, refl, sym, ap, subst, ◌∙◌, arith, append_assoc}
use Rattle.std.specs.Prelude.{slice_get, codes, decimal, option_map, unwrap_or, ◌==◌, if◌then◌else◌}
use Rattle.std.specs.List.{AllByRecursion}
use Rattle.std.specs.Option.{option_map_or}
use Rattle.gl_bits.proofs.AllLists.{all_append}
use Rattle.gl_bits.specs.Words.{IsWidth}
use Rattle.gl_net.specs.declared.node.BinaryOp.{BinaryOp}
use Rattle.gl_net.specs.declared.node.BinaryOp.TheVariants.{Add, Sub, Mul, And, Xor, Or, Eq, Ne, Lt, Le}
use Rattle.gl_net.specs.declared.node.Node.{Node}
use Rattle.gl_net.specs.declared.node.Node.TheVariants.{Input, Constant, Not, Binary, Choose, Join, Cut, Register, Memory, MemoryRead}
use Rattle.gl_net.specs.declared.node.Port.{Port}
use Rattle.gl_net.specs.declared.node.Direction.{Direction}
use Rattle.gl_net.specs.declared.node.Direction.TheVariants.{In, Out}
use Rattle.gl_net.specs.Net.{Net, shape_in}
use Rattle.gl_net.specs.PortValues.{bits_of}
use Rattle.gl_net.specs.WellFormed.{NodeFits, EndFits, end_at}
use Rattle.gl_net.specs.Finished.{IsName}
use Rattle.gl_verilog.specs.Tokens.{Token, Reads, tokens_of}
use Rattle.gl_verilog.proofs.Pieces.{reads_on}
use Rattle.gl_verilog.specs.Written as written
use Rattle.gl_verilog.specs.Written.{WrittenExpr, BitNot, BitAnd, BitOr, Below, AtMost, Prefix, Infix, WrittenStatement, Update, WrittenItem, Assign, Always, IsExpr, IsStatement, IsItem, IsWritten, spell_item, spell_items, spell}
use Rattle.gl_verilog.specs.Limits.{IsShort, depth_of, depth_in, ifs_in, AreShort, KeepsLimits, IsWithinLimits}
use Rattle.gl_verilog_writer.specs.Comments.{header_text, title_text}
use Rattle.gl_verilog_writer.specs.Labelled.{Scheme, name_in, above_in}
use Rattle.gl_verilog_writer.specs.Printed.{Line, lines_text, head_text, end_text}
use Rattle.gl_verilog_writer.proofs.Quiet.{header-reads}
use Rattle.gl_verilog_writer.specs.Design.{port_name, binary_expr, named, literal, vector, last_word, declares, takes, does, numbered, declaring, assigning, shows, showing, clocking, range_of, written_port, items_of, with_option, either, driving, written_as, under, declared_line, driven_line, shown_line, parts_text}
use Rattle.gl_verilog_writer.proofs.Digits.{IsPlain, IsSize, name-plain, clock-plain, reset-plain, size-decimal, numeral-decimal}
use Rattle.gl_verilog_writer.proofs.Texts.{IsPrintable, CanPrint, IsRange, IsPrinted, IsPrintedPort, IsPrintedModule, items_in, lines-read, moved, module-spelled}
use Rattle.gl_verilog_writer.proofs.Model.{Named}
use Rattle.gl_verilog_writer.proofs.Lists.{numbered-all, get-from_zero}
use Rattle.gl_verilog_writer.proofs.Fitted.{width-fits, port_end, bus, bit, shown, stored, node-plain, word-small}
use Rattle.gl_verilog_writer.proofs.Ranges.{last-small}
use Rattle.gl_verilog_writer.proofs.Resolved.{port-width}

-- an expression is grouped, short and not deep
pub record IsFlat (e : WrittenExpr) : Type 0 where
  pub prints : IsPrintable e
  pub grammar : IsExpr e
  pub depth : depth_of e ≤ 64
  pub short : IsShort e

pub record IsFlatStatement (s : WrittenStatement) : Type 0 where
  pub prints : CanPrint s
  pub grammar : IsStatement s
  pub depth : depth_in s ≤ 64
  pub ifs : ifs_in s ≤ 1024
  pub short : AreShort s

pub record IsFlatItem (i : WrittenItem) : Type 0 where
  pub prints : IsPrinted i
  pub grammar : IsItem i
  pub limits : KeepsLimits i

vector-size : (w : ℕ) → w ≤ 128 → IsSize (decimal (w - 1))
vector-size w h = size-decimal (w - 1) (omega (arith, h))

range-size : (w : ℕ) → w ≤ 128 → IsRange (range_of w)
range-size w h = by (w == 1)
  where
    by : (b : Bool) → IsRange (if b then None else vector w)
    by true = tt
    by false = vector-size w h

name-flat : (name : List ℕ) → IsPlain name → IsFlat (written.Named name)
name-flat name h = record { prints = h; grammar = (omega arith, tt); depth = omega arith; short = omega arith }

literal-flat : (v w : ℕ) → IsWidth w → v < 2 ^ w → IsFlat (literal v w)
literal-flat v w i h = let m = i.most in record {
  prints = (size-decimal w (omega (arith, m)), refl, numeral-decimal v (word-small v w i.most h));
  grammar = (omega arith, tt);
  depth = omega arith;
  short = omega arith;
}

-- some bits of a net
cut-flat : (name : List ℕ) (high low : ℕ) → IsPlain name → high < 2 ^ 32 → low < 2 ^ 32 → (b : Bool) → IsFlat (if b then written.Named name else written.PartOf name (decimal high) (decimal low))
cut-flat name high low p h l true = name-flat name p
cut-flat name high low p h l false = record { prints = (p, size-decimal high h, size-decimal low l); grammar = (omega arith, tt); depth = omega arith; short = omega arith }

-- two names under an operation
binary-flat : (o : BinaryOp) (w : ℕ) (a b : List ℕ) → IsPlain a → IsPlain b → IsFlat (binary_expr o w (written.Named a) (written.Named b))
binary-flat Add w a b p q = record { prints = (p, q); grammar = (omega arith, (omega arith, omega arith, tt, tt)); depth = omega arith; short = omega arith }
binary-flat Sub w a b p q = record { prints = (p, q); grammar = (omega arith, (omega arith, omega arith, tt, tt)); depth = omega arith; short = omega arith }
binary-flat Mul w a b p q = record { prints = (p, q); grammar = (omega arith, (omega arith, omega arith, tt, tt)); depth = omega arith; short = omega arith }
binary-flat And w a b p q = record { prints = (p, q); grammar = (omega arith, (omega arith, omega arith, tt, tt)); depth = omega arith; short = omega arith }
binary-flat Xor w a b p q = record { prints = (p, q); grammar = (omega arith, (omega arith, omega arith, tt, tt)); depth = omega arith; short = omega arith }
binary-flat Or w a b p q = record { prints = (p, q); grammar = (omega arith, (omega arith, omega arith, tt, tt)); depth = omega arith; short = omega arith }
binary-flat Eq w a b p q = record { prints = (p, q); grammar = (omega arith, (omega arith, omega arith, tt, tt)); depth = omega arith; short = omega arith }
binary-flat Ne w a b p q = record { prints = (p, q); grammar = (omega arith, (omega arith, omega arith, tt, tt)); depth = omega arith; short = omega arith }
binary-flat Lt w a b p q = by (w == 1)
  where
    by : (t : Bool) → IsFlat (if t then Infix BitAnd (Prefix BitNot (written.Named a)) (written.Named b) else Infix Below (written.Named a) (written.Named b))
    by true = record { prints = (p, q); grammar = (omega arith, (omega arith, omega arith, (omega arith, tt), tt)); depth = omega arith; short = omega arith }
    by false = record { prints = (p, q); grammar = (omega arith, (omega arith, omega arith, tt, tt)); depth = omega arith; short = omega arith }
binary-flat Le w a b p q = by (w == 1)
  where
    by : (t : Bool) → IsFlat (if t then Infix BitOr (Prefix BitNot (written.Named a)) (written.Named b) else Infix AtMost (written.Named a) (written.Named b))
    by true = record { prints = (p, q); grammar = (omega arith, (omega arith, omega arith, (omega arith, tt), tt)); depth = omega arith; short = omega arith }
    by false = record { prints = (p, q); grammar = (omega arith, (omega arith, omega arith, tt, tt)); depth = omega arith; short = omega arith }

module _ (net : Net) (names : ℕ → List ℕ) (c : Named net names) where
  plain-port : (place : ℕ) (q : Port) → slice_get net.ports place ≡ Some q → IsPlain q.name
  plain-port place q e = name-plain q.name (c.netlist.finished.port_names place q e)

  -- what is assigned to a node's net
  value-flat : (n : ℕ) (x : Node) → NodeFits net n x → IfSome (takes names net.ports x) IsFlat
  unfolding end_at
  value-flat n (Input place w) h =
      let q = port_end (slice_get net.ports place) (In, n) h.1 in
      let a : port_name net.ports place ≡ q.0.name = ap (λ (o : Option Port). option_map_or (λ (r : Port). r.name) o []) q.1 in
      subst (λ (m : List ℕ). IsFlat (written.Named m)) (sym a) (name-flat q.0.name (plain-port place q.0 q.1))
  value-flat n (Constant word) h = literal-flat word.bits word.width h.width h.fits
  value-flat n (Not x) h = let i = bus net names c x h.bus in record { prints = node-plain net names c x.node i.node i.there; grammar = (omega arith, (omega arith, tt)); depth = omega arith; short = omega arith }
  value-flat n (Binary o x y) h =
      let i = bus net names c x h.0.bus in
      let j = bus net names c y h.1.bus in
      binary-flat o x.width (names x.node) (names y.node) (node-plain net names c x.node i.node i.there) (node-plain net names c y.node j.node j.there)
  value-flat n (Choose test x y) h =
      let t = bit net names c test h.0.bit in
      let i = bus net names c x h.1.bus in
      let j = bus net names c y h.2.bus in
      record {
        prints = (node-plain net names c test.node t.node t.there, node-plain net names c x.node i.node i.there, node-plain net names c y.node j.node j.there);
        grammar = (omega arith, (omega arith, omega arith, omega arith, tt, tt, tt));
        depth = omega arith;
        short = omega arith;
      }
  value-flat n (Join x y) h =
      let i = bus net names c x h.0.bus in
      let j = bus net names c y h.1.bus in
      record { prints = (node-plain net names c x.node i.node i.there, node-plain net names c y.node j.node j.there); grammar = (omega arith, (omega arith, tt, tt)); depth = omega arith; short = omega arith }
  value-flat n (Cut x high low) h =
      let i = bus net names c x h.0.bus in
      let most = h.0.bus.width.most in let below = h.2 in let order = h.1 in
      cut-flat (names x.node) high low (node-plain net names c x.node i.node i.there) (omega (arith, most, below)) (omega (arith, most, below, order)) (x.width == 1)
  value-flat n (MemoryRead store x) h =
      let s = stored net names c store h.0.store in
      let i = bus net names c x h.1.bus in
      record { prints = (node-plain net names c store.node s.node s.there, node-plain net names c x.node i.node i.there); grammar = (omega arith, (omega arith, tt)); depth = omega arith; short = omega arith }
  value-flat n (Register w reset next) h = tt
  value-flat n (Memory bits w drive) h = tt

  update-flat : (target : List ℕ) (e : WrittenExpr) → IsPlain target → IsFlat e → IsFlatStatement (Update target e)
  update-flat target e p h = record { prints = (p, h.prints); grammar = h.grammar; depth = h.depth; ifs = omega arith; short = h.short }

  -- what a register or a memory does at the edge
  block-flat : (n : ℕ) (x : Node) → slice_get net.nodes n ≡ Some x → NodeFits net n x → IfSome (does names n x) IsFlatStatement
  block-flat n (Register w None None) e h = tt
  block-flat n (Register w (Some value) None) e h = tt
  block-flat n (Register w None (Some next)) e h =
      let i = bus net names c next h.2.0 in
      update-flat (names n) (named names next.node) (node-plain net names c n _ e) (name-flat (names next.node) (node-plain net names c next.node i.node i.there))
  block-flat n (Register w (Some value) (Some next)) e h =
      let i = bus net names c next h.2.0 in
      let v = literal-flat value w h.0 h.1 in
      let m = node-plain net names c n _ e in
      let k = node-plain net names c next.node i.node i.there in
      record {
        prints = (reset-plain, (m, v.prints), (m, k));
        grammar = ((omega arith, tt), refl, v.grammar, (omega arith, tt));
        depth = omega arith;
        ifs = omega arith;
        short = (omega arith, v.short, omega arith);
      }
  block-flat n (Memory bits w None) e h = tt
  block-flat n (Memory bits w (Some drive)) e h =
      let t = bit net names c drive.write h.2.write in
      let a = bus net names c drive.address h.2.address in
      let v = bus net names c drive.value h.2.value in
      record {
        prints = (node-plain net names c drive.write.node t.node t.there, (node-plain net names c n _ e, node-plain net names c drive.address.node a.node a.there, node-plain net names c drive.value.node v.node v.there));
        grammar = ((omega arith, tt), ((omega arith, tt), (omega arith, tt)));
        depth = omega arith;
        ifs = omega arith;
        short = (omega arith, (omega arith, omega arith));
      }
  block-flat n (Input place w) e h = tt
  block-flat n (Constant word) e h = tt
  block-flat n (Not x) e h = tt
  block-flat n (Binary o x y) e h = tt
  block-flat n (Choose test x y) e h = tt
  block-flat n (Join x y) e h = tt
  block-flat n (Cut x high low) e h = tt
  block-flat n (MemoryRead store x) e h = tt

  wires-flat : (n w : ℕ) → IsPlain (names n) → IsWidth w → IsFlatItem (written.Wires (range_of w) (names n ∷ []))
  wires-flat n w p i = record { prints = (range-size w i.most, (p, tt)); grammar = tt; limits = tt }

  declaration-flat : (n : ℕ) (x : Node) → slice_get net.nodes n ≡ Some x → NodeFits net n x → IsFlatItem (declares names n x)
  declaration-flat n (Input place w) e h = wires-flat n _ (node-plain net names c n _ e) (width-fits net n (Input place w) h)
  declaration-flat n (Constant word) e h = wires-flat n _ (node-plain net names c n _ e) (width-fits net n (Constant word) h)
  declaration-flat n (Not x) e h = wires-flat n _ (node-plain net names c n _ e) (width-fits net n (Not x) h)
  declaration-flat n (Binary o x y) e h = wires-flat n _ (node-plain net names c n _ e) (width-fits net n (Binary o x y) h)
  declaration-flat n (Choose test x y) e h = wires-flat n _ (node-plain net names c n _ e) (width-fits net n (Choose test x y) h)
  declaration-flat n (Join x y) e h = wires-flat n _ (node-plain net names c n _ e) (width-fits net n (Join x y) h)
  declaration-flat n (Cut x high low) e h = wires-flat n _ (node-plain net names c n _ e) (width-fits net n (Cut x high low) h)
  declaration-flat n (MemoryRead store x) e h = wires-flat n _ (node-plain net names c n _ e) (width-fits net n (MemoryRead store x) h)
  declaration-flat n (Register w reset next) e h = record { prints = (range-size w h.0.most, (node-plain net names c n _ e, tt)); grammar = tt; limits = tt }
  declaration-flat n (Memory bits w drive) e h = record { prints = (range-size w h.1.most, node-plain net names c n _ e, size-decimal (last_word bits) (last-small bits h.0)); grammar = tt; limits = tt }

  assign-flat : (name : List ℕ) (o : Option WrittenExpr) → IsPlain name → IfSome o IsFlat → IfSome (option_map (Assign name) o) IsFlatItem
  assign-flat name None p h = tt
  assign-flat name (Some e) p h = record { prints = (p, h.prints); grammar = h.grammar; limits = (h.depth, h.short) }

  always-flat : (o : Option WrittenStatement) → IfSome o IsFlatStatement → IfSome (option_map (Always (codes "clk")) o) IsFlatItem
  always-flat None h = tt
  always-flat (Some s) h = record { prints = (clock-plain, h.prints); grammar = h.grammar; limits = (h.depth, h.ifs, h.short) }

  show-flat : (place : ℕ) (q : Port) → slice_get net.ports place ≡ Some q → (d : Direction) → EndFits net place d q.node → IfSome (shows names d q.name q.node) IsFlatItem
  show-flat place q t In f = tt
  show-flat place q t Out f =
      let i = shown net names c q.node f.0 f.1 in
      record { prints = (plain-port place q t, node-plain net names c q.node i.node i.there); grammar = (omega arith, tt); limits = (omega arith, omega arith) }

  either-flat : (o p : Option WrittenItem) → IfSome o IsFlatItem → IfSome p IsFlatItem → IfSome (either o p) IsFlatItem
  either-flat (Some x) p h k = h
  either-flat None p h k = k

  pub declarations-flat : AllByRecursion IsFlatItem (numbered (declaring names) 0 net.nodes)
  declarations-flat = numbered-all IsFlatItem (declaring names) 0 net.nodes (λ k x e. declaration-flat (0 + k) x (get-from_zero net.nodes k x e) (c.netlist.formed.nodes (0 + k) x (get-from_zero net.nodes k x e)))

  pub drivers-flat : AllByRecursion IsFlatItem (numbered (driving names net.ports) 0 net.nodes)
  drivers-flat = numbered-all IsFlatItem (driving names net.ports) 0 net.nodes (λ k x e. (let t = get-from_zero net.nodes k x e in let f = c.netlist.formed.nodes (0 + k) x t in
      either-flat (assigning names net.ports (0 + k) x) (clocking names (0 + k) x) (assign-flat (names (0 + k)) (takes names net.ports x) (node-plain net names c (0 + k) x t) (value-flat (0 + k) x f)) (always-flat (does names (0 + k) x) (block-flat (0 + k) x t f))))

  pub outputs-flat : AllByRecursion IsFlatItem (numbered (showing names) 0 net.ports)
  outputs-flat = numbered-all IsFlatItem (showing names) 0 net.ports (λ k q e. show-flat (0 + k) q (get-from_zero net.ports k q e) q.direction (c.netlist.formed.ends (0 + k) q (get-from_zero net.ports k q e)))

  items-flat : AllByRecursion IsFlatItem (items_of names net.nodes net.ports)
  items-flat =
      let d = numbered (declaring names) 0 net.nodes in
      let s = numbered (driving names net.ports) 0 net.nodes in
      let o = numbered (showing names) 0 net.ports in
      all_append IsFlatItem (d ++ s) o (all_append IsFlatItem d s declarations-flat drivers-flat) outputs-flat

  each-item : (P : WrittenItem → Type 0) → ((i : WrittenItem) → IsFlatItem i → P i) → (is : List WrittenItem) → AllByRecursion IsFlatItem is → AllByRecursion P is
  each-item P f [] h = tt
  each-item P f (i ∷ is) h = (f i h.0, each-item P f is h.1)

  ports-printed : (n : ℕ) (qs : List Port) → ((k : ℕ) (q : Port) → slice_get qs k ≡ Some q → slice_get net.ports (n + k) ≡ Some q) → AllByRecursion IsPrintedPort (map (written_port net.nodes) qs)
  ports-printed n [] h = tt
  ports-printed n (q ∷ qs) h = (
    record { range = range-size (bits_of (shape_in net.nodes q.node)) (port-width net names c (n + 0) q (h 0 q refl)).most; name = plain-port (n + 0) q (h 0 q refl) },
    ports-printed (n + 1) qs (λ k r e. ap (λ (m : ℕ). slice_get net.ports m) (let z : n + 1 + k ≡ n + suc k = omega arith in z) ∙ h (suc k) r e),
  )

  name-there : (o : Option (List ℕ)) → IsSomeAnd o IsName → IsPlain (unwrap_or o [])
  name-there None h = absurd h
  name-there (Some w) h = name-plain w h

  pub module-printed : IsPrintedModule (written_as names net)
  module-printed = record {
    name = name-there net.name c.netlist.finished.module_name;
    ports = (record { range = tt; name = clock-plain }, ports-printed 0 net.ports (get-from_zero net.ports));
  }

  pub module-written : IsWritten (written_as names net)
  module-written = record { ports = tt; items = each-item IsItem (λ i h. h.grammar) (items_of names net.nodes net.ports) items-flat }

  pub module-limited : IsWithinLimits (written_as names net)
  module-limited = each-item KeepsLimits (λ i h. h.limits) (items_of names net.nodes net.ports) items-flat

-- ---- the text

-- the items of numbered lines are numbered items
items-with : (o : Option Line) (ls : List Line) → items_in (with_option o ls) ≡ with_option (option_map (λ (l : Line). l.item) o) (items_in ls)
items-with None ls = refl
items-with (Some l) ls = refl

items-numbered : {A : Type 0} (f : ℕ → A → Option Line) (g : ℕ → A → Option WrittenItem) (n : ℕ) (xs : List A) → ((k : ℕ) (x : A) → option_map (λ (l : Line). l.item) (f k x) ≡ g k x) → items_in (numbered f n xs) ≡ numbered g n xs
items-numbered f g n [] h = refl
items-numbered f g n (x ∷ xs) h =
    items-with (f n x) (numbered f (n + 1) xs)
    ∙ ap (λ (o : Option WrittenItem). with_option o (items_in (numbered f (n + 1) xs))) (h n x)
    ∙ ap (λ (is : List WrittenItem). with_option (g n x) is) (items-numbered f g (n + 1) xs h)

under-item : (above : List ℕ) (o : Option WrittenItem) → option_map (λ (l : Line). l.item) (option_map (under above) o) ≡ o
under-item above None = refl
under-item above (Some i) = refl

spell-append : (xs ys : List WrittenItem) → spell_items (xs ++ ys) ≡ spell_items xs ++ spell_items ys
spell-append [] ys = refl
spell-append (x ∷ xs) ys = ap (λ (ts : List Token). spell_item x ++ ts) (spell-append xs ys) ∙ sym (append_assoc (spell_item x) (spell_items xs) (spell_items ys))

-- a part under its title
part-reads : (title : List ℕ) (ls : List Line) (is : List WrittenItem) → Reads title [] → items_in ls ≡ is → AllByRecursion IsPrinted is → Reads (title ++ lines_text ls) (spell_items is)
part-reads title ls is t e h =
    reads_on title (lines_text ls) [] (spell_items is) t
    (subst (λ (z : List WrittenItem). Reads (lines_text ls) (spell_items z)) e (lines-read ls (subst (AllByRecursion IsPrinted) (sym e) h)))

module _ (net : Net) (scheme : Scheme) (c : Named net (name_in scheme)) where
  abbrev names : ℕ → List ℕ
  names = name_in scheme

  parts-read : Reads (parts_text scheme net.nodes net.ports) (spell_items (items_of names net.nodes net.ports))
  unfolding title_text
  parts-read =
      let d = numbered (declaring names) 0 net.nodes in
      let s = numbered (driving names net.ports) 0 net.nodes in
      let o = numbered (showing names) 0 net.ports in
      let ld = numbered (declared_line scheme) 0 net.nodes in
      let ls = numbered (driven_line scheme net.ports) 0 net.nodes in
      let lo = numbered (shown_line scheme) 0 net.ports in
      let prints : (is : List WrittenItem) → AllByRecursion IsFlatItem is → AllByRecursion IsPrinted is = each-item net names c IsPrinted (λ i h. h.prints) in
      let rd = part-reads (title_text (codes "declarations")) ld d (record { is = refl }) (items-numbered (declared_line scheme) (declaring names) 0 net.nodes (λ k x. refl)) (prints d (declarations-flat net names c)) in
      let rs = part-reads (title_text (codes "what drives them")) ls s (record { is = refl }) (items-numbered (driven_line scheme net.ports) (driving names net.ports) 0 net.nodes (λ k x. under-item (above_in scheme k) (driving names net.ports k x))) (prints s (drivers-flat net names c)) in
      let ro = part-reads (title_text (codes "outputs")) lo o (record { is = refl }) (items-numbered (shown_line scheme) (showing names) 0 net.ports (λ k q. under-item [] (showing names k q))) (prints o (outputs-flat net names c)) in
      let td = title_text (codes "declarations") in
      let ts = title_text (codes "what drives them") in
      let to = title_text (codes "outputs") in
      let all = reads_on _ (to ++ lines_text lo) _ (spell_items o) (reads_on (td ++ lines_text ld) (ts ++ lines_text ls) (spell_items d) (spell_items s) rd rs) ro in
      let text : ((td ++ lines_text ld) ++ (ts ++ lines_text ls)) ++ (to ++ lines_text lo) ≡ td ++ lines_text ld ++ ts ++ lines_text ls ++ to ++ lines_text lo =
      sym (append_assoc ((td ++ lines_text ld) ++ (ts ++ lines_text ls)) to (lines_text lo))
      ∙ ap (λ (t : List ℕ). t ++ to ++ lines_text lo) (sym (append_assoc (td ++ lines_text ld) ts (lines_text ls))) in
      let tokens : (spell_items d ++ spell_items s) ++ spell_items o ≡ spell_items ((d ++ s) ++ o) =
      ap (λ (z : List Token). z ++ spell_items o) (sym (spell-append d s)) ∙ sym (spell-append (d ++ s) o) in
      moved _ _ _ _ text tokens all

  pub text-spelled : (lines : List (List ℕ)) → tokens_of (header_text lines ++ (head_text (written_as names net) ++ parts_text scheme net.nodes net.ports ++ end_text)) ≡ spell (written_as names net)
  text-spelled lines = module-spelled (written_as names net) (header_text lines) (parts_text scheme net.nodes net.ports) (module-printed net names c) (header-reads lines) parts-read
