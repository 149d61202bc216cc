-- How many bytes the text of a netlist has at most.
use Rattle.std.proofs.Common.{◌≡◌, ℕ, suc, ◌+◌, ◌-◌, ◌*◌, ◌^◌, ◌<◌, ◌≤◌, Bool, true, false, ◌==◌, List, [], ◌∷◌, ◌++◌, length, Option, Some, None, map, refl, ap, subst, ◌∙◌, arith, length-append, pow_mono, lt_of_lt_of_le, le-leb}
use Rattle.std.specs.Prelude.{codes, decimal, slice_get, option_map, nat_le, unwrap_or, if◌then◌else◌}
use Rattle.std.specs.Option.{option_map_or}
use Rattle.std.specs.List.{sum_by}
use Rattle.std.proofs.lemmas.List.Sums.{sum_by-cons}
use Rattle.std.proofs.lemmas.Fmt.{length-decimal-le_wide}
use Rattle.std.proofs.lemmas.Option.{slice_get_within}
use Rattle.std.proofs.Math.Nat.{mul-suc}
use Rattle.gl_net.specs.declared.node.BinaryOp.{BinaryOp}
use Rattle.gl_net.specs.declared.node.BinaryOp.TheVariants.{Add, Sub, Mul, And, Xor, Or, Eq, Ne, Lt, Le}
use Rattle.gl_net.specs.declared.node.Node.{Node}
use Rattle.gl_net.specs.declared.node.Node.TheVariants.{Input, Constant, Not, Binary, Choose, Join, Cut, Register, Memory, MemoryRead}
use Rattle.gl_net.specs.declared.node.Bus.{Bus}
use Rattle.gl_net.specs.declared.node.Bit.{Bit}
use Rattle.gl_net.specs.declared.node.Store.{Store}
use Rattle.gl_net.specs.declared.node.Port.{Port}
use Rattle.gl_net.specs.declared.node.Direction.{Direction}
use Rattle.gl_net.specs.declared.node.Direction.TheVariants.{In, Out}
use Rattle.gl_net.specs.Net.{Net, shape_in, IsBus, IsBit, IsStore}
use Rattle.gl_net.specs.PortValues.{bits_of}
use Rattle.gl_net.specs.WellFormed.{NodeFits, EndFits, end_at}
use Rattle.gl_net.specs.Finished.{IsNetlist}
use Rattle.gl_verilog.specs.Written as written
use Rattle.gl_verilog.specs.Written.{WrittenItem, WrittenPort, WrittenExpr, PartOf, BitNot, BitAnd, BitOr, Below, AtMost, Prefix, Infix}
use Rattle.gl_verilog_writer.specs.Pieces.{family_text, net_name}
use Rattle.gl_verilog_writer.specs.declared.label.Labels.{Labels}
use Rattle.gl_verilog_writer.specs.Comments.{heading_text, title_text, header_text}
use Rattle.gl_verilog_writer.specs.Labelled.{Scheme, ByFamily, ByLabels, name_in, above_in, above_at, head_lines, are_shown, family_of}
use Rattle.gl_verilog_writer.specs.Printed.{Line, expr_text, infix_text, range_text, direction_text, port_text, more_ports_text, always_text, item_text, line_text, lines_text, head_text, end_text}
use Rattle.gl_verilog_writer.specs.Design.{node_width, named, infix_of, binary_expr, port_name, last_word, vector, range_of, cut_expr, leads, shows, declares, with_option, numbered, driving, under, declared_line, driven_line, shown_line, parts_text, written_port, written_as, clock_port, items_of, text_by, module_text}
use Rattle.gl_verilog_writer.specs.Size.{port_bytes, node_bytes, most_bytes}
use Rattle.gl_verilog_writer.proofs.Model.{Named}
use Rattle.gl_verilog_writer.proofs.Loops.{lines-first}
use Rattle.gl_verilog_writer.proofs.Fitted.{width-fits, port_end, bus, bit, shown, stored}
use Rattle.gl_verilog_writer.proofs.Ranges.{last-small}
use Rattle.gl_verilog_writer.proofs.Resolved.{port-width}
use Rattle.gl_verilog_writer.proofs.Family.{family-small, family-naming}
use Rattle.gl_verilog_writer.proofs.Quiet.{heading-long, header-within}
use Rattle.gl_verilog_writer.proofs.Labelled.{shown-parts, labels-naming}
use Rattle.gl_verilog_writer.proofs.Lists.{get-from_zero}

-- the text has at most so many bytes
record Within (most : ℕ) (text : List ℕ) : Type 0 where
  is : length text ≤ most

both : {a b : ℕ} {xs ys : List ℕ} → Within a xs → Within b ys → Within (a + b) (xs ++ ys)
both {a} {b} {xs} {ys} p q = record { is = (let e = length-append xs ys in let i = p.is in let j = q.is in omega (arith, e, i, j)) }

word : (xs : List ℕ) → Within (length xs) xs
word xs = record { is = omega arith }

digits : (k n : ℕ) → 0 < k → n < 10 ^ k → n < 10 ^ 64 → Within k (decimal n)
digits k n p l h = record { is = length-decimal-le_wide k n p l h }

-- a number of a byte's size, a node's number, and a word
small-digits : (n : ℕ) → n < 1000 → Within 3 (decimal n)
small-digits n h = digits 3 n (omega arith) h (omega (arith, h))

number-digits : (n : ℕ) → n < 2 ^ 32 → Within 10 (decimal n)
number-digits n h = digits 10 n (omega arith) (omega (arith, h)) (omega (arith, h))

word-digits : (n w : ℕ) → w ≤ 128 → n < 2 ^ w → Within 39 (decimal n)
word-digits n w m h = let a : n < 2 ^ 128 = lt_of_lt_of_le h (pow_mono m) in digits 39 n (omega arith) (omega (arith, a)) (omega (arith, a))

name-within : (family n : ℕ) → family < 2 ^ 32 → n < 2 ^ 32 → Within 22 (net_name family n)
unfolding net_name family_text
name-within family n f h = both (both (both (word (codes "n")) (number-digits family f)) (word (codes "_"))) (number-digits n h)

range-within : (w : ℕ) → w ≤ 128 → Within 8 (range_text (range_of w))
range-within w h = by (w == 1)
  where
    by : (b : Bool) → Within 8 (range_text (if b then None else vector w))
    by true = record { is = omega arith }
    by false = both (both (word (codes "[")) (small-digits (w - 1) (omega (arith, h)))) (word (codes ":0] "))

-- ---- declarations, where a name has at most k bytes

wire-within : (k : ℕ) (r n : List ℕ) → Within 8 r → Within k n → Within (9 + 8 + k + 2) (codes "    wire " ++ r ++ n ++ codes ";\n")
wire-within k r n p q = both (both (both (word (codes "    wire ")) p) q) (word (codes ";\n"))

register-within : (k : ℕ) (r n : List ℕ) → Within 8 r → Within k n → Within (8 + 8 + k + 2) (codes "    reg " ++ r ++ n ++ codes ";\n")
register-within k r n p q = both (both (both (word (codes "    reg ")) p) q) (word (codes ";\n"))

memory-within : (k : ℕ) (r n l : List ℕ) → Within 8 r → Within k n → Within 10 l → Within (8 + 8 + k + 4 + 10 + 3) (codes "    reg " ++ r ++ n ++ codes " [0:" ++ l ++ codes "];\n")
memory-within k r n l p q s = both (both (both (both (both (word (codes "    reg ")) p) q) (word (codes " [0:"))) s) (word (codes "];\n"))

-- ---- assignments

assigned-within : (k m : ℕ) (n v : List ℕ) → Within k n → Within m v → Within (11 + k + 3 + m + 2) (codes "    assign " ++ n ++ codes " = " ++ v ++ codes ";\n")
assigned-within k m n v p q = both (both (both (both (word (codes "    assign ")) p) (word (codes " = "))) q) (word (codes ";\n"))

infix-within : (o : BinaryOp) → Within 4 (infix_text (infix_of o))
infix-within Add = record { is = omega arith }
infix-within Sub = record { is = omega arith }
infix-within Mul = record { is = omega arith }
infix-within And = record { is = omega arith }
infix-within Xor = record { is = omega arith }
infix-within Or = record { is = omega arith }
infix-within Eq = record { is = omega arith }
infix-within Ne = record { is = omega arith }
infix-within Lt = record { is = omega arith }
infix-within Le = record { is = omega arith }

literal-within : (n w : ℕ) → w ≤ 128 → n < 2 ^ w → Within 44 (decimal w ++ codes "'d" ++ decimal n)
literal-within n w m h = both (both (small-digits w (omega (arith, m))) (word (codes "'d"))) (word-digits n w m h)

pair-within : (k m : ℕ) (a s b : List ℕ) → Within k a → Within m s → Within k b → Within (k + m + k) (a ++ s ++ b)
pair-within k m a s b p q r = both (both p q) r

-- a gate of single bits has a sign in front, and one between two blanks
gate-within : (k : ℕ) (a s b : List ℕ) → Within k a → Within 3 s → Within k b → Within (k + 4 + k) ((codes "~" ++ a) ++ s ++ b)
gate-within k a s b p q r = record { is = (let i = (both (both (both (word (codes "~")) p) q) r).is in omega (arith, i)) }

-- two values under an operation
binary-within : (k : ℕ) (o : BinaryOp) (w : ℕ) (a b : WrittenExpr) → Within k (expr_text a) → Within k (expr_text b) → Within (k + 4 + k) (expr_text (binary_expr o w a b))
binary-within k Add w a b p q = pair-within k 4 _ _ _ p (infix-within Add) q
binary-within k Sub w a b p q = pair-within k 4 _ _ _ p (infix-within Sub) q
binary-within k Mul w a b p q = pair-within k 4 _ _ _ p (infix-within Mul) q
binary-within k And w a b p q = pair-within k 4 _ _ _ p (infix-within And) q
binary-within k Xor w a b p q = pair-within k 4 _ _ _ p (infix-within Xor) q
binary-within k Or w a b p q = pair-within k 4 _ _ _ p (infix-within Or) q
binary-within k Eq w a b p q = pair-within k 4 _ _ _ p (infix-within Eq) q
binary-within k Ne w a b p q = pair-within k 4 _ _ _ p (infix-within Ne) q
binary-within k Lt w a b p q = by (w == 1)
  where
    by : (t : Bool) → Within (k + 4 + k) (expr_text (if t then Infix BitAnd (Prefix BitNot a) b else Infix Below a b))
    by true = gate-within k _ _ _ p (word (codes " & ")) q
    by false = pair-within k 4 _ _ _ p (infix-within Lt) q
binary-within k Le w a b p q = by (w == 1)
  where
    by : (t : Bool) → Within (k + 4 + k) (expr_text (if t then Infix BitOr (Prefix BitNot a) b else Infix AtMost a b))
    by true = gate-within k _ _ _ p (word (codes " | ")) q
    by false = pair-within k 4 _ _ _ p (infix-within Le) q

choose-within : (k : ℕ) (t a b : List ℕ) → Within k t → Within k a → Within k b → Within (k + 3 + k + 3 + k) (t ++ codes " ? " ++ a ++ codes " : " ++ b)
choose-within k t a b p q r = both (both (both (both p (word (codes " ? "))) q) (word (codes " : "))) r

join-within : (k : ℕ) (a b : List ℕ) → Within k a → Within k b → Within (1 + (k + 2 + k) + 1) (codes "{" ++ (a ++ codes ", " ++ b) ++ codes "}")
join-within k a b p q = both (both (word (codes "{")) (both (both p (word (codes ", "))) q)) (word (codes "}"))

cut-within : (k w : ℕ) (a : List ℕ) (high low : ℕ) → Within k a → high < 1000 → low < 1000 → Within (k + 1 + 3 + 1 + 3 + 1) (expr_text (cut_expr w a high low))
cut-within k w a high low p h l = by (w == 1)
  where
    by : (b : Bool) → Within (k + 1 + 3 + 1 + 3 + 1) (expr_text (if b then written.Named a else PartOf a (decimal high) (decimal low)))
    by true = record { is = (let i = p.is in omega (arith, i)) }
    by false = both (both (both (both (both p (word (codes "["))) (small-digits high h)) (word (codes ":"))) (small-digits low l)) (word (codes "]"))

read-within : (k : ℕ) (a b : List ℕ) → Within k a → Within k b → Within (k + 1 + k + 1) (a ++ codes "[" ++ b ++ codes "]")
read-within k a b p q = both (both (both p (word (codes "["))) q) (word (codes "]"))

-- ---- blocks

update-within : (k m : ℕ) (n v : List ℕ) → Within k n → Within m v → Within (k + 4 + m + 2) (n ++ codes " <= " ++ v ++ codes ";\n")
update-within k m n v p q = both (both (both p (word (codes " <= "))) q) (word (codes ";\n"))

clocked-within : (m : ℕ) (s : List ℕ) → Within m s → Within (21 + 3 + 10 + m) (always_text ++ codes "clk" ++ codes ")\n        " ++ s)
unfolding always_text
clocked-within m s p = both (both (both (word (codes "    always @(posedge ")) (word (codes "clk"))) (word (codes ")\n        "))) p

reset-within : (m j : ℕ) (a b : List ℕ) → Within m a → Within j b → Within (4 + 3 + 2 + m + 13 + j) (codes "if (" ++ codes "rst" ++ codes ") " ++ a ++ codes "        else " ++ b)
reset-within m j a b p q = both (both (both (both (both (word (codes "if (")) (word (codes "rst"))) (word (codes ") "))) p) (word (codes "        else "))) q

store-within : (k : ℕ) (n a v : List ℕ) → Within k n → Within k a → Within k v → Within (k + 1 + k + 5 + k + 2) (n ++ codes "[" ++ a ++ codes "] <= " ++ v ++ codes ";\n")
store-within k n a v p q r = both (both (both (both (both p (word (codes "["))) q) (word (codes "] <= "))) r) (word (codes ";\n"))

write-within : (k m : ℕ) (t s : List ℕ) → Within k t → Within m s → Within (4 + k + 2 + m) (codes "if (" ++ t ++ codes ") " ++ s)
write-within k m t s p q = both (both (both (word (codes "if (")) p) (word (codes ") "))) q

-- ---- nodes

none : Within 0 []
none = record { is = omega arith }

abbrev option_bytes : Option WrittenItem → ℕ
option_bytes o = length (option_map_or item_text o [])

-- a declaration and what drives it that are short enough together
two : (k : ℕ) {a b : ℕ} {xs ys : List ℕ} → Within a xs → Within b ys → a + b ≤ 5 * k + 110 → length xs + length ys ≤ 5 * k + 110
two k p q h = let i = p.is in let j = q.is in omega (arith, h, i, j)

-- the names and the headings of a scheme are short
record AreShort (net : Net) (scheme : Scheme) (k h : ℕ) : Type 0 where
  some' : 20 ≤ k
  most : k ≤ 77
  names : (n : ℕ) → n < length net.nodes → Within k (name_in scheme n)
  headings : (n : ℕ) → length (heading_text (above_in scheme n)) ≤ h

abbrev line_bytes : Option Line → ℕ
line_bytes o = length (option_map_or line_text o [])

under-long : (above : List ℕ) (o : Option WrittenItem) → line_bytes (option_map (under above) o) ≤ length (heading_text above) + option_bytes o
under-long above None = omega arith
under-long above (Some i) = let e = length-append (heading_text above) (item_text i) in omega (arith, e)

module _ (net : Net) (scheme : Scheme) (c : Named net (name_in scheme)) (k h : ℕ) (s : AreShort net scheme k h) where
  abbrev names : ℕ → List ℕ
  names = name_in scheme

  -- a node's name
  named-within : (n : ℕ) (x : Node) → slice_get net.nodes n ≡ Some x → Within k (names n)
  named-within n x e = s.names n (slice_get_within net.nodes n x e)

  bus-within : (b : Bus) → IsBus net b → Within k (names b.node)
  bus-within b h = let i = bus net names c b h in named-within b.node i.node i.there

  bit-within : (b : Bit) → IsBit net b → Within k (names b.node)
  bit-within b h = let i = bit net names c b h in named-within b.node i.node i.there

  stored-within : (m : Store) → IsStore net m → Within k (names m.node)
  stored-within m h = let i = stored net names c m h in named-within m.node i.node i.there

  port-within : (place : ℕ) (q : Port) → slice_get net.ports place ≡ Some q → Within 128 (port_name net.ports place)
  port-within place q e = record { is = rw e (c.netlist.finished.port_names place q e).short }

  declared-within : (n : ℕ) (x : Node) → slice_get net.nodes n ≡ Some x → NodeFits net n x → Within (9 + 8 + k + 2) (codes "    wire " ++ range_text (range_of (node_width x)) ++ names n ++ codes ";\n")
  declared-within n x e h = wire-within k _ _ (range-within (node_width x) (width-fits net n x h).most) (named-within n x e)

  items-within : (n : ℕ) (x : Node) → slice_get net.nodes n ≡ Some x → NodeFits net n x → length (item_text (declares names n x)) + option_bytes (driving names net.ports n x) ≤ 5 * k + 110
  unfolding end_at
  items-within n (Input place w) e f =
      let q = port_end (slice_get net.ports place) (In, n) f.1 in
      two k (declared-within n _ e f) (assigned-within k 128 _ _ (named-within n _ e) (port-within place q.0 q.1)) (omega (arith, s.some'))
  items-within n (Constant v) e f =
      two k (declared-within n _ e f) (assigned-within k 44 _ _ (named-within n _ e) (literal-within v.bits v.width f.width.most f.fits)) (omega (arith, s.some'))
  items-within n (Not x) e f =
      two k (declared-within n _ e f) (assigned-within k (1 + k) _ _ (named-within n _ e) (both (word (codes "~")) (bus-within x f.bus))) (omega (arith, s.some'))
  items-within n (Binary o x y) e f =
      two k (declared-within n _ e f) (assigned-within k (k + 4 + k) _ _ (named-within n _ e) (binary-within k o x.width (named names x.node) (named names y.node) (bus-within x f.0.bus) (bus-within y f.1.bus))) (omega (arith, s.some'))
  items-within n (Choose test x y) e f =
      two k (declared-within n _ e f) (assigned-within k (k + 3 + k + 3 + k) _ _ (named-within n _ e) (choose-within k _ _ _ (bit-within test f.0.bit) (bus-within x f.1.bus) (bus-within y f.2.bus))) (omega (arith, s.some'))
  items-within n (Join x y) e f =
      two k (declared-within n _ e f) (assigned-within k (1 + (k + 2 + k) + 1) _ _ (named-within n _ e) (join-within k _ _ (bus-within x f.0.bus) (bus-within y f.1.bus))) (omega (arith, s.some'))
  items-within n (Cut x high low) e f =
      let m = f.0.bus.width.most in let a = f.1 in let b = f.2 in
      two k (declared-within n _ e f) (assigned-within k (k + 1 + 3 + 1 + 3 + 1) _ _ (named-within n _ e) (cut-within k x.width _ high low (bus-within x f.0.bus) (omega (arith, b, m)) (omega (arith, a, b, m)))) (omega (arith, s.some'))
  items-within n (MemoryRead store x) e f =
      two k (declared-within n _ e f) (assigned-within k (k + 1 + k + 1) _ _ (named-within n _ e) (read-within k _ _ (stored-within store f.0.store) (bus-within x f.1.bus))) (omega (arith, s.some'))
  items-within n (Register w None None) e f = two k (register-within k _ _ (range-within w f.0.most) (named-within n _ e)) none (omega (arith, s.some'))
  items-within n (Register w (Some value) None) e f = two k (register-within k _ _ (range-within w f.0.most) (named-within n _ e)) none (omega (arith, s.some'))
  items-within n (Register w None (Some next)) e f =
      let m = named-within n _ e in
      two k (register-within k _ _ (range-within w f.0.most) m) (clocked-within (k + 4 + k + 2) _ (update-within k k _ _ m (bus-within next f.2.0))) (omega (arith, s.some'))
  items-within n (Register w (Some value) (Some next)) e f =
      let m = named-within n _ e in
      two k (register-within k _ _ (range-within w f.0.most) m)
      (clocked-within (4 + 3 + 2 + (k + 4 + 44 + 2) + 13 + (k + 4 + k + 2)) _ (reset-within (k + 4 + 44 + 2) (k + 4 + k + 2) _ _ (update-within k 44 _ _ m (literal-within value w f.0.most f.1)) (update-within k k _ _ m (bus-within next f.2.0)))) (omega (arith, s.some'))
  items-within n (Memory bits w None) e f =
      two k (memory-within k _ _ _ (range-within w f.1.most) (named-within n _ e) (number-digits (last_word bits) (last-small bits f.0))) none (omega (arith, s.some'))
  items-within n (Memory bits w (Some drive)) e f =
      let m = named-within n _ e in
      two k (memory-within k _ _ _ (range-within w f.1.most) m (number-digits (last_word bits) (last-small bits f.0)))
      (clocked-within (4 + k + 2 + (k + 1 + k + 5 + k + 2)) _ (write-within k (k + 1 + k + 5 + k + 2) _ _ (bit-within drive.write f.2.write) (store-within k _ _ _ m (bus-within drive.address f.2.address) (bus-within drive.value f.2.value)))) (omega (arith, s.some'))

  node-within : (n : ℕ) (x : Node) → slice_get net.nodes n ≡ Some x → NodeFits net n x → line_bytes (declared_line scheme n x) + line_bytes (driven_line scheme net.ports n x) ≤ 5 * k + 110 + 2 * h
  node-within n x e f =
      let i = items-within n x e f in
      let a = length-append (heading_text (above_in scheme n)) (item_text (declares names n x)) in
      let b = under-long (above_in scheme n) (driving names net.ports n x) in
      let t = s.headings n in
      omega (arith, i, a, b, t)

  -- ---- ports

  direction-within : (d : Direction) → Within 17 (direction_text (leads d))
  unfolding direction_text
  direction-within In = record { is = omega arith }
  direction-within Out = record { is = omega arith }

  line-within : (place : ℕ) (q : Port) → slice_get net.ports place ≡ Some q → Within (26 + length q.name) (codes "," ++ port_text (written_port net.nodes q))
  line-within place q e =
      let w = port-width net names c place q e in
      let l = both (word (codes ",")) (both (both (direction-within q.direction) (range-within (bits_of (shape_in net.nodes q.node)) w.most)) (word q.name)) in
      record { is = (let i = l.is in omega (arith, i)) }

  end-within : (place n : ℕ) (d : Direction) → EndFits net place d n → Within k (names n)
  end-within place n In f = named-within n _ f.1
  end-within place n Out f = let i = shown net names c n f.0 f.1 in named-within n i.node i.there

  output-within : (d : Direction) (name : List ℕ) (n : ℕ) → Within k (names n) → line_bytes (option_map (under []) (shows names d name n)) ≤ 93 + length name
  unfolding heading_text
  output-within In name n h = omega arith
  output-within Out name n h =
      let l = both (both (both (both (word (codes "    assign ")) (word name)) (word (codes " = "))) h) (word (codes ";\n")) in
      let i = l.is in let m = s.most in omega (arith, i, m)

  port-short : (place : ℕ) (q : Port) → slice_get net.ports place ≡ Some q → length (codes "," ++ port_text (written_port net.nodes q)) + line_bytes (shown_line scheme place q) ≤ port_bytes q
  port-short place q e =
      let l = (line-within place q e).is in
      let o = output-within q.direction q.name q.node (end-within place q.node q.direction (c.netlist.formed.ends place q e)) in
      omega (arith, l, o)

-- ---- lists

lines-longer : (o : Option Line) (ls : List Line) → length (lines_text (with_option o ls)) ≡ line_bytes o + length (lines_text ls)
lines-longer o ls = ap length (lines-first o ls) ∙ length-append (option_map_or line_text o []) (lines_text ls)

nodes-within : (scheme : Scheme) (ports : List Port) (most n : ℕ) (xs : List Node) → ((j : ℕ) (x : Node) → slice_get xs j ≡ Some x → line_bytes (declared_line scheme (n + j) x) + line_bytes (driven_line scheme ports (n + j) x) ≤ most) → length (lines_text (numbered (declared_line scheme) n xs)) + length (lines_text (numbered (driven_line scheme ports) n xs)) ≤ most * length xs
nodes-within scheme ports most n [] h = omega arith
nodes-within scheme ports most n (x ∷ xs) h =
    let a = lines-longer (declared_line scheme n x) (numbered (declared_line scheme) (n + 1) xs) in
    let b = lines-longer (driven_line scheme ports n x) (numbered (driven_line scheme ports) (n + 1) xs) in
    let z : n + 0 ≡ n = omega arith in
    let one : line_bytes (declared_line scheme n x) + line_bytes (driven_line scheme ports n x) ≤ most = subst (λ (m : ℕ). line_bytes (declared_line scheme m x) + line_bytes (driven_line scheme ports m x) ≤ most) z (h 0 x refl) in
    let more = nodes-within scheme ports most (n + 1) xs (λ j y e. (let q : n + suc j ≡ n + 1 + j = omega arith in subst (λ (m : ℕ). line_bytes (declared_line scheme m y) + line_bytes (driven_line scheme ports m y) ≤ most) q (h (suc j) y e))) in
    let m = mul-suc most (length xs) in
    omega (arith, a, b, one, more, m)

ports-within : (nodes : List Node) (scheme : Scheme) (n : ℕ) (qs : List Port) → ((j : ℕ) (q : Port) → slice_get qs j ≡ Some q → length (codes "," ++ port_text (written_port nodes q)) + line_bytes (shown_line scheme j q) ≤ port_bytes q) → length (more_ports_text (map (written_port nodes) qs)) + length (lines_text (numbered (shown_line scheme) n qs)) ≤ sum_by port_bytes qs
ports-within nodes scheme n [] h = omega arith
ports-within nodes scheme n (q ∷ qs) h =
    let a = length-append (codes "," ++ port_text (written_port nodes q)) (more_ports_text (map (written_port nodes) qs)) in
    let b = lines-longer (shown_line scheme n q) (numbered (shown_line scheme) (n + 1) qs) in
    let s = sum_by-cons port_bytes q qs in
    let one = h 0 q refl in
    let more = ports-within nodes scheme (n + 1) qs (λ j r e. h (suc j) r e) in
    omega (arith, a, b, s, one, more)

-- ---- the module

head-within : (name : List ℕ) (ps : List WrittenPort) (items : List WrittenItem) → Within (31 + length name + length (more_ports_text ps)) (head_text (record { name = name; ports = clock_port ∷ ps; items = items }))
unfolding head_text direction_text
head-within name ps items =
    let l = both (both (both (both (word (codes "module ")) (word name)) (word (codes "("))) (both (word (port_text clock_port)) (word (more_ports_text ps)))) (word (codes "\n);\n")) in
    record { is = (let i = l.is in omega (arith, i)) }

parts-long : (d s o : List ℕ) → length (title_text (codes "declarations") ++ d ++ title_text (codes "what drives them") ++ s ++ title_text (codes "outputs") ++ o) ≤ 70 + length d + length s + length o
unfolding title_text
parts-long d s o =
    let l = both (both (both (both (both (word (title_text (codes "declarations"))) (word d)) (word (title_text (codes "what drives them")))) (word s)) (word (title_text (codes "outputs")))) (word o) in
    let i = l.is in omega (arith, i)

heading-none : length (heading_text []) ≤ 0
unfolding heading_text
heading-none = omega arith

text-within : (net : Net) (scheme : Scheme) (lines : List (List ℕ)) (k h most : ℕ) → Named net (name_in scheme) → AreShort net scheme k h → 5 * k + 110 + 2 * h ≤ most
    → length (header_text lines ++ (head_text (written_as (name_in scheme) net) ++ parts_text scheme net.nodes net.ports ++ end_text)) ≤ most * length net.nodes + sum_by port_bytes net.ports + length (unwrap_or net.name []) + 77600 + 120
text-within net scheme lines k h most c s low =
    let n = nodes-within scheme net.ports most 0 net.nodes (λ j x e. (let t = get-from_zero net.nodes j x e in let i = node-within net scheme c k h s (0 + j) x t (c.netlist.formed.nodes (0 + j) x t) in omega (arith, i, low))) in
    let p = ports-within net.nodes scheme 0 net.ports (λ j q e. port-short net scheme c k h s j q e) in
    let ld = lines_text (numbered (declared_line scheme) 0 net.nodes) in
    let ls = lines_text (numbered (driven_line scheme net.ports) 0 net.nodes) in
    let lo = lines_text (numbered (shown_line scheme) 0 net.ports) in
    let name = unwrap_or net.name [] in
    let ps = map (written_port net.nodes) net.ports in
    let head = head_text (written_as (name_in scheme) net) in
    let parts = parts_text scheme net.nodes net.ports in
    let l = (head-within name ps (items_of (name_in scheme) net.nodes net.ports)).is in
    let t = parts-long ld ls lo in
    let b = header-within lines in
    let x = length-append (header_text lines) (head ++ parts ++ end_text) in
    let y = length-append (head ++ parts) end_text in
    let z = length-append head parts in
    omega (arith, n, p, l, t, b, x, y, z)

pub text-short : (labels : Labels) (net : Net) → IsNetlist net → length net.nodes < 2 ^ 32 → length net.ports < 2 ^ 32 → length (module_text labels net) ≤ most_bytes net
unfolding module_text text_by most_bytes
text-short labels net h nodes ports = by (are_shown net) refl
  where
    lines : List (List ℕ)
    lines = head_lines labels

    wide : length net.ports < 2 ^ 64
    wide = omega (arith, ports)

    many : length net.nodes < 2 ^ 64
    many = omega (arith, nodes)

    low : family_of net.ports < 2 ^ 32
    low = family-small net.ports (2 ^ 32) ports

    most : ℕ
    most = node_bytes (length net.nodes)

    enough : (t : Bool) → 220 ≤ (if t then 1000 else 220)
    enough true = omega arith
    enough false = omega arith

    Fits : Scheme → Type 0
    Fits scheme = length (header_text lines ++ (head_text (written_as (name_in scheme) net) ++ parts_text scheme net.nodes net.ports ++ end_text)) ≤ most * length net.nodes + sum_by port_bytes net.ports + length (unwrap_or net.name []) + 77600 + 120

    by : (t : Bool) → are_shown net ≡ t → Fits (if t then ByLabels labels else ByFamily (family_of net.ports))
    by true e =
        let i = shown-parts net e in
        let naming = labels-naming labels net i.few i.free in
        let full : 1000 ≤ most = (let f = le-leb (length net.nodes) 65536 i.few in rw f (let q : 1000 ≤ 1000 = omega arith in q)) in
        text-within net (ByLabels labels) lines 77 246 most (record { netlist = h; naming = naming })
        (record { some' = omega arith; most = omega arith; names = λ n l. record { is = naming.short n l }; headings = λ n. heading-long (above_at labels n) }) (omega (arith, full))
    by false e =
        text-within net (ByFamily (family_of net.ports)) lines 22 0 most (record { netlist = h; naming = family-naming net many wide })
        (record { some' = omega arith; most = omega arith; names = λ n l. name-within (family_of net.ports) n low (omega (arith, l, nodes)); headings = λ n. heading-none }) (enough (nat_le (length net.nodes) 65536))
