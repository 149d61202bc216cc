-- The output of a circuit: its lines, its ports and what they cost.
use Rattle.std.proofs.Common.{◌≡◌, ℕ, zero, suc, ◌+◌, Bool, false, ◌||◌, List, [], ◌∷◌, ◌++◌, length, take, refl, sym, ap, subst, ◌∙◌, arith}
use Rattle.std.specs.Prelude.{nat_eq, slice_get}
use Rattle.gl_bits.proofs.AllLists.{zip_append}
use Rattle.gl_net.specs.Net.{Net, Run, IsPort, Keeps}
use Rattle.gl_net.specs.PortValues.{PortShape}
use Rattle.gl_net.specs.declared.node.Bit.{Bit}
use Rattle.gl_net.specs.declared.node.Bus.{Bus}
use Rattle.gl_net.specs.declared.node.Direction.TheVariants.{Out}
use Rattle.gl_net.proofs.Determined.{keeps_then}
use Rattle.gl_schema.specs.Ports.{out_valid, out_column, out_eos, fault_group, fault_queue}
use Rattle.gl_wire.specs.Stages.{IsLaterLine}
use Rattle.gl_wire.specs.Wire.{line_at, widths}
use Rattle.gl_wire.proofs.ColumnLemmas.{bus_kept, widths-push}
use Rattle.gl_wire.proofs.StageLemmas.{line_first}
use Rattle.gl_wire.proofs.GateLemmas.{never_line}
use Rattle.gl_wiring.specs.Emitted.{CostsNothing, Extends, Puts}
use Rattle.gl_wiring.specs.EmittedPorts.{output}
use Rattle.gl_wiring.specs.Naming.{Naming}
use Rattle.gl_wiring.specs.Output.{AreShown, IsFault, column_outputs, group_cost, queue_cost, result_outputs}
use Rattle.gl_wiring.specs.Root.{IsSticky, later_line}
use Rattle.gl_wiring.proofs.Shapes.{puts_none, puts_then, same_taken}

-- ---- blocks and ports

pub keeps_extends : (old new : Net) → Keeps old new → Extends old new
keeps_extends old new g = record {
  runs = g.runs;
  buses = λ b h. bus_kept old new b g h;
  undriven = g.undriven;
  ports = λ d name n h. record { place = h.place; there = ap (λ ports. slice_get ports h.place) g.ports ∙ h.there };
  module_name = g.name;
}

pub keeps_puts : (old new : Net) → Keeps old new → Puts old new []
keeps_puts old new g = puts_none old new g.shapes g.ports

pub nothing_then : (a b c : Net) → CostsNothing a b → CostsNothing b c → CostsNothing a c
nothing_then a b c x y = record { nodes = y.nodes ∙ x.nodes; registers = y.registers ∙ x.registers; memories = y.memories ∙ x.memories }

pub nothing_more : (net : Net) → CostsNothing net net
nothing_more net = record { nodes = refl; registers = refl; memories = refl }

-- ---- lines that never fall

-- a register that is 0 after reset and then takes itself or a line
pub sticky_is : (run : Run) (line next sticky : Bit) → run.at 1 sticky.node ≡ 0
    → ((t : ℕ) → run.at (suc (suc t)) sticky.node ≡ run.at (suc t) next.node)
    → ((t : ℕ) → line_at run next t ≡ (line_at run sticky t || line_at run line t))
    → IsSticky (line_at run line) (line_at run sticky)
unfolding line_at
sticky_is run line next sticky start later either = record { first = refl; next = by }
  where
    by : (t : ℕ) → line_at run sticky (suc t) ≡ (line_at run sticky t || line_at run line t)
    by zero = rw start refl
    by (suc t) = ap (λ v. nat_eq v 1) (later t) ∙ either (suc t)

pub low_is : (run : Run) (low : Bit) → ((t : ℕ) → run.at t low.node ≡ 0) → IsSticky (λ t. false) (line_at run low)
low_is run low h = record { first = never_line run low h 0; next = λ t. rw (never_line run low h (suc t), never_line run low h t) refl }

-- the same behind a line that is the same
sticky_same : (p q sticky : ℕ → Bool) → ((t : ℕ) → p t ≡ q t) → IsSticky p sticky → IsSticky q sticky
sticky_same p q sticky e s = record { first = s.first; next = λ t. s.next t ∙ ap (λ (b : Bool). sticky t || b) (e t) }

later_is : (run : Run) (line later : Bit) → ((t : ℕ) → line_at run later (suc t) ≡ line_at run line t)
    → (t : ℕ) → line_at run later t ≡ later_line (line_at run line) t
later_is run line later h zero = line_first run later
later_is run line later h (suc t) = h t

pub queue_is : (old mid new : Net) (line later fault : Bit) → IsLaterLine old mid line later
    → IsFault mid new group_cost (λ run. line_at run later) fault
    → IsFault old new queue_cost (λ run. later_line (line_at run line)) fault
queue_is old mid new line later fault l f = record {
  keeps = keeps_then old mid new l.keeps f.keeps;
  cost = record {
    nodes = omega (arith, l.cost.nodes, f.cost.nodes);
    registers = omega (arith, l.cost.registers, f.cost.registers);
    memories = omega (arith, l.cost.memories, f.cost.memories);
  };
  bit = f.bit;
  sticky = λ run r. sticky_same (line_at run later) (later_line (line_at run line)) (line_at run fault)
      (later_is run line later (l.line run (f.keeps.runs run r))) (f.sticky run r);
}

no_later : (t : ℕ) → false ≡ later_line (λ c. false) t
no_later zero = refl
no_later (suc t) = refl

pub low_later : (run : Run) (low : Bit) → ((t : ℕ) → run.at t low.node ≡ 0) → IsSticky (later_line (λ t. false)) (line_at run low)
low_later run low h = sticky_same (λ t. false) (later_line (λ t. false)) (line_at run low) no_later (low_is run low h)

-- ---- ports

named_push : (naming : Naming) (ws : List ℕ) (ns : List (List ℕ)) (w : ℕ) (n : List ℕ) → length ns ≡ length ws
    → column_outputs naming (ws ++ w ∷ []) (ns ++ n ∷ []) ≡ column_outputs naming ws ns ++ output (naming (out_column n)) w ∷ []
named_push naming [] [] w n e = refl
named_push naming [] (m ∷ ns) w n e = absurd (omega arith)
named_push naming (v ∷ ws) [] w n e = absurd (omega arith)
named_push naming (v ∷ ws) (m ∷ ns) w n e =
    ap (λ (x : List PortShape). output (naming (out_column m)) v ∷ x) (named_push naming ws ns w n (omega arith))

widths_long : (bs : List Bus) → length (widths bs) ≡ length bs
widths_long [] = refl
widths_long (b ∷ bs) = ap suc (widths_long bs)

-- one column more
pub named_next : (naming : Naming) (a b c : Net) (bs : List Bus) (ns : List (List ℕ)) (i : ℕ) (bus : Bus) (n : List ℕ) → length ns ≡ length bs
    → take (i + 1) bs ≡ take i bs ++ bus ∷ [] → take (i + 1) ns ≡ take i ns ++ n ∷ []
    → Puts a b (column_outputs naming (widths (take i bs)) (take i ns)) → Puts b c (output (naming (out_column n)) bus.width ∷ [])
    → Puts a c (column_outputs naming (widths (take (i + 1) bs)) (take (i + 1) ns))
named_next naming a b c bs ns i bus n same more_buses more_names x y =
    let last = output (naming (out_column n)) bus.width ∷ [] in
    let long : length (take i ns) ≡ length (widths (take i bs)) = same_taken i ns bs same ∙ sym (widths_long (take i bs)) in
    let is : column_outputs naming (widths (take (i + 1) bs)) (take (i + 1) ns) ≡ column_outputs naming (widths (take i bs)) (take i ns) ++ last =
    ap (λ (t : List Bus). column_outputs naming (widths t) (take (i + 1) ns)) more_buses
    ∙ ap (λ (t : List ℕ). column_outputs naming t (take (i + 1) ns)) (widths-push (take i bs) bus)
    ∙ ap (column_outputs naming (widths (take i bs) ++ bus.width ∷ [])) more_names
    ∙ named_push naming (widths (take i bs)) (take i ns) bus.width n long in
    subst (λ (shapes : List PortShape). Puts a c shapes) (sym is) (puts_then a b c (column_outputs naming (widths (take i bs)) (take i ns)) last x y)

pub shown_stay : (naming : Naming) (old new : Net) (ns : List (List ℕ)) (bs : List Bus) → Extends old new → AreShown naming old ns bs → AreShown naming new ns bs
shown_stay naming old new [] [] x h = tt
shown_stay naming old new [] (b ∷ bs) x h = absurd h
shown_stay naming old new (n ∷ ns) [] x h = absurd h
shown_stay naming old new (n ∷ ns) (b ∷ bs) x h = (x.ports Out (naming (out_column n)) b.node h.0, shown_stay naming old new ns bs x h.1)

pub shown_push : (naming : Naming) (old new : Net) (ns : List (List ℕ)) (bs : List Bus) (n : List ℕ) (b : Bus) → Extends old new
    → AreShown naming old ns bs → IsPort new Out (naming (out_column n)) b.node → AreShown naming new (ns ++ n ∷ []) (bs ++ b ∷ [])
shown_push naming old new ns bs n b x h p =
    zip_append (λ (name : List ℕ) (c : Bus). IsPort new Out (naming (out_column name)) c.node) ns (n ∷ []) bs (b ∷ []) (shown_stay naming old new ns bs x h) (p, tt)

-- a port of the same name and bits, or of the same node
pub puts_named : (old new : Net) (n m : List ℕ) (w v : ℕ) → n ≡ m → w ≡ v → Puts old new (output n w ∷ []) → Puts old new (output m v ∷ [])
puts_named old new n m w v named wide h = rw (sym named, sym wide) h

pub port_named : (net : Net) (n m : List ℕ) (i j : ℕ) → n ≡ m → i ≡ j → IsPort net Out n i → IsPort net Out m j
port_named net n m i j named same h = rw (sym named, sym same) h

-- the ports of a result, one after the other
pub output_puts : (naming : Naming) (n0 n1 n2 n3 n4 n5 : Net) (ws : List ℕ) (ns : List (List ℕ)) → Puts n0 n1 (output (naming out_valid) 1 ∷ [])
    → Puts n1 n2 (column_outputs naming ws ns) → Puts n2 n3 (output (naming out_eos) 1 ∷ []) → Puts n3 n4 (output (naming fault_group) 1 ∷ [])
    → Puts n4 n5 (output (naming fault_queue) 1 ∷ []) → Puts n0 n5 (result_outputs naming ws ns)
output_puts naming n0 n1 n2 n3 n4 n5 ws ns x y z u v =
    let first = output (naming out_valid) 1 ∷ [] in
    let end = output (naming out_eos) 1 in
    let group = output (naming fault_group) 1 in
    let queue = output (naming fault_queue) 1 in
    let eos_and_group = puts_then n2 n3 n4 (end ∷ []) (group ∷ []) z u in
    let tail : List PortShape = end ∷ group ∷ queue ∷ [] in
    let put : Puts n2 n5 tail = puts_then n2 n4 n5 (end ∷ group ∷ []) (queue ∷ []) eos_and_group v in
    let columns = column_outputs naming ws ns in
    puts_then n0 n1 n5 first (columns ++ tail) x (puts_then n1 n2 n5 columns tail y put)
