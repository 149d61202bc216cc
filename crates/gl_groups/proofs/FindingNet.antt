-- Slots that find a key one cycle after it came, from the lines that they are made of.
use Rattle.std.proofs.Common.{◌≡◌, ℕ, suc, ◌+◌, List, ◌∷◌, [], ◌++◌, length, Some, Bool, true, false, refl, sym, ap, ◌∙◌, subst, arith, inl, inr, length-append}
use Rattle.std.specs.Prelude.{slice_get, not, ◌&&◌, ◌||◌}
use Rattle.std.proofs.lemmas.Bool.{cases_lt}
use Rattle.gl_net.specs.declared.node.Bus.{Bus}
use Rattle.gl_net.specs.declared.node.Bit.{Bit}
use Rattle.gl_net.specs.Net.{Net, IsBit, Grows}
use Rattle.gl_net.proofs.Determined.{keeps_then}
use Rattle.gl_net.proofs.Lists.{get_push_cases}
use Rattle.gl_wire.specs.Gates.{IsGate}
use Rattle.gl_wire.specs.Stages.{IsLaterLine}
use Rattle.gl_wire.specs.Wire.{line_at}
use Rattle.gl_wire.proofs.ColumnLemmas.{bit_kept}
use Rattle.gl_wire_registers.specs.declared.lines.LineOp.TheVariants.{Both, ButNot, Either}
use Rattle.gl_wire_registers.specs.Lines.{AddsLines, line_of, pairs, with_line}
use Rattle.gl_wire_registers.proofs.LineLemmas.{bits_kept, line_of-get, line_of-new, line_of-old}
use Rattle.gl_wire_registers.proofs.RegisterLemmas.{grown_bus}
use Rattle.gl_slots.specs.declared.slots.Asks.{Asks}
use Rattle.gl_groups.specs.Finding.{AddsAsked, AddsHeld, AddsLater, AddsMet}
use Rattle.gl_slots.specs.Picks.{AreAlike}
use Rattle.gl_slots.specs.SlotLines.{AddsAsks, same_to}

-- one line more
pub later_more : (old mid new : Net) (n : ℕ) (lines bs : List Bit) (x b : Bit) → AddsLater old mid lines n bs → slice_get lines n ≡ Some x → IsLaterLine mid new x b
    → AddsLater old new lines (n + 1) (bs ++ b ∷ [])
later_more old mid new n lines bs x b h at one = record {
  keeps = keeps_then old mid new h.keeps one.keeps;
  count = length-append bs (b ∷ []) ∙ ap (λ i. i + 1) h.count;
  bits = record {
    each = λ k y e. elim (get_push_cases bs b k y e) [
      | inl q ↦ bit_kept mid new y one.keeps (h.bits.each k y q)
      | inr q ↦ subst (IsBit new) q.1 one.bit
    ];
  };
  cost = record { nodes = omega (arith, one.cost.nodes, h.cost.nodes); registers = omega (arith, one.cost.registers, h.cost.registers); memories = omega (arith, one.cost.memories, h.cost.memories) };
  line = λ run r k t l. elim (cases_lt k n) [
    | inl m ↦ line_of-old run bs b k (suc t) (omega (arith, m, h.count)) ∙ h.line run (one.keeps.runs run r) k t m
    | inr m ↦ (let e : k ≡ n = omega (arith, l, m) in
        ap (λ i. line_of run (bs ++ b ∷ []) i (suc t)) (e ∙ sym h.count) ∙ line_of-new run bs b (suc t) ∙ one.line run r t
        ∙ sym (line_of-get run lines n x t at) ∙ sym (ap (λ i. line_of run lines i t) e))
  ];
}

-- buses of one width stay where registers are opened
pub alike_opened : (old new : Net) (width : ℕ) (bs : List Bus) → Grows old new → AreAlike old width bs → AreAlike new width bs
alike_opened old new width bs g h = record { each = λ k b e. grown_bus old new b g (h.each k b e); widths = h.widths }

-- a flag of the row before: one that takes the key has it
pub either_new : (one room : Bool) → (one || room) ≡ (one || (room && not one))
either_new true room = refl
either_new false true = refl
either_new false false = refl

-- which slots a key asks
pub asked_are : (n0 n1 n2 n3 : Net) (ask : Bit) (kept : List Bit) (q : Asks) (nexts : List Bit) (room : Bit) → AddsAsks n0 n1 ask kept (length kept) q → AddsLines n1 n2 (length q.asks) 1 nexts (pairs ButNot q.asks kept)
    → IsGate n2 n3 (λ x y. x && not y) ask q.passes room → AddsAsked n0 n3 ask kept (record { nexts = nexts; room = room; full = q.passes })
unfolding pairs
asked_are n0 n1 n2 n3 ask kept q nexts room a b c =
    let k13 = keeps_then n1 n2 n3 b.keeps c.keeps in
    record {
      keeps = keeps_then n0 n1 n3 a.keeps k13;
      count = b.count ∙ a.count;
      nexts_bits = bits_kept n2 n3 nexts c.keeps b.bits;
      room_bit = c.bit;
      full_bit = bit_kept n1 n3 q.passes k13 a.passes_bit;
      cost = record {
        nodes = omega (arith, a.cost.nodes, b.cost.nodes, c.cost.nodes, a.count);
        registers = omega (arith, a.cost.registers, b.cost.registers, c.cost.registers);
        memories = omega (arith, a.cost.memories, b.cost.memories, c.cost.memories);
      };
      nexts = λ run r k t l.
          b.line run (c.keeps.runs run r) k t (omega (arith, l, a.count)) ∙ ap (λ x. x && not (line_of run kept k t)) (a.asks run (k13.runs run r) k t l);
      room = λ run r t. c.line run r t ∙ ap (λ x. line_at run ask t && not x) (a.passes run (k13.runs run r) t);
      full = λ run r t. a.passes run (k13.runs run r) t;
    }

-- which ones stay used
pub held_are : (n0 n1 n2 : Net) (kept nexts : List Bit) (one : Bit) (ts hs : List Bit) → length nexts ≡ length kept → AddsLines n0 n1 (length nexts) 1 ts (with_line ButNot nexts one)
    → AddsLines n1 n2 (length kept) 1 hs (pairs Either kept ts) → AddsHeld n0 n2 kept nexts one hs
unfolding pairs with_line
held_are n0 n1 n2 kept nexts one ts hs many a b = record {
  keeps = keeps_then n0 n1 n2 a.keeps b.keeps;
  count = b.count;
  bits = b.bits;
  cost = record {
    nodes = omega (arith, a.cost.nodes, b.cost.nodes, many);
    registers = omega (arith, a.cost.registers, b.cost.registers);
    memories = omega (arith, a.cost.memories, b.cost.memories);
  };
  line = λ run r k t l. b.line run r k t l ∙ ap (λ x. line_of run kept k t || x) (a.line run (b.keeps.runs run r) k t (omega (arith, l, many)));
}

-- which ones had the key when it came
pub met_are : (n0 n1 n2 n3 : Net) (kept : List Bit) (keys : List Bus) (here : Bus) (ss bs ms : List Bit) → length keys ≡ length kept → AddsLines n0 n1 (length keys) 1 ss (same_to here keys)
    → AddsLines n1 n2 (length kept) 1 bs (pairs Both kept ss) → AddsLater n2 n3 bs (length bs) ms → AddsMet n0 n3 kept keys here ms
unfolding pairs
met_are n0 n1 n2 n3 kept keys here ss bs ms many a b c =
    let k13 = keeps_then n1 n2 n3 b.keeps c.keeps in
    record {
      keeps = keeps_then n0 n1 n3 a.keeps k13;
      count = c.count ∙ b.count;
      bits = c.bits;
      cost = record {
        nodes = omega (arith, a.cost.nodes, b.cost.nodes, c.cost.nodes, many, b.count);
        registers = omega (arith, a.cost.registers, b.cost.registers, c.cost.registers, b.count);
        memories = omega (arith, a.cost.memories, b.cost.memories, c.cost.memories);
      };
      line = λ run r k t l.
          c.line run r k t (omega (arith, l, b.count)) ∙ b.line run (c.keeps.runs run r) k t l ∙ ap (λ x. line_of run kept k t && x) (a.line run (k13.runs run r) k t (omega (arith, l, many)));
    }
