-- The slots' lines, from those that they are made of.
use Rattle.std.proofs.Common.{◌≡◌, ℕ, zero, suc, ◌+◌, ◌<◌, List, [], ◌∷◌, ◌++◌, length, Some, refl, sym, ap, ◌∙◌, subst, arith, inl, inr, length-append}
use Rattle.std.specs.Prelude.{slice_get, not, ◌&&◌, if◌then◌else◌, nat_eq}
use Rattle.std.proofs.lemmas.Bool.{cases_lt}
use Rattle.gl_bits.specs.Words.{choose_of}
use Rattle.gl_net.specs.declared.node.Bus.{Bus}
use Rattle.gl_net.specs.declared.node.Bit.{Bit}
use Rattle.gl_net.specs.Net.{Net, Run, IsRun, IsBit, IsBus, Grows, Keeps}
use Rattle.gl_net.proofs.Determined.{keeps_then}
use Rattle.gl_net.proofs.Growth.{same_keeps}
use Rattle.gl_net.proofs.Lists.{get_push_cases}
use Rattle.gl_wire.specs.Costs.{Costs, nodes_alone}
use Rattle.gl_wire.specs.Gates.{IsGate, IsSame, same_at}
use Rattle.gl_wire.specs.Wire.{line_at}
use Rattle.gl_wire.proofs.ColumnLemmas.{bit_kept, bus_kept}
use Rattle.gl_wire.proofs.GateLemmas.{choose_line}
use Rattle.gl_wire_registers.specs.Held.{held_at}
use Rattle.gl_wire_registers.specs.declared.lines.LineOp.TheVariants.{Both, ButNot}
use Rattle.gl_wire_registers.specs.Lines.{AddsLine, AddsLines, AreBits, any_line, any_to, gates_of, held_of, line_of, pairs, with_line}
use Rattle.gl_wire_registers.proofs.LineLemmas.{bits_kept, line_of-first, line_of-get, line_of-new, line_of-old}
use Rattle.gl_slots.specs.Choices.{chosen_to}
use Rattle.gl_slots.specs.SlotLines.{AddsAsks, AddsFound, AddsNexts, AreKeysOf, asked_of, has_key, same_to}

pub held_of-get : (run : Run) (bs : List Bus) (k : ℕ) (b : Bus) (t : ℕ) → slice_get bs k ≡ Some b → held_of run bs k t ≡ held_at 0 run b t
unfolding held_of
held_of-get run [] k b t h = absurd (cc)
held_of-get run (x ∷ bs) zero b t h = let e : x ≡ b = cc in ap (λ (y : Bus). held_at 0 run y t) e
held_of-get run (x ∷ bs) (suc k) b t h = held_of-get run bs k b t h

pub held_of-old : (run : Run) (bs : List Bus) (b : Bus) (k t : ℕ) → k < length bs → held_of run (bs ++ b ∷ []) k t ≡ held_of run bs k t
unfolding held_of
held_of-old run [] b k t l = absurd (omega (arith, l))
held_of-old run (x ∷ bs) b zero t l = refl
held_of-old run (x ∷ bs) b (suc k) t l = held_of-old run bs b k t (omega (arith, l))

pub held_of-new : (run : Run) (bs : List Bus) (b : Bus) (t : ℕ) → held_of run (bs ++ b ∷ []) (length bs) t ≡ held_at 0 run b t
unfolding held_of
held_of-new run [] b t = refl
held_of-new run (x ∷ bs) b t = held_of-new run bs b t

pub keys_of_kept : (old new : Net) (value : Bus) (keys : List Bus) → Keeps old new → AreKeysOf old value keys → AreKeysOf new value keys
keys_of_kept old new value keys keeps h = record { each = λ k b e. bus_kept old new b keeps (h.each k b e); widths = h.widths }

-- bits stay while registers are opened
pub bits_opened : (old new : Net) (bs : List Bit) → Grows old new → AreBits old bs → AreBits new bs
bits_opened old new bs g h = record { each = λ k b e. record { there = g.shapes b.node _ (h.each k b e).there } }

-- ---- which slots have the key

pub same_here : (run : Run) (value b : Bus) (keys : List Bus) (k t : ℕ) → slice_get keys k ≡ Some b → same_at run value b t ≡ same_to value keys run k t
unfolding same_to held_at
same_here run value b keys k zero h = refl
same_here run value b keys k (suc t) h = ap (nat_eq (run.at (suc t) value.node)) (sym (held_of-get run keys k b (suc t) h))

-- the gate as a line
pub same_line : (old new : Net) (value b : Bus) (bit : Bit) → IsSame old new value b bit → AddsLine old new 1 bit (λ run t. same_at run value b t)
same_line old new value b bit h = record { keeps = h.keeps; bit = h.bit; cost = h.cost; line = h.line }

found_at : (run : Run) (used : List Bit) (keys : List Bus) (free ask : Bit) (here : Bus) (homes ks ss ms fs : List Bit) (k : ℕ)
    → ((t : ℕ) → line_of run ks k t ≡ (line_of run used k t && not (line_at run free t))) → ((t : ℕ) → line_of run ss k t ≡ same_to here keys run k t)
    → ((t : ℕ) → line_of run ms k t ≡ chosen_to ask ss homes run k t) → ((t : ℕ) → line_of run fs k t ≡ (line_of run ks k t && line_of run ms k t))
    → (t : ℕ) → line_of run fs k t ≡ ((line_of run used k t && not (line_at run free t)) && has_key run keys ask here homes k t)
unfolding same_to chosen_to
found_at run used keys free ask here homes ks ss ms fs k is_kept is_same is_chosen is_found zero =
    line_of-first run fs k ∙ sym (ap (λ b. (b && not (line_at run free 0)) && has_key run keys ask here homes k 0) (line_of-first run used k))
found_at run used keys free ask here homes ks ss ms fs k is_kept is_same is_chosen is_found (suc t) =
    is_found (suc t) ∙ ap (λ b. b && line_of run ms k (suc t)) (is_kept (suc t))
    ∙ ap (λ b. (line_of run used k (suc t) && not (line_at run free (suc t))) && b)
    (is_chosen (suc t) ∙ ap (λ b. if line_at run ask (suc t) then b else line_of run homes k (suc t)) (is_same (suc t)))

pub found_are : (n0 n1 n2 n3 n4 n5 : Net) (used : List Bit) (keys : List Bus) (free ask : Bit) (here : Bus) (homes ks ss ms fs : List Bit) (one : Bit) → length keys ≡ length used
    → AddsLines n0 n1 (length used) 1 ks (with_line ButNot used free) → AddsLines n1 n2 (length keys) 1 ss (same_to here keys) → AddsLines n2 n3 (length ss) 1 ms (chosen_to ask ss homes)
    → AddsLines n3 n4 (length ks) 1 fs (pairs Both ks ms) → AddsLine n4 n5 (gates_of (length fs)) one (any_line (length fs) fs)
    → AddsFound n0 n5 used keys free ask here homes (record { kept = ks; found = fs; one = one })
unfolding with_line pairs any_line
found_are n0 n1 n2 n3 n4 n5 used keys free ask here homes ks ss ms fs one many a b c d e =
    let k45 = e.keeps in
    let k35 = keeps_then n3 n4 n5 d.keeps k45 in
    let k25 = keeps_then n2 n3 n5 c.keeps k35 in
    let k15 = keeps_then n1 n2 n5 b.keeps k25 in
    let fs_count : length fs ≡ length used = d.count ∙ a.count in
    record {
      keeps = keeps_then n0 n1 n5 a.keeps k15;
      kept_count = a.count;
      found_count = fs_count;
      kept_bits = bits_kept n1 n5 ks k15 a.bits;
      found_bits = bits_kept n4 n5 fs k45 d.bits;
      one_bit = e.bit;
      cost = record {
        nodes = omega (arith, a.cost.nodes, b.cost.nodes, c.cost.nodes, d.cost.nodes, e.cost.nodes, a.count, b.count, many, ap gates_of fs_count);
        registers = omega (arith, a.cost.registers, b.cost.registers, c.cost.registers, d.cost.registers, e.cost.registers);
        memories = omega (arith, a.cost.memories, b.cost.memories, c.cost.memories, d.cost.memories, e.cost.memories);
      };
      law = λ run r. record {
        kept = λ k t l. a.line run (k15.runs run r) k t l;
        found = λ k t l. found_at run used keys free ask here homes ks ss ms fs k (λ u. a.line run (k15.runs run r) k u l) (λ u. b.line run (k25.runs run r) k u (omega (arith, l, many)))
            (λ u. c.line run (k35.runs run r) k u (omega (arith, l, many, b.count))) (λ u. d.line run (k45.runs run r) k u (omega (arith, l, a.count))) t;
        one = λ t. e.line run r t ∙ ap (λ n. any_to n (λ k. line_of run fs k t)) fs_count;
      };
    }

-- ---- which ones a key asks

pub asks_none : (net : Net) (new : Bit) (kept : List Bit) → IsBit net new → AddsAsks net net new kept 0 (record { asks = []; passes = new })
unfolding asked_of
asks_none net new kept is = record {
  keeps = same_keeps net;
  count = refl;
  bits = record { each = λ k b h. absurd (cc) };
  passes_bit = is;
  cost = record { nodes = omega arith; registers = omega arith; memories = omega arith };
  asks = λ run r k t l. absurd (omega (arith, l));
  passes = λ run r t. refl;
}

pub asks_more : (old mid new : Net) (fresh : Bit) (kept asks : List Bit) (n : ℕ) (passes x b : Bit) → AddsAsks old mid fresh kept n (record { asks = asks; passes = passes }) → slice_get kept n ≡ Some x
    → IsGate mid new (λ p q. p && q) fresh x b → AddsAsks old new fresh kept (n + 1) (record { asks = asks ++ passes ∷ []; passes = b })
unfolding asked_of
asks_more old mid new fresh kept asks n passes x b h at g = record {
  keeps = keeps_then old mid new h.keeps g.keeps;
  count = length-append asks (passes ∷ []) ∙ ap (λ i. i + 1) h.count;
  bits = record {
    each = λ k y e. elim (get_push_cases asks passes k y e) [
      | inl q ↦ bit_kept mid new y g.keeps (h.bits.each k y q)
      | inr q ↦ subst (IsBit new) q.1 (bit_kept mid new passes g.keeps h.passes_bit)
    ];
  };
  passes_bit = g.bit;
  cost = record { nodes = omega (arith, g.cost.nodes, h.cost.nodes); registers = omega (arith, g.cost.registers, h.cost.registers); memories = omega (arith, g.cost.memories, h.cost.memories) };
  asks = λ run r k t l. elim (cases_lt k n) [
    | inl m ↦ line_of-old run asks passes k t (omega (arith, m, h.count)) ∙ h.asks run (g.keeps.runs run r) k t m
    | inr m ↦ (let e : k ≡ n = omega (arith, l, m) in
        ap (λ i. line_of run (asks ++ passes ∷ []) i t) (e ∙ sym h.count) ∙ line_of-new run asks passes t ∙ h.passes run (g.keeps.runs run r) t ∙ sym (ap (λ i. asked_of fresh kept run i t) e))
  ];
  passes = λ run r t.
      let s : n + 1 ≡ suc n = omega arith in
      g.line run r t ∙ ap (λ q. line_at run fresh t && q) (sym (line_of-get run kept n x t at)) ∙ ap (λ i. asked_of fresh kept run i t) (sym s);
}

-- ---- their next keys

pub nexts_none : (net : Net) (takes : List Bit) (value : Bus) (keys : List Bus) → AddsNexts net net takes value keys 0 []
nexts_none net takes value keys = record {
  keeps = same_keeps net;
  count = refl;
  are = record { each = λ k b h. absurd (cc); widths = λ k b h. absurd (cc) };
  cost = record { nodes = omega arith; registers = omega arith; memories = omega arith };
  next = λ run r k t l. absurd (omega (arith, l));
}

next_here : (run : Run) (takes : List Bit) (value key next : Bus) (keys : List Bus) (x : Bit) (k t : ℕ) → slice_get takes k ≡ Some x → slice_get keys k ≡ Some key
    → run.at (suc t) next.node ≡ choose_of (run.at (suc t) x.node) (run.at (suc t) value.node) (run.at (suc t) key.node)
    → held_at 0 run next (suc t) ≡ (if line_of run takes k (suc t) then held_at 0 run value (suc t) else held_of run keys k (suc t))
unfolding held_at
next_here run takes value key next keys x k t has_x has_key is =
    is ∙ choose_line run x (run.at (suc t) value.node) (run.at (suc t) key.node) t
    ∙ ap (λ b. if b then run.at (suc t) value.node else run.at (suc t) key.node) (sym (line_of-get run takes k x (suc t) has_x))
    ∙ ap (λ n. if line_of run takes k (suc t) then run.at (suc t) value.node else n) (sym (held_of-get run keys k key (suc t) has_key))

pub nexts_more : (old mid new : Net) (takes : List Bit) (value key next : Bus) (keys bs : List Bus) (n : ℕ) (x : Bit) → AddsNexts old mid takes value keys n bs → slice_get takes n ≡ Some x → slice_get keys n ≡ Some key
    → Keeps mid new → IsBus new next → next.width ≡ value.width → Costs mid new (nodes_alone 1)
    → ((run : Run) → IsRun new run → (t : ℕ) → run.at t next.node ≡ choose_of (run.at t x.node) (run.at t value.node) (run.at t key.node))
    → AddsNexts old new takes value keys (n + 1) (bs ++ next ∷ [])
nexts_more old mid new takes value key next keys bs n x h has_x has_key keeps bus width cost is = record {
  keeps = keeps_then old mid new h.keeps keeps;
  count = length-append bs (next ∷ []) ∙ ap (λ i. i + 1) h.count;
  are = record {
    each = λ k b e. elim (get_push_cases bs next k b e) [ inl q ↦ bus_kept mid new b keeps (h.are.each k b q) | inr q ↦ subst (IsBus new) q.1 bus ];
    widths = λ k b e. elim (get_push_cases bs next k b e) [ inl q ↦ h.are.widths k b q | inr q ↦ ap (λ (y : Bus). y.width) (sym q.1) ∙ width ];
  };
  cost = record { nodes = omega (arith, cost.nodes, h.cost.nodes); registers = omega (arith, cost.registers, h.cost.registers); memories = omega (arith, cost.memories, h.cost.memories) };
  next = λ run r k t l. elim (cases_lt k n) [
    | inl m ↦ held_of-old run bs next k (suc t) (omega (arith, m, h.count)) ∙ h.next run (keeps.runs run r) k t m
    | inr m ↦ (let e : k ≡ n = omega (arith, l, m) in
        ap (λ i. held_of run (bs ++ next ∷ []) i (suc t)) (e ∙ sym h.count) ∙ held_of-new run bs next (suc t) ∙ next_here run takes value key next keys x n t has_x has_key (is run r (suc t))
        ∙ sym (ap (λ i. if line_of run takes i (suc t) then held_at 0 run value (suc t) else held_of run keys i (suc t)) e))
  ];
}
