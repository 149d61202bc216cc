-- One column more in the row, and one wire more.
use Rattle.std.proofs.Common.{◌≡◌, ℕ, zero, suc, ◌+◌, ◌<◌, List, [], ◌∷◌, ◌++◌, length, Some, None, Bool, true, false, refl, sym, ap, ◌∙◌, subst, arith, inl, inr, ◌⊎◌, length-append}
use Rattle.std.specs.Prelude.{slice_get, if◌then◌else◌}
use Rattle.std.proofs.lemmas.Bool.{cases_lt}
use Rattle.std.specs.List.{sum}
use Rattle.gl_net.specs.declared.node.Bus.{Bus}
use Rattle.gl_net.specs.declared.node.Bit.{Bit}
use Rattle.gl_net.specs.Net.{Net, Run, IsRun}
use Rattle.gl_net.proofs.Determined.{keeps_then}
use Rattle.gl_net.proofs.Lists.{get_push_cases}
use Rattle.gl_wire.specs.declared.wire.Wire.{Wire}
use Rattle.gl_wire.specs.Wire.{IsWire, Carried, carried, line_at, row_at, tuple_at, widths}
use Rattle.gl_wire.proofs.ColumnLemmas.{AreBuses-none, AreBuses-push, buses_kept, wire_kept, widths-push, row_at-push, row_at-none, sum-push}
use Rattle.gl_wire.proofs.GateLemmas.{choose_line}
use Rattle.gl_net.proofs.Growth.{same_keeps}
use Rattle.gl_wire_registers.specs.Counters.{IsHold}
use Rattle.gl_wire_registers.specs.Lines.{line_of, carried_of}
use Rattle.gl_wire_registers.specs.Rows.{HoldsRow, AddsWire, AddsWires}
use Rattle.gl_wire_registers.proofs.LineLemmas.{line_of-get}

pub holds_none : (net : Net) (load : Bit) → HoldsRow net net load [] []
holds_none net load = record {
  keeps = same_keeps net;
  buses = AreBuses-none net;
  same_widths = refl;
  cost = record { nodes = omega arith; registers = omega arith; memories = omega arith };
  row = λ run r t. both run t (line_at run load (suc t));
}
  where
    both : (run : Run) (t : ℕ) (b : Bool) → row_at run (suc (suc t)) [] ≡ (if b then row_at run (suc t) [] else row_at run (suc t) [])
    both run t true = row_at-none run (suc (suc t)) ∙ sym (row_at-none run (suc t))
    both run t false = row_at-none run (suc (suc t)) ∙ sym (row_at-none run (suc t))

pub holds_more : (old mid new : Net) (load : Bit) (cs bs : List Bus) (c b : Bus) → HoldsRow old mid load cs bs → IsHold mid new load c b
    → HoldsRow old new load (cs ++ c ∷ []) (bs ++ b ∷ [])
holds_more old mid new load cs bs c b h one = record {
  keeps = keeps_then old mid new h.keeps one.keeps;
  buses = AreBuses-push new bs b (buses_kept mid new bs one.keeps h.buses) one.bus;
  same_widths = widths-push bs b ∙ ap (λ l. l ++ b.width ∷ []) h.same_widths ∙ ap (λ x. widths cs ++ x ∷ []) one.width ∙ sym (widths-push cs c);
  cost = record {
    nodes = omega (arith, one.cost.nodes, h.cost.nodes, ap length (widths-push cs c), length-append (widths cs) (c.width ∷ []));
    registers = omega (arith, one.cost.registers, h.cost.registers, ap sum (widths-push cs c), sum-push (widths cs) c.width);
    memories = omega (arith, one.cost.memories, h.cost.memories);
  };
  row = λ run r t.
      row_at-push run (suc (suc t)) bs b
      ∙ ap (λ l. l ++ run.at (suc (suc t)) b.node ∷ []) (h.row run (one.keeps.runs run r) t)
      ∙ ap (λ v. (if line_at run load (suc t) then row_at run (suc t) cs else row_at run (suc t) bs) ++ v ∷ []) (one.value run r t ∙ choose_line run load (run.at (suc t) c.node) (run.at (suc t) b.node) t)
      ∙ joined run t (line_at run load (suc t));
}
  where
    joined : (run : Run) (t : ℕ) (v : Bool) → (if v then row_at run (suc t) cs else row_at run (suc t) bs) ++ (if v then run.at (suc t) c.node else run.at (suc t) b.node) ∷ [] ≡ (if v then row_at run (suc t) (cs ++ c ∷ []) else row_at run (suc t) (bs ++ b ∷ []))
    joined run t true = sym (row_at-push run (suc t) cs c)
    joined run t false = sym (row_at-push run (suc t) bs b)

-- ---- wires

carried_of-old : (run : Run) (ws : List Wire) (w : Wire) (k : ℕ) → k < length ws → carried_of run (ws ++ w ∷ []) k ≡ carried_of run ws k
unfolding carried_of
carried_of-old run [] w k l = absurd (omega (arith, l))
carried_of-old run (x ∷ ws) w zero l = refl
carried_of-old run (x ∷ ws) w (suc k) l = carried_of-old run ws w k (omega (arith, l))

carried_of-new : (run : Run) (ws : List Wire) (w : Wire) → carried_of run (ws ++ w ∷ []) (length ws) ≡ carried run w
unfolding carried_of
carried_of-new run [] w = refl
carried_of-new run (x ∷ ws) w = carried_of-new run ws w

pub carried_of-get : (run : Run) (ws : List Wire) (k : ℕ) (w : Wire) → slice_get ws k ≡ Some w → carried_of run ws k ≡ carried run w
unfolding carried_of
carried_of-get run [] k w h = absurd (cc)
carried_of-get run (x ∷ ws) zero w h = let e : x ≡ w = cc in ap (carried run) e
carried_of-get run (x ∷ ws) (suc k) w h = carried_of-get run ws k w h

module _ (old mid new : Net) (n : ℕ) (valids ends : List Bit) (row : List Bus) (ws : List Wire) (w : Wire) (v e : Bit) (h : AddsWires old mid n valids ends row ws) (one : AddsWire mid new v e row w)
    (has : slice_get valids n ≡ Some v) (has_end : slice_get ends n ≡ Some e) where
  -- a copy is an earlier one or the new one
  copy : (run : Run) (k : ℕ) → k < n + 1 → ((k < n) × (carried_of run (ws ++ w ∷ []) k ≡ carried_of run ws k)) ⊎ ((k ≡ n) × (carried_of run (ws ++ w ∷ []) k ≡ carried run w))
  copy run k l = elim (cases_lt k n) [
    | inl m ↦ inl (m, carried_of-old run ws w k (omega (arith, m, h.count)))
    | inr m ↦ (let e : k ≡ n = omega (arith, l, m) in inr (e, ap (carried_of run (ws ++ w ∷ [])) (e ∙ sym h.count) ∙ carried_of-new run ws w))
  ]

  new_tuple : (run : Run) → IsRun new run → (t : ℕ) → (carried run w).tuple (suc t) ≡ (if line_of run valids n t then Some (row_at run (suc t) row) else None)
  unfolding tuple_at
  new_tuple run r t =
      ap (λ (b : Bool). if b then Some (row_at run (suc t) w.columns) else None) (one.valid run r t ∙ sym (line_of-get run valids n v t has))
      ∙ ap (λ bs. if line_of run valids n t then Some (row_at run (suc t) bs) else None) one.columns

  new_first : (run : Run) → (carried run w).tuple 0 ≡ None
  unfolding tuple_at line_at
  new_first run = refl

  new_first_end : (run : Run) → (carried run w).ends 0 ≡ false
  unfolding line_at
  new_first_end run = refl

  pub wires_more : AddsWires old new (n + 1) valids ends row (ws ++ w ∷ [])
  wires_more = record {
    keeps = keeps_then old mid new h.keeps one.keeps;
    count = length-append ws (w ∷ []) ∙ ap (λ x. x + 1) h.count;
    cost = record { nodes = omega (arith, one.cost.nodes, h.cost.nodes); registers = omega (arith, one.cost.registers, h.cost.registers); memories = omega (arith, one.cost.memories, h.cost.memories) };
    wires = λ k x q. elim (get_push_cases ws w k x q) [ inl p ↦ wire_kept mid new x one.keeps (h.wires k x p) | inr p ↦ subst (IsWire new) p.1 one.wire ];
    columns = λ k x q. elim (get_push_cases ws w k x q) [ inl p ↦ h.columns k x p | inr p ↦ ap (λ (y : Wire). y.columns) (sym p.1) ∙ one.columns ];
    first_tuple = λ run r k l. elim (copy run k l) [ inl p ↦ ap (λ (c : Carried). c.tuple 0) p.1 ∙ h.first_tuple run (one.keeps.runs run r) k p.0 | inr p ↦ ap (λ (c : Carried). c.tuple 0) p.1 ∙ new_first run ];
    first_end = λ run r k l. elim (copy run k l) [ inl p ↦ ap (λ (c : Carried). c.ends 0) p.1 ∙ h.first_end run (one.keeps.runs run r) k p.0 | inr p ↦ ap (λ (c : Carried). c.ends 0) p.1 ∙ new_first_end run ];
    tuple = λ run r k t l. elim (copy run k l) [
      | inl p ↦ ap (λ (c : Carried). c.tuple (suc t)) p.1 ∙ h.tuple run (one.keeps.runs run r) k t p.0
      | inr p ↦ ap (λ (c : Carried). c.tuple (suc t)) p.1 ∙ new_tuple run r t ∙ ap (λ i. if line_of run valids i t then Some (row_at run (suc t) row) else None) (sym p.0)
    ];
    end = λ run r k t l. elim (copy run k l) [
      | inl p ↦ ap (λ (c : Carried). c.ends (suc t)) p.1 ∙ h.end run (one.keeps.runs run r) k t p.0
      | inr p ↦ ap (λ (c : Carried). c.ends (suc t)) p.1 ∙ one.end run r t ∙ sym (line_of-get run ends n e t has_end) ∙ ap (λ i. line_of run ends i t) (sym p.0)
    ];
  }
