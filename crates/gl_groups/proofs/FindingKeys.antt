-- The keys of slots in registers, of which one that may take a key takes it.
use Rattle.std.proofs.Common.{◌≡◌, ℕ, suc, ◌*◌, ◌<◌, List, length, Bool, true, false, refl, sym, ap, ◌∙◌, arith, replicate}
use Rattle.std.specs.Prelude.{if◌then◌else◌}
use Rattle.gl_bits.specs.Words.{Word}
use Rattle.gl_bits.proofs.AllLists.{get_there}
use Rattle.gl_net.specs.declared.node.Bus.{Bus}
use Rattle.gl_net.specs.declared.node.Bit.{Bit}
use Rattle.gl_net.specs.Net.{Net, Run, IsRun}
use Rattle.gl_wire.proofs.ColumnLemmas.{bus_kept}
use Rattle.gl_wire_registers.specs.Held.{held_at}
use Rattle.gl_wire_registers.specs.Lines.{held_of, line_of}
use Rattle.gl_wire_registers.specs.Registers.{DrivesAll, MayDrive, Opens}
use Rattle.gl_wire_registers.proofs.CounterLemmas.{held_by}
use Rattle.gl_wire_registers.proofs.FlagLemmas.{length_replicate, reg_start, reg_width, regs_count, same_bits}
use Rattle.gl_wire_registers.proofs.RegisterLemmas.{closed_up, grown_bus}
use Rattle.gl_groups.specs.Finding.{AddsKeysTaken}
use Rattle.gl_slots.specs.SlotLines.{AddsNexts, AreKeysOf}
use Rattle.gl_slots.proofs.SlotNet.{held_of-get}

module _ (n0 n1 : Net) (nexts : List Bit) (w : Word) (last : Bus) (regs : List Bus) (wide : w.width ≡ last.width) (zeros : w.bits ≡ 0) (o : Opens n0 n1 (replicate (length nexts) w) regs) where
  pub regs_taken : AreKeysOf n1 last regs
  regs_taken = record { each = o.each; widths = λ k b h. reg_width n0 n1 (length nexts) w regs o k b h ∙ wide }

  pub taken_count : length regs ≡ length nexts
  taken_count = regs_count n0 n1 (length nexts) w regs o

  module _ (n2 : Net) (takers : List Bus) (h : AddsNexts n1 n2 nexts last regs (length regs) takers) where
    pub taken_may : MayDrive n2 regs takers
    taken_may = record {
      count = h.count;
      each = h.are.each;
      widths = λ k b d at_b at_d. h.are.widths k d at_d ∙ sym (reg_width n0 n1 (length nexts) w regs o k b at_b ∙ wide);
    }

    module _ (n3 : Net) (v : DrivesAll n2 n3 regs takers) where
      none_first : (b : Bool) (n : ℕ) → (if b then n else n) ≡ n
      none_first true n = refl
      none_first false n = refl

      -- in the reset cycle a key is 0
      key_next : (run : Run) → IsRun n3 run → (k t : ℕ) → k < length nexts
          → held_of run regs k (suc t) ≡ (if line_of run nexts k t then held_at 0 run last t else held_of run regs k t)
      unfolding held_at
      key_next run r3 k t l =
          let r2 = v.grows.runs run r3 in
          let at = get_there regs k (omega (arith, l, taken_count)) in
          let next = get_there takers k (omega (arith, l, h.count, taken_count)) in
          let own = held_of-get run regs k at.0 in
          own (suc t) at.1
          ∙ held_by run at.0 0 (λ u n. if line_of run nexts k u then held_at 0 run last u else n)
          (reg_start n0 n1 (length nexts) w regs o k at.0 at.1 run (h.keeps.runs run r2) ∙ zeros)
          (λ u. v.value k at.0 next.0 at.1 next.1 run r3 u ∙ sym (held_of-get run takers k next.0 (suc u) next.1) ∙ h.next run r2 k u (omega (arith, l, taken_count))
          ∙ ap (λ n. if line_of run nexts k (suc u) then held_at 0 run last (suc u) else n) (own (suc u) at.1))
          (none_first (line_of run nexts k 0) 0) t
          ∙ ap (λ n. if line_of run nexts k t then held_at 0 run last t else n) (sym (own t at.1))

      pub keys_taken : AddsKeysTaken n0 n3 nexts last regs
      keys_taken = record {
        keeps = closed_up n0 n1 n2 n3 (replicate (length nexts) w) regs takers o h.keeps v;
        count = taken_count;
        are = record { each = λ k b e. grown_bus n2 n3 b v.grows (bus_kept n1 n2 b h.keeps (o.each k b e)); widths = regs_taken.widths };
        cost = record {
          nodes = omega (arith, v.cost.nodes, h.cost.nodes, o.cost.nodes, length_replicate (length nexts) w, taken_count);
          registers = omega (arith, v.cost.registers, h.cost.registers, o.cost.registers, same_bits (length nexts) w, ap (λ n. length nexts * n) wide);
          memories = omega (arith, v.cost.memories, h.cost.memories, o.cost.memories);
        };
        next = λ run r3 k t l. key_next run r3 k t l;
      }
