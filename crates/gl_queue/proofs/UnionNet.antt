-- A union behind two padded sides: what it costs, and what it serves.
use Rattle.std.proofs.Common.{◌≡◌, ℕ, ◌+◌, ◌*◌, ◌^◌, ◌≤◌, List, length, Option, Some, None, Bool, true, false, refl, sym, ap, ◌∙◌, arith}
use Rattle.std.specs.Prelude.{◌&&◌, ◌||◌, is_some, not}
use Rattle.std.specs.List.{sum}
use Rattle.std.proofs.Math.Nat.{mul-le-mul_left}
use Rattle.gl_algebra.specs.Cost.{ring}
use Rattle.gl_algebra.specs.declared.figures.Figures.{Figures}
use Rattle.gl_algebra.specs.FigureTable.{IsSound, delayed, union_figures, wait_of}
use Rattle.gl_algebra.specs.Weights.{pad_of}
use Rattle.gl_algebra.proofs.SoundLemmas.{delayed_sound}
use Rattle.gl_bits.proofs.Bools.{or_none}
use Rattle.gl_values.specs.Lists.{IsInterleaving}
use Rattle.gl_net.specs.declared.node.Bit.{Bit}
use Rattle.gl_values.specs.Results.{Row}
use Rattle.gl_net.specs.Net.{Net, Run, IsRun}
use Rattle.gl_net.proofs.Determined.{keeps_then}
use Rattle.gl_wire.specs.declared.emitted.Emitted.{Emitted}
use Rattle.gl_wire.specs.declared.emitted.Faults.{Faults}
use Rattle.gl_wire.specs.declared.wire.Wire.{Wire}
use Rattle.gl_wire.specs.Costs.{CostsAtMost}
use Rattle.gl_wire.specs.Faults.{AreBoth, IsEither, line_of}
use Rattle.gl_wire.specs.Shapes.{IsDelayed}
use Rattle.gl_wire.specs.Spills.{ServesWhen2, always, never2}
use Rattle.gl_wire.specs.Stages.{IsPad}
use Rattle.gl_wire.specs.Wire.{Carried, carried, widths}
use Rattle.gl_wire.proofs.ColumnLemmas.{wire_kept}
use Rattle.gl_wire.proofs.FaultLemmas.{line_kept}
use Rattle.gl_wire.proofs.PadLemmas.{padded_when}
use Rattle.gl_queue.specs.declared.merge.Merged.{Merged}
use Rattle.gl_queue.specs.Costs.{cost_of_queue}
use Rattle.gl_queue.specs.MergeLines.{IsMergedOf}
use Rattle.gl_queue.specs.Merging.{IsMerging, UnionServes, first_of, only_passed}
use Rattle.gl_queue.specs.Unions.{IsUnionIn, IsUnionOf, cost_of_union}
use Rattle.gl_queue.proofs.FigureLemmas.{one_pad}
use Rattle.gl_queue.proofs.QueueCosts.{IsLow, queue_low}

-- sides padded to begin together, merged, serve the interleavings of the sides
pub padded_union : UnionServes → (p q : Figures) (passed : ℕ → Bool) (a b a' b' o : Carried) → IsSound p → IsSound q → IsDelayed (wait_of p q) a a' → IsDelayed (wait_of q p) b b' → IsMerging p.ne q.ne passed a' b' o
    → ServesWhen2 always p q (union_figures p q) (never2 IsInterleaving) (only_passed passed) a b o
padded_union union_serves p q passed a b a' b' o sound_p sound_q da db m =
    padded_when (wait_of p q) (wait_of q p) p q (union_figures p q) (never2 IsInterleaving) (only_passed passed) always always a a' b b' o da db (λ beats fa fb c. tt)
    (union_serves (delayed (wait_of p q) p) (delayed (wait_of q p) q) passed a' b' o (delayed_sound (wait_of p q) p sound_p) (delayed_sound (wait_of q p) q sound_q) (omega arith) m)

-- an end leaves where neither queue has a row
ends_alone : (n m : ℕ) (passed : ℕ → Bool) (a b o : Carried) → IsMerging n m passed a b o → (c : ℕ) → o.ends c ≡ true → o.tuple c ≡ None
ends_alone n m passed a b o u c e = u.out c ∙ by (u.wait_a c && u.wait_b c) (u.left c) (u.right c) (sym (u.leaves c) ∙ e)
  where
    by : (w : Bool) (p q : Option Row) → w && not (is_some p) && not (is_some q) ≡ true → first_of p q ≡ None
    by w None None h = refl
    by true None (Some r) h = absurd (cc)
    by false None (Some r) h = absurd (cc)
    by true (Some r) q h = absurd (cc)
    by false (Some r) q h = absurd (cc)

-- what is added within the bounds
cost_nodes : (lines pad n m : ℕ) → 2 ≤ lines → 1 ≤ n → 1 ≤ m → pad * lines + (46 + 5 * lines) + 4 ≤ 8 * lines * (pad + n + m + 4)
cost_nodes lines pad n m l x y =
    let six = mul-le-mul_left (8 * lines) (let z : pad + 6 ≤ pad + n + m + 4 = omega (arith, x, y) in z) in
    let all : 8 * lines * (pad + 6) ≡ 8 * (pad * lines) + 48 * lines = omega arith in
    omega (arith, six, all, l)

module _ (union_serves : UnionServes) (old n1 n2 n3 n4 new : Net) (p q : Figures) (a b : Emitted) (first second : Wire) (out : Merged) (sides : Faults) (passed : Option Bit) (sound_p : IsSound p) (sound_q : IsSound q) (small_p : p.ne ≤ 2 ^ 32) (small_q : q.ne ≤ 2 ^ 32)
    (same : widths a.wire.columns ≡ widths b.wire.columns)
    (pad_a : IsPad old n1 (wait_of p q) a.wire first) (pad_b : IsPad n1 n2 (wait_of q p) b.wire second) (m : IsMergedOf n2 n3 p.ne q.ne first second out)
    (told : AreBoth n3 n4 a.faults b.faults sides) (line : IsEither n4 new sides.passed (Some out.passed) passed) where
  abbrev columns : List ℕ
  columns = widths a.wire.columns

  first_columns : widths first.columns ≡ columns
  first_columns = pad_a.same_widths

  costs : CostsAtMost old new (cost_of_union p q columns)
  costs = record {
    nodes = omega (arith, pad_a.cost.nodes, pad_b.cost.nodes, m.cost.nodes, told.cost.nodes, line.cost.nodes, long, long_b, pads, bound, low_p.nodes, low_q.nodes);
    registers = omega (arith, pad_a.cost.registers, pad_b.cost.registers, m.cost.registers, told.cost.registers, line.cost.registers, wide, wide_b, bits, low_p.registers, low_q.registers);
    memories = omega (arith, pad_a.cost.memories, pad_b.cost.memories, m.cost.memories, told.cost.memories, line.cost.memories, low_p.memories, low_q.memories, stores);
  }
    where
      long : length (widths first.columns) ≡ length columns
      long = ap length first_columns

      long_b : wait_of q p * (length (widths b.wire.columns) + 2) ≡ wait_of q p * (length columns + 2)
      long_b = ap (λ (xs : List ℕ). wait_of q p * (length xs + 2)) (sym same)

      pads : wait_of p q * (length columns + 2) + wait_of q p * (length columns + 2) ≡ pad_of p q * (length columns + 2)
      pads = let e : wait_of p q * (length columns + 2) + wait_of q p * (length columns + 2) ≡ (wait_of p q + wait_of q p) * (length columns + 2) = omega arith in
          e ∙ ap (λ (n : ℕ). n * (length columns + 2)) (one_pad p q)

      bound : pad_of p q * (length columns + 2) + (46 + 5 * (length columns + 2)) + 4 ≤ 8 * (length columns + 2) * (pad_of p q + p.ne + q.ne + 4)
      bound = cost_nodes (length columns + 2) (pad_of p q) p.ne q.ne (omega arith) sound_p.some sound_q.some

      wide_b : wait_of q p * (sum (widths b.wire.columns) + 2) ≡ wait_of q p * (sum columns + 2)
      wide_b = ap (λ (xs : List ℕ). wait_of q p * (sum xs + 2)) (sym same)

      bits : wait_of p q * (sum columns + 2) + wait_of q p * (sum columns + 2) + 2 * (sum columns + 2) ≡ (sum columns + 2) * (pad_of p q + 2)
      bits = let e : wait_of p q * (sum columns + 2) + wait_of q p * (sum columns + 2) + 2 * (sum columns + 2) ≡ (sum columns + 2) * ((wait_of p q + wait_of q p) + 2) = omega arith in
          e ∙ ap (λ (n : ℕ). (sum columns + 2) * (n + 2)) (one_pad p q)

      low_p : IsLow p.ne (widths first.columns) (cost_of_queue p.ne (widths first.columns))
      low_p = queue_low p.ne (widths first.columns) small_p

      low_q : IsLow q.ne (widths first.columns) (cost_of_queue q.ne (widths first.columns))
      low_q = queue_low q.ne (widths first.columns) small_q

      wide : sum (widths first.columns) ≡ sum columns
      wide = ap sum first_columns

      stores : ring p.ne * sum (widths first.columns) + ring q.ne * sum (widths first.columns) ≡ (ring p.ne + ring q.ne) * sum columns
      stores = ap (λ (n : ℕ). ring p.ne * n + ring q.ne * n) wide ∙ omega arith

  merges : (run : Run) → IsRun new run → IsUnionIn run p q a b (record { wire = out.wire; faults = record { passed = passed; further = sides.further } })
  merges run r =
      let at_4 = line.keeps.runs run r in
      let at_3 = told.keeps.runs run at_4 in
      let at_2 = m.keeps.runs run at_3 in
      let both = told.lines run at_4 in
      record {
        first = carried run first;
        second = carried run second;
        passed = line_of run (Some out.passed);
        left_waits = pad_a.delayed run (pad_b.keeps.runs run at_2);
        right_waits = pad_b.delayed run at_2;
        merging = m.merging run at_3;
        told = record {
          passed = λ c. line.line run r c ∙ ap (λ (x : Bool). x || line_of run (Some out.passed) c) (both.passed c);
          further = λ c. both.further c ∙ sym (or_none _);
        };
      }

  pub union_of : IsUnionOf old new p q a b (record { wire = out.wire; faults = record { passed = passed; further = sides.further } })
  union_of = record {
    behind = record {
      keeps = keeps_then old n1 new pad_a.keeps (keeps_then n1 n2 new pad_b.keeps (keeps_then n2 n3 new m.keeps (keeps_then n3 n4 new told.keeps line.keeps)));
      cost = costs;
      wire = wire_kept n4 new out.wire line.keeps (wire_kept n3 n4 out.wire told.keeps m.wire);
      same_widths = m.same_widths ∙ first_columns;
      lines = record { passed = line.is; further = line_kept n4 new sides.further line.keeps told.are.further };
      paced = λ run r. tt;
      serves = λ run r.
          let u = merges run r in (
            only_passed u.passed,
            u.told,
            padded_union union_serves p q u.passed (carried run a.wire) (carried run b.wire) u.first u.second (carried run out.wire) sound_p sound_q u.left_waits u.right_waits u.merging,
          );
    };
    merges = merges;
    alone = λ run r. let u = merges run r in ends_alone p.ne q.ne u.passed u.first u.second (carried run out.wire) u.merging;
  }
