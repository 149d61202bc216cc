-- What slots make of a key, from the parts.
use Rattle.std.proofs.Common.{◌≡◌, ℕ, zero, suc, ◌+◌, ◌*◌, ◌<◌, ◌^◌, List, length, true, sym, ap, ◌∙◌, subst, arith}
use Rattle.std.specs.Prelude.{not, ◌&&◌, ◌||◌, if◌then◌else◌}
use Rattle.gl_net.specs.declared.node.Bus.{Bus}
use Rattle.gl_net.specs.declared.node.Bit.{Bit}
use Rattle.gl_net.specs.Net.{Net, Run, IsRun, Keeps}
use Rattle.gl_net.proofs.Determined.{keeps_then}
use Rattle.gl_wire.specs.Gates.{IsGate}
use Rattle.gl_wire.specs.Wire.{line_at}
use Rattle.gl_wire.proofs.ColumnLemmas.{bit_kept, bus_kept}
use Rattle.gl_wire_registers.specs.declared.lines.LineOp.TheVariants.{ButNot}
use Rattle.gl_wire_registers.specs.Held.{held_at}
use Rattle.gl_wire_registers.specs.Lines.{AddsLines, any_to, gates_of, line_of, with_line}
use Rattle.gl_wire_registers.proofs.LineLemmas.{bits_kept, line_of-first}
use Rattle.gl_groups.specs.declared.finding.Asked.{Asked}
use Rattle.gl_groups.specs.declared.finding.Asking.{Asking}
use Rattle.gl_groups.specs.declared.finding.Many.{Many}
use Rattle.gl_groups.specs.declared.finding.One.{One}
use Rattle.gl_groups.specs.declared.finding.Place.{Place}
use Rattle.gl_groups.specs.declared.finding.Sought.{Sought}
use Rattle.gl_groups.specs.Finding.{AddsAsked, AddsKeysTaken, AddsMany, AddsMet, AddsMoved, AddsOne, AddsPlaceOf, AddsSought, AreSought, IsSought}
use Rattle.gl_slots.specs.SlotLines.{asked_of}
use Rattle.gl_groups.proofs.FindingNet.{either_new}

module _ (n0 n1 n2 n3 n4 n5 n6 n7 n8 n9 n10 : Net) (a : Asking) (used : List Bit) (n width : ℕ) (many_used : length used ≡ n) (kept hits : List Bit) (q : Asked) (keys : List Bus) (moved : Bit) (one : One)
    (new passes : Bit) (m : Many) (p : Place) (is_kept : AddsLines n0 n1 (length used) 1 kept (with_line ButNot used a.free)) (is_asked : AddsAsked n1 n2 a.ask kept q) (is_keys : AddsKeysTaken n2 n3 q.nexts a.last keys)
    (is_hits : AddsMet n3 n4 kept keys a.here hits) (is_moved : AddsMoved n4 n5 a moved) (is_one : AddsOne n5 n6 hits moved a.free q.room one) (is_new : IsGate n6 n7 (λ x y. x && not y) q.room one.one new)
    (is_passes : IsGate n7 n8 (λ x y. x && not y) q.full one.one passes) (is_many : AddsMany n8 n9 a.free new width m)
    (is_place : AddsPlaceOf n9 n10 one.one moved hits m.base n p) where
  k10 : Keeps is_place.mid n10
  k10 = is_place.place.keeps

  k9 : Keeps n9 n10
  k9 = keeps_then n9 is_place.mid n10 is_place.counts.keeps k10

  k8 : Keeps n8 n10
  k8 = keeps_then n8 n9 n10 is_many.keeps k9

  k7 : Keeps n7 n10
  k7 = keeps_then n7 n8 n10 is_passes.keeps k8

  k6 : Keeps n6 n10
  k6 = keeps_then n6 n7 n10 is_new.keeps k7

  k5 : Keeps n5 n10
  k5 = keeps_then n5 n6 n10 is_one.keeps k6

  k4 : Keeps n4 n10
  k4 = keeps_then n4 n5 n10 is_moved.keeps k5

  k3 : Keeps n3 n10
  k3 = keeps_then n3 n4 n10 is_hits.keeps k4

  k2 : Keeps n2 n10
  k2 = keeps_then n2 n3 n10 is_keys.keeps k3

  k1 : Keeps n1 n10
  k1 = keeps_then n1 n2 n10 is_asked.keeps k2

  kept_count : length kept ≡ n
  kept_count = is_kept.count ∙ many_used

  nexts_count : length q.nexts ≡ n
  nexts_count = is_asked.count ∙ kept_count

  keys_count : length keys ≡ n
  keys_count = is_keys.count ∙ nexts_count

  hits_count : length hits ≡ n
  hits_count = is_hits.count ∙ kept_count

  abbrev r : Sought
  r = record { kept = kept; keys = keys; hits = hits; moved = moved; one = one; asked = q; new = new; passes = passes; many = m; place = p }

  are : AreSought n10 n width a.last.width r
  are = record {
    kept_count = kept_count;
    kept = bits_kept n1 n10 kept k1 is_kept.bits;
    keys_count = keys_count;
    keys = record { each = λ k b e. bus_kept n3 n10 b k3 (is_keys.are.each k b e) };
    keys_width = is_keys.are.widths;
    hits_count = hits_count;
    hits = bits_kept n4 n10 hits k4 is_hits.bits;
    moved = bit_kept n5 n10 moved k5 is_moved.bit;
    one = bit_kept n6 n10 one.one k6 is_one.one_bit;
    had = bit_kept n6 n10 one.had k6 is_one.had_bit;
    nexts_count = nexts_count;
    nexts = bits_kept n2 n10 q.nexts k2 is_asked.nexts_bits;
    passes = bit_kept n8 n10 passes k8 is_passes.bit;
    many = bus_kept n9 n10 m.many k9 is_many.many_bus;
    many_width = is_many.many_width;
    number = is_place.place.number_bus;
    number_width = is_place.place.number_width ∙ is_many.base_width;
    home = is_place.place.home_bus;
    home_width = is_place.place.home_width ∙ is_many.base_width;
  }

  module _ (run : Run) (z : IsRun n10 run) where
    base_is : (t : ℕ) → held_at 0 run m.base t ≡ (if line_at run a.free t then 0 else held_at 0 run m.many t)
    base_is = is_many.base run (k9.runs run z)

    full_is : (t : ℕ) → line_at run q.full t ≡ asked_of a.ask kept run n t
    full_is t = is_asked.full run (k2.runs run z) t ∙ ap (λ i. asked_of a.ask kept run i t) kept_count

    room_is : (t : ℕ) → line_at run q.room t ≡ (line_at run a.ask t && not (asked_of a.ask kept run n t))
    room_is t = is_asked.room run (k2.runs run z) t ∙ ap (λ i. line_at run a.ask t && not (asked_of a.ask kept run i t)) kept_count

    new_is : (t : ℕ) → line_at run new t ≡ (line_at run q.room t && not (line_at run one.one t))
    new_is = is_new.line run (k7.runs run z)

    had_is : (t : ℕ) → line_at run one.had (suc t) ≡ (line_at run one.one t || line_at run new t)
    had_is t = is_one.had run (k6.runs run z) t ∙ either_new (line_at run one.one t) (line_at run q.room t) ∙ ap (λ b. line_at run one.one t || b) (sym (new_is t))

    many_is : (t : ℕ) → (line_at run new t ≡ true → (if line_at run a.free t then 0 else held_at 0 run m.many t) + 1 < 2 ^ width)
        → held_at 0 run m.many (suc t) ≡ (if line_at run new t then (if line_at run a.free t then 0 else held_at 0 run m.many t) + 1 else (if line_at run a.free t then 0 else held_at 0 run m.many t))
    many_is t fits =
        is_many.many run (k9.runs run z) t (λ e. subst (λ (i : ℕ). i + 1 < 2 ^ width) (sym (base_is t)) (fits e))
        ∙ ap (λ (i : ℕ). if line_at run new t then i + 1 else i) (base_is t)

    law : IsSought run a used n width r
    unfolding with_line
    law = record {
      met = is_place.place.met run;
      kept = λ k t l. is_kept.line run (k1.runs run z) k t (omega (arith, l, many_used));
      nexts = λ k t l. is_asked.nexts run (k2.runs run z) k t (omega (arith, l, kept_count));
      key = λ k t l. is_keys.next run (k3.runs run z) k t (omega (arith, l, nexts_count));
      hit = λ k t l. is_hits.line run (k4.runs run z) k t (omega (arith, l, kept_count));
      moved = is_moved.line run (k5.runs run z);
      had = had_is;
      home = is_place.place.home run z;
      many = many_is;
      met_one = λ k t l high only. met_at k t l high only;
      one = λ t. is_one.one run (k6.runs run z) t
          ∙ ap (λ i. (if line_at run moved t then any_to i (λ k. line_of run hits k t) else line_at run one.had t) && not (line_at run a.free t)) hits_count;
      new = λ t. new_is t ∙ ap (λ b. b && not (line_at run one.one t)) (room_is t);
      passes = λ t. is_passes.line run (k8.runs run z) t ∙ ap (λ b. b && not (line_at run one.one t)) (full_is t);
      number = λ t. is_place.place.number run z t
          ∙ ap (λ (i : ℕ). if line_at run one.one (suc t) then (if line_at run moved (suc t) then is_place.place.met run (suc t) else held_at 0 run p.home (suc t)) else i) (base_is (suc t));
    }
      where
        met_at : (k t : ℕ) → k < n → line_of run hits k t ≡ true → ((j : ℕ) → j < n → line_of run hits j t ≡ true → j ≡ k) → is_place.place.met run t ≡ k
        met_at k zero l high only = (let x = line_of-first run hits k in absurd (cc))
        met_at k (suc t) l high only =
            (is_place.place.picked run z (suc t)).one k (omega (arith, l, hits_count)) high (λ j m e. only j (omega (arith, m, hits_count)) e) ∙ is_place.counts.value run (k10.runs run z) k t l

  pub sought_are : AddsSought n0 n10 a used n width r
  sought_are = record {
    keeps = keeps_then n0 n1 n10 is_kept.keeps k1;
    are = are;
    cost = record {
      nodes = omega (
        arith,
        is_kept.cost.nodes,
        is_asked.cost.nodes,
        is_keys.cost.nodes,
        is_hits.cost.nodes,
        is_moved.cost.nodes,
        is_one.cost.nodes,
        is_new.cost.nodes,
        is_passes.cost.nodes,
        is_many.cost.nodes,
        is_place.counts.cost.nodes,
        is_place.place.cost.nodes,
        many_used,
        kept_count,
        nexts_count,
        hits_count,
        ap gates_of hits_count,
      );
      registers = omega (
        arith,
        is_kept.cost.registers,
        is_asked.cost.registers,
        is_keys.cost.registers,
        is_hits.cost.registers,
        is_moved.cost.registers,
        is_one.cost.registers,
        is_new.cost.registers,
        is_passes.cost.registers,
        is_many.cost.registers,
        is_place.counts.cost.registers,
        is_place.place.cost.registers,
        kept_count,
        is_many.base_width,
        ap (λ i. i * a.last.width) nexts_count,
        bits,
      );
      memories = omega (arith, is_kept.cost.memories, is_asked.cost.memories, is_keys.cost.memories, is_hits.cost.memories, is_moved.cost.memories, is_one.cost.memories, is_new.cost.memories, is_passes.cost.memories, is_many.cost.memories, is_place.counts.cost.memories, is_place.place.cost.memories);
    };
    law = λ run z. law run z;
  }
    where
      bits : n * (a.last.width + 1) ≡ n * a.last.width + n
      bits = omega arith
