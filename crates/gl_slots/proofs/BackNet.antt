-- What joins the copies of a front with their keys is a back.
use Rattle.std.proofs.Common.{◌≡◌, ℕ, ◌≤◌, List, [], ◌∷◌, length, Some, None, refl, sym, ap, ◌∙◌, subst, arith}
use Rattle.std.specs.Prelude.{slice_get, slice_index}
use Rattle.gl_net.specs.declared.node.Bus.{Bus}
use Rattle.gl_net.specs.Net.{Net, Run, IsRun}
use Rattle.gl_wire.specs.declared.emitted.Emitted.{Emitted}
use Rattle.gl_wire.specs.Costs.{Cost, CostsAtMost}
use Rattle.gl_wire.specs.Faults.{line_of, lines_of}
use Rattle.gl_wire.specs.Shapes.{IsDelayed}
use Rattle.gl_wire.specs.Spills.{SameLines, both_lines}
use Rattle.gl_wire.specs.Wire.{carried, line_at, widths}
use Rattle.gl_wire.specs.Lift.{tuple_of_any}
use Rattle.gl_wire.specs.Rotates.{lines_of_all}
use Rattle.gl_wire_registers.specs.Lines.{held_of}
use Rattle.gl_wire_registers.specs.declared.front.Front.{Front}
use Rattle.gl_wire_registers.specs.Fronts.{Feeding, Fronts, Giving, HaveKeys, IsBacked, feed_of}
use Rattle.gl_wire_registers.specs.Joins.{columns_of, gives_of, told_of}
use Rattle.gl_slots.specs.Costs.{cost_of_back}
use Rattle.gl_slots.specs.Joins.{AreKeyBuses, JoinsAll, width_of_keys}
use Rattle.gl_slots.specs.Keyed.{keyed_machine}
use Rattle.gl_slots.specs.Keys.{line_of_further, with_keys}

-- the keys of a front have the key column's width
pub width_first : (keys : List Bus) (n : ℕ) → 1 ≤ length keys → ((k : ℕ) (b : Bus) → slice_get keys k ≡ Some b → b.width ≡ n) → width_of_keys keys ≡ n
width_first [] n l h = absurd (omega (arith, l))
width_first (b ∷ bs) n l h = h 0 b refl

pub width_is : (net : Net) (count key : ℕ) (source : List ℕ) (keys : List Bus) → 1 ≤ count → HaveKeys net count key source keys → width_of_keys keys ≡ slice_index source key
width_is net count key source keys some h = width_first keys (slice_index source key) (let m = h.as_many in omega (arith, m, some)) (λ k b e. (h.each k b e).1)

pub keys_are : (net : Net) (count key : ℕ) (source : List ℕ) (keys : List Bus) → 1 ≤ count → HaveKeys net count key source keys → AreKeyBuses net keys
keys_are net count key source keys some h = record { each = λ k b e. (h.each k b e).0; same_width = λ k b e. (h.each k b e).1 ∙ sym (width_is net count key source keys some h) }

-- what joins all copies with their keys is a back, if the whole serves what it should one cycle behind them
pub keyed_backed : (old new : Net) (count key : ℕ) (front_cost : List ℕ → Cost) (feeds : Feeding) (serves : Giving) (f : Front) (copies : List Emitted) (e : Emitted) → 1 ≤ count
    → Fronts old (keyed_machine count key front_cost feeds serves) f → length copies ≡ count → JoinsAll old new f.source.faults f.further f.close f.keys copies e
    → ((run : Run) → IsRun new run → IsDelayed 1 (record { tuple = tuple_of_any (with_keys (held_of run f.keys) (gives_of run copies)) count; ends = line_at run f.close }) (carried run e.wire)
    → serves (line_of run None) (carried run f.source.wire) (feed_of run f) (gives_of run copies) (told_of run copies) (carried run e.wire))
    → IsBacked old new (keyed_machine count key front_cost feeds serves) f copies e
keyed_backed old new count key front_cost feeds serves f copies e some h many j serving =
    let source : List ℕ = widths f.source.wire.columns in
    let width : width_of_keys f.keys ≡ slice_index source key = width_is old count key source f.keys some h.keys in
    record {
      keeps = j.keeps;
      cost = subst (λ (n : ℕ). CostsAtMost old new (cost_of_back n (slice_index source key ∷ columns_of copies))) many
          (subst (λ (n : ℕ). CostsAtMost old new (cost_of_back (length copies) (n ∷ columns_of copies))) width j.cost);
      wire = j.wire;
      same_widths = j.same_widths ∙ ap (λ n. n ∷ columns_of copies) width;
      lines = j.lines;
      told = λ run z.
          subst (λ (n : ℕ). SameLines (lines_of run e.faults) (both_lines (lines_of run f.source.faults) (both_lines (lines_of_all (told_of run copies) n) (line_of_further (line_of run f.further))))) many (j.told run z);
      serves = λ run z.
          serving run z (subst (λ (n : ℕ). IsDelayed 1 (record { tuple = tuple_of_any (with_keys (held_of run f.keys) (gives_of run copies)) n; ends = line_at run f.close }) (carried run e.wire)) many (j.delayed run z));
    }
