-- A joiner behind two padded sides: what it asks, what it serves, and what it costs.
use Rattle.std.proofs.Common.{◌≡◌, ℕ, zero, suc, ◌+◌, ◌-◌, ◌*◌, ◌≤◌, List, ◌++◌, length, Some, None, Bool, true, false, refl, sym, ap, ◌∙◌, subst, arith, inl, inr, length-append}
use Rattle.std.specs.Prelude.{◌&&◌, is_some, if◌then◌else◌, nat_eq}
use Rattle.std.specs.List.{sum}
use Rattle.std.proofs.lemmas.Bool.{cases_lt, eqb-true, eqb-false, eq-eqb, ne_eqb}
use Rattle.std.proofs.lemmas.List.Sums.{sum_by-append}
use Rattle.std.proofs.Math.Nat.{mul-le-mul_left}
use Rattle.gl_algebra.specs.declared.figures.Figures.{Figures}
use Rattle.gl_algebra.specs.FigureTable.{IsSound, at_end, beside_figures, delayed, in_step, is_fixed, wait_of}
use Rattle.gl_algebra.specs.Shapes.{once, with_stream}
use Rattle.gl_algebra.specs.Weights.{pad_of}
use Rattle.gl_algebra.proofs.SoundLemmas.{delayed_sound}
use Rattle.gl_bits.proofs.Bools.{and_left, and_right, or_none}
use Rattle.gl_values.specs.Results.{AreBeside, Row}
use Rattle.gl_net.specs.Net.{Net, Run, IsRun}
use Rattle.gl_net.proofs.Determined.{keeps_then}
use Rattle.gl_wire.specs.declared.emitted.Emitted.{Emitted}
use Rattle.gl_wire.specs.declared.emitted.Faults.{Faults}
use Rattle.gl_wire.specs.declared.wire.Wire.{Wire}
use Rattle.gl_wire.specs.Costs.{CostsAtMost}
use Rattle.gl_wire.specs.Faults.{AreBoth}
use Rattle.gl_wire.specs.Laws.{FollowersKeepPace}
use Rattle.gl_wire.specs.Pace.{BothWithEnds, InStep, SameCycles, WithEnds}
use Rattle.gl_wire.specs.Shapes.{IsDelayed}
use Rattle.gl_wire.specs.Spills.{ServesWhen2, never2, no_lines}
use Rattle.gl_wire.specs.Stages.{IsPad}
use Rattle.gl_wire.specs.Wire.{Carried, carried, widths}
use Rattle.gl_wire.proofs.ColumnLemmas.{wire_kept}
use Rattle.gl_wire.proofs.PaceLemmas.{delayed_follows}
use Rattle.gl_wire.proofs.PadLemmas.{padded_when}
use Rattle.gl_queue.specs.Joining.{IsJoiner, JoinerServes}
use Rattle.gl_queue.specs.JoinLines.{AreSides, JoinsSides}
use Rattle.gl_queue.specs.Joiners.{IsJoinerIn, IsJoinerOf, OfOneWire, cost_of_joiner, joined_pace, joins_when}
use Rattle.gl_queue.proofs.BesideLemmas.{beside_serves}
use Rattle.gl_queue.proofs.FigureLemmas.{one_pad}

-- what comes a fixed time after its beats does so some cycles later too
same_later : (m x y : ℕ) → nat_eq (x + m) (y + m) ≡ nat_eq x y
same_later m x y = by (nat_eq x y) refl
  where
    by : (b : Bool) → nat_eq x y ≡ b → nat_eq (x + m) (y + m) ≡ b
    by true p = let e = eqb-true x y p in eq-eqb (x + m) (y + m) (omega (arith, e))
    by false p = let e = eqb-false x y p in ne_eqb (x + m) (y + m) (λ q. e (omega (arith, q)))

fixed_later : (m : ℕ) (f : Figures) → is_fixed (delayed m f) ≡ is_fixed f
fixed_later m f = ap (λ (b : Bool). b && nat_eq (f.lt + m) (f.le + m)) (same_later m f.a f.lt) ∙ ap (λ (b : Bool). nat_eq f.a f.lt && b) (same_later m f.lt f.le)

-- figures of both sides, padded
both_fixed : (p q : Figures) → (is_fixed (delayed (wait_of p q) p) && is_fixed (delayed (wait_of q p) q)) ≡ (is_fixed p && is_fixed q)
both_fixed p q = ap (λ (b : Bool). b && is_fixed (delayed (wait_of q p) q)) (fixed_later (wait_of p q) p) ∙ ap (λ (b : Bool). is_fixed p && b) (fixed_later (wait_of q p) q)

abbrev by_fixed : Figures → Figures → Bool → Figures
by_fixed p q b = if b then in_step p q else at_end p q

-- tuples as many cycles behind one wire come in the same cycles
same_cycles : (x : ℕ) (leaf a b : Carried) → InStep x leaf a → InStep x leaf b → (c : ℕ) → is_some (a.tuple c) ≡ is_some (b.tuple c)
same_cycles x leaf a b h k c = elim (cases_lt c x) [
  | inl l ↦ h.before c l ∙ sym (k.before c l)
  | inr l ↦ (let e : (c - x) + x ≡ c = omega (arith, l) in
      ap (λ (i : ℕ). is_some (a.tuple i)) (sym e) ∙ h.each (c - x) ∙ sym (k.each (c - x)) ∙ ap (λ (i : ℕ). is_some (b.tuple i)) e)
]

-- a joiner brings a row with each end
with_ends : (a b o : Carried) → IsJoiner a b o → WithEnds o
with_ends a b o m zero = ap is_some m.out_first ∙ sym m.ends_first
with_ends a b o m (suc c) = ap is_some (m.out c) ∙ by (m.wait_a c && m.wait_b c) (m.row_a c ++ m.row_b c) ∙ sym (m.ends c)
  where
    by : (x : Bool) (r : Row) → is_some (if x then Some r else None) ≡ x
    by true r = refl
    by false r = refl

module _ (joiner_serves : JoinerServes) (follows_pace : FollowersKeepPace) (p q : Figures) (a b a' b' o : Carried) (sound_p : IsSound p) (sound_q : IsSound q) (da : IsDelayed (wait_of p q) a a') (db : IsDelayed (wait_of q p) b b') where
  abbrev p' : Figures
  p' = delayed (wait_of p q) p

  abbrev q' : Figures
  q' = delayed (wait_of q p) q

  together : p'.a ≡ q'.a
  together = omega arith

  paced : (x : Bool) → JoinsSides x a' b' o → joined_pace p q x a b o
  paced true (m, f) = record {
    before = λ c l. same_at c ∙ ap is_some (da.before c l);
    no_end = λ c l. end_at c ∙ da.no_end c l;
    tuples = λ c. same_at (c + wait_of p q) ∙ ap is_some (da.tuples c);
    ends = λ c. end_at (c + wait_of p q) ∙ da.ends c;
  }
    where
      same_at : (c : ℕ) → is_some (o.tuple c) ≡ is_some (a'.tuple c)
      same_at c = let e : c ≡ c + 0 = omega arith in ap (λ (i : ℕ). is_some (o.tuple i)) e ∙ f.tuples c

      end_at : (c : ℕ) → o.ends c ≡ a'.ends c
      end_at c = m.ends c
  paced false m = with_ends a' b' o m

  one_wire : OfOneWire p.a q.a (λ t. None) a b → (c : ℕ) → is_some (a'.tuple c) ≡ is_some (b'.tuple c)
  one_wire w =
      let leaf = w.0 in
      let x : InStep (p.a + wait_of p q) leaf a' = follows_pace (wait_of p q) a a' (delayed_follows (wait_of p q) a a' da) (with_stream 0) p.a (λ k. leaf) w.1 in
      let y : InStep (q.a + wait_of q p) leaf b' = follows_pace (wait_of q p) b b' (delayed_follows (wait_of q p) b b' db) (with_stream 0) q.a (λ k. leaf) w.2 in
      same_cycles (p.a + wait_of p q) leaf a' b' x (subst (λ (n : ℕ). InStep n leaf b') (sym together) y)

  both_ends : BothWithEnds (λ t. None) a b → BothWithEnds (λ t. None) a' b'
  both_ends (x, y) = (
    follows_pace (wait_of p q) a a' (delayed_follows (wait_of p q) a a' da) once 0 (λ k. a) x,
    follows_pace (wait_of q p) b b' (delayed_follows (wait_of q p) b b' db) once 0 (λ k. b) y,
  )

  serves_by : (x : Bool) → (is_fixed p && is_fixed q) ≡ x → JoinsSides x a' b' o → ServesWhen2 (joins_when p q x) p q (by_fixed p' q' x) (never2 AreBeside) no_lines a b o
  serves_by true e (m, f) =
      padded_when (wait_of p q) (wait_of q p) p q (in_step p' q') (never2 AreBeside) no_lines (OfOneWire p.a q.a) SameCycles a a' b b' o da db (λ beats fa fb w. one_wire w)
      (beside_serves p' q' a' b' o (fixed_later (wait_of p q) p ∙ and_left (is_fixed p) (is_fixed q) e) (fixed_later (wait_of q p) q ∙ and_right (is_fixed p) (is_fixed q) e) together m)
  serves_by false e m =
      padded_when (wait_of p q) (wait_of q p) p q (at_end p' q') (never2 AreBeside) no_lines BothWithEnds BothWithEnds a a' b b' o da db (λ beats fa fb w. both_ends w)
      (joiner_serves p' q' a' b' o (delayed_sound (wait_of p q) p sound_p) (delayed_sound (wait_of q p) q sound_q) together m)

  serves : JoinsSides (is_fixed p && is_fixed q) a' b' o → ServesWhen2 (joins_when p q (is_fixed p && is_fixed q)) p q (beside_figures p q) (never2 AreBeside) no_lines a b o
  serves m =
      subst (λ (x : Bool). ServesWhen2 (joins_when p q (is_fixed p && is_fixed q)) p q (by_fixed p' q' x) (never2 AreBeside) no_lines a b o) (sym (both_fixed p q))
      (serves_by (is_fixed p && is_fixed q) refl m)

-- pads of both sides within one of all lines
pads_within : (m n pad x y : ℕ) → m + n ≡ pad → m * (x + 2) + n * (y + 2) ≤ pad * (x + y + 2)
pads_within m n pad x y e =
    let l = mul-le-mul_left m (let z : x + 2 ≤ x + y + 2 = omega arith in z) in
    let r = mul-le-mul_left n (let z : y + 2 ≤ x + y + 2 = omega arith in z) in
    let s : pad * (x + y + 2) ≡ m * (x + y + 2) + n * (x + y + 2) = ap (λ (i : ℕ). i * (x + y + 2)) (sym e) ∙ omega arith in
    omega (arith, l, r, s)

module _ (joiner_serves : JoinerServes) (follows_pace : FollowersKeepPace) (old n1 n2 n3 new : Net) (p q : Figures) (a b : Emitted) (first second out : Wire) (faults : Faults) (sound_p : IsSound p) (sound_q : IsSound q)
    (pad_a : IsPad old n1 (wait_of p q) a.wire first) (pad_b : IsPad n1 n2 (wait_of q p) b.wire second) (m : AreSides n2 n3 (is_fixed p && is_fixed q) first second out)
    (told : AreBoth n3 new a.faults b.faults faults) where
  abbrev columns_a : List ℕ
  columns_a = widths a.wire.columns

  abbrev columns_b : List ℕ
  columns_b = widths b.wire.columns

  costs : CostsAtMost old new (cost_of_joiner p q (columns_a ++ columns_b))
  costs = record {
    nodes = omega (arith, pad_a.cost.nodes, pad_b.cost.nodes, m.cost.nodes, told.cost.nodes, long, long_a, long_b, pads_within (wait_of p q) (wait_of q p) (pad_of p q) (length columns_a) (length columns_b) (one_pad p q), all);
    registers = omega (arith, pad_a.cost.registers, pad_b.cost.registers, m.cost.registers, told.cost.registers, sum_a, sum_b, bits, pads_within (wait_of p q) (wait_of q p) (pad_of p q) (sum columns_a) (sum columns_b) (one_pad p q));
    memories = omega (arith, pad_a.cost.memories, pad_b.cost.memories, m.cost.memories, told.cost.memories);
  }
    where
      long : length (columns_a ++ columns_b) ≡ length columns_a + length columns_b
      long = length-append columns_a columns_b

      wide : sum (columns_a ++ columns_b) ≡ sum columns_a + sum columns_b
      wide = sum_by-append (λ (x : ℕ). x) columns_a columns_b

      long_a : length (widths first.columns) ≡ length columns_a
      long_a = ap length pad_a.same_widths

      long_b : length (widths second.columns) ≡ length columns_b
      long_b = ap length pad_b.same_widths

      sum_a : sum (widths first.columns) ≡ sum columns_a
      sum_a = ap sum pad_a.same_widths

      sum_b : sum (widths second.columns) ≡ sum columns_b
      sum_b = ap sum pad_b.same_widths

      all : 8 * (length (columns_a ++ columns_b) + 2) * (pad_of p q + 4) ≡ 8 * (pad_of p q * (length columns_a + length columns_b + 2)) + 32 * (length columns_a + length columns_b + 2)
      all = ap (λ (n : ℕ). 8 * (n + 2) * (pad_of p q + 4)) long ∙ omega arith

      bits : (sum (columns_a ++ columns_b) + 2) * (pad_of p q + 2) ≡ pad_of p q * (sum columns_a + sum columns_b + 2) + 2 * (sum columns_a + sum columns_b + 2)
      bits = ap (λ (n : ℕ). (n + 2) * (pad_of p q + 2)) wide ∙ omega arith

  joins : (run : Run) → IsRun new run → IsJoinerIn run p q a b (record { wire = out; faults = faults })
  joins run r =
      let at_3 = told.keeps.runs run r in
      let at_2 = m.keeps.runs run at_3 in
      record {
        first = carried run first;
        second = carried run second;
        left_waits = pad_a.delayed run (pad_b.keeps.runs run at_2);
        right_waits = pad_b.delayed run at_2;
        joins = m.joins run at_3;
        told = told.lines run r;
      }

  pub joiner_of : IsJoinerOf old new p q a b (record { wire = out; faults = faults })
  joiner_of = record {
    behind = record {
      keeps = keeps_then old n1 new pad_a.keeps (keeps_then n1 n2 new pad_b.keeps (keeps_then n2 n3 new m.keeps told.keeps));
      cost = costs;
      wire = wire_kept n3 new out told.keeps m.wire;
      same_widths = m.same_widths ∙ ap (λ (ws : List ℕ). ws ++ widths second.columns) pad_a.same_widths ∙ ap (λ (ws : List ℕ). columns_a ++ ws) pad_b.same_widths;
      lines = told.are;
      paced = λ run r.
          let j = joins run r in
          paced joiner_serves follows_pace p q (carried run a.wire) (carried run b.wire) j.first j.second (carried run out) sound_p sound_q j.left_waits j.right_waits (is_fixed p && is_fixed q) j.joins;
      serves = λ run r.
          let j = joins run r in (
            no_lines,
            record { passed = λ c. j.told.passed c ∙ sym (or_none _); further = λ c. j.told.further c ∙ sym (or_none _) },
            serves joiner_serves follows_pace p q (carried run a.wire) (carried run b.wire) j.first j.second (carried run out) sound_p sound_q j.left_waits j.right_waits j.joins,
          );
    };
    joins = joins;
  }
