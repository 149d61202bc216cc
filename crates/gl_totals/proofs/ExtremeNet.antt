-- Extremes: whether there was a value, and the best. In a register that is never cleared the best is what it holds where there was a value.
use Rattle.std.proofs.Common.{◌≡◌, ℕ, suc, ◌+◌, Bool, true, false, refl, sym, ap, ◌∙◌, arith}
use Rattle.std.specs.Prelude.{if◌then◌else◌, nat_eq, not, ◌&&◌, ◌||◌, bit_or}
use Rattle.std.specs.Int.Bits.{or_zero_r}
use Rattle.gl_bits.specs.Words.{choose_of}
use Rattle.gl_values.specs.declared.kind.Kind.{Kind}
use Rattle.gl_net.specs.declared.node.Bit.{Bit}
use Rattle.gl_net.specs.declared.node.Bus.{Bus}
use Rattle.gl_net.specs.Net.{Net, Run}
use Rattle.gl_net.proofs.Determined.{keeps_then}
use Rattle.gl_wire.specs.Wire.{line_at}
use Rattle.gl_wire_lanes.specs.Keeping.{IsKept, IsRegister}
use Rattle.gl_wire_lanes.specs.Lanes.{Begins, IsFresh}
use Rattle.gl_wire_lanes.proofs.SingleLemmas.{register_is_kept}
use Rattle.gl_totals.specs.Costs.{cost_of_extreme}
use Rattle.gl_totals.specs.Extremes.{HoldsBest, IsHeldBest}
use Rattle.gl_totals.specs.Folds.{IsFold, IsFolded, better, is_better, next_of}
use Rattle.gl_totals.specs.Open.{in_register, lane_by, values_at}
use Rattle.gl_totals.specs.Totals.{IsTotalOf, extreme_of}
use Rattle.gl_totals.specs.declared.fold.Best.{Best}
use Rattle.gl_totals.specs.declared.fold.Extreme.{Extreme}
use Rattle.gl_totals.specs.declared.fold.Fold.{Fold}
use Rattle.gl_totals.specs.declared.fold.Step.TheVariants.{Keep, Set}
use Rattle.gl_totals.specs.declared.rows.Keep.TheVariants.{Register}
use Rattle.gl_totals.specs.declared.rows.Rows.{Rows}
use Rattle.gl_totals.proofs.FoldLemmas.{folds_second, kept_is_register}
use Rattle.gl_totals.proofs.FoldNet.{better_is}
use Rattle.gl_totals.proofs.TotalLemmas.{best_step, folds_best}

-- ---- what a register takes

chosen_line : (b : Bool) (x y : ℕ) → nat_eq (if b then x else y) 1 ≡ (if b then nat_eq x 1 else nat_eq y 1)
chosen_line true x y = refl
chosen_line false x y = refl

-- a choice between two lines
pub line_chosen : (run : Run) (test left right out : Bit) (t : ℕ) → run.at (suc t) out.node ≡ choose_of (run.at (suc t) test.node) (run.at (suc t) left.node) (run.at (suc t) right.node)
    → line_at run out (suc t) ≡ (if line_at run test (suc t) then line_at run left (suc t) else line_at run right (suc t))
unfolding line_at choose_of
line_chosen run test left right out t e =
    ap (λ (n : ℕ). nat_eq n 1) e ∙ chosen_line (nat_eq (run.at (suc t) test.node) 1) (run.at (suc t) left.node) (run.at (suc t) right.node)

pub value_taken : (counts row wins : Bool) → (if counts then row && wins else row) ≡ (row && (wins || not counts))
value_taken true true true = refl
value_taken true true false = refl
value_taken true false wins = refl
value_taken false true true = refl
value_taken false true false = refl
value_taken false false wins = refl

pub not_both : (row wins counts : Bool) → ((row && (wins || not counts)) && (counts && not (row && wins))) ≡ false
not_both true true true = refl
not_both true true false = refl
not_both true false true = refl
not_both true false false = refl
not_both false wins counts = refl

pub or_picked : (a b : Bool) (x y : ℕ) → (a && b) ≡ false → bit_or (if a then x else 0) (if b then y else 0) ≡ (if a then x else if b then y else 0)
or_picked true true x y p = absurd (cc)
or_picked true false x y p = or_zero_r x
or_picked false true x y p = refl
or_picked false false x y p = refl

pub picked_is : (row counts : Bool) (extreme : Extreme) (kind : Kind) (state x : ℕ)
    → (if row && (is_better extreme kind state x || not counts) then x else if counts && not (row && is_better extreme kind state x) then state else 0)
    ≡ (if row then (if counts then better extreme kind state x else x) else if counts then state else 0)
picked_is true true extreme kind state x = by (is_better extreme kind state x) ∙ better_is extreme kind state x
  where
    by : (b : Bool) → (if b || false then x else if not b then state else 0) ≡ (if b then x else state)
    by true = refl
    by false = refl
picked_is true false extreme kind state x = by (is_better extreme kind state x)
  where
    by : (b : Bool) → (if b || true then x else 0) ≡ x
    by true = refl
    by false = refl
picked_is false true extreme kind state x = refl
picked_is false false extreme kind state x = refl

-- ---- extremes

some_line : (run : Run) (some' : Bit) (flag : Bus) → some'.node ≡ flag.node → (t : ℕ) → line_at run some' (suc t) ≡ nat_eq (run.at (suc t) flag.node) 1
unfolding line_at
some_line run some' flag same t = ap (λ (n : ℕ). nat_eq (run.at (suc t) n) 1) same

-- from two states: whether there was a value, and the best
module _ (run : Run) (rows : Rows) (width : ℕ) (best : Best) (flag flag_now : Bus) (before now : ℕ → ℕ) (same : best.some.node ≡ flag.node)
    (counts : IsFolded run 1 0 Set rows flag flag_now) (kept : IsKept 0 (lane_by run rows) before now)
    (with_row : (t : ℕ) → now (suc t) ≡ (if line_at run rows.valid (suc t) then next_of (Keep best) run width (suc t) (before (suc t)) else before (suc t)))
    (begins : Begins (lane_by run rows)) where
  pub extreme_now : (t : ℕ) → IsFresh (lane_by run rows) (suc t) → now (suc t) ≡ extreme_of best.extreme best.kind (values_at run rows best.value (suc t))
  extreme_now t fresh =
      folds_second run rows best.value (best_step best.extreme best.kind) 0 0 (λ c. run.at c flag.node) (λ c. run.at c flag_now.node) before now counts.kept kept counts.with_row
      (λ c. with_row c ∙ ap (λ (b : Bool). if line_at run rows.valid (suc c) then (if b then better best.extreme best.kind (before (suc c)) (run.at (suc c) best.value.node)
      else run.at (suc c) best.value.node) else before (suc c)) (some_line run best.some flag same c)) begins t fresh
      ∙ folds_best best.extreme best.kind (values_at run rows best.value (suc t))

-- in a register that is never cleared
module _ (run : Run) (valid eos : Bit) (best : Best) (flag flag_now now : Bus) (same : best.some.node ≡ flag.node)
    (counts : IsFolded run 1 0 Set (in_register valid eos) flag flag_now) (h : HoldsBest run valid best now) where
  -- what it holds counts where there was a value
  abbrev before : ℕ → ℕ
  before t = if line_at run best.some t then h.word t else 0

  flags : IsRegister 0 (line_at run eos) (λ t. run.at t flag.node) (λ t. run.at t flag_now.node)
  flags = kept_is_register 0 (line_at run valid) (line_at run eos) (λ t. run.at t flag.node) (λ t. run.at t flag_now.node) counts.kept
      (λ t none. counts.with_row t ∙ ap (λ (b : Bool). if b then 1 else run.at (suc t) flag.node) none)

  start : before 1 ≡ 0
  start = ap (λ (b : Bool). if b then h.word 1 else 0) (some_line run best.some flag same 0 ∙ ap (λ (n : ℕ). nat_eq n 1) flags.start)

  counts_next : (t : ℕ) → line_at run best.some (suc (suc t))
      ≡ nat_eq (if line_at run eos (suc t) then 0 else (if line_at run valid (suc t) then 1 else run.at (suc t) flag.node)) 1
  counts_next t =
      some_line run best.some flag same (suc t)
      ∙ ap (λ (n : ℕ). nat_eq n 1) (flags.next t ∙ ap (λ (n : ℕ). if line_at run eos (suc t) then 0 else n) (counts.with_row t))

  next : (t : ℕ) → before (suc (suc t)) ≡ (if line_at run eos (suc t) then 0 else run.at (suc t) now.node)
  next t =
      ap (λ (b : Bool). if b then h.word (suc (suc t)) else 0) (counts_next t)
      ∙ ap (λ (n : ℕ). if nat_eq (if line_at run eos (suc t) then 0 else (if line_at run valid (suc t) then 1 else run.at (suc t) flag.node)) 1 then n else 0) (h.follows t)
      ∙ by (line_at run eos (suc t)) (line_at run valid (suc t)) (line_at run best.some (suc t)) (run.at (suc t) flag.node) _ (h.word (suc t)) (run.at (suc t) now.node)
      (sym (some_line run best.some flag same t)) (h.takes t)
    where
      by : (e v s : Bool) (n x w m : ℕ) → nat_eq n 1 ≡ s → m ≡ (if v then x else if s then w else 0)
          → (if nat_eq (if e then 0 else (if v then 1 else n)) 1 then m else 0) ≡ (if e then 0 else m)
      by true v s n x w m p q = refl
      by false true s n x w m p q = refl
      by false false true n x w m p q = ap (λ (b : Bool). if b then m else 0) p
      by false false false n x w m p q = ap (λ (b : Bool). if b then m else 0) p ∙ sym q

  stepped : (t : ℕ) → run.at (suc t) now.node
      ≡ (if line_at run valid (suc t) then next_of (Keep best) run best.value.width (suc t) (before (suc t)) else before (suc t))
  stepped t = h.takes t ∙ by (line_at run valid (suc t)) (line_at run best.some (suc t)) (h.word (suc t)) (run.at (suc t) best.value.node)
    where
      by : (v s : Bool) (w x : ℕ) → (if v then (if s then better best.extreme best.kind w x else x) else if s then w else 0)
          ≡ (if v then (if s then better best.extreme best.kind (if s then w else 0) x else x) else (if s then w else 0))
      by true true w x = refl
      by true false w x = refl
      by false s w x = refl

  kept : IsKept 0 (lane_by run (in_register valid eos)) before (λ t. run.at t now.node)
  kept = register_is_kept 0 (line_at run valid) (line_at run eos) before (λ t. run.at t now.node) (record { start = start; next = next })
      (λ t none. stepped t ∙ ap (λ (b : Bool). if b then next_of (Keep best) run best.value.width (suc t) (before (suc t)) else before (suc t)) none)

  pub held_now : Begins (lane_by run (in_register valid eos)) → (t : ℕ) → IsFresh (lane_by run (in_register valid eos)) (suc t)
      → run.at (suc t) now.node ≡ extreme_of best.extreme best.kind (values_at run (in_register valid eos) best.value (suc t))
  held_now begins t fresh = extreme_now run (in_register valid eos) best.value.width best flag flag_now before (λ t. run.at t now.node) same counts kept stepped begins t fresh

-- the extreme of what a bit and such a register hold
pub held_total : (old mid new : Net) (valid eos : Bit) (best : Best) (flag : Fold) (now : Bus) → best.some.node ≡ flag.before.node
    → IsFold old mid 1 0 Set (in_register valid eos) flag → IsHeldBest mid new valid best now
    → IsTotalOf old new (cost_of_extreme Register best.value.width) best.value.width 0 (in_register valid eos) best.value (extreme_of best.extreme best.kind) now
held_total old mid new valid eos best flag now same some' h = record {
  keeps = keeps_then old mid new some'.keeps h.keeps;
  cost = record {
    nodes = omega (arith, some'.cost.nodes, h.cost.nodes);
    registers = omega (arith, some'.cost.registers, h.cost.registers);
    memories = omega (arith, some'.cost.memories, h.cost.memories);
  };
  bus = h.bus;
  same_width = h.same_width;
  carries = λ run r told t fresh.
      let e : suc t + 0 ≡ suc t = omega arith in
      ap (λ (n : ℕ). run.at n now.node) e
      ∙ held_now run valid eos best flag.before flag.now now same (some'.folded run (h.keeps.runs run r) told.led) (h.held run r) told.begins t fresh;
}
