-- The timer of a spacer.
use Rattle.std.proofs.Common.{◌≡◌, ℕ, zero, suc, ◌+◌, ◌-◌, ◌%◌, ◌^◌, ◌<◌, List, Bool, true, false, refl, sym, ap, ◌∙◌, subst, arith}
use mathlib.Core.Path.{fun_ext}
use Rattle.std.specs.Prelude.{not, ◌&&◌, if◌then◌else◌, nat_eq, nat_lt}
use Rattle.std.proofs.lemmas.Bool.{lt-ltb}
use Rattle.std.proofs.Math.Nat.{mod-eq_of_lt, add-mod_left}
use Rattle.gl_bits.specs.Words.{bit, choose_of, difference_of, lt_of}
use Rattle.gl_bits.proofs.Numbers.{not_zero}
use Rattle.gl_net.specs.declared.node.Bus.{Bus}
use Rattle.gl_net.specs.declared.node.Bit.{Bit}
use Rattle.gl_net.specs.Net.{Run}
use Rattle.gl_wire.specs.Wire.{line_at, tuple_at}
use Rattle.gl_wire.proofs.StageLemmas.{line_first}
use Rattle.gl_queue.specs.declared.pacing.Paced.{Paced}
use Rattle.gl_queue.specs.Queue.{IsQueue}
use Rattle.gl_queue.specs.SpacerLines.{count_at, IsPacing}

above_zero : (n : ℕ) → nat_eq (lt_of 0 n) 1 ≡ not (nat_eq n 0)
unfolding lt_of
above_zero zero = refl
above_zero (suc n) =
    let e : nat_eq (bit (nat_lt 0 (suc n))) 1 ≡ true = ap (λ (b : Bool). nat_eq (bit b) 1) (lt-ltb 0 (suc n) (omega arith)) in
    let f : true ≡ not (nat_eq (suc n) 0) = sym (ap not (not_zero n)) in
    e ∙ f

pub hold_is : (run : Run) (zero' timer : Bus) (hold : Bit) → ((t : ℕ) → run.at t zero'.node ≡ 0) → ((t : ℕ) → run.at t hold.node ≡ lt_of (run.at t zero'.node) (run.at t timer.node))
    → (t : ℕ) → line_at run hold t ≡ not (nat_eq (count_at run timer t) 0)
unfolding line_at
hold_is run z timer hold is above zero = refl
hold_is run z timer hold is above (suc t) = ap (λ (n : ℕ). nat_eq n 1) (above (suc t) ∙ ap (λ (n : ℕ). lt_of n (run.at (suc t) timer.node)) (is (suc t))) ∙ above_zero (run.at (suc t) timer.node)

-- one less, in 32 bits
one_less : (n : ℕ) → n < 2 ^ 32 → nat_eq n 0 ≡ false → difference_of 32 n 1 ≡ n - 1
unfolding difference_of
one_less zero l h = absurd (cc h)
one_less (suc n) l h =
    let e : suc n + (2 ^ 32 - 1) ≡ 2 ^ 32 + n = omega arith in
    let s : n < 2 ^ 32 = omega (arith, l) in
    ap (λ (i : ℕ). i % 2 ^ 32) e ∙ add-mod_left (2 ^ 32) n ∙ mod-eq_of_lt s ∙ omega arith

down_is : (n : ℕ) (b : Bool) → n < 2 ^ 32 → b ≡ not (nat_eq n 0) → (if b then difference_of 32 n 1 else 0) ≡ n - 1
down_is n true l h = one_less n l (off (nat_eq n 0) h)
  where
    off : (x : Bool) → true ≡ not x → x ≡ false
    off true p = absurd (cc p)
    off false p = refl
down_is zero false l h = omega arith
down_is (suc n) false l h = absurd (let z : false ≡ true = h ∙ ap not (not_zero n) in cc z)

pub next_is : (run : Run) (number : ℕ) (timer zero' one full less down next : Bus) (hold start : Bit) → ((t : ℕ) → run.at t timer.node < 2 ^ 32) → ((t : ℕ) → run.at t zero'.node ≡ 0) → ((t : ℕ) → run.at t one.node ≡ 1)
    → ((t : ℕ) → run.at t full.node ≡ number - 1) → ((t : ℕ) → run.at t less.node ≡ difference_of 32 (run.at t timer.node) (run.at t one.node))
    → ((t : ℕ) → run.at t down.node ≡ choose_of (run.at t hold.node) (run.at t less.node) (run.at t zero'.node))
    → ((t : ℕ) → run.at t next.node ≡ choose_of (run.at t start.node) (run.at t full.node) (run.at t down.node))
    → ((t : ℕ) → line_at run hold t ≡ not (nat_eq (count_at run timer t) 0)) → (t : ℕ) → run.at (suc t) next.node ≡ (if line_at run start (suc t) then number - 1 else run.at (suc t) timer.node - 1)
unfolding choose_of line_at
next_is run number timer z one full less down next hold start low zeros ones fulls lesses downs nexts holds t =
    nexts (suc t) ∙ rw (fulls (suc t), step) refl
  where
    step : run.at (suc t) down.node ≡ run.at (suc t) timer.node - 1
    step = downs (suc t) ∙ ap (λ (n : ℕ). if nat_eq (run.at (suc t) hold.node) 1 then n else run.at (suc t) z.node) (lesses (suc t) ∙ ap (λ (n : ℕ). difference_of 32 (run.at (suc t) timer.node) n) (ones (suc t)))
        ∙ ap (λ (n : ℕ). if nat_eq (run.at (suc t) hold.node) 1 then difference_of 32 (run.at (suc t) timer.node) 1 else n) (zeros (suc t))
        ∙ down_is (run.at (suc t) timer.node) (nat_eq (run.at (suc t) hold.node) 1) (low (suc t)) (holds (suc t))

twice : (b : Bool) → not (not b) ≡ b
twice true = refl
twice false = refl

pub pacing_is : (run : Run) (depth g : ℕ) (push hold : Bit) (columns : List Bus) (timer next : Bus) (p : Paced) → ((t : ℕ) → line_at run hold t ≡ not (nat_eq (count_at run timer t) 0))
    → IsQueue depth (tuple_at run push columns) (λ c. not (line_at run hold c)) (tuple_at run p.queue.some p.queue.columns) (line_at run p.queue.passed)
    → ((t : ℕ) → line_at run p.pop t ≡ line_at run p.queue.some t && not (line_at run hold t)) → run.at 1 timer.node ≡ 0
    → ((t : ℕ) → run.at (suc (suc t)) timer.node ≡ run.at (suc t) next.node)
    → ((t : ℕ) → run.at (suc t) next.node ≡ (if line_at run p.pop (suc t) then g - 1 else run.at (suc t) timer.node - 1)) → IsPacing run depth g push columns p
pacing_is run depth g push hold columns timer next p holds queue pops start later nexts = record {
  timer = count_at run timer;
  first = refl;
  pops = λ t. pops t ∙ ap (λ (b : Bool). line_at run p.queue.some t && b) (go_is t);
  next = step;
  queue = subst (λ (v : ℕ → Bool). IsQueue depth (tuple_at run push columns) v (tuple_at run p.queue.some p.queue.columns) (line_at run p.queue.passed)) (fun_ext go_is) queue;
}
  where
    go_is : (c : ℕ) → not (line_at run hold c) ≡ nat_eq (count_at run timer c) 0
    go_is c = ap not (holds c) ∙ twice (nat_eq (count_at run timer c) 0)

    step : (t : ℕ) → count_at run timer (suc t) ≡ (if line_at run p.pop t then g - 1 else count_at run timer t - 1)
    step zero = start ∙ sym (rw (line_first run p.pop) (omega arith))
    step (suc t) = later t ∙ nexts t
