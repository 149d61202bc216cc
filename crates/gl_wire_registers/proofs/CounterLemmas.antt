-- Registers from the reset cycle on, and counters that do not wrap.
use Rattle.std.proofs.Common.{◌≡◌, ℕ, zero, suc, ◌+◌, ◌-◌, ◌<◌, ◌≤◌, ◌^◌, ◌%◌, ◌*◌, Bool, true, false, refl, sym, ap, ◌∙◌, arith, inl, inr}
use Rattle.std.specs.Prelude.{nat_eq, if◌then◌else◌, not, ◌&&◌, ◌||◌}
use Rattle.std.proofs.lemmas.Bool.{eq-eqb, ne_eqb, cases_lt}
use Rattle.std.proofs.lemmas.Nat.{mod-mul-add}
use Rattle.gl_bits.specs.Words.{difference_of, sum_of, choose_of}
use Rattle.gl_net.specs.declared.node.Bus.{Bus}
use Rattle.gl_net.specs.declared.node.Bit.{Bit}
use Rattle.gl_net.specs.Net.{Run}
use Rattle.gl_wire.specs.Wire.{line_at}
use Rattle.gl_wire.proofs.StageLemmas.{line_later}
use Rattle.gl_wire.proofs.GateLemmas.{choose_line}
use Rattle.gl_wire_registers.specs.Held.{held_at, counted_down, turned}

-- one law for every register with a reset value: its step holds from the reset cycle on, if the step of the reset cycle keeps the value
pub held_by : (run : Run) (b : Bus) (reset : ℕ) (step : ℕ → ℕ → ℕ) → run.at 1 b.node ≡ reset → ((t : ℕ) → run.at (suc (suc t)) b.node ≡ step (suc t) (run.at (suc t) b.node)) → step 0 reset ≡ reset
    → (t : ℕ) → held_at reset run b (suc t) ≡ step t (held_at reset run b t)
unfolding held_at
held_by run b reset step first next blank zero = first ∙ sym blank
held_by run b reset step first next blank (suc t) = next t

small : (v k : ℕ) → v < k → v % k ≡ v
small v k l = let e : v ≡ 0 * k + v = omega arith in ap (λ z. z % k) e ∙ mod-mul-add 0 k v l

-- one less where something is left
pub one_less : (w again v : ℕ) → v < 2 ^ w → (if nat_eq v 0 then again else difference_of w v 1) ≡ (if nat_eq v 0 then again else (v - 1))
unfolding difference_of
one_less w again zero l = refl
one_less w again (suc v) l =
    let e : suc v + (2 ^ w - 1) ≡ 1 * 2 ^ w + v = omega (arith, l) in
    let q : suc v - 1 ≡ v = omega arith in
    let ne : nat_eq (suc v) 0 ≡ false = ne_eqb (suc v) 0 (λ h. absurd (omega (arith, h))) in
    rw (ne, q) (ap (λ z. z % 2 ^ w) e ∙ mod-mul-add 1 (2 ^ w) v (omega (arith, l)))

-- one more where the last one is not reached
pub one_more : (w last v : ℕ) → v ≤ last → last < 2 ^ w → (if nat_eq v last then 0 else sum_of w v 1) ≡ (if nat_eq v last then 0 else (v + 1))
unfolding sum_of
one_more w last v l m = elim (cases_lt v last) [
  | inl h ↦ ap (λ z. if nat_eq v last then 0 else z) (small (v + 1) (2 ^ w) (omega (arith, h, m)))
  | inr h ↦ let e : v ≡ last = omega (arith, h, l) in let q = eq-eqb v last e in rw q refl
]

pub turned_below : (last v : ℕ) (tick : Bool) → v ≤ last → turned last tick v ≤ last
turned_below last v false l = l
turned_below last v true l = by (nat_eq v last) refl
  where
    by : (b : Bool) → nat_eq v last ≡ b → (if b then 0 else (v + 1)) ≤ last
    by true e = omega arith
    by false e = elim (cases_lt v last) [ inl h ↦ omega (arith, h) | inr h ↦ (let q : v ≡ last = omega (arith, h, l) in let z = eq-eqb v last q in absurd (cc)) ]

-- a pointer stays below its last value, so that its step is that of numbers
module _ (run : Run) (b : Bus) (start last : ℕ) (tick : ℕ → Bool) (calm : tick 0 ≡ false) (low : start ≤ last) (first : run.at 1 b.node ≡ start)
    (next : (t : ℕ) → run.at (suc t) b.node ≤ last → run.at (suc (suc t)) b.node ≡ turned last (tick (suc t)) (run.at (suc t) b.node)) where
  pointer_below : (t : ℕ) → run.at (suc t) b.node ≤ last
  pointer_below zero = omega (arith, first, low)
  pointer_below (suc t) = let l = pointer_below t in rw (next t l) (turned_below last (run.at (suc t) b.node) (tick (suc t)) l)

  pub pointer_by : (t : ℕ) → (held_at start run b t ≤ last) × (held_at start run b (suc t) ≡ turned last (tick t) (held_at start run b t))
  unfolding held_at
  pointer_by zero = (low, rw calm first)
  pointer_by (suc t) = (pointer_below t, next t (pointer_below t))

pub pointer_at : (run : Run) (b : Bus) (last : ℕ) (tick : Bit) → run.at 1 b.node ≡ 0 → ((t : ℕ) → run.at (suc t) b.node ≤ last → run.at (suc (suc t)) b.node ≡ turned last (line_at run tick (suc t)) (run.at (suc t) b.node))
    → (t : ℕ) → (held_at 0 run b t ≤ last) × (held_at 0 run b (suc t) ≡ turned last (line_at run tick t) (held_at 0 run b t))
unfolding line_at
pointer_at run b last tick first next = pointer_by run b 0 last (line_at run tick) refl (omega arith) first next

-- the latch
pub latch_at : (run : Run) (b set clear kept next : Bit) → run.at 1 b.node ≡ 0 → ((t : ℕ) → run.at (suc (suc t)) b.node ≡ run.at (suc t) next.node)
    → ((t : ℕ) → line_at run kept t ≡ (line_at run b t && not (line_at run clear t))) → ((t : ℕ) → line_at run next t ≡ (line_at run set t || line_at run kept t))
    → (t : ℕ) → line_at run b (suc t) ≡ (line_at run set t || (line_at run b t && not (line_at run clear t)))
latch_at run b set clear kept next first drive is_kept is_next t = line_later run next b first drive t ∙ is_next t ∙ ap (λ q. line_at run set t || q) (is_kept t)

-- a choice of a line, of known values
chosen_by : (b : Bool) (w again v : ℕ) → v < 2 ^ w → (if b then (if nat_eq v 0 then again else difference_of w v 1) else v) ≡ counted_down 0 again false b v
chosen_by true w again v l = one_less w again v l
chosen_by false w again v l = refl

pub count_next : (run : Run) (tick : Bit) (w again v less ticked kept t : ℕ) → v < 2 ^ w → less ≡ difference_of w v 1 → ticked ≡ (if nat_eq v 0 then again else less) → kept ≡ choose_of (run.at (suc t) tick.node) ticked v
    → kept ≡ counted_down 0 again false (line_at run tick (suc t)) v
count_next run tick w again v less ticked kept t l is_less is_ticked is_kept =
    is_kept ∙ choose_line run tick ticked v t
    ∙ ap (λ z. if line_at run tick (suc t) then z else v) (is_ticked ∙ ap (λ z. if nat_eq v 0 then again else z) is_less)
    ∙ chosen_by (line_at run tick (suc t)) w again v l

turned_by : (b : Bool) (w last v : ℕ) → v ≤ last → last < 2 ^ w → (if b then (if nat_eq v last then 0 else sum_of w v 1) else v) ≡ turned last b v
turned_by true w last v l m = one_more w last v l m
turned_by false w last v l m = refl

pub pointer_step : (run : Run) (tick : Bit) (w last v more ticked kept t : ℕ) → v ≤ last → last < 2 ^ w → more ≡ sum_of w v 1 → ticked ≡ (if nat_eq v last then 0 else more) → kept ≡ choose_of (run.at (suc t) tick.node) ticked v
    → kept ≡ turned last (line_at run tick (suc t)) v
pointer_step run tick w last v more ticked kept t l m is_more is_ticked is_kept =
    is_kept ∙ choose_line run tick ticked v t
    ∙ ap (λ z. if line_at run tick (suc t) then z else v) (is_ticked ∙ ap (λ z. if nat_eq v last then 0 else z) is_more)
    ∙ turned_by (line_at run tick (suc t)) w last v l m

-- a counter that a line clears
cleared_by : (b tick : Bool) (cleared again v : ℕ) → (if b then cleared else counted_down 0 again false tick v) ≡ counted_down cleared again b tick v
cleared_by true tick cleared again v = refl
cleared_by false true cleared again v = refl
cleared_by false false cleared again v = refl

pub counter_at : (run : Run) (b kept next : Bus) (clear tick : Bit) (start cleared again : ℕ) → run.at 1 b.node ≡ start → ((t : ℕ) → run.at (suc (suc t)) b.node ≡ run.at (suc t) next.node)
    → ((t : ℕ) → run.at (suc t) kept.node ≡ counted_down 0 again false (line_at run tick (suc t)) (run.at (suc t) b.node))
    → ((t : ℕ) → run.at (suc t) next.node ≡ (if line_at run clear (suc t) then cleared else run.at (suc t) kept.node))
    → (t : ℕ) → held_at start run b (suc t) ≡ counted_down cleared again (line_at run clear t) (line_at run tick t) (held_at start run b t)
unfolding line_at
counter_at run b kept next clear tick start cleared again first drive is_kept is_next =
    held_by run b start (λ t v. counted_down cleared again (line_at run clear t) (line_at run tick t) v) first
    (λ t. drive t ∙ is_next t ∙ ap (λ z. if line_at run clear (suc t) then cleared else z) (is_kept t)
    ∙ cleared_by (line_at run clear (suc t)) (line_at run tick (suc t)) cleared again (run.at (suc t) b.node))
    refl

pub same_node : (run : Run) (x y : Bit) (t : ℕ) → x.node ≡ y.node → line_at run x t ≡ line_at run y t
unfolding line_at
same_node run x y zero e = refl
same_node run x y (suc t) e = ap (λ n. nat_eq (run.at (suc t) n) 1) e
