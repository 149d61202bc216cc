-- A timer in place of a long row of registers, where ends are far enough apart.
use Rattle.std.proofs.Common.{◌≡◌, ℕ, zero, suc, ◌+◌, ◌-◌, ◌<◌, ◌≤◌, Bool, true, false, refl, sym, ap, ◌∙◌, arith, inl, inr}
use Rattle.std.specs.Prelude.{if◌then◌else◌, nat_eq, not, ◌&&◌, ◌||◌}
use Rattle.std.proofs.lemmas.Bool.{cases_lt, ne_eqb, eqb-true, and_parts}
use Rattle.gl_net.specs.declared.node.Bit.{Bit}
use Rattle.gl_net.specs.declared.node.Bus.{Bus}
use Rattle.gl_net.specs.Net.{Net, Run, IsRun, IsBit}
use Rattle.gl_net.proofs.Determined.{keeps_then}
use Rattle.gl_net.proofs.Growth.{same_keeps}
use Rattle.gl_wire.specs.Stages.{IsLaterLine}
use Rattle.gl_wire.specs.Wire.{line_at}
use Rattle.gl_wire.proofs.StageLemmas.{line_first}
use Rattle.gl_wire_registers.specs.Held.{held_at, counted_down}
use Rattle.gl_wire_registers.specs.Timers.{Timer, fires, ticked, timer_at, IsClose, IsLaterBy}

module _ (n : ℕ) (ends : ℕ → Bool) where
  record Set (c : ℕ) (t : Timer) : Type 0 where
    u : ℕ
    past : u < c
    end : ends u ≡ true
    time : u + 1 + n ≡ c + t.left_over
    quiet : (x : ℕ) → u < x → x < c → ends x ≡ false

  set_next : (c : ℕ) (t : Timer) (e : Bool) → ends c ≡ e → (t.on ≡ true → Set c t) → (ticked n e t).on ≡ true → Set (suc c) (ticked n e t)
  set_next c t true p h on = record { u = c; past = omega arith; end = p; time = omega arith; quiet = λ x l m. absurd (omega (arith, l, m)) }
  set_next c t false p h on = by (and_parts t.on (not (nat_eq t.left_over 0)) on)
    where
      some : (m : ℕ) → not (nat_eq m 0) ≡ true → 1 ≤ m
      some zero e = absurd (cc)
      some (suc m) e = omega arith

      by : (t.on ≡ true) × (not (nat_eq t.left_over 0) ≡ true) → Set (suc c) (ticked n false t)
      by (o, m) = let z = h o in let one = some t.left_over m in
          record { u = z.u; past = omega (arith, z.past); end = z.end; time = omega (arith, z.time, one); quiet = λ x l q. elim (cases_lt x c) [ inl y ↦ z.quiet x l y | inr y ↦ (let g : x ≡ c = omega (arith, q, y) in ap ends g ∙ p) ] }

  set_at : (c : ℕ) → (timer_at n ends c).on ≡ true → Set c (timer_at n ends c)
  set_at zero on = absurd (cc)
  set_at (suc c) on = set_next c (timer_at n ends c) (ends c) refl (set_at c) on

  -- it fires only then
  pub fired : (c : ℕ) → fires (timer_at n ends c) ≡ true → (u : ℕ) × (c ≡ u + 1 + n) × (ends u ≡ true)
  fired c h =
      let x = and_parts (timer_at n ends c).on (nat_eq (timer_at n ends c).left_over 0) h in
      let z = set_at c x.0 in
      let zero_left = eqb-true (timer_at n ends c).left_over 0 x.1 in
      (z.u, omega (arith, z.time, zero_left), z.end)

  -- and always where no other end comes in between
  running : (u k : ℕ) → ends u ≡ true → k ≤ n → ((x : ℕ) → u < x → x ≤ u + k → ends x ≡ false) → ((timer_at n ends (suc u + k)).on ≡ true) × ((timer_at n ends (suc u + k)).left_over ≡ n - k)
  running u zero p l quiet =
      let e : suc u + zero ≡ suc u = omega arith in
      let d : n - zero ≡ n = omega arith in
      rw (e, p, d) (refl, refl)
  running u (suc k) p l quiet =
      let ih = running u k p (omega (arith, l)) (λ x m q. quiet x m (omega (arith, q))) in
      let e : suc u + suc k ≡ suc (suc u + k) = omega arith in
      let calm : ends (suc u + k) ≡ false = quiet (suc u + k) (omega arith) (omega arith) in
      let more : nat_eq (n - k) 0 ≡ false = ne_eqb (n - k) 0 (λ q. omega (arith, q, l)) in
      rw (e, calm, ih.0, ih.1, more) (refl, omega arith)

  pub fires_late : (u : ℕ) → ends u ≡ true → ((x : ℕ) → u < x → x ≤ u + n → ends x ≡ false) → fires (timer_at n ends (u + 1 + n)) ≡ true
  fires_late u p quiet =
      let z = running u n p (omega arith) quiet in
      let at : u + 1 + n ≡ suc u + n = omega arith in
      let none : n - n ≡ 0 = omega arith in
      rw (at, z.0, z.1, none) refl

-- ---- the circuit of the timer

always_at : (run : Run) (one : Bit) → ((t : ℕ) → line_at run one (suc t) ≡ true) → (t : ℕ) (b : Bool) → line_at run one t ≡ b → (v : ℕ) → (t ≡ 0 → v ≡ 0) → (n : ℕ) (e : Bool) → counted_down n 0 e b v ≡ (if e then n else (v - 1))
always_at run one h t b is v blank n true = refl
always_at run one h zero false is v blank n false = let z = blank refl in rw z refl
always_at run one h (suc t) false is v blank n false = let a = h t in absurd (cc)
always_at run one h t true is v blank n false = by v
  where
    by : (v : ℕ) → (if nat_eq v 0 then 0 else (v - 1)) ≡ v - 1
    by zero = refl
    by (suc v) = let e : nat_eq (suc v) 0 ≡ false = ne_eqb (suc v) 0 (λ q. absurd (omega (arith, q))) in rw e refl

module _ (run : Run) (set one over on fired : Bit) (left : Bus) (n : ℕ)
    (is_one : (t : ℕ) → line_at run one (suc t) ≡ true)
    (is_left : (t : ℕ) → held_at 0 run left (suc t) ≡ counted_down n 0 (line_at run set t) (line_at run one t) (held_at 0 run left t))
    (is_over : (t : ℕ) → line_at run over t ≡ (line_at run one t && nat_eq (held_at 0 run left t) 0))
    (is_on : (t : ℕ) → line_at run on (suc t) ≡ (line_at run set t || (line_at run on t && not (line_at run over t))))
    (is_fired : (t : ℕ) → line_at run fired t ≡ (line_at run on t && nat_eq (held_at 0 run left t) 0)) where
  blank : (t : ℕ) → t ≡ 0 → held_at 0 run left t ≡ 0
  unfolding held_at
  blank zero e = refl
  blank (suc t) e = absurd (omega (arith, e))

  off : (t : ℕ) → t ≡ 0 → line_at run on t ≡ false
  unfolding line_at
  off zero e = refl
  off (suc t) e = absurd (omega (arith, e))

  -- a line that is off needs no test
  on_after : (t : ℕ) (b : Bool) → line_at run one t ≡ b → (line_at run on t && not (b && nat_eq (held_at 0 run left t) 0)) ≡ (line_at run on t && not (nat_eq (held_at 0 run left t) 0))
  on_after t true is = refl
  on_after zero false is = let z = off 0 refl in rw z refl
  on_after (suc t) false is = let a = is_one t in absurd (cc)

  left_next : (e : Bool) (t : Timer) → (ticked n e t).left_over ≡ (if e then n else (t.left_over - 1))
  left_next true t = refl
  left_next false t = refl

  on_next : (e : Bool) (t : Timer) → (ticked n e t).on ≡ (e || (t.on && not (nat_eq t.left_over 0)))
  on_next true t = refl
  on_next false t = refl

  same : (t : ℕ) → (held_at 0 run left t ≡ (timer_at n (line_at run set) t).left_over) × (line_at run on t ≡ (timer_at n (line_at run set) t).on)
  same zero = (blank 0 refl, off 0 refl)
  same (suc t) =
      let s = same t in (
        is_left t ∙ always_at run one is_one t (line_at run one t) refl (held_at 0 run left t) (blank t) n (line_at run set t) ∙ ap (λ v. if line_at run set t then n else (v - 1)) s.0 ∙ sym (left_next (line_at run set t) (timer_at n (line_at run set) t)),
        is_on t ∙ ap (λ b. line_at run set t || (line_at run on t && not b)) (is_over t) ∙ ap (λ b. line_at run set t || b) (on_after t (line_at run one t) refl)
            ∙ ap (λ b. line_at run set t || (b && not (nat_eq (held_at 0 run left t) 0))) s.1 ∙ ap (λ v. line_at run set t || ((timer_at n (line_at run set) t).on && not (nat_eq v 0))) s.0
            ∙ sym (on_next (line_at run set t) (timer_at n (line_at run set) t)),
      )

  pub timer_is : (t : ℕ) → line_at run fired t ≡ fires (timer_at n (line_at run set) t)
  timer_is t = let s = same t in is_fired t ∙ ap (λ b. b && nat_eq (held_at 0 run left t) 0) s.1 ∙ ap (λ v. (timer_at n (line_at run set) t).on && nat_eq v 0) s.0

-- ---- where ends are apart

module _ (n : ℕ) (ends : ℕ → Bool) where
  pub fires_at : ((u d : ℕ) → ends u ≡ true → ends d ≡ true → u < d → u + n < d) → (c : ℕ) → fires (timer_at n ends (c + (n + 1))) ≡ ends c
  fires_at apart c = by (ends c) refl (fires (timer_at n ends (c + (n + 1)))) refl
    where
      i : c + (n + 1) ≡ c + 1 + n
      i = omega arith

      quiet : ends c ≡ true → (x : ℕ) → c < x → x ≤ c + n → (b : Bool) → ends x ≡ b → ends x ≡ false
      quiet p x l m true q = let z = apart c x p q l in absurd (omega (arith, z, m))
      quiet p x l m false q = q

      by : (b : Bool) → ends c ≡ b → (f : Bool) → fires (timer_at n ends (c + (n + 1))) ≡ f → f ≡ ends c
      by true p f q = sym q ∙ ap (λ x. fires (timer_at n ends x)) i ∙ fires_late n ends c p (λ x l m. quiet p x l m (ends x) refl) ∙ sym p
      by false p false q = sym p
      by false p true q = let z = fired n ends (c + (n + 1)) q in let e : z.0 ≡ c = omega (arith, z.1) in let w : ends c ≡ true = ap ends (sym e) ∙ z.2 in absurd (cc)

  pub silent : (c : ℕ) → c < n + 1 → fires (timer_at n ends c) ≡ false
  silent c l = by (fires (timer_at n ends c)) refl
    where
      by : (f : Bool) → fires (timer_at n ends c) ≡ f → f ≡ false
      by false q = refl
      by true q = let z = fired n ends c q in absurd (omega (arith, z.1, l))

pub close_is : (n m : ℕ) (ends line close : ℕ → Bool) → ((t : ℕ) → line t ≡ fires (timer_at n ends t)) → ((t : ℕ) → t < m → close t ≡ false) → ((t : ℕ) → close (t + m) ≡ line t) → IsClose n (n + 1 + m) ends close
close_is n m ends line close is first later = record {
  before = λ c l. elim (cases_lt c m) [
    | inl z ↦ first c z
    | inr z ↦ (let e : c ≡ c - m + m = omega (arith, z) in ap close e ∙ later (c - m) ∙ is (c - m) ∙ silent n ends (c - m) (omega (arith, l, z)))
  ];
  later = λ apart c. let e : c + (n + 1 + m) ≡ c + (n + 1) + m = omega arith in ap close e ∙ later (c + (n + 1)) ∙ is (c + (n + 1)) ∙ fires_at n ends apart c;
}

-- one register more
pub later_none : (net : Net) (line : Bit) → IsBit net line → IsLaterBy net net 0 line line
later_none net line i = record {
  keeps = same_keeps net;
  bit = i;
  cost = record { nodes = omega arith; registers = omega arith; memories = omega arith };
  first = λ run r t l. absurd (omega (arith, l));
  later = λ run r t. let e : t + 0 ≡ t = omega arith in ap (line_at run line) e;
}

pub later_more : (old mid new : Net) (n : ℕ) (line last b : Bit) → IsLaterBy old mid n line last → IsLaterLine mid new last b → IsLaterBy old new (n + 1) line b
later_more old mid new n line last b h one = record {
  keeps = keeps_then old mid new h.keeps one.keeps;
  bit = one.bit;
  cost = record { nodes = omega (arith, one.cost.nodes, h.cost.nodes); registers = omega (arith, one.cost.registers, h.cost.registers); memories = omega (arith, one.cost.memories, h.cost.memories) };
  first = λ run r t l. before run r t l;
  later = λ run r t. let e : t + (n + 1) ≡ suc (t + n) = omega arith in ap (line_at run b) e ∙ one.line run r (t + n) ∙ h.later run (one.keeps.runs run r) t;
}
  where
    before : (run : Run) → IsRun new run → (t : ℕ) → t < n + 1 → line_at run b t ≡ false
    before run r zero l = line_first run b
    before run r (suc t) l = one.line run r t ∙ h.first run (one.keeps.runs run r) t (omega (arith, l))
