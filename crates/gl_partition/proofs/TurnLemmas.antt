-- Whose turn it is after an end, and which row the one that ends takes.
use Rattle.std.proofs.Common.{◌≡◌, ℕ, zero, suc, ◌+◌, ◌-◌, ◌*◌, ◌<◌, ◌≤◌, List, Option, Some, None, Bool, true, false, refl, sym, ap, ◌∙◌, subst, arith, inl, inr}
use Rattle.std.specs.Prelude.{not, ◌&&◌, ◌||◌, if◌then◌else◌, is_some, nat_eq, nat_le, nat_lt}
use Rattle.std.proofs.lemmas.Bool.{cases_lt, eq-eqb, eqb-true, le-leb, leb-true, lt-ltb, ltb-true, ne_eqb}
use Rattle.std.proofs.Math.Bool.{and-true, and-false}
use Rattle.gl_values.specs.Results.{Row}
use Rattle.gl_bits.proofs.Bools.{and_both, and_parts, same_when}
use Rattle.gl_net.specs.declared.node.Bit.{Bit}
use Rattle.gl_net.specs.declared.node.Bus.{Bus}
use Rattle.gl_net.specs.Net.{Run}
use Rattle.gl_wire.specs.Wire.{line_at}
use Rattle.gl_wire_registers.specs.Held.{counted_down, held_at}
use Rattle.gl_wire.proofs.NumberLemmas.{mul_below}
use Rattle.gl_slots.specs.Slots.{Slots, slots_next}
use Rattle.gl_slots.proofs.MachineLemmas.{tuple_of}
use Rattle.gl_partition.specs.Machine.{is_due}

-- ---- the slot that has its turn

-- whether one has it
abbrev pub turning : Bool → Option Row → Slots → Bool
turning true o s = false
turning false (Some r) s = false
turning false None s = s.flush && nat_eq s.wait 0

pub due_parts : (copies i : ℕ) (e : Bool) (o : Option Row) (s : Slots) → is_due copies i e o s ≡ (turning e o s && (nat_lt (i * copies) s.turn && nat_le s.turn (i * copies + copies)))
due_parts copies i true o s = refl
due_parts copies i false (Some r) s = refl
due_parts copies i false None s = refl

pub turning_is : (e v : Bool) (x : Row) (s : Slots) (f : Bool) (n : ℕ) → f ≡ s.flush → n ≡ s.wait → ((f && not (v || e)) && nat_eq n 0) ≡ turning e (tuple_of v x) s
turning_is true true x s f n is_f is_n = rw (and-false f) refl
turning_is true false x s f n is_f is_n = rw (and-false f) refl
turning_is false true x s f n is_f is_n = rw (and-false f) refl
turning_is false false x s f n is_f is_n = rw (and-true f, is_f, is_n) refl

pub in_flush : (e : Bool) (o : Option Row) (s : Slots) → turning e o s ≡ true → s.flush ≡ true
in_flush true o s h = absurd (cc)
in_flush false (Some r) s h = absurd (cc)
in_flush false None s h = (and_parts s.flush (nat_eq s.wait 0) h).0

-- the turns of an end so far: all of some slots, and so many of the next one's
pub record Turned (slots copies turn within rest : ℕ) : Type 0 where
  pub slot : ℕ
  pub past : ℕ
  pub below : past < copies
  pub is_turn : turn ≡ slot * copies + past + 1
  pub is_rest : rest ≡ slots - slot
  pub is_within : within ≡ copies - 1 - past

one_less : (n : ℕ) → (if nat_eq n 0 then 0 else (n - 1)) ≡ n - 1
one_less zero = refl
one_less (suc n) = let e = ne_eqb (suc n) 0 (λ h. absurd (omega (arith, h))) in rw e refl

turned_on : (slots copies : ℕ) → 1 ≤ copies → (d : Bool) (turn within rest : ℕ) → Turned slots copies turn within rest
    → Turned slots copies (if d then suc turn else turn) (counted_down (copies - 1) (copies - 1) false d within) (counted_down slots 0 false (d && nat_eq within 0) rest)
turned_on slots copies some false turn within rest was = was
turned_on slots copies some true turn within rest was = elim (cases_lt (was.past + 1) copies) [
  | inl l ↦
      (let more : nat_eq within 0 ≡ false = ne_eqb within 0 (λ e. omega (arith, e, was.is_within, l)) in
      subst (λ (b : Bool). Turned slots copies (suc turn) (if b then copies - 1 else (within - 1)) (counted_down slots 0 false b rest)) (sym more)
      (record { slot = was.slot; past = was.past + 1; below = l; is_turn = omega (arith, was.is_turn); is_rest = was.is_rest; is_within = omega (arith, was.is_within, l) }))
  | inr l ↦
      (let none : nat_eq within 0 ≡ true = eq-eqb within 0 (omega (arith, was.is_within, l)) in
      subst (λ (b : Bool). Turned slots copies (suc turn) (if b then copies - 1 else (within - 1)) (counted_down slots 0 false b rest)) (sym none)
      (record {
        slot = was.slot + 1;
        past = 0;
        below = omega (arith, some);
        is_turn = omega (arith, was.is_turn, was.below, l);
        is_rest = one_less rest ∙ omega (arith, was.is_rest);
        is_within = omega arith;
      }))
]

pub turned_next : (slots copies stride : ℕ) → 1 ≤ copies → (s : Slots) (e : Bool) (o : Option Row) (ks : List ℕ) (within rest : ℕ) → (s.flush ≡ true → Turned slots copies s.turn within rest) → (slots_next stride e o ks s).flush ≡ true
    → Turned slots copies (slots_next stride e o ks s).turn (counted_down (copies - 1) (copies - 1) e (turning e o s) within) (counted_down slots 0 e (turning e o s && nat_eq within 0) rest)
turned_next slots copies stride some s true o ks within rest was h = record { slot = 0; past = 0; below = omega (arith, some); is_turn = omega arith; is_rest = omega arith; is_within = omega arith }
turned_next slots copies stride some s false (Some r) ks within rest was h = absurd (cc)
turned_next slots copies stride some s false None ks within rest was h = turned_on slots copies some (s.flush && nat_eq s.wait 0) s.turn within rest (was h)

pub slot_test : (slots copies i turn within rest : ℕ) → i < slots → Turned slots copies turn within rest → nat_eq rest (slots - i) ≡ (nat_lt (i * copies) turn && nat_le turn (i * copies + copies))
slot_test slots copies i turn within rest l was = same_when (nat_eq rest (slots - i)) (nat_lt (i * copies) turn && nat_le turn (i * copies + copies)) there back
  where
    there : nat_eq rest (slots - i) ≡ true → (nat_lt (i * copies) turn && nat_le turn (i * copies + copies)) ≡ true
    there h =
        let e : rest ≡ slots - i = eqb-true rest (slots - i) h in
        let same : was.slot ≡ i = omega (arith, e, was.is_rest, l) in
        let all : was.slot * copies ≡ i * copies = ap (λ v. v * copies) same in
        and_both (nat_lt (i * copies) turn) (nat_le turn (i * copies + copies)) (lt-ltb (i * copies) turn (omega (arith, all, was.is_turn))) (le-leb turn (i * copies + copies) (omega (arith, all, was.is_turn, was.below)))

    back : (nat_lt (i * copies) turn && nat_le turn (i * copies + copies)) ≡ true → nat_eq rest (slots - i) ≡ true
    back h =
        let both = and_parts (nat_lt (i * copies) turn) (nat_le turn (i * copies + copies)) h in
        let low : i * copies < turn = ltb-true (i * copies) turn both.0 in
        let high : turn ≤ i * copies + copies = leb-true turn (i * copies + copies) both.1 in
        let up : i < was.slot + 1 = mul_below i (was.slot + 1) copies (omega (arith, low, was.is_turn, was.below)) in
        let down : was.slot < i + 1 = mul_below was.slot (i + 1) copies (omega (arith, high, was.is_turn)) in
        eq-eqb rest (slots - i) (omega (arith, up, down, was.is_rest))

-- whether a line is 1 and a register holds a number: in the reset cycle it is not, whatever the register was
pub any_reset : (run : Run) (x : Bit) (b : Bus) (reset k t : ℕ) → (line_at run x t && nat_eq (held_at 0 run b t) k) ≡ (line_at run x t && nat_eq (held_at reset run b t) k)
unfolding line_at held_at
any_reset run x b reset k zero = refl
any_reset run x b reset k (suc t) = refl

pub and_same : (d a b : Bool) → (d ≡ true → a ≡ b) → (d && a) ≡ (d && b)
and_same true a b h = h refl
and_same false a b h = refl

-- ---- the row that the one that ends takes

pub tail_by : (e v : Bool) (x : Row) (f hd : Bool) (held : Option Row) (row : Row) → (f ≡ true → held ≡ (if hd then Some row else None))
    → ((e && v) || ((f && not (v || e)) && hd)) ≡ ((e && is_some (tuple_of v x)) || (f && not (e || is_some (tuple_of v x)) && is_some held))
tail_by true true x f hd held row is = refl
tail_by true false x true hd held row is = refl
tail_by true false x false hd held row is = refl
tail_by false true x true hd held row is = refl
tail_by false true x false hd held row is = refl
tail_by false false x false hd held row is = refl
tail_by false false x true hd held row is = by hd ∙ sym (ap is_some (is refl))
  where
    by : (b : Bool) → b ≡ is_some (if b then Some row else None)
    by true = refl
    by false = refl

pub some_is : (b : Bool) (p x : Row) → (if b then Some p else None) ≡ Some x → p ≡ x
some_is true p x h = cc
some_is false p x h = absurd (cc)

pub none_is : (b : Bool) (p : Row) → (if b then Some p else None) ≡ None → b ≡ false
none_is true p h = absurd (cc)
none_is false p h = refl

pub some_so : (b : Bool) (p x : Row) → (if b then Some p else None) ≡ Some x → b ≡ true
some_so true p x h = refl
some_so false p x h = absurd (cc)
