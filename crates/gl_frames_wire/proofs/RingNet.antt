-- A memory that is written at a place and read before it is a ring; so is one whose addresses are a slot above a place.
use Rattle.std.proofs.Common.{◌≡◌, ℕ, suc, ◌+◌, ◌*◌, ◌^◌, ◌<◌, Bool, true, false, refl, sym, ap, ◌∙◌, arith}
use Rattle.std.specs.Prelude.{◌&&◌, if◌then◌else◌, nat_eq}
use Rattle.std.proofs.lemmas.Bool.{eq-eqb, eqb-true, ne_eqb}
use Rattle.std.proofs.lemmas.Nat.{same_from_place}
use Rattle.gl_bits.specs.Words.{difference_of, join_of}
use Rattle.gl_net.specs.declared.node.Bus.{Bus}
use Rattle.gl_net.specs.declared.node.Bit.{Bit}
use Rattle.gl_net.specs.Net.{Run, stored_of}
use Rattle.gl_wire.specs.Wire.{line_at}
use Rattle.gl_wire_lanes.specs.Memories.{IsHeld}
use Rattle.gl_frames_wire.specs.RingNets.{lane_with}
use Rattle.gl_frames_wire.specs.Rings.{IsRing, place_before}

-- the place before is a difference in its width
pub before_is : (w k n : ℕ) → difference_of w n k ≡ place_before (2 ^ w) k n
unfolding difference_of
before_is w k n = refl

-- two addresses are one where their slots and places are
same_join : (w a b s p : ℕ) → b < 2 ^ w → p < 2 ^ w → nat_eq (join_of w a b) (join_of w s p) ≡ (nat_eq a s && nat_eq b p)
unfolding join_of
same_join w a b s p small less = by (nat_eq a s) (nat_eq b p) refl refl
  where
    by : (x y : Bool) → nat_eq a s ≡ x → nat_eq b p ≡ y → nat_eq (a * 2 ^ w + b) (s * 2 ^ w + p) ≡ (x && y)
    by true true f g = eq-eqb (a * 2 ^ w + b) (s * 2 ^ w + p) (ap (λ n. n * 2 ^ w + b) (eqb-true a s f) ∙ ap (λ n. s * 2 ^ w + n) (eqb-true b p g))
    by true false f g = ne_eqb (a * 2 ^ w + b) (s * 2 ^ w + p) (λ e. let q = (same_from_place a b s p (2 ^ w) small less e).1 in let z = eq-eqb b p q in cc (z, g))
    by false y f g = ne_eqb (a * 2 ^ w + b) (s * 2 ^ w + p) (λ e. let q = (same_from_place a b s p (2 ^ w) small less e).0 in let z = eq-eqb a s q in cc (z, f))

turned : {B : Type 0} (v x : Bool) (y z : B) → (if v && x then y else z) ≡ (if x && v then y else z)
turned true true y z = refl
turned true false y z = refl
turned false true y z = refl
turned false false y z = refl

stored_is : (write address word n before : ℕ) → stored_of write address word n before ≡ (if nat_eq write 1 && nat_eq address n then word else before)
unfolding stored_of
stored_is write address word n before = refl

line_is : (run : Run) (valid : Bit) (t : ℕ) → line_at run valid (suc t) ≡ nat_eq (run.at (suc t) valid.node) 1
unfolding line_at
line_is run valid t = refl

-- what stands at an address, by whether it is the one that is written and whether the line is 1
written_is : (run : Run) (valid : Bit) (t address n word before : ℕ) (here : Bool) → nat_eq address n ≡ here
    → stored_of (run.at (suc t) valid.node) address word n before ≡ (if here && line_at run valid (suc t) then word else before)
written_is run valid t address n word before here e =
    stored_is (run.at (suc t) valid.node) address word n before
    ∙ ap (λ (b : Bool). if nat_eq (run.at (suc t) valid.node) 1 && b then word else before) e
    ∙ turned (nat_eq (run.at (suc t) valid.node) 1) here word before
    ∙ ap (λ (b : Bool). if here && b then word else before) (sym (line_is run valid t))

module _ (run : Run) (valid : Bit) (place value before out : Bus) (size k : ℕ)
    (before_at : (t : ℕ) → run.at t before.node ≡ place_before size k (run.at t place.node))
    (held : IsHeld run valid place before value out) (ends first : ℕ → Bool) where
  pub ring_alone : IsRing size k (lane_with run valid (λ c. 0) ends first) (λ c. run.at c value.node) (λ c. run.at c place.node) (λ c. run.at c out.node)
  ring_alone = record {
    word = λ t s p. if nat_eq 0 s then held.word t p else 0;
    reads = λ c. held.reads (suc c) ∙ ap (held.word (suc c)) (before_at (suc c));
    leaves = λ c s p less. by c p (nat_eq 0 s);
  }
    where
      by : (c p : ℕ) (own : Bool) → (if own then held.word (suc (suc c)) p else 0)
          ≡ (if (own && nat_eq (run.at (suc c) place.node) p) && line_at run valid (suc c) then run.at (suc c) value.node else (if own then held.word (suc c) p else 0))
      by c p true =
          held.writes (suc c) p
          ∙ written_is run valid c (run.at (suc c) place.node) p (run.at (suc c) value.node) (held.word (suc c) p) (nat_eq (run.at (suc c) place.node) p) refl
      by c p false = refl

module _ (run : Run) (valid : Bit) (slot place value from to out : Bus) (size k : ℕ) (whole : 2 ^ place.width ≡ size)
    (small : (t : ℕ) → run.at t place.node < 2 ^ place.width)
    (from_is : (t : ℕ) → run.at t from.node ≡ join_of place.width (run.at t slot.node) (place_before size k (run.at t place.node)))
    (to_is : (t : ℕ) → run.at t to.node ≡ join_of place.width (run.at t slot.node) (run.at t place.node))
    (held : IsHeld run valid to from value out) (ends first : ℕ → Bool) where
  pub ring_of : IsRing size k (lane_with run valid (λ c. run.at c slot.node) ends first) (λ c. run.at c value.node) (λ c. run.at c place.node) (λ c. run.at c out.node)
  ring_of = record {
    word = λ t s p. held.word t (join_of place.width s p);
    reads = λ c. held.reads (suc c) ∙ ap (held.word (suc c)) (from_is (suc c));
    leaves = λ c s p less.
        let word = run.at (suc c) value.node in
        let before = held.word (suc c) (join_of place.width s p) in
        let fits : p < 2 ^ place.width = omega (arith, less, whole) in
        held.writes (suc c) (join_of place.width s p)
        ∙ written_is run valid c (run.at (suc c) to.node) (join_of place.width s p) word before (nat_eq (run.at (suc c) slot.node) s && nat_eq (run.at (suc c) place.node) p)
        (ap (λ n. nat_eq n (join_of place.width s p)) (to_is (suc c)) ∙ same_join place.width (run.at (suc c) slot.node) (run.at (suc c) place.node) s p (small (suc c)) fits);
  }
