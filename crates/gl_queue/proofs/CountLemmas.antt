-- The costs of the blocks against what a plan counts.
use Rattle.std.proofs.Common.{◌≡◌, ℕ, ◌+◌, ◌*◌, ◌≤◌, List, length, Bool, sym, subst, arith}
use Rattle.std.specs.Prelude.{if◌then◌else◌}
use Rattle.std.specs.List.{sum}
use Rattle.std.proofs.Math.Nat.{mul-le-mul_left}
use Rattle.gl_algebra.specs.Cost.{ring}
use Rattle.gl_algebra.specs.declared.figures.Figures.{Figures}
use Rattle.gl_algebra.specs.Weights.{pad_of}
use Rattle.gl_wire.specs.Counted.{AreNarrow, IsCounted}
use Rattle.gl_wire.proofs.CountLemmas.{narrow_sum}
use Rattle.gl_queue.specs.Counted.{JoinersAreCounted, SpacersAreCounted, UnionsAreCounted}
use Rattle.gl_queue.specs.Spacers.{cost_of_spacer}

-- as many bits in a place for each line of a pad
bits_within : (bits columns pad : ℕ) → bits ≤ columns * 64 → (bits + 2) * (pad + 2) ≤ 64 * (columns * pad) + 128 * columns + 2 * pad + 4
bits_within bits columns pad h =
    let e : (bits + 2) * (pad + 2) ≡ (pad + 2) * (bits + 2) = omega arith in
    let m = mul-le-mul_left (pad + 2) (let z : bits + 2 ≤ columns * 64 + 2 = omega (arith, h) in z) in
    let s : (pad + 2) * (columns * 64 + 2) ≡ 64 * (columns * pad) + 128 * columns + 2 * pad + 4 = omega arith in
    omega (arith, e, m, s)

words_within : (words bits columns : ℕ) → bits ≤ columns * 64 → words * bits ≤ 64 * (columns + 2) * words
words_within words bits columns h =
    let m = mul-le-mul_left words h in
    let s : words * (columns * 64) ≡ 64 * (columns * words) = omega arith in
    let t : 64 * (columns + 2) * words ≡ 64 * (columns * words) + 128 * words = omega arith in
    omega (arith, m, s, t)

pub unions_are_counted : UnionsAreCounted
unions_are_counted shapes figures left right columns h =
    let p = figures left in
    let q = figures right in
    let pad = pad_of p q in
    let n = length columns in
    let s : 64 * (4 * (n + 2) * (pad + 4)) ≡ 256 * (n * pad) + 1024 * n + 512 * pad + 2048 = omega arith in
    record {
      nodes = omega arith;
      registers = omega (arith, bits_within (sum columns) n pad (narrow_sum columns h), s);
      memories = words_within (ring p.ne + ring q.ne) (sum columns) n (narrow_sum columns h);
    }

pub joiners_are_counted : JoinersAreCounted
joiners_are_counted shapes figures left right columns h =
    let pad = pad_of (figures left) (figures right) in
    let n = length columns in
    let s : 64 * (8 * (n + 2) * (pad + 4)) ≡ 512 * (n * pad) + 2048 * n + 1024 * pad + 4096 = omega arith in
    record {
      nodes = omega arith;
      registers = omega (arith, bits_within (sum columns) n pad (narrow_sum columns h), s);
      memories = omega arith;
    }

-- where it stands
spacer_within : (f : Figures) (columns : List ℕ) → AreNarrow columns
    → IsCounted (cost_of_spacer f columns) (8 * (length columns + 2) * (f.ne + 6)) (8 * (length columns + 2)) (64 * (length columns + 2) * ring (f.ne + 1))
spacer_within f columns h =
    let n = length columns in
    let bits = narrow_sum columns h in
    let words = ring (f.ne + 1) in
    let m = mul-le-mul_left words (let z : sum columns + 2 ≤ 64 * (n + 2) = omega (arith, bits) in z) in
    let e : words * (64 * (n + 2)) ≡ 64 * (n + 2) * words = omega arith in
    record {
      nodes = omega arith;
      registers = omega (arith, bits);
      memories = omega (arith, m, e);
    }

pub spacers_are_counted : SpacersAreCounted
spacers_are_counted gap f columns needed h =
    subst (λ (b : Bool). IsCounted (cost_of_spacer f columns) (if b then 8 * (length columns + 2) * (f.ne + 6) else 0)
    (if b then 8 * (length columns + 2) else 0) (if b then 64 * (length columns + 2) * ring (f.ne + 1) else 0)) (sym needed) (spacer_within f columns h)
