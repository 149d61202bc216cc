-- The cost of turns against their weight, their figures, and those of queries that read streams.
use Rattle.std.proofs.Common.{◌≡◌, ℕ, ◌+◌, ◌*◌, ◌≤◌, length, refl, ap, ◌∙◌, arith}
use Rattle.std.specs.List.{sum}
use Rattle.std.proofs.Math.Nat.{mul-le-mul_left}
use Rattle.gl_algebra.specs.declared.figures.Figures.{Figures}
use Rattle.gl_wire.proofs.CountLemmas.{narrow_sum}
use Rattle.gl_turns.specs.Counted.{TurnsAreCounted, TurnsOfStreams}
use Rattle.gl_turns.specs.TurnFigures.{left_wait, stream_figures, turn_figures, waits}

nodes_within : (n w : ℕ) → (n + 2) * (w + 2) + 1 ≤ 8 * (n + 2) * (w + 4)
nodes_within n w =
    let u : (n + 2) * (w + 2) + 1 ≡ n * w + 2 * n + 2 * w + 5 = omega arith in
    let v : 8 * (n + 2) * (w + 4) ≡ 8 * (n * w) + 32 * n + 16 * w + 64 = omega arith in
    omega (arith, u, v)

bits_within : (bits n w : ℕ) → bits ≤ n * 64 → (bits + 2) * (w + 1) ≤ 64 * (8 * (n + 2) * (w + 4))
bits_within bits n w h =
    let e : (bits + 2) * (w + 1) ≡ (w + 1) * (bits + 2) = omega arith in
    let m = mul-le-mul_left (w + 1) (let z : bits + 2 ≤ n * 64 + 2 = omega (arith, h) in z) in
    let s : (w + 1) * (n * 64 + 2) ≡ 64 * (n * w) + 64 * n + 2 * w + 2 = omega arith in
    let t : 64 * (8 * (n + 2) * (w + 4)) ≡ 512 * (n * w) + 2048 * n + 1024 * w + 4096 = omega arith in
    omega (arith, e, m, s, t)

pub turns_are_counted : TurnsAreCounted
turns_are_counted p q columns narrow = record {
  nodes = nodes_within (length columns) (waits p q);
  registers = bits_within (sum columns) (length columns) (waits p q) (narrow_sum columns narrow);
  memories = omega arith;
}

abbrev figures_with : ℕ → ℕ → ℕ → ℕ → ℕ → ℕ → ℕ → Figures
figures_with a lt le nt ne gt ge = record { a = a; lt = lt; le = le; nt = nt; ne = ne; gt = gt; ge = ge }

same_figures : (f g : Figures) → f.a ≡ g.a → f.lt ≡ g.lt → f.le ≡ g.le → f.nt ≡ g.nt → f.ne ≡ g.ne → f.gt ≡ g.gt → f.ge ≡ g.ge → f ≡ g
same_figures f g a lt le nt ne gt ge =
    ap (λ (x : ℕ). figures_with x f.lt f.le f.nt f.ne f.gt f.ge) a ∙ ap (λ (x : ℕ). figures_with g.a x f.le f.nt f.ne f.gt f.ge) lt
    ∙ ap (λ (x : ℕ). figures_with g.a g.lt x f.nt f.ne f.gt f.ge) le ∙ ap (λ (x : ℕ). figures_with g.a g.lt g.le x f.ne f.gt f.ge) nt
    ∙ ap (λ (x : ℕ). figures_with g.a g.lt g.le g.nt x f.gt f.ge) ne ∙ ap (λ (x : ℕ). figures_with g.a g.lt g.le g.nt g.ne x f.ge) gt
    ∙ ap (λ (x : ℕ). figures_with g.a g.lt g.le g.nt g.ne g.gt x) ge

pub turns_of_streams : TurnsOfStreams
turns_of_streams a b m n some some' =
    let p : Figures = stream_figures a m in
    let q : Figures = stream_figures b n in
    same_figures (turn_figures p q) (stream_figures (a + left_wait p q + 1) (m + n)) refl (omega (arith, some, some')) (omega (arith, some, some')) refl refl
    (omega (arith, some, some')) (omega (arith, some, some'))
