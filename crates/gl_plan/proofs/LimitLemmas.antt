-- A plan passes one limit, or none.
use Rattle.std.proofs.Common.{◌≡◌, ℕ, ◌<◌, ◌≤◌, inl, inr, sym, ap, ◌∙◌, arith}
use Rattle.std.proofs.lemmas.Bool.{cases_lt}
use Rattle.gl_algebra.specs.Added.{Placed}
use Rattle.gl_figures.specs.declared.Limit.{Limit}
use Rattle.gl_figures.specs.declared.Limit.TheVariants.{Latency, Nodes}
use Rattle.gl_plan.specs.Planned.{HasOneLimit, IsLateAt, IsWithinLimits, PassesLimit}

no_other : (m n : ℕ) → (m < n → ⊥) → (n < m → ⊥) → m ≡ n
no_other m n a b =
    elim (cases_lt m n) [
      | inl below ↦ absurd (a below)
      | inr past ↦
          elim (cases_lt n m) [
            | inl above ↦ absurd (b above)
            | inr same ↦ omega arith
          ]
    ]

one_node : (at : Placed) (m n : ℕ) → IsLateAt at.nodes m → IsLateAt at.nodes n → m ≡ n
one_node at m n a b = no_other m n (λ below. a.large (b.before m below)) (λ below. b.large (a.before n below))

too_light : (n : ℕ) → n ≤ 262144 → 262144 < n → ⊥
too_light n light heavy = absurd (omega arith)

one : (at : Placed) (limit other : Limit) → PassesLimit at limit → PassesLimit at other → other ≡ limit
one at (Latency m) (Latency n) a b = ap Latency (one_node at n m b a)
one at (Latency m) (Nodes w) a b = absurd (a.large (b.small m a.within))
one at (Nodes v) (Latency n) a b = absurd (b.large (a.small n b.within))
one at (Nodes v) (Nodes w) a b = ap Nodes (b.is ∙ sym a.is)

over : (at : Placed) (limit : Limit) → PassesLimit at limit → IsWithinLimits at → ⊥
over at (Latency m) a w = a.large (w.small m a.within)
over at (Nodes v) a w = too_light _ w.light a.heavy

pub one_limit : (at : Placed) (limit : Limit) → PassesLimit at limit → HasOneLimit at limit
one_limit at limit a = record { only = λ other b. one at limit other a b; over = over at limit a }
