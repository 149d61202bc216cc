-- A union: two queues, of which the left goes first, and an end that waits for both.
use Rattle.std.specs.Prelude.{◌≡◌, ℕ, suc, Option, Some, None, Bool, true, false, is_some, not, ◌&&◌, ◌||◌}
use Rattle.gl_algebra.specs.declared.figures.Figures.{Figures}
use Rattle.gl_algebra.specs.FigureTable.{IsSound, merged}
use Rattle.gl_values.specs.Lists.{IsInterleaving}
use Rattle.gl_values.specs.Results.{Row}
use Rattle.gl_wire.specs.Spills.{Lines, ServesWhen2, always, never2}
use Rattle.gl_wire.specs.Wire.{Carried}
use Rattle.gl_queue.specs.Queue.{IsQueue}

-- the left row, else the right one
abbrev pub first_of : Option Row → Option Row → Option Row
first_of None p = p
first_of (Some r) p = Some r

-- what each queue shows, whether each side's end waits, and whether either queue was passed
pub record IsMerging (depth_a depth_b : ℕ) (passed : ℕ → Bool) (a b o : Carried) : Type 0 where
  pub left : ℕ → Option Row
  pub right : ℕ → Option Row
  pub wait_a : ℕ → Bool
  pub wait_b : ℕ → Bool
  pub passed_a : ℕ → Bool
  pub passed_b : ℕ → Bool
  pub queue_a : IsQueue depth_a a.tuple (λ c. true) left passed_a
  pub queue_b : IsQueue depth_b b.tuple (λ c. not (is_some (left c))) right passed_b
  pub out : (c : ℕ) → o.tuple c ≡ first_of (left c) (right c)
  pub leaves : (c : ℕ) → o.ends c ≡ (wait_a c && wait_b c) && not (is_some (left c)) && not (is_some (right c))
  pub first_a : wait_a 0 ≡ false
  pub first_b : wait_b 0 ≡ false
  pub next_a : (c : ℕ) → wait_a (suc c) ≡ a.ends c || (wait_a c && not (o.ends c))
  pub next_b : (c : ℕ) → wait_b (suc c) ≡ b.ends c || (wait_b c && not (o.ends c))
  pub tells : (c : ℕ) → passed c ≡ passed_a c || passed_b c

-- the lines of a block whose only line tells that a queue was passed
abbrev pub only_passed : (ℕ → Bool) → Lines
only_passed passed = record { passed = passed; further = λ c. false }

-- a union over two queues serves the interleavings, with no condition on its inputs but that both sides begin together
abbrev pub UnionServes : Type 0
UnionServes =
    (p q : Figures) (passed : ℕ → Bool) (a b o : Carried) → IsSound p → IsSound q → p.a ≡ q.a
    → IsMerging p.ne q.ne passed a b o
    → ServesWhen2 always p q (merged p q) (never2 IsInterleaving) (only_passed passed) a b o
