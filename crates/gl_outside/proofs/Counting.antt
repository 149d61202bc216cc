-- What several calls of a shelf leave of its counts, its names and its texts.
use Rattle.std.proofs.Common.{ℕ, List, refl, ◌∙◌, subst}
use Rattle.gl_outside.specs.Counts.{Rose}
use Rattle.gl_outside.specs.States.{ShelfState, Stays, IsCalm, Missed, Faulted}

pub calm_none : (a : ShelfState) → IsCalm a a
calm_none a = record { misses = refl; faults = refl; last = refl }

pub calm_then : (a b c : ShelfState) → IsCalm a b → IsCalm b c → IsCalm a c
calm_then a b c p q = record { misses = q.misses ∙ p.misses; faults = q.faults ∙ p.faults; last = q.last ∙ p.last }

pub missed_then : (a b c : ShelfState) (name : List ℕ) → IsCalm a b → Missed b c name → Missed a c name
missed_then a b c name p q = record { misses = subst (λ (n : ℕ). Rose n c.misses) p.misses q.misses; faults = q.faults ∙ p.faults; last = q.last }

pub faulted_then : (a b c : ShelfState) (name : List ℕ) → IsCalm a b → Faulted b c name → Faulted a c name
faulted_then a b c name p q = record { misses = q.misses ∙ p.misses; faults = subst (λ (n : ℕ). Rose n c.faults) p.faults q.faults; last = q.last }

pub stays_none : (a : ShelfState) → Stays a a
stays_none a = record { names = refl; texts = λ name. refl }

pub stays_then : (a b c : ShelfState) → Stays a b → Stays b c → Stays a c
stays_then a b c p q = record { names = q.names ∙ p.names; texts = λ name. q.texts name ∙ p.texts name }

pub ruleset counting = (calm_none, calm_then, missed_then, faulted_then, stays_none, stays_then)
