-- A line that breaks off.
use Rattle.std.proofs.Common.{ℕ, List, ◌++◌, Result, Ok, Err, IsErrAnd}
use Rattle.gl_outside.specs.States.{SinkState, Broke, Wrote}
use Rattle.gl_outside.proofs.Takes.{broke_more}

-- what failed at a front of a line failed at the line
pub broke_off : {E : Type 0} (P : E → Type 0) (a b : SinkState) (x y : List ℕ) (r : Result (Unit {0}) E) → IsErrAnd r P → Broke a b x → Wrote a b (x ++ y) r
broke_off P a b x y (Ok u) h w = absurd h
broke_off P a b x y (Err e) h w = broke_more a b x y w
