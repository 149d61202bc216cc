use Rattle.std.proofs.Common.{◌≡◌, ◌∷◌, take, map}
use Rattle.gl_reference.proofs.rows.with_key.Given as goal

abbrev pub invariant-loop-row : goal.invariant-loop-row
invariant-loop-row l = l.out ≡ map (λ row. l.key ∷ row) (take l.row-index l.rows)
