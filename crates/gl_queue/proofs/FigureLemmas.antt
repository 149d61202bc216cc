-- Plain facts of figures.
use Rattle.std.proofs.Common.{◌≡◌, ◌+◌, arith}
use Rattle.gl_algebra.specs.declared.figures.Figures.{Figures}
use Rattle.gl_algebra.specs.FigureTable.{wait_of}
use Rattle.gl_algebra.specs.Weights.{pad_of}

-- both pads together
pub one_pad : (p q : Figures) → wait_of p q + wait_of q p ≡ pad_of p q
one_pad p q = omega arith
