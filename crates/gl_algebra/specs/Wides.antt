-- Figures while they are computed, which may pass 32 bits.
-- A middle layer, proved equal to `FigureTable`: no promise rests on it.
use Rattle.std.specs.Prelude.{◌^◌, ◌<◌}
use Rattle.gl_algebra.specs.declared.figures.Figures.{Figures}
use Rattle.gl_algebra.specs.declared.wide.Wide.{Wide}

-- wide figures as the figures of a node
abbrev pub plain : Wide → Figures
plain w = record { a = w.a; lt = w.lt; le = w.le; nt = w.nt; ne = w.ne; gt = w.gt; ge = w.ge }

-- room for the sums and products of one row of the table
pub record IsWide (w : Wide) : Type 0 where
  pub a : w.a < 2 ^ 80
  pub lt : w.lt < 2 ^ 80
  pub le : w.le < 2 ^ 80
  pub nt : w.nt < 2 ^ 36
  pub ne : w.ne < 2 ^ 36
  pub gt : w.gt < 2 ^ 80
  pub ge : w.ge < 2 ^ 80

-- each of some wide figures fits 32 bits, as figures do
pub record IsNarrow (w : Wide) : Type 0 where
  pub a : w.a < 2 ^ 32
  pub lt : w.lt < 2 ^ 32
  pub le : w.le < 2 ^ 32
  pub nt : w.nt < 2 ^ 32
  pub ne : w.ne < 2 ^ 32
  pub gt : w.gt < 2 ^ 32
  pub ge : w.ge < 2 ^ 32
