-- Windows with spare copies of their body: while a copy is at work on a window that has ended, another one takes the
-- next window. Their numbers and their figures, over one stream.
use Rattle.std.specs.Prelude.{◌≡◌, ℕ, ◌+◌, ◌-◌, ◌*◌, ◌^◌, ◌<◌, ◌≤◌, max, Bool, ◌&&◌, nat_eq, nat_le, nat_lt}
use Rattle.std.specs.Prelude.{Option, Some, None, if◌then◌else◌}
use Rattle.std.specs.Int.{div_ceil}
use Rattle.gl_algebra.specs.declared.figures.Figures.{Figures}
use Rattle.gl_algebra.specs.FigureTable.{IsSound, last_of, stride_of, window_figures}
use Rattle.gl_bits.specs.Limits.{most_copies}
use Rattle.gl_algebra.specs.Views.{copies_of_window}
use Rattle.gl_algebra.specs.declared.figures.Spare.{Spare}

-- the cycles from a beat to the next
abbrev pub spare_gap : Figures → Figures → ℕ → ℕ
spare_gap f s advance = max (max f.gt s.gt) (div_ceil (stride_of s) advance)

-- the copies: one for each window that can be open at once, and so many that each is ready again when its next window
-- begins
abbrev pub spare_copies : ℕ → Figures → ℕ → ℕ → ℕ
spare_copies gap s size advance = max (copies_of_window size advance) (div_ceil (div_ceil s.ge gap + size - 1) advance)

-- the cycles by which the end of the stream comes late
abbrev pub spare_shift : ℕ → Figures → ℕ
spare_shift gap s = stride_of s - gap

-- the figures, where so many windows can be open at once
abbrev pub spare_over : ℕ → ℕ → ℕ → Figures → Figures → Figures
spare_over turns gap shift f s =
    let a = f.a + s.a + 2 in
    let le = f.le + s.le + shift + (turns - 1) * stride_of s + 3 in
    record {
      a = a;
      lt = last_of (f.nt * s.ne) a (f.lt + s.le + 2);
      le = le;
      nt = f.nt * s.ne;
      ne = turns * s.ne;
      gt = gap;
      ge = max f.ge (le - a + 1);
    }

-- of windows of `size` rows, one from each `advance`-th row on
abbrev pub spare_figures : ℕ → ℕ → Figures → Figures → Figures
spare_figures size advance f s =
    let gap = spare_gap f s advance in spare_over (copies_of_window size advance) gap (spare_shift gap s) f s

-- whether windows have spare copies: the source gives each beat's tuples and end in one cycle, beats can come closer
-- than without spare copies, and the copies and the latency are within the limits
abbrev pub has_spare : ℕ → ℕ → Figures → Figures → Bool
has_spare size advance f s =
    let gap = spare_gap f s advance in
    nat_eq f.a f.le
    && nat_lt gap (window_figures (copies_of_window size advance) f s).gt
    && nat_le (spare_copies gap s size advance) most_copies
    && nat_lt ((spare_figures size advance f s).le + 1) (2 ^ 32)

-- the spare copies of windows of `size` rows, one from each `advance`-th row on, where they have some
abbrev pub spare_of : ℕ → ℕ → Figures → Figures → Option Spare
spare_of size advance f s =
    let gap = spare_gap f s advance in
    if has_spare size advance f s
    then Some (record { copies = spare_copies gap s size advance; gap = gap; shift = spare_shift gap s })
    else None

-- what a proof needs of the numbers: windows of `size` rows, one from each `advance`-th row on, of which `turns` can be
-- open at once; `copies` of a body; beats so far apart as `gap` says; and ends that come `shift` cycles late
pub record IsSpare (f s : Figures) (size advance turns copies gap shift : ℕ) : Type 0 where
  pub rows : 1 ≤ size
  pub step : 1 ≤ advance
  pub turns_some : 1 ≤ turns
  pub enough : turns ≤ copies
  pub cover : size ≤ turns * advance
  -- the source gives each beat's in one cycle
  pub at_once : f.a ≡ f.le
  pub source_gap : f.gt ≤ gap
  pub body_gap : s.gt ≤ gap
  -- two windows that fill up one after another end far enough apart
  pub strides : stride_of s ≤ advance * gap
  -- so do the last one that fills up and the first one that the end of the stream ends
  pub late : stride_of s ≤ gap + shift
  -- the next window of a copy begins when its body is ready again
  pub again : s.ge ≤ (copies * advance - size + 1) * gap

-- with these numbers windows have spare copies, and with fewer copies one would not be ready in time
pub record AreSpareNumbers (f s : Figures) (size advance copies gap shift : ℕ) : Type 0 where
  pub are : IsSpare f s size advance (copies_of_window size advance) copies gap shift
  pub fewest : (fewer : ℕ) → copies_of_window size advance ≤ fewer → s.ge ≤ (fewer * advance - size + 1) * gap
      → copies ≤ fewer

-- spare copies are such numbers, and beats come closer than without them
pub record Suffices (f s : Figures) (size advance : ℕ) (it : Spare) : Type 0 where
  pub numbers : AreSpareNumbers f s size advance it.copies it.gap it.shift
  pub closer : it.gap < (window_figures (copies_of_window size advance) f s).gt

-- the spare copies that windows get are enough, and let beats come closer than without them
abbrev pub SparesSuffice : Type 0
SparesSuffice = (f s : Figures) (size advance : ℕ) (it : Spare) → IsSound f → 1 ≤ size → 1 ≤ advance
    → spare_of size advance f s ≡ Some it → Suffices f s size advance it
