-- A spacer: one queue of all that a wire carries, from which an entry leaves some cycles after the last.
use Rattle.std.specs.Prelude.{◌≡◌, ℕ, suc, ◌+◌, ◌-◌, ◌≤◌, Option, Some, None, Bool, false, is_some, ◌&&◌, if◌then◌else◌, nat_eq}
use Rattle.gl_algebra.specs.declared.figures.Figures.{Figures}
use Rattle.gl_algebra.specs.FigureTable.{IsSound, spacer_figures}
use Rattle.gl_values.specs.Results.{Row}
use Rattle.gl_wire.specs.Apart.{CarriesApart, carries}
use Rattle.gl_wire.specs.Beats.{Beats, Spaced}
use Rattle.gl_wire.specs.Serves.{Fits}
use Rattle.gl_wire.specs.Shapes.{Same}
use Rattle.gl_wire.specs.Spills.{ServesWithLines, never}
use Rattle.gl_wire.specs.Wire.{Carried}
use Rattle.gl_queue.specs.Merging.{only_passed}
use Rattle.gl_queue.specs.Queue.{IsQueue}

-- what a wire carries in a cycle: a tuple, an end, or both
pub record Entry : Type 0 where
  pub row : Option Row
  pub end : Bool

-- what a wire carries in a cycle, as an entry of the queue
abbrev pub entry_at : Carried → ℕ → Entry
entry_at s c = record { row = s.tuple c; end = s.ends c }

-- what comes to the queue
abbrev pub arrives : Carried → ℕ → Option Entry
arrives s c = if carries s c then Some (entry_at s c) else None

-- the tuple of an entry, if it has one
abbrev pub row_in : Option Entry → Option Row
row_in None = None
row_in (Some e) = e.row

-- the entry has the end
abbrev pub end_in : Option Entry → Bool
end_in None = false
end_in (Some e) = e.end

-- what the queue shows, and how many cycles the next entry still waits
pub record IsSpacer (g depth : ℕ) (passed : ℕ → Bool) (a o : Carried) : Type 0 where
  pub shown : ℕ → Option Entry
  pub timer : ℕ → ℕ
  pub queue : IsQueue depth (arrives a) (λ c. nat_eq (timer c) 0) shown passed
  pub out : (c : ℕ) → o.tuple c ≡ (if nat_eq (timer c) 0 then row_in (shown c) else None)
  pub ends : (c : ℕ) → o.ends c ≡ nat_eq (timer c) 0 && end_in (shown c)
  pub first : timer 0 ≡ 0
  pub next : (c : ℕ) → timer (suc c) ≡ (if nat_eq (timer c) 0 && is_some (shown c) then g - 1 else timer c - 1)

-- a spacer serves the same rows
abbrev pub SpacerServes : Type 0
SpacerServes =
    (g : ℕ) (f : Figures) (passed : ℕ → Bool) (a o : Carried) → 1 ≤ g → IsSound f → IsSpacer g (f.ne + 1) passed a o
    → ServesWithLines f (spacer_figures g f) (never Same) (only_passed passed) a o

-- over beats that are spaced, what a spacer carries is apart
abbrev pub IsSpaced : ℕ → Figures → Carried → Carried → Type 0
IsSpaced g f a o = (beats : Beats) → Spaced (spacer_figures g f) beats → Fits f beats a → CarriesApart g o

-- what leaves a spacer is at least its gap apart, over beats that are spaced for it
abbrev pub SpacerSpaces : Type 0
SpacerSpaces =
    (g : ℕ) (f : Figures) (passed : ℕ → Bool) (a o : Carried) → 1 ≤ g → IsSound f → IsSpacer g (f.ne + 1) passed a o
    → IsSpaced g f a o
