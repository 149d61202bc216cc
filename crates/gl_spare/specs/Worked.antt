-- A worked stream before a front with late ends and a spare copy, with the visits as they were worked out by hand.
use Rattle.std.specs.Prelude.{◌≡◌, ℕ, ◌-◌, [], ◌∷◌, Some, None, Bool, ◌&&◌, if◌then◌else◌, nat_le}
use Rattle.gl_wire.specs.Wire.{Carried}
use Rattle.gl_windows.specs.Worked.{visits_in, wire_with}
use Rattle.gl_spare.specs.LateEnds.{IsLate}

-- the ends of a wire, so many cycles later
abbrev pub late_at : ℕ → Carried → ℕ → Bool
late_at shift a c = nat_le shift c && a.ends (c - shift)

-- such a wire
abbrev pub late_wire : ℕ → Carried → Carried
late_wire shift a = record {
  tuple = λ c. if late_at shift a c then a.tuple (c - shift) else (if a.ends c then None else a.tuple c);
  ends = late_at shift a;
}

-- eight tuples, the last one with the end
abbrev pub one_stream : Carried
one_stream =
    wire_with
    (None ∷ Some 1 ∷ Some 2 ∷ Some 3 ∷ Some 4 ∷ Some 5 ∷ Some 6 ∷ Some 7 ∷ Some 8 ∷ [])
    (8 ∷ [])

-- the visits of the copies to a worked stream with late ends, by hand, and that every wire has one with late ends
pub record WorkedSpare : Type 0 where
  -- windows of 4 rows over two copies whose turns are 3 cycles apart, tuples in each cycle and ends 2 cycles late: the
  -- first window is full with tuple 4 while its copy is at work for 3 cycles more; the other copy takes tuples 5 to 7
  -- meanwhile, and tuple 8 with the end
  pub spare : visits_in 4 4 2 3 (late_wire 2 one_stream) 20 ≡
      (5, (1 ∷ []) ∷ (2 ∷ []) ∷ (3 ∷ []) ∷ (4 ∷ []) ∷ [])
      ∷ (11, (5 ∷ []) ∷ (6 ∷ []) ∷ (7 ∷ []) ∷ (8 ∷ []) ∷ [])
      ∷ []
  -- each wire has one with late ends
  pub late : (shift : ℕ) (a : Carried) → IsLate shift a (late_wire shift a)
