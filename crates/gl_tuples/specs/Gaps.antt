-- Beats as plain data, and how far apart they are.
use Rattle.std.specs.Prelude.{ℕ, ◌+◌, ◌≤◌, List, [], ◌∷◌, map, Option, Some, None, Result, Ok, Err, option_map, nat_lt, ◌&&◌, ◌||◌, if◌then◌else◌}
use Rattle.gl_bits.specs.Words.{bits_of}
use Rattle.gl_gaps.specs.declared.Gaps.{Gaps}
use Rattle.gl_schema.specs.declared.schema.Schema.{Schema}
use Rattle.gl_schema.specs.Beats as plain
use Rattle.gl_schema.specs.Beats.{AreBeats, last_cycle}
use Rattle.gl_tuples.specs.declared.beats.Beat.{Beat}
use Rattle.gl_tuples.specs.declared.fault.TupleFault.{TupleFault}
use Rattle.gl_tuples.specs.declared.fault.TupleFault.TheVariants.{TooClose}
use Rattle.gl_tuples.specs.Flat.{BeatList}

-- a beat without the number of its record, the words of its rows as numbers
abbrev pub plain_beat : Beat → plain.Beat
plain_beat b = record { cycle = b.cycle; rows = map (λ r. option_map bits_of r) b.rows; tick = b.tick; end = b.end }

-- a list of beats as plain data
abbrev pub plain_list : List Beat → List plain.Beat
plain_list beats = map plain_beat beats

-- beats that code holds, with the words of the parameters, as plain data
abbrev pub plain_beats : BeatList → plain.Beats
plain_beats beats = record { list = plain_list beats.list; sets = beats.sets }

-- the number of the first beat that comes too early: one may come from the first of these cycles on, and one with a
-- tick or the end from the second on too
abbrev pub first_close : Gaps → ℕ → ℕ → List Beat → Option ℕ
first_close gaps next tick [] = None
first_close gaps next tick (b ∷ bs) =
    if nat_lt b.cycle next || ((b.tick || b.end) && nat_lt b.cycle tick) then Some b.number
    else first_close gaps (b.cycle + gaps.of_beats) (if b.tick then b.cycle + gaps.of_ticks else tick) bs

-- nothing is too close, or that beat is
abbrev pub close_answer : Option ℕ → Result (Unit {0}) TupleFault
close_answer None = Ok tt
close_answer (Some number) = Err (TooClose number)

-- the beats of a file are beats of the schema, the last in cycle 10,000,000 at most
pub record AreFileBeats (schema : Schema) (beats : BeatList) : Type 0 where
  pub beats' : AreBeats schema (plain_beats beats)
  pub last : last_cycle (plain_beats beats) ≤ 10000000
