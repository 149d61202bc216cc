-- What a lane tells in a cycle, from what is found and from the turns of a flush.
use Rattle.std.specs.Prelude.{ℕ, ◌-◌, Bool, not, ◌&&◌, ◌||◌, if◌then◌else◌, nat_eq, nat_lt}
use Rattle.gl_groups.specs.Ahead.{Ahead, head_in, sought_in}
use Rattle.gl_slots.specs.Seeking.{kept}
use Rattle.gl_slots.specs.Values.{Cycle, Values, due_of}

-- the slot whose turn is next: the turns that are over
abbrev pub turn_of : ℕ → Values → ℕ
turn_of n p = n - p.rest

-- whether a row is left over: its key is none of the slots', and no slot is free
abbrev pub passes_in : ℕ → Ahead → ℕ → Bool
passes_in n a t = (a.ask t && kept (sought_in a t) (n - 1)) && not (a.one t)

-- whether a slot takes a row: one that comes alone, where it is not left over; one with the end, where the first slot has it;
-- the one that came with the end, in the turn of its slot
abbrev pub row_told : ℕ → Cycle → Values → Ahead → ℕ → Bool
row_told n c p a t =
    (((c.valid && not c.end) && not (passes_in n a t)) || ((c.end && c.valid) && not (kept (sought_in a t) 0 && not (head_in a t))))
    || ((due_of c p && p.held) && (a.had t && nat_eq (a.home t) (turn_of n p)))

-- whether one ends: a slot that is used, in its turn; with the end the first one
abbrev pub end_told : ℕ → Cycle → Values → Ahead → ℕ → Bool
end_told n c p a t =
    (due_of c p && nat_lt (turn_of n p) (a.many t)) || (c.end && (c.valid || kept (sought_in a t) 0))

-- its number
abbrev pub slot_told : ℕ → Cycle → Values → Ahead → ℕ → ℕ
slot_told n c p a t = if c.end || due_of c p then (if c.end then 0 else turn_of n p) else a.number t
