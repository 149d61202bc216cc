-- All slots look at a key at once: the slot that has it keeps it, and else the first one that is free. Slots fill in
-- order, so a slot is the first one that is free where it is free and the one before it is not.
use Rattle.std.specs.Prelude.{ℕ, zero, suc, Bool, not, ◌&&◌, ◌||◌, nat_eq}
use Rattle.gl_wire_registers.specs.Lines.{any_to}

-- the slots in a cycle: whether a slot is used, and its key; whether all are set free; whether a key comes, and which
-- one is looked for
pub record Sought : Type 0 where
  pub used : ℕ → Bool
  pub key : ℕ → ℕ
  pub free : Bool
  pub ask : Bool
  pub value : ℕ

abbrev pub kept : Sought → ℕ → Bool
kept s k = s.used k && not s.free

abbrev pub found : Sought → ℕ → Bool
found s k = kept s k && nat_eq s.value (s.key k)

-- whether a key comes that none of the slots has
abbrev pub is_new : ℕ → Sought → Bool
is_new count s = s.ask && not (any_to count (found s))

-- whether it does, and the slot before this one is used
abbrev pub asked : ℕ → Sought → ℕ → Bool
asked count s zero = is_new count s
asked count s (suc k) = is_new count s && kept s k

abbrev pub takes : ℕ → Sought → ℕ → Bool
takes count s k = asked count s k && not (kept s k)

-- whether a key comes, and the slot before this one is used
abbrev pub asks : Sought → ℕ → Bool
asks s zero = s.ask
asks s (suc k) = s.ask && kept s k

-- whether this one takes the key if none of the slots has it: the registers alone tell
abbrev pub is_next : Sought → ℕ → Bool
is_next s k = asks s k && not (kept s k)

abbrev pub has : ℕ → Sought → ℕ → Bool
has count s k = kept s k || takes count s k

abbrev pub matches : ℕ → Sought → ℕ → Bool
matches count s k = found s k || takes count s k
