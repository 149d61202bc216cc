-- The tuples of the load.
use Rattle.std.specs.Prelude.{ℕ, zero, suc, ◌+◌, ◌*◌, ◌%◌, false, List, [], ◌∷◌, map, codes, Some, ◌==◌}
use Rattle.std.specs.List.{range_with_len}
use Rattle.gl_schema.specs.Schemas.{text_word}
use Rattle.gl_schema.specs.Beats.{Beat, Beats}

-- four symbols, one after the other
abbrev pub symbol_at : ℕ → List ℕ
symbol_at zero = codes "UBSN"
symbol_at (suc zero) = codes "NESN"
symbol_at (suc (suc zero)) = codes "ROG"
symbol_at (suc (suc (suc n))) = codes "ABB"

-- tuple i: its symbol, its price and its volume
abbrev pub load_row : ℕ → List ℕ
load_row i = text_word 4 (symbol_at (i % 4)) ∷ (100 + (7 * i) % 1000) ∷ (1 + i % 100) ∷ []

-- tuple i of n comes in cycle i, and the end comes with the last of them
abbrev pub load_beat : ℕ → ℕ → Beat
load_beat n i = record { cycle = i; rows = Some (load_row i) ∷ []; tick = false; end = i + 1 == n }

-- the beats of the load, one for each tuple; its schema has no parameter
abbrev pub load_beats : ℕ → Beats
load_beats n = record { list = map (load_beat n) (range_with_len 0 n); sets = [] }
