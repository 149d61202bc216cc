-- The limits of schemas, statements, plans, tuple files and dumps: how many of each there may be at most.
use Rattle.std.specs.Prelude.{ℕ}

-- streams of a schema
abbrev pub most_streams : ℕ
most_streams = 8

-- columns of a stream or of a result
abbrev pub most_columns : ℕ
most_columns = 32

-- bytes of a name
abbrev pub most_bytes : ℕ
most_bytes = 32

-- rows of a window, and rows from one window's begin to the next one's: SIZE and ADVANCE
abbrev pub most_rows : ℕ
most_rows = 65536

-- windows that are open at once, each with a copy of the body
abbrev pub most_copies : ℕ
most_copies = 64

-- groups of a stream: GROUPS
abbrev pub most_groups : ℕ
most_groups = 256

-- windows that are open at once where each group has its own, each with a copy of the body
abbrev pub most_windows : ℕ
most_windows = 256

-- weights of a weighted sum
abbrev pub most_weights : ℕ
most_weights = 64

-- the weight of a plan with its output
abbrev pub most_weight : ℕ
most_weight = 262144

-- statements of one text
abbrev pub most_statements : ℕ
most_statements = 8

-- round brackets of a statement that are open at once
abbrev pub most_brackets : ℕ
most_brackets = 32

-- operators, NOT and CAST of one whole expression
abbrev pub most_operators : ℕ
most_operators = 256

-- UNION and CONCAT of one statement
abbrev pub most_joins : ℕ
most_joins = 64

-- the greatest cycle that a record of a tuple file may have
abbrev pub latest_cycle : ℕ
latest_cycle = 10000000

-- the greatest time that a dump may have
abbrev pub latest_time : ℕ
latest_time = 67108864

-- ports that a dump may be written of: each has a code of two of 94 letters
abbrev pub most_ports : ℕ
most_ports = 8836
