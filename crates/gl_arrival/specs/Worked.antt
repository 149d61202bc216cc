-- Worked lists: what UNION BY ARRIVAL gives of a few short streams, and each trade with the last quote of its symbol.
use Rattle.std.specs.Prelude.{◌≡◌, ℕ, suc, Bool, List, [], ◌∷◌, Option, Some, None, nat_lt, sum}
use Rattle.gl_frames.specs.Frames.{lag_of, last_value_of, own_of, row_of, total_over}
use Rattle.gl_frames.specs.Worked.{all, itself}
use Rattle.gl_frames.specs.WorkedTrades.{Event, begins_with_one, is_quote, quoted, traded}
use Rattle.gl_arrival.specs.Places.{Placed, at_place, at_places, at_positions, brought, rows_of}
use Rattle.gl_arrival.specs.Arrival.{by_arrival}
use Rattle.gl_arrival.specs.Changes.{framed_at, framed_by_key_at, kept_at, mapped_at}

-- numbers at places
abbrev pub numbers : List ℕ → List ℕ → List (Placed ℕ)
numbers xs places = at_places xs places

-- prices of trades at cycles 0 and 4, bids of quotes at cycles 0 and 2
abbrev pub prices : List (Placed ℕ)
prices = at_place 5 0 ∷ at_place 7 4 ∷ []

abbrev pub bids : List (Placed ℕ)
bids = at_place 4 0 ∷ at_place 9 2 ∷ []

-- two streams in the order in which they came
pub record WorkedUnions : Type 0 where
  -- of one cycle the left row stands first
  pub prices_first : rows_of (by_arrival prices bids) ≡ 5 ∷ 4 ∷ 9 ∷ 7 ∷ []
  pub bids_first : rows_of (by_arrival bids prices) ≡ 4 ∷ 5 ∷ 9 ∷ 7 ∷ []
  -- a side without a row
  pub no_prices : rows_of (by_arrival [] bids) ≡ 4 ∷ 9 ∷ []
  pub no_bids : rows_of (by_arrival prices []) ≡ 5 ∷ 7 ∷ []
  pub nothing : rows_of (by_arrival {A = ℕ} [] []) ≡ []
  -- two columns of one stream
  pub of_one : rows_of (by_arrival (numbers (5 ∷ 6 ∷ []) (0 ∷ 2 ∷ [])) (numbers (1 ∷ 2 ∷ []) (0 ∷ 2 ∷ [])))
      ≡ 5 ∷ 1 ∷ 6 ∷ 2 ∷ []

-- values of streams a, b and c: at cycle 0 all three have a row, at 4 b and c, at 8 a and c
abbrev pub of_a : List (Placed ℕ)
of_a = at_place 1 0 ∷ at_place 7 8 ∷ []

abbrev pub of_b : List (Placed ℕ)
of_b = at_place 2 0 ∷ at_place 5 4 ∷ []

abbrev pub of_c : List (Placed ℕ)
of_c = at_place 3 0 ∷ at_place 6 4 ∷ at_place 9 8 ∷ []

-- v > 1
abbrev pub is_more : ℕ → Bool
is_more v = nat_lt 1 v

-- three streams, and selects below a union
pub record WorkedNests : Type 0 where
  pub to_the_left : rows_of (by_arrival (by_arrival of_a of_b) of_c) ≡ 1 ∷ 2 ∷ 3 ∷ 5 ∷ 6 ∷ 7 ∷ 9 ∷ []
  pub to_the_right : rows_of (by_arrival of_a (by_arrival of_b of_c)) ≡ 1 ∷ 2 ∷ 3 ∷ 5 ∷ 6 ∷ 7 ∷ 9 ∷ []
  -- a WHERE drops a row of the inner union, and the row behind it still stands before that of the right side
  pub filtered : rows_of (by_arrival (kept_at is_more (by_arrival of_a of_b)) of_c) ≡ 2 ∷ 3 ∷ 5 ∷ 6 ∷ 7 ∷ 9 ∷ []
  -- LAG over the left side
  pub lagged : rows_of (by_arrival (framed_at (lag_of itself 1) (at_place 1 0 ∷ at_place 3 4 ∷ []))
      (at_place 2 2 ∷ at_place 4 6 ∷ [])) ≡ 0 ∷ 2 ∷ 1 ∷ 4 ∷ []
  -- PARTITION BY v GROUPS 1 leaves the row at cycle 2 out, and its place too
  pub parted : rows_of (by_arrival (framed_by_key_at 1 itself (total_over sum itself (Some 1) all)
      (numbers (1 ∷ 3 ∷ 1 ∷ []) (0 ∷ 2 ∷ 4 ∷ []))) (at_place 5 2 ∷ [])) ≡ 1 ∷ 5 ∷ 2 ∷ []

-- the rows of a body's window, each at its position, and the same with 1 more
abbrev pub windowed : List ℕ → List (Placed ℕ)
windowed xs = at_positions xs

abbrev pub and_one : List ℕ → List (Placed ℕ)
and_one xs = mapped_at (λ (u : ℕ). suc u) (windowed xs)

-- a body over the same window twice
pub record WorkedBodies : Type 0 where
  pub twice : rows_of (by_arrival (windowed (1 ∷ 3 ∷ [])) (and_one (1 ∷ 3 ∷ []))) ≡ 1 ∷ 2 ∷ 3 ∷ 4 ∷ []
  pub alone : rows_of (by_arrival (windowed (5 ∷ [])) (and_one (5 ∷ []))) ≡ 5 ∷ 6 ∷ []

-- quotes of A and B, and trades of both: one quote and one trade come in cycle 6
abbrev pub quotes : List (Placed Event)
quotes = at_places (quoted 65 10 ∷ quoted 65 11 ∷ quoted 66 5 ∷ []) (0 ∷ 6 ∷ 8 ∷ [])

abbrev pub trades : List (Placed Event)
trades = at_places (traded 65 11 ∷ traded 66 7 ∷ traded 65 12 ∷ traded 66 6 ∷ []) (2 ∷ 4 ∷ 6 ∷ 10 ∷ [])

-- each trade of the first n symbols with the bid of the last quote of its symbol: 1, the symbol, the price, the bid
abbrev pub with_quotes : ℕ → List (Placed Event) → List (List ℕ)
with_quotes n events =
    rows_of (kept_at begins_with_one (framed_by_key_at n (λ e. e.symbol)
    (row_of (own_of (λ e. e.trade) ∷ own_of (λ e. e.symbol) ∷ own_of (λ e. e.paid)
    ∷ last_value_of (λ e. e.bid) None is_quote ∷ [])) events))

-- the as-of join
pub record WorkedJoins : Type 0 where
  -- with quotes on the left, the last quote that came no later than the trade; B has none at its first trade
  pub no_later : with_quotes 64 (by_arrival quotes trades)
      ≡ (1 ∷ 65 ∷ 11 ∷ 10 ∷ []) ∷ (1 ∷ 66 ∷ 7 ∷ 0 ∷ []) ∷ (1 ∷ 65 ∷ 12 ∷ 11 ∷ []) ∷ (1 ∷ 66 ∷ 6 ∷ 5 ∷ []) ∷ []
  -- with trades on the left, the last quote that came before the trade
  pub before : with_quotes 64 (by_arrival trades quotes)
      ≡ (1 ∷ 65 ∷ 11 ∷ 10 ∷ []) ∷ (1 ∷ 66 ∷ 7 ∷ 0 ∷ []) ∷ (1 ∷ 65 ∷ 12 ∷ 10 ∷ []) ∷ (1 ∷ 66 ∷ 6 ∷ 5 ∷ []) ∷ []
  -- of one symbol the trades of A are kept
  pub one_symbol : with_quotes 1 (by_arrival quotes trades)
      ≡ (1 ∷ 65 ∷ 11 ∷ 10 ∷ []) ∷ (1 ∷ 65 ∷ 12 ∷ 11 ∷ []) ∷ []

-- a beat of two streams: its cycle, and a row of each or none
pub record TwoStreams : Type 0 where
  pub cycle : ℕ
  pub trade : Option ℕ
  pub quote : Option ℕ

-- a trade and a quote in cycle 0, a quote in cycle 2, a trade in cycle 4
abbrev pub came : List TwoStreams
came =
    record { cycle = 0; trade = Some 5; quote = Some 4 } ∷ record { cycle = 2; trade = None; quote = Some 9 }
    ∷ record { cycle = 4; trade = Some 7; quote = None } ∷ []

-- the places of rows are the cycles of their beats
pub record WorkedPlaces : Type 0 where
  pub of_trades : brought (λ (b : TwoStreams). b.trade) (λ (b : TwoStreams). b.cycle) came ≡ prices
  pub of_quotes : brought (λ (b : TwoStreams). b.quote) (λ (b : TwoStreams). b.cycle) came ≡ bids
