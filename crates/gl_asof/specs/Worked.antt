-- Worked joins: each trade with the last quote of its symbol that came no later.
use Rattle.std.specs.Prelude.{◌≡◌, ℕ, true, false, List, [], ◌∷◌, Option, Some, None}
use Rattle.gl_frames.specs.WorkedTrades.{Trade, of, price_of, symbol_of}
use Rattle.gl_arrival.specs.Places.{Placed, at_place, at_places, rows_of}
use Rattle.gl_asof.specs.AsOf.{JoinBy, as_of, more_keys}

-- a quote: its symbol and its bid
pub record Quote : Type 0 where
  pub symbol : ℕ
  pub bid : ℕ

abbrev pub quote : ℕ → ℕ → Quote
quote symbol bid = record { symbol = symbol; bid = bid }

-- the symbol and the price of a trade, and the bid of a quote, 0 where there is none
abbrev pub with_bid : Trade → Option Quote → List ℕ
with_bid t None = symbol_of t ∷ price_of t ∷ 0 ∷ []
with_bid t (Some q) = symbol_of t ∷ price_of t ∷ q.bid ∷ []

-- trades joined with quotes by the symbol, for so many symbols
abbrev pub by_symbol : ℕ → JoinBy Trade Quote (List ℕ)
by_symbol n = record { groups = n; left_key = symbol_of; right_key = λ (q : Quote). q.symbol; join = with_bid }

-- quotes of A, whose byte is 65, and of B, and trades of both: one quote and one trade come in cycle 6
abbrev pub quotes : List (Placed Quote)
quotes = at_places (quote 65 10 ∷ quote 65 11 ∷ quote 66 5 ∷ []) (0 ∷ 6 ∷ 8 ∷ [])

abbrev pub trades : List (Placed Trade)
trades = at_places (of 65 11 ∷ of 66 7 ∷ of 65 12 ∷ of 66 6 ∷ []) (2 ∷ 4 ∷ 6 ∷ 10 ∷ [])

-- trades with quotes
pub record WorkedJoins : Type 0 where
  -- B has no quote at its first trade, and the quote of cycle 6 counts for the trade of cycle 6
  pub all_symbols : as_of (by_symbol 64) trades quotes
      ≡ at_places ((65 ∷ 11 ∷ 10 ∷ []) ∷ (66 ∷ 7 ∷ 0 ∷ []) ∷ (65 ∷ 12 ∷ 11 ∷ []) ∷ (66 ∷ 6 ∷ 5 ∷ []) ∷ [])
      (2 ∷ 4 ∷ 6 ∷ 10 ∷ [])
  -- of one symbol the trades of A are kept, each at its place
  pub one_symbol : as_of (by_symbol 1) trades quotes
      ≡ at_places ((65 ∷ 11 ∷ 10 ∷ []) ∷ (65 ∷ 12 ∷ 11 ∷ []) ∷ []) (2 ∷ 6 ∷ [])

-- a side without rows
pub record WorkedSides : Type 0 where
  pub no_quotes : rows_of (as_of (by_symbol 64) trades [])
      ≡ (65 ∷ 11 ∷ 0 ∷ []) ∷ (66 ∷ 7 ∷ 0 ∷ []) ∷ (65 ∷ 12 ∷ 0 ∷ []) ∷ (66 ∷ 6 ∷ 0 ∷ []) ∷ []
  pub no_trades : rows_of (as_of (by_symbol 64) [] quotes) ≡ []
  pub nothing : rows_of (as_of (by_symbol 64) [] []) ≡ []

-- which symbols count
pub record WorkedKeys : Type 0 where
  pub two_are_all : more_keys (by_symbol 64) trades quotes ≡ false
  pub second_came : more_keys (by_symbol 1) trades quotes ≡ true
  -- a quote alone takes the one symbol: the trade of A behind it is left out
  pub by_a_quote : rows_of (as_of (by_symbol 1) (at_place (of 65 9) 1 ∷ []) (at_place (quote 66 5) 0 ∷ [])) ≡ []
  -- a trade of the same cycle is behind the quote
  pub in_one_cycle : rows_of (as_of (by_symbol 1) (at_place (of 65 9) 0 ∷ []) (at_place (quote 66 5) 0 ∷ [])) ≡ []
  pub a_cycle_before : rows_of (as_of (by_symbol 1) (at_place (of 65 9) 0 ∷ []) (at_place (quote 66 5) 1 ∷ []))
      ≡ (65 ∷ 9 ∷ 0 ∷ []) ∷ []
