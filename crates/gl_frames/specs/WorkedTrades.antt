-- Worked frames of trades and quotes, as an analyst writes them.
use Rattle.std.specs.Prelude.{ℕ, ◌≡◌, Bool, true, false, List, [], ◌∷◌, Some, None, filter, map, nat_eq, nat_lt, slice_index}
use Rattle.gl_values.specs.declared.kind.Kind.{Kind}
use Rattle.gl_values.specs.declared.kind.Kind.TheVariants.{Signed, Unsigned}
use Rattle.gl_values.specs.Lists.{has_further, slices}
use Rattle.gl_values.specs.Totals.{average_of, count_of, greatest_of, least_of, sum_total}
use Rattle.gl_frames.specs.Frames.{framed, framed_by_key, lag_of, last_value_of, own_of, row_of, total_over}
use Rattle.gl_frames.specs.Worked.{all, itself}

-- a trade: its symbol, its price and its volume
pub record Trade : Type 0 where
  pub symbol : ℕ
  pub price : ℕ
  pub volume : ℕ

-- a trade of one share
abbrev pub of : ℕ → ℕ → Trade
of symbol price = record { symbol = symbol; price = price; volume = 1 }

-- trades of A, whose byte is 65, and of B
abbrev pub trades : List Trade
trades = of 65 5 ∷ of 65 9 ∷ of 66 2 ∷ of 65 4 ∷ of 66 8 ∷ []

-- the fields of a trade
abbrev pub symbol_of : Trade → ℕ
symbol_of t = t.symbol

abbrev pub price_of : Trade → ℕ
price_of t = t.price

abbrev pub volume_of : Trade → ℕ
volume_of t = t.volume

-- price > 4
abbrev pub is_dear : Trade → Bool
is_dear t = nat_lt 4 t.price

-- symbol = 'B'
abbrev pub is_b : Trade → Bool
is_b t = nat_eq t.symbol 66

-- the kinds u32 and s8
abbrev pub u32 : Kind
u32 = Unsigned 32

abbrev pub s8 : Kind
s8 = Signed 8

-- trades without PARTITION
pub record WorkedTrades : Type 0 where
  -- each price beside the one before it
  pub beside : framed (row_of (own_of price_of ∷ lag_of price_of 1 ∷ [])) trades
      ≡ (5 ∷ 0 ∷ []) ∷ (9 ∷ 5 ∷ []) ∷ (2 ∷ 9 ∷ []) ∷ (4 ∷ 2 ∷ []) ∷ (8 ∷ 4 ∷ []) ∷ []
  -- a WHERE takes rows away before there is any frame
  pub where_first : framed (lag_of price_of 1) (filter is_dear trades) ≡ 0 ∷ 5 ∷ 9 ∷ []
  pub sum_of_two : framed (total_over (sum_total 32) price_of (Some 1) all) trades ≡ 5 ∷ 14 ∷ 11 ∷ 6 ∷ 12 ∷ []
  pub least_of_three : framed (total_over (least_of u32) price_of (Some 2) all) trades ≡ 5 ∷ 5 ∷ 2 ∷ 2 ∷ 2 ∷ []
  pub greatest_of_two : framed (total_over (greatest_of u32) itself (Some 1) all) (5 ∷ 3 ∷ 1 ∷ []) ≡ 5 ∷ 5 ∷ 3 ∷ []
  pub average_of_two : framed (total_over (average_of u32) price_of (Some 1) all) trades ≡ 5 ∷ 7 ∷ 5 ∷ 3 ∷ 6 ∷ []
  pub rounded_down : framed (total_over (average_of u32) itself (Some 1) all) (5 ∷ 8 ∷ []) ≡ 5 ∷ 6 ∷ []
  -- all rows up to each
  pub numbers : framed (total_over count_of price_of None all) trades ≡ 1 ∷ 2 ∷ 3 ∷ 4 ∷ 5 ∷ []
  pub running : framed (total_over (sum_total 32) price_of None all) trades ≡ 5 ∷ 14 ∷ 16 ∷ 20 ∷ 28 ∷ []
  -- fewer rows than the frame takes
  pub longest : framed (total_over (sum_total 32) price_of (Some 65535) all) trades ≡ 5 ∷ 14 ∷ 16 ∷ 20 ∷ 28 ∷ []
  pub farthest : framed (lag_of price_of 65535) trades ≡ 0 ∷ 0 ∷ 0 ∷ 0 ∷ 0 ∷ []
  -- the last price of B, and how many of three rows are dear
  pub last_of_b : framed (last_value_of price_of None is_b) trades ≡ 0 ∷ 0 ∷ 2 ∷ 2 ∷ 8 ∷ []
  pub dear_of_three : framed (total_over count_of price_of (Some 2) is_dear) trades ≡ 1 ∷ 2 ∷ 2 ∷ 1 ∷ 1 ∷ []
  -- a sum of no rows is 0, and so is the least of none
  pub none_dear : framed (total_over (least_of u32) price_of (Some 1) is_dear) trades ≡ 5 ∷ 5 ∷ 9 ∷ 0 ∷ 8 ∷ []
  -- frames begin anew in each window of two rows
  pub windows : map (λ w. framed (lag_of price_of 1) w) (slices 2 2 trades)
      ≡ (0 ∷ 5 ∷ []) ∷ (0 ∷ 2 ∷ []) ∷ (0 ∷ []) ∷ []

-- numbers with a sign, -3 and -4 and 100: an average goes toward 0
pub record WorkedSigns : Type 0 where
  pub averages : framed (total_over (average_of s8) itself (Some 1) all) (253 ∷ 252 ∷ 100 ∷ []) ≡ 253 ∷ 253 ∷ 48 ∷ []
  pub least : framed (total_over (least_of s8) itself None all) (253 ∷ 252 ∷ 100 ∷ []) ≡ 253 ∷ 252 ∷ 252 ∷ []

-- trades with PARTITION BY symbol
pub record WorkedSymbols : Type 0 where
  pub before : framed_by_key 2 symbol_of (lag_of price_of 1) trades ≡ 0 ∷ 5 ∷ 0 ∷ 9 ∷ 2 ∷ []
  pub volumes : framed_by_key 2 symbol_of (total_over (sum_total 32) volume_of (Some 1) all) trades
      ≡ 1 ∷ 2 ∷ 1 ∷ 2 ∷ 2 ∷ []
  pub two_are_all : has_further 2 symbol_of trades ≡ false
  -- of one group the rows of A are kept, and that others came is told
  pub one_alone : framed_by_key 1 symbol_of (lag_of price_of 1) trades ≡ 0 ∷ 5 ∷ 9 ∷ []
  pub others_came : has_further 1 symbol_of trades ≡ true
  -- more groups than symbols
  pub more_groups : framed_by_key 65 symbol_of (lag_of price_of 1) trades ≡ 0 ∷ 5 ∷ 0 ∷ 9 ∷ 2 ∷ []
  -- each row's number among those of its symbol; where it is 1 the symbol is new
  pub numbers : framed_by_key 64 symbol_of (total_over count_of price_of None all) trades ≡ 1 ∷ 2 ∷ 1 ∷ 3 ∷ 2 ∷ []
  -- rows of one key behind each other, and a third key that is left out
  pub third_key : framed_by_key 2 itself (row_of (own_of itself ∷ total_over count_of itself (Some 1) all ∷ []))
      (7 ∷ 7 ∷ 7 ∷ 9 ∷ 8 ∷ []) ≡ (7 ∷ 1 ∷ []) ∷ (7 ∷ 2 ∷ []) ∷ (7 ∷ 2 ∷ []) ∷ (9 ∷ 1 ∷ []) ∷ []
  pub third_came : has_further 2 itself (7 ∷ 7 ∷ 7 ∷ 9 ∷ 8 ∷ []) ≡ true

-- a quote or a trade of one feed, which is 1 for a trade
pub record Event : Type 0 where
  pub symbol : ℕ
  pub paid : ℕ
  pub bid : ℕ
  pub trade : ℕ

abbrev pub quoted : ℕ → ℕ → Event
quoted symbol bid = record { symbol = symbol; paid = 0; bid = bid; trade = 0 }

abbrev pub traded : ℕ → ℕ → Event
traded symbol paid = record { symbol = symbol; paid = paid; bid = 0; trade = 1 }

-- quotes and trades of A and B in the order in which they came
abbrev pub feed : List Event
feed = quoted 65 10 ∷ traded 65 11 ∷ traded 66 7 ∷ quoted 65 11 ∷ traded 65 12 ∷ quoted 66 5 ∷ traded 66 6 ∷ []

-- whether an event is a quote
abbrev pub is_quote : Event → Bool
is_quote e = nat_eq e.trade 0

-- whether the first item of a row is 1
abbrev pub begins_with_one : List ℕ → Bool
begins_with_one row = nat_eq (slice_index row 0) 1

-- a select over a select of frames
pub record WorkedSelects : Type 0 where
  -- the first trade of each symbol
  pub first_ones : filter begins_with_one (framed_by_key 64 symbol_of
      (row_of (total_over count_of price_of None all ∷ own_of symbol_of ∷ own_of price_of ∷ [])) trades)
      ≡ (1 ∷ 65 ∷ 5 ∷ []) ∷ (1 ∷ 66 ∷ 2 ∷ []) ∷ []
  -- each trade with the last quote of its symbol
  pub as_of : filter begins_with_one (framed_by_key 64 (λ e. e.symbol)
      (row_of (own_of (λ e. e.trade) ∷ own_of (λ e. e.symbol) ∷ own_of (λ e. e.paid)
      ∷ last_value_of (λ e. e.bid) None is_quote ∷ [])) feed)
      ≡ (1 ∷ 65 ∷ 11 ∷ 10 ∷ []) ∷ (1 ∷ 66 ∷ 7 ∷ 0 ∷ []) ∷ (1 ∷ 65 ∷ 12 ∷ 11 ∷ []) ∷ (1 ∷ 66 ∷ 6 ∷ 5 ∷ []) ∷ []
