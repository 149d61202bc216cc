use Rattle.std.proofs.Common.{refl}
use Rattle.gl_arrival.proofs.laws.worked_arrivals.Goals as goal

pub returns-clause-unions : goal.returns-clause-unions
returns-clause-unions c = record {
  prices_first = refl;
  bids_first = refl;
  no_prices = refl;
  no_bids = refl;
  nothing = refl;
  of_one = refl;
}

pub returns-clause-nests : goal.returns-clause-nests
returns-clause-nests c = record {
  to_the_left = refl;
  to_the_right = refl;
  filtered = refl;
  lagged = refl;
  parted = refl;
}

pub returns-clause-bodies : goal.returns-clause-bodies
returns-clause-bodies c = record {
  twice = refl;
  alone = refl;
}

pub returns-clause-joins : goal.returns-clause-joins
returns-clause-joins c = record {
  no_later = refl;
  before = refl;
  one_symbol = refl;
}

pub returns-clause-places : goal.returns-clause-places
returns-clause-places c = record {
  of_trades = refl;
  of_quotes = refl;
}
