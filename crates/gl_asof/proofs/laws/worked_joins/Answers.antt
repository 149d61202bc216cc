use Rattle.std.proofs.Common.{refl}
use Rattle.gl_values.specs.Lists.{has_further}
use Rattle.gl_asof.proofs.laws.worked_joins.Goals as goal

pub returns-clause-joins : goal.returns-clause-joins
returns-clause-joins c = record {
  all_symbols = refl;
  one_symbol = refl;
}

pub returns-clause-sides : goal.returns-clause-sides
returns-clause-sides c = record {
  no_quotes = refl;
  no_trades = refl;
  nothing = refl;
}

pub returns-clause-keys : goal.returns-clause-keys
unfolding has_further
returns-clause-keys c = record {
  two_are_all = refl;
  second_came = refl;
  by_a_quote = refl;
  in_one_cycle = refl;
  a_cycle_before = refl;
}
