use Rattle.std.proofs.Common.{◌≡◌, ◌++◌, drop, map}
use Rattle.gl_vcd.specs.Signals.{columns_of, kind_of, number_of_name}
use Rattle.gl_vcd.specs.Standing.{signal_of, signals_of}
use Rattle.gl_vcd.proofs.columns.Columns.add_all.Given as goal

-- the columns so far, and those that are left, are all
abbrev pub invariant-loop-signal : goal.invariant-loop-signal
invariant-loop-signal l = record {
  numbers : l.self.numbers.items ++ map (λ s. number_of_name (signals_of l.signals) s.name) (columns_of (map signal_of (drop l.signal-index l.signal-items)))
      ≡ map (λ s. number_of_name (signals_of l.signals) s.name) (columns_of (signals_of l.signals));
  kinds : l.self.kinds.items ++ map kind_of (columns_of (map signal_of (drop l.signal-index l.signal-items))) ≡ map kind_of (columns_of (signals_of l.signals));
}
