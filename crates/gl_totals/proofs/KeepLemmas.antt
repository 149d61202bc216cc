-- What tells whose a state is stays in the netlist, and so do the lines and columns of streams.
use Rattle.std.proofs.Common.{◌≤◌, arith}
use Rattle.gl_net.specs.Net.{Net, Keeps}
use Rattle.gl_rows.proofs.MadeLemmas.{source_kept}
use Rattle.gl_totals.specs.Costs.{lag_of}
use Rattle.gl_totals.specs.Open.{KeepFits}
use Rattle.gl_totals.specs.Totals.{IsStream}
use Rattle.gl_totals.specs.declared.rows.Keep.{Keep}
use Rattle.gl_totals.specs.declared.rows.Keep.TheVariants.{Register, Slots}
use Rattle.gl_totals.specs.declared.total.Stream.{Stream}
use Rattle.gl_wire.proofs.ColumnLemmas.{bit_kept, bus_kept}

pub keep_kept : (old new : Net) (keep : Keep) → Keeps old new → KeepFits old keep → KeepFits new keep
keep_kept old new Register keeps fits = fits
keep_kept old new (Slots first begins slot next) keeps fits =
    (bit_kept old new first keeps fits.0, bit_kept old new begins keeps fits.1, bus_kept old new slot keeps fits.2, bus_kept old new next keeps fits.3, fits.4, fits.5)

pub stream_kept : (old new : Net) (s : Stream) → Keeps old new → IsStream old s → IsStream new s
stream_kept old new s keeps is = record {
  valid = bit_kept old new s.rows.valid keeps is.valid;
  eos = bit_kept old new s.rows.eos keeps is.eos;
  keep = keep_kept old new s.rows.keep keeps is.keep;
  source = source_kept old new s.source.columns.now s.source.kinds.now s.source.words.now keeps is.source;
}

pub lag_small : (keep : Keep) → lag_of keep ≤ 1
lag_small Register = omega arith
lag_small (Slots first begins slot next) = omega arith
