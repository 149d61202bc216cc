-- What is compiled for the program can be run.
use Rattle.std.proofs.Common.{ℕ, sym, subst}
use Rattle.gl_gaps.specs.declared.Gaps.{Gaps}
use Rattle.gl_compiler.specs.declared.compiling.Compiled.{Compiled}
use Rattle.gl_compiler.specs.Built.{gaps_of}
use Rattle.gl_compiler.specs.Meets.{Meets}
use Rattle.gl_compiler.specs.Runnable.{IsRunnable}
use Rattle.gl_many.specs.declared.compiling.Many.{Many}
use Rattle.gl_many.specs.Runs.{AreRunnable}
use Rattle.gl_top_inputs.specs.Passing.{AreCompiledTogether, IsCompiled}

pub runnable_of : (c : Compiled) → IsCompiled c → IsRunnable c
runnable_of c is = record {
  fine = is.fine;
  meets = subst (λ (g : Gaps). Meets c.schema c.statement c.printed.latency g c.text.items) (sym is.gaps) (subst (λ (n : ℕ). Meets c.schema c.statement n (gaps_of c.schema c.statement) c.text.items) (sym is.latency) is.meets);
  columns = is.columns;
  many = is.many;
  kinds = is.kinds;
  short = is.short;
}

-- and so is what is compiled of several queries
pub runnable_together : (m : Many) → AreCompiledTogether m → AreRunnable m
runnable_together m is = record { fine = is.fine; meets = is.meets; latencies = is.latencies; gap = is.gap; ticks = is.ticks; short = is.short }
