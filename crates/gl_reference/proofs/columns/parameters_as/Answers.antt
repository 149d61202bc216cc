use Rattle.std.proofs.Common.{[], length}
use Rattle.std.specs.List.{range_with_len}
use Rattle.gl_reference.proofs.columns.parameters_as.Goals as goal

pub returns : goal.returns
returns c = λ words is. (λ i. record {
  stream = record { name = c.parameters_name.ensures i; columns = c.args.columns.now };
  rows = is i;
  places = range_with_len 0 (length (is i));
  times = [];
  ticks = 0;
})
