use Rattle.std.proofs.Common.{subst}
use Rattle.gl_tuple_reader.specs.Filing.{CurrentFit}
use Rattle.gl_tuple_reader.proofs.filing.turned.Goals as goal

pub push-requires : goal.push-requires
push-requires c = subst (CurrentFit c.args.whole.columns) c.in-Some.is c.requires
