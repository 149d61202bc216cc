use Rattle.std.proofs.Common.{refl}
use Rattle.gl_bits.specs.Words.{product_of}
use Rattle.gl_values.proofs.laws.worked_bits.Goals as goal

pub returns : goal.returns
unfolding product_of
returns c = record {
  both = refl;
  either = refl;
  one_alone = refl;
  up = refl;
  up_signed = refl;
  down = refl;
  down_signed = refl;
  down_above = refl;
  least = refl;
  all_sign = refl;
}
