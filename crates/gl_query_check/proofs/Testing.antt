-- Facts of the rules.
use Rattle.std.proofs.Common.{◌≡◌, Bool, true, false, refl}
use Rattle.std.specs.Prelude.{◌||◌}

pub one_source : (b : Bool) → b ≡ (b || false)
one_source true = refl
one_source false = refl
