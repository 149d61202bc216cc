use Rattle.gl_schema.proofs.Pinned.{pins_named, pins_fit}
use Rattle.gl_schema.proofs.profile.pins_go_by_the_profile.Goals as goal

pub returns : goal.returns
returns c = record { names = pins_named; values = pins_fit }
