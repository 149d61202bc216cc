-- A wire over the columns of another that are asked for.
use Rattle.std.specs.Prelude.{◌≡◌, ℕ, List, Some, map, slice_get}
use Rattle.gl_wire.specs.declared.wire.Wire.{Wire}

-- a wire with the lines of another, and of its columns those that are asked for
pub record HasColumns (asked : List ℕ) (source picked : Wire) : Type 0 where
  pub same_valid : picked.valid ≡ source.valid
  pub same_eos : picked.eos ≡ source.eos
  pub columns : map Some picked.columns ≡ map (slice_get source.columns) asked
