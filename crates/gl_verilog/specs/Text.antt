-- When a text has a module: it spells a written module that keeps the limits, whose names resolve, and which is valid.
use Rattle.std.specs.Prelude.{◌≡◌, ℕ, List, Some}
use Rattle.gl_verilog.specs.Module.{Module}
use Rattle.gl_verilog.specs.Tokens.{Token, tokens_of}
use Rattle.gl_verilog.specs.Written.{WrittenModule, IsWritten, spell}
use Rattle.gl_verilog.specs.Limits.{IsWithinLimits}
use Rattle.gl_verilog.specs.Resolve.{resolve}
use Rattle.gl_verilog.specs.Valid.{IsValid}

-- these tokens are the spelling of a written module that keeps the limits
pub record IsSpelling (tokens : List Token) (written : WrittenModule) : Type 0 where
  pub spelled : tokens ≡ spell written
  pub grammar : IsWritten written
  pub limits : IsWithinLimits written

-- the module of a text
pub record HasModule (text : List ℕ) (m : Module) : Type 0 where
  pub written : WrittenModule
  pub spelled : tokens_of text ≡ spell written
  pub grammar : IsWritten written
  pub limits : IsWithinLimits written
  pub resolved : resolve written ≡ Some m
  pub valid : IsValid m
