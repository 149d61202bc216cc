-- A module that was read, with the places of its name and of its ports in the text.
use Rattle.std.specs.Prelude.{◌≡◌, ℕ, ◌+◌, List, [], ◌∷◌, length, Some, slice_get}
use Rattle.std.specs.List.{AllZip}
use Rattle.gl_verilog.specs.Tokens.{tokens_of, IsPlaceOf}
use Rattle.gl_verilog.specs.Written.{WrittenPort, WrittenModule, IsWritten, spell, spell_port}
use Rattle.gl_verilog.specs.Limits.{IsWithinLimits}
use Rattle.gl_verilog.specs.Resolve.{resolve}
use Rattle.gl_verilog.specs.Valid.{IsValid}
use Rattle.gl_verilog.specs.View.{module_of}
use Rattle.gl_verilog_faults.specs.Demands.{name_token}
use Rattle.gl_verilog_reader.specs.declared.source.Source.{Source}

-- the numbers of the tokens that name ports, where the first port begins with token k
abbrev pub port_tokens : ℕ → List WrittenPort → List ℕ
port_tokens k [] = []
port_tokens k (p ∷ ps) = (k + name_token p) ∷ port_tokens (k + length (spell_port p) + 1) ps

-- the token of this number stands at this place
abbrev pub IsAt : List ℕ → ℕ → ℕ → Type 0
IsAt places token at = slice_get places token ≡ Some at

-- the name stands behind `module`, the ports behind the name and a bracket, as the places of tokens tell
pub record IsLocated (places : List ℕ) (w : WrittenModule) (s : Source) : Type 0 where
  pub name : IsAt places 1 s.name_at
  pub ports : AllZip (IsAt places) (port_tokens 3 w.ports) s.ports_at

-- the module of a text; its name and each port's name stand at these places. The name stands behind `module`, the ports
-- behind the name and a bracket
pub record IsSource (text : List ℕ) (s : Source) : Type 0 where
  pub written : WrittenModule
  pub spelled : tokens_of text ≡ spell written
  pub grammar : IsWritten written
  pub limits : IsWithinLimits written
  pub resolved : resolve written ≡ Some (module_of s.design)
  pub valid : IsValid (module_of s.design)
  pub name : IsPlaceOf text 1 s.name_at
  pub ports : AllZip (IsPlaceOf text) (port_tokens 3 written.ports) s.ports_at
