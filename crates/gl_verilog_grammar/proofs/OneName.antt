-- A list of one name.
use Rattle.std.proofs.Common.{◌≡◌, ◌<◌, ◌≤◌, List, [], ◌∷◌, length, get_or, Option, Some, sym, ap, arith}
use Rattle.gl_verilog_tokens.specs.declared.token.Word.{Word}
use Rattle.gl_verilog_tokens.specs.View.{range_of, names_of}
use Rattle.gl_verilog_grammar.specs.declared.stage.Sort.{Sort}
use Rattle.gl_verilog_grammar.specs.declared.stage.Sort.TheVariants as sort_is
use Rattle.gl_verilog_grammar.specs.declared.stage.Plain.TheVariants as plain_is
use Rattle.gl_verilog_grammar.specs.Stages as machine
use Rattle.gl_verilog_grammar.specs.View.{sort_of, plain_of}

-- a register alone may be a memory
pub one_name : (xs : List Word) (sort : Sort) (range : Option Word) (d : Word) → sort ≡ sort_is.RegisterSort → 1 ≤ length xs → length xs < 2 → Some (plain_of (plain_is.WantFirst range (get_or xs 0 d))) ≡ machine.memory_stage (sort_of sort) (range_of range) (names_of xs)
unfolding plain_of
one_name [] sort range d e lo hi = absurd (omega arith)
one_name (x ∷ []) sort range d e lo hi = ap (λ (k : Sort). machine.memory_stage (sort_of k) (range_of range) (names_of (x ∷ []))) (sym e)
one_name (x ∷ y ∷ xs) sort range d e lo hi = absurd (omega arith)
