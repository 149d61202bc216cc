-- The tokens of what stands in brackets unless it fits without.
use Rattle.std.proofs.Common.{◌≡◌, Bool, true, false, ◌++◌, refl, sym, append-nil}
use Rattle.gl_query_reader.specs.Written.{Expr, Query, spell, spell_query}
use Rattle.gl_query_printer.specs.Brackets.{opening, closing}
use Rattle.gl_query_printer.specs.Canonical.{fitted, bracketed_unless}

pub spell_fitted : (fits : Bool) (e : Expr) → spell (fitted fits e) ≡ opening fits ++ (spell e ++ closing fits)
spell_fitted true e = sym (append-nil (spell e))
spell_fitted false e = refl

pub spell_bracketed : (fits : Bool) (q : Query) → spell_query (bracketed_unless fits q) ≡ opening fits ++ (spell_query q ++ closing fits)
spell_bracketed true q = sym (append-nil (spell_query q))
spell_bracketed false q = refl

pub ruleset operands = (spell_fitted, spell_bracketed)
