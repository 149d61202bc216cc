use Rattle.std.proofs.Common.{◌≡◌, Bool, true, false, refl, sym}
use Rattle.std.specs.Prelude.{IsTrue, ◌↔◌}
use Rattle.std.specs.Bool.{Decides}
use Rattle.std.proofs.lemmas.Slice.Eq.{bytes_eq-Decides}
use Rattle.gl_query_tokens.specs.Words.{is_keyword}
use Rattle.gl_query_tokens.proofs.words.is_keyword.Goals as goal

same_test : (r b : Bool) (P : Type 0) → IsTrue r ↔ P → Decides b P → r ≡ b
same_test true true P i d = refl
same_test false false P i d = refl
same_test true false P i d = sym (d.1 (i.0 refl))
same_test false true P i d = i.1 (d.0 refl)

pub returns : goal.returns
unfolding is_keyword
returns c = same_test _ _ _ c.eq_ignore_ascii_case.ensures.test (bytes_eq-Decides _ _)
