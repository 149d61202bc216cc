-- A text has exactly one verdict.
use Rattle.std.proofs.Common.{◌≡◌, ℕ, inl, inr, List, ap, ◌∙◌}
use Rattle.gl_verilog_faults.specs.Faults.{Verdict, IsModule, IsSyntax, IsTooDeep, Breaks, IsVerdict}
use Rattle.gl_verilog_faults.proofs.Exact.{syntax_depth, syntax_one, depth_one}
use Rattle.gl_verilog_faults.proofs.Total.{HasVerdict}
use Rattle.gl_verilog_grammar.proofs.ReadModules.{one_module}
use Rattle.gl_verilog_grammar.proofs.Tells.{has_verdict}
use Rattle.gl_verilog_grammar.proofs.Unique.{module_judged, syntax_module, depth_module, syntax_judged, depth_judged, judged_one}

by_case : (text : List ℕ) → HasVerdict text → (v : Verdict) × IsVerdict text v
by_case text (inl m) = (IsModule m.0, m.1)
by_case text (inr (inl s)) = (IsSyntax s.0, s.1)
by_case text (inr (inr (inl d))) = (IsTooDeep d.0, d.1)
by_case text (inr (inr (inr j))) = (Breaks j.0 j.1, j.2)

pub has_one : (text : List ℕ) → (v : Verdict) × IsVerdict text v
has_one text = by_case text (has_verdict text)

pub one_only : (text : List ℕ) (v w : Verdict) → IsVerdict text v → IsVerdict text w → v ≡ w
one_only text (IsModule m) (IsModule n) a b = ap IsModule (one_module text m n a b)
one_only text (IsModule m) (IsSyntax q) a b = absurd (syntax_module text q m b a)
one_only text (IsModule m) (IsTooDeep q) a b = absurd (depth_module text q m b a)
one_only text (IsModule m) (Breaks r q) a b = absurd (module_judged text r q m b a)
one_only text (IsSyntax p) (IsModule n) a b = absurd (syntax_module text p n a b)
one_only text (IsSyntax p) (IsSyntax q) a b = ap IsSyntax (syntax_one text p q a b)
one_only text (IsSyntax p) (IsTooDeep q) a b = absurd (syntax_depth text p q a b)
one_only text (IsSyntax p) (Breaks r q) a b = absurd (syntax_judged text p q r a b)
one_only text (IsTooDeep p) (IsModule n) a b = absurd (depth_module text p n a b)
one_only text (IsTooDeep p) (IsSyntax q) a b = absurd (syntax_depth text q p b a)
one_only text (IsTooDeep p) (IsTooDeep q) a b = ap IsTooDeep (depth_one text p q a b)
one_only text (IsTooDeep p) (Breaks r q) a b = absurd (depth_judged text p q r a b)
one_only text (Breaks r p) (IsModule n) a b = absurd (module_judged text r p n a b)
one_only text (Breaks r p) (IsSyntax q) a b = absurd (syntax_judged text q p r b a)
one_only text (Breaks r p) (IsTooDeep q) a b = absurd (depth_judged text q p r b a)
one_only text (Breaks r p) (Breaks s q) a b =
    let o = judged_one text r s p q a b in
    ap (λ x. Breaks x p) o.0 ∙ ap (Breaks s) o.1
