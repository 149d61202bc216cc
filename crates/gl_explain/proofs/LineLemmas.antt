-- The lines of a plan's nodes, one after the other.
use Rattle.std.proofs.Common.{◌≡◌, ℕ, suc, ◌+◌, ◌<◌, List, ◌∷◌, ◌++◌, length, drop, sym, ap, ◌∙◌, arith, append_assoc}
use Rattle.std.proofs.Math.Seq.{drop-cons}
use Rattle.std.proofs.lemmas.Option.{get_or_from_slice_get}
use Rattle.gl_schema.specs.declared.schema.Schema.{Schema}
use Rattle.gl_algebra.specs.declared.node.PlanNode.{PlanNode}
use Rattle.gl_algebra.specs.FigureTable.{figures_of}
use Rattle.gl_explain.specs.Lines.{HasLine, line_of, lines_from}

module _ (schema : Schema) (nodes : List PlanNode) where
  -- the lines of the nodes from a number on
  abbrev pub rest : ℕ → List ℕ
  rest number = lines_from schema nodes number (drop number nodes)

  -- one line more
  pub next-line : (number : ℕ) (old new : List ℕ) → number < length nodes → HasLine schema nodes number old new
      → new ++ rest (number + 1) ≡ old ++ rest number
  next-line number old new below h =
      let more : suc number ≡ number + 1 = omega arith in
      let same = get_or_from_slice_get nodes number h.node h.node h.at in
      let split : drop number nodes ≡ h.node ∷ drop (number + 1) nodes =
      drop-cons nodes number h.node below ∙ (λ i. same i ∷ drop (more i) nodes) in
      ap (λ (l : List ℕ). l ++ rest (number + 1)) h.is
      ∙ append_assoc old (line_of schema number h.node (figures_of nodes number)) (rest (number + 1))
      ∙ ap (λ (xs : List PlanNode). old ++ lines_from schema nodes number xs) (sym split)
