-- Windows of each key, put piece by piece, make the whole.
use Rattle.std.proofs.Common.{◌≡◌, ℕ, Bool, List, [], ◌∷◌, ◌++◌, sym, ap, ◌∙◌, append_assoc}
use Rattle.gl_query.specs.declared.tree.Measure.TheVariants.{Tuples}
use Rattle.gl_query.specs.Shapes.{QueryShape}
use Rattle.gl_query.specs.Shapes as shape
use Rattle.gl_query_tokens.specs.declared.token.Plain.TheVariants as plain
use Rattle.gl_query_tokens.specs.declared.token.Token.{Token}
use Rattle.gl_query_tokens.specs.declared.token.Token.TheVariants as token
use Rattle.gl_query_reader.specs.Written.{Query, spell_query, spell_window, spell_grouping}
use Rattle.gl_query_printer.specs.Brackets.{is_stream, opening, closing}
use Rattle.gl_query_printer.specs.Canonical.{name_of, window_of, grouping_of, source_of, query_of}
use Rattle.gl_query_printer.proofs.Operands.{spell_bracketed}

-- pieces put one behind another
gathered : (t head s c g w b e : List Token)
    → ((((((t ++ head) ++ s) ++ c) ++ g) ++ w) ++ b) ++ e ≡ t ++ (head ++ (s ++ (c ++ (g ++ (w ++ (b ++ e))))))
gathered t head s c g w b e =
    append_assoc (((((t ++ head) ++ s) ++ c) ++ g) ++ w) b e
    ∙ append_assoc ((((t ++ head) ++ s) ++ c) ++ g) w (b ++ e)
    ∙ append_assoc (((t ++ head) ++ s) ++ c) g (w ++ (b ++ e))
    ∙ append_assoc ((t ++ head) ++ s) c (g ++ (w ++ (b ++ e)))
    ∙ append_assoc (t ++ head) s (c ++ (g ++ (w ++ (b ++ e))))
    ∙ append_assoc t head (s ++ (c ++ (g ++ (w ++ (b ++ e)))))

-- a source in its brackets, and what stands behind it
source_put : (q : Query) (rest : List Token)
    → opening (is_stream q) ++ (spell_query q ++ (closing (is_stream q) ++ rest)) ≡ spell_query (source_of q) ++ rest
source_put q rest =
    ap (λ ts. opening (is_stream q) ++ ts) (sym (append_assoc (spell_query q) (closing (is_stream q)) rest))
    ∙ sym (append_assoc (opening (is_stream q)) (spell_query q ++ closing (is_stream q)) rest)
    ∙ ap (λ ts. ts ++ rest) (sym (spell_bracketed (is_stream q) q))

pieces_put : (var key : List ℕ) (source body : QueryShape) (groups size advance : ℕ) (t : List Token)
    → ((((((t ++ (token.Each 0 ∷ token.Name (name_of var) ∷ token.Plain plain.In ∷ opening (is_stream (query_of source)))) ++ spell_query (query_of source))
    ++ closing (is_stream (query_of source))) ++ spell_grouping (grouping_of key groups)) ++ (spell_window (window_of Tuples size advance) ++ token.Open 0 ∷ []))
    ++ spell_query (query_of body)) ++ (token.Plain plain.Close ∷ [])
    ≡ t ++ spell_query (query_of (shape.Partition var source key groups size advance body))
pieces_put var key source body groups size advance t =
    let head : List Token = token.Each 0 ∷ token.Name (name_of var) ∷ token.Plain plain.In ∷ [] in
    let o = opening (is_stream (query_of source)) in
    let w = spell_window (window_of Tuples size advance) ++ token.Open 0 ∷ [] in
    let e : List Token = token.Plain plain.Close ∷ [] in
    let rest = spell_grouping (grouping_of key groups) ++ (w ++ (spell_query (query_of body) ++ e)) in
    gathered t (head ++ o) (spell_query (query_of source)) (closing (is_stream (query_of source))) (spell_grouping (grouping_of key groups)) w (spell_query (query_of body)) e
    ∙ ap (λ ts. t ++ (head ++ ts)) (source_put (query_of source) rest)

-- each put adds its piece, and all of them are the query
pub keyed_windows_put : (q source source1 source2 source3 body body1 : QueryShape) (var key : List ℕ) (groups size advance : ℕ)
    (bare bare' : Bool) (t0 t1 t2 t3 t4 t5 t6 t7 : List Token)
    → q ≡ shape.Partition var source key groups size advance body
    → source1 ≡ source → source2 ≡ source → source3 ≡ source → body1 ≡ body
    → bare ≡ is_stream (query_of source1) → bare' ≡ is_stream (query_of source3)
    → t1 ≡ t0 ++ token.Each 0 ∷ token.Name (name_of var) ∷ token.Plain plain.In ∷ opening bare
    → t2 ≡ t1 ++ spell_query (query_of source2)
    → t3 ≡ t2 ++ closing bare'
    → t4 ≡ t3 ++ spell_grouping (grouping_of key groups)
    → t5 ≡ t4 ++ spell_window (window_of Tuples size advance) ++ token.Open 0 ∷ []
    → t6 ≡ t5 ++ spell_query (query_of body1)
    → t7 ≡ t6 ++ token.Plain plain.Close ∷ []
    → t7 ≡ t0 ++ spell_query (query_of q)
keyed_windows_put q source source1 source2 source3 body body1 var key groups size advance bare bare' t0 t1 t2 t3 t4 t5 t6 t7 is s1 s2 s3 b1 u u' h1 h2 h3 h4 h5 h6 h7 =
    rw (h7, h6, h5 ∙ append_assoc t4 (spell_window (window_of Tuples size advance)) (token.Open 0 ∷ []), h4, h3, h2, h1, u, u', s1, s2, s3, b1, is) (pieces_put var key source body groups size advance t0)
