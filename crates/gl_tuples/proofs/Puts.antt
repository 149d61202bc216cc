-- The lines of a cycle, from their pieces, and of a result that stands alone.
use Rattle.std.proofs.Common.{◌≡◌, ℕ, List, [], ◌∷◌, Bool, true, false, Option, Some, None, Result, Ok, Err, IsErrAnd, refl, sym, ap, ◌∙◌, append_assoc}
use Rattle.std.specs.Prelude.{not, ◌&&◌, ◌++◌, decimal, codes, if◌then◌else◌}
use Rattle.gl_values.specs.declared.kind.Kind.{Kind}
use Rattle.gl_outside.specs.States.{SinkState, Broke, Wrote}
use Rattle.gl_schema.specs.Seen.{Shown, cycle_lines, end_line, line_of, overflow_line, row_line, values_text}
use Rattle.gl_tuples.specs.declared.lines.Sample.{Sample}
use Rattle.gl_tuples.specs.Pieces.{line_if, lines_with, row_with, sampled, told_of}

-- what failed
pub failed : {E : Type 0} (P : E → Type 0) (a b : SinkState) (bytes : List ℕ) (r : Result (Unit {0}) E) → IsErrAnd r P → Broke a b bytes → Wrote a b bytes r
failed P a b bytes (Ok u) h w = absurd h
failed P a b bytes (Err e) h w = w

-- four pieces, the first with what follows it
pub four : (a b c d : List ℕ) → a ++ b ++ c ++ d ≡ a ++ (b ++ (c ++ d))
four a b c d = append_assoc (a ++ b) c d ∙ append_assoc a b (c ++ d)

-- ---- the pieces of a cycle

row_is : (due : Bool) (name : Option (List ℕ)) (kinds : List Kind) (n : ℕ) (row : List ℕ) → line_if due name n (told_of kinds row) ≡ row_with name kinds n (if due then Some row else None)
row_is true name kinds n row = refl
row_is false name kinds n row = refl

pub in_pieces : (name : Option (List ℕ)) (kinds : List Kind) (overflowed due : Bool) (l : Sample) (row : List ℕ) (n : ℕ) → due ≡ (l.group && not overflowed)
    → line_if due name n (codes ",overflow\n") ++ (line_if l.valid name n (told_of kinds row) ++ line_if l.end name n (codes ",end\n")) ≡ lines_with name kinds overflowed (sampled l n row)
in_pieces name kinds overflowed due l row n e =
    ap (λ (b : Bool). line_if b name n (codes ",overflow\n") ++ (line_if l.valid name n (told_of kinds row) ++ line_if l.end name n (codes ",end\n"))) e
    ∙ ap (λ (x : List ℕ). line_if (l.group && not overflowed) name n (codes ",overflow\n") ++ (x ++ line_if l.end name n (codes ",end\n"))) (row_is l.valid name kinds n row)

-- ---- without a name

overflow_is : (due : Bool) (n : ℕ) → line_if due None n (codes ",overflow\n") ≡ (if due then overflow_line n else [])
unfolding overflow_line
overflow_is true n = sym (append_assoc (decimal n) (codes ",overflow") (10 ∷ []))
overflow_is false n = refl

end_is : (due : Bool) (n : ℕ) → line_if due None n (codes ",end\n") ≡ (if due then end_line n else [])
unfolding end_line
end_is true n = sym (append_assoc (decimal n) (codes ",end") (10 ∷ []))
end_is false n = refl

alone_is : (kinds : List Kind) (n : ℕ) (row : Option (List ℕ)) → row_with None kinds n row ≡ row_line kinds n row
unfolding line_of
alone_is kinds n None = refl
alone_is kinds n (Some row) = sym (append_assoc (decimal n) (values_text kinds row) (10 ∷ []))

pub lines_alone : (kinds : List Kind) (told : Bool) (s : Shown) → lines_with None kinds told s ≡ cycle_lines kinds told s
lines_alone kinds told s =
    let due = s.group && not told in
    let ends = line_if s.end None s.cycle (codes ",end\n") in
    ap (λ (x : List ℕ). x ++ (row_with None kinds s.cycle s.row ++ ends)) (overflow_is due s.cycle)
    ∙ ap (λ (x : List ℕ). (if due then overflow_line s.cycle else []) ++ (x ++ ends)) (alone_is kinds s.cycle s.row)
    ∙ ap (λ (x : List ℕ). (if due then overflow_line s.cycle else []) ++ (row_line kinds s.cycle s.row ++ x)) (end_is s.end s.cycle)
    ∙ sym (append_assoc (if due then overflow_line s.cycle else []) (row_line kinds s.cycle s.row) (if s.end then end_line s.cycle else []))
