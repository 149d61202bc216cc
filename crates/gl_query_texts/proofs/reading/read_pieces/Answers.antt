use Rattle.std.proofs.Common.{[], List, eqb-true, pos_of_ne-zero, reverse, subst, sym, ◌∙◌}
use Rattle.std.proofs.lemmas.Bool.{eqb-false}
use Rattle.gl_query_texts.specs.Pieces.{Piece, pieces_behind, pieces_left}
use Rattle.gl_query_texts.specs.Reading.{Came}
use Rattle.gl_query_texts.proofs.Coming.{came_all, came_more}
use Rattle.gl_query_texts.proofs.Steps.{no_more, some_more}
use Rattle.gl_query_texts.proofs.reading.read_pieces.Goals as goal

pub returns-then-is_empty-clause-done : goal.returns-then-is_empty-clause-done
returns-then-is_empty-clause-done c =
    let all = pieces_behind [] (reverse c.args.left.now.items) c.args.end in
    let left = c.read_piece.new.left in
    let more = came_more c.args.schema.now all (pieces_behind [] (reverse c.loop-left.left.items) c.args.end) (pieces_left (reverse left.items) c.args.end) c.loop-left.statements c.read_piece.new.statements c.loop-left.invariant c.in_ok-read_piece.ensures.on in
    let none = no_more left.items left.len c.args.end left.ok.0 (eqb-true left.len 0 (sym c.is_empty.ensures ∙ c.if-is_empty.true)) in
    came_all c.args.schema.now all c.read_piece.new.statements (subst (λ (ps : List Piece). Came c.args.schema.now all ps c.read_piece.new.statements) none more)

pub loop-left-preserved : goal.loop-left-preserved
loop-left-preserved c =
    let all = pieces_behind [] (reverse c.args.left.now.items) c.args.end in
    let left = c.read_piece.new.left in
    let more = came_more c.args.schema.now all (pieces_behind [] (reverse c.loop-left.left.items) c.args.end) (pieces_left (reverse left.items) c.args.end) c.loop-left.statements c.read_piece.new.statements c.loop-left.invariant c.in_ok-read_piece.ensures.on in
    let some = some_more left.items left.len c.args.end left.ok.0 (let ne = eqb-false left.len 0 (sym c.is_empty.ensures ∙ c.if-is_empty.false) in pos_of_ne-zero ne) in
    subst (λ (ps : List Piece). Came c.args.schema.now all ps c.read_piece.new.statements) some more
