use Rattle.std.proofs.Common.{◌++◌, ℕ, List, codes, subst}
use Rattle.gl_bits.specs.Words.{bits_of}
use Rattle.gl_outside.specs.States.{Broke}
use Rattle.gl_outside.proofs.Takes.{broke_more, broke_then, wrote_same, wrote_then}
use Rattle.gl_tuples.specs.Pieces.{line_if, name_in, told_of}
use Rattle.gl_tuples.proofs.Puts.{failed, in_pieces}
use Rattle.gl_tuples.proofs.lines.put_lines.Goals as goal

pub returns-in_err-put_word : goal.returns-in_err-put_word
returns-in_err-put_word g c =
    let name = name_in c.args.format in
    let kinds = c.args.format.kinds.now in
    let n = c.args.cycle in
    let row = bits_of c.args.row.now in
    let pieces = in_pieces name kinds c.args.overflowed c.is_news-news.result c.args.sample row n c.is_news-news.ensures in
    let first = line_if c.is_news-news.result name n (codes ",overflow\n") in
    let second = line_if c.args.sample.valid name n (told_of kinds row) in
    let third = line_if c.args.sample.end name n (codes ",end\n") in
    failed _ _ _ _ c.from_residual.result c.from_residual.ensures.1
    (subst (λ (x : List ℕ). Broke (g.K.Sink.state c.args.out.now) (g.K.Sink.state c.put_word.new.out) x) pieces (broke_more _ _ first (second ++ third) c.in_err-put_word.ensures))

pub returns-in_err-put_row : goal.returns-in_err-put_row
returns-in_err-put_row g c =
    let name = name_in c.args.format in
    let kinds = c.args.format.kinds.now in
    let n = c.args.cycle in
    let row = bits_of c.args.row.now in
    let pieces = in_pieces name kinds c.args.overflowed c.is_news-news.result c.args.sample row n c.is_news-news.ensures in
    let first = line_if c.is_news-news.result name n (codes ",overflow\n") in
    let second = line_if c.args.sample.valid name n (told_of kinds row) in
    let third = line_if c.args.sample.end name n (codes ",end\n") in
    failed _ _ _ _ c.from_residual-in_err-put_row.result c.from_residual-in_err-put_row.ensures.1
    (subst (λ (x : List ℕ). Broke (g.K.Sink.state c.args.out.now) (g.K.Sink.state c.put_row.new.out) x) pieces
    (broke_then _ _ _ first (second ++ third) c.in_ok-put_word.ensures (broke_more _ _ second third c.in_err-put_row.ensures)))

pub returns : goal.returns
returns g c =
    let name = name_in c.args.format in
    let kinds = c.args.format.kinds.now in
    let n = c.args.cycle in
    let row = bits_of c.args.row.now in
    let pieces = in_pieces name kinds c.args.overflowed c.is_news-news.result c.args.sample row n c.is_news-news.ensures in
    let first = line_if c.is_news-news.result name n (codes ",overflow\n") in
    let second = line_if c.args.sample.valid name n (told_of kinds row) in
    let third = line_if c.args.sample.end name n (codes ",end\n") in
    wrote_same _ _ _ _ c.put_word-2.result pieces
    (wrote_then _ _ _ first (second ++ third) c.put_word-2.result c.in_ok-put_word.ensures (wrote_then _ _ _ second third c.put_word-2.result c.in_ok-put_row.ensures c.put_word-2.ensures))
