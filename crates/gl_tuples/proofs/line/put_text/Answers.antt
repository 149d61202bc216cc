use Rattle.std.proofs.Common.{ℕ, ◌-◌, List, ◌++◌, take, drop, ap, ◌∙◌}
use Rattle.gl_schema.specs.Seen.{quoted, unpadded}
use Rattle.gl_tuples.proofs.LineLemmas.{low_part}
use Rattle.gl_tuples.proofs.line.put_text.Goals as goal

pub returns-clause-written : goal.returns-clause-written
returns-clause-written c =
    c.put_quoted.ensures.written ∙ ap (λ (text : List ℕ). take c.args.at c.args.into.now ++ quoted text)
    (c.unpadded.ensures.text ∙ ap unpadded (ap (λ (all : List ℕ). take (8 - (8 - c.args.bytes)) (drop (8 - c.args.bytes) all)) c.to_be_bytes-all.ensures ∙ low_part c.args.bytes c.args.bits c.requires.short))
