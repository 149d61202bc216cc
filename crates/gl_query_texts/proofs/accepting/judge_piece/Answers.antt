use Rattle.gl_query_texts.specs.Pieces.{piece}
use Rattle.gl_query_texts.specs.Reading.{names_before}
use Rattle.gl_query_texts.proofs.Naming.{named_fault, named_is, read_is}
use Rattle.gl_query_texts.proofs.accepting.judge_piece.Goals as goal

pub returns-in-Ok-check-clause-is : goal.returns-in-Ok-check-clause-is
returns-in-Ok-check-clause-is c =
    let p = piece c.args.piece.tokens.items c.args.piece.end in
    let checked = c.in-Ok-check.checked in
    let read = read_is c.args.schema.now p c.in-Ok.statement checked c.in-Ok.ensures.found c.in-Ok-check.ensures.statement c.in-Ok-check.ensures.schema c.in-Ok-check.ensures.checked in
    named_is c.first_faults_are_exact.ensures c.args.schema.now (names_before c.args.before.now) p checked c.named.result c.requires read c.named.ensures

pub returns-in-Ok-check-clause-fault : goal.returns-in-Ok-check-clause-fault
returns-in-Ok-check-clause-fault c =
    let p = piece c.args.piece.tokens.items c.args.piece.end in
    let checked = c.in-Ok-check.checked in
    let read = read_is c.args.schema.now p c.in-Ok.statement checked c.in-Ok.ensures.found c.in-Ok-check.ensures.statement c.in-Ok-check.ensures.schema c.in-Ok-check.ensures.checked in
    named_fault c.first_faults_are_exact.ensures c.args.schema.now (names_before c.args.before.now) p checked c.named.result c.requires read c.named.ensures
