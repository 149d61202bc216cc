use Rattle.gl_top_status.specs.Refusals.{note_of}
use Rattle.gl_top_status.proofs.Noting.{broke_off}
use Rattle.gl_top_status.proofs.notes.put_explained.Goals as goal

pub returns-in_err-put_note : goal.returns-in_err-put_note
returns-in_err-put_note g c =
    broke_off _ _ _ (note_of c.args.words.now c.args.refusal.now) c.args.rest.now c.from_residual.result c.from_residual.ensures.1 c.in_err-put_note.ensures
