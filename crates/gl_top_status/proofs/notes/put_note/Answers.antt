use Rattle.gl_top_status.proofs.notes.put_note.Goals as goal

pub returns-in-Tuples : goal.returns-in-Tuples
returns-in-Tuples g c = rw (c.in-Tuples.is, ← c.tuples_kind.ensures, ← c.tuples_record.ensures) c.put_kind-in-Tuples.ensures
