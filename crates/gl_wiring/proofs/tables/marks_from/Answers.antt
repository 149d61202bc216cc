use Rattle.gl_wiring.proofs.tables.marks_from.Goals as goal

pub marks_of-requires : goal.marks_of-requires
marks_of-requires c = rw c.from_ref.ensures.value (c.requires, tt)
