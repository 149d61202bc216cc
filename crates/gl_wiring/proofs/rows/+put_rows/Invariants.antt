use Rattle.gl_wiring.proofs.rows.+put_rows.Given as goal

abbrev pub decreases-put_rows : goal.decreases-put_rows
decreases-put_rows l = l.id
