use Rattle.gl_verilog_faults.proofs.Law.{demands_valid, valid_demands, no_loop_free}
use Rattle.gl_verilog_faults.proofs.laws.demands_are_validity.Goals as goal

pub returns-clause-suffice : goal.returns-clause-suffice
returns-clause-suffice c = λ w g met free.
    let v = demands_valid w g met (λ m e. no_loop_free m.assignments (free m e)) in
    record { meant = v.0; resolved = v.1; valid = v.2 }

pub returns-clause-needed : goal.returns-clause-needed
returns-clause-needed c = λ w v. (valid_demands w v.meant v.resolved v.valid).0
