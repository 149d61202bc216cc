use Rattle.std.proofs.Common.{◌∙◌, sym}
use Rattle.std.specs.Prelude.{map}
use Rattle.gl_verilog.specs.View.{declaration_of, assignment_of, statement_of}
use Rattle.gl_verilog_check.specs.Kept.{module_with}
use Rattle.gl_verilog_check.proofs.Drives.{valid_parts, assigned_parts}
use Rattle.gl_verilog_check.proofs.Names.{distinct_new}
use Rattle.gl_verilog_check.proofs.valid.parts_are_valid.Goals as goal

pub returns-then-not-distinct-clause-all : goal.returns-then-not-distinct-clause-all
returns-then-not-distinct-clause-all c = λ v. sym c.if-not-distinct.true ∙ c.in_ok-distinct.ensures ∙ distinct_new (map declaration_of c.args.declarations.now) v.names

pub returns-then-not-runs-clause-all : goal.returns-then-not-runs-clause-all
returns-then-not-runs-clause-all c = λ v.
    sym c.if-not-runs.true ∙ c.in_ok-runs.ensures.all (c.valid_modules_run.ensures (module_with (map declaration_of c.args.declarations.now) (map assignment_of c.args.assignments.now) (map statement_of c.args.blocks.now)) v)

pub returns-clause-yes : goal.returns-clause-yes
returns-clause-yes c = λ h.
    valid_parts (map declaration_of c.args.declarations.now) (map assignment_of c.args.assignments.now) (map statement_of c.args.blocks.now) (sym c.in_ok-distinct.ensures ∙ c.if-not-distinct.false) (c.in_ok-runs.ensures.yes c.if-not-runs.false) (sym c.in_ok-assigned.ensures ∙ h)

pub returns-clause-all : goal.returns-clause-all
returns-clause-all c = λ v.
    c.in_ok-assigned.ensures ∙ assigned_parts (map declaration_of c.args.declarations.now) (map assignment_of c.args.assignments.now) (map statement_of c.args.blocks.now) v
