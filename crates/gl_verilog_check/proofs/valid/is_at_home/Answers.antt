use Rattle.std.proofs.Common.{◌∙◌, List, ap, sym}
use Rattle.std.specs.Prelude.{map}
use Rattle.gl_verilog.specs.Module as spec
use Rattle.gl_verilog.specs.View.{kind_of, statement_of}
use Rattle.gl_verilog.specs.declared.module.Statement.{Statement}
use Rattle.gl_verilog_check.specs.Tests.{is_assigned}
use Rattle.gl_verilog_check.proofs.AtHome.{home_there, home_past}
use Rattle.gl_verilog_check.proofs.valid.is_at_home.Goals as goal

pub returns : goal.returns
returns c =
    let kind = kind_of c.args.declaration.now.kind in
    let there = home_there c.args.homes.now c.args.blocks.now c.args.n c.in-Some.home.now _ c.in-Some-get.block.now _ c.in-Some.ensures.lookup.0 c.in-Some.ensures.lookup.1 c.in-Some-get.ensures.lookup.0 c.in-Some-get.ensures.lookup.1 in
    c.is_assigned-2.ensures ∙ ap (λ (bs : List Statement). is_assigned (map statement_of bs) c.args.n kind) c.from_ref.ensures.value
    ∙ ap (λ (bs : List spec.Statement). is_assigned bs c.args.n kind) (sym there)

pub returns-in_default-get : goal.returns-in_default-get
returns-in_default-get c =
    let kind = kind_of c.args.declaration.now.kind in
    let past = home_past c.args.homes.now c.args.blocks.now c.args.n c.in-Some.home.now _ c.in-Some.ensures.lookup.0 c.in-Some.ensures.lookup.1 c.in_default-get.ensures.lookup.0 in
    c.is_assigned-in_default-get.ensures ∙ ap (λ (bs : List spec.Statement). is_assigned bs c.args.n kind) (sym past)
