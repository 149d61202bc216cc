use Rattle.std.proofs.Common.{◌≡◌, ◌∙◌, ℕ, List, true, sym, ap}
use Rattle.std.specs.Prelude.{map}
use Rattle.gl_verilog.specs.View.{declaration_of, statement_of}
use Rattle.gl_verilog_check.specs.Homes.{keep_homes, all_at_home}
use Rattle.gl_verilog_check.proofs.AtHome.{all_assigned_at_home}
use Rattle.gl_verilog_check.proofs.valid.have_drivers.Goals as goal

pub returns-then-keep_homes : goal.returns-then-keep_homes
returns-then-keep_homes c =
    let bs = map statement_of c.args.blocks.now in
    let ds = map declaration_of c.args.declarations.now in
    let homes = c.in-Ok.homes.items in
    let kept : keep_homes homes 0 bs ≡ true = ap (λ (hs : List ℕ). keep_homes hs 0 bs) (sym c.deref.ensures.value) ∙ sym c.if-keep_homes.ensures in
    c.are_at_home.ensures ∙ ap (λ (hs : List ℕ). all_at_home hs bs 0 ds) c.deref-then-keep_homes.ensures.value ∙ all_assigned_at_home homes bs 0 ds kept
