use Rattle.std.proofs.Common.{◌≡◌, ◌∙◌, ℕ, ◌≤◌, List, length, map, replicate, ap, sym, subst, slice_index, vec_capacity}
use Rattle.gl_bits.proofs.AllLists.{length_map}
use Rattle.gl_verilog.specs.View.{declaration_of, chained, module_of}
use Rattle.gl_verilog.specs.Runnable.{inputs_from}
use Rattle.gl_verilog.specs.declared.module.Declaration.{Declaration}
use Rattle.gl_verilog.specs.declared.module.Statement.{Statement}
use Rattle.gl_sim.specs.Starts.{zero_bank}
use Rattle.gl_sim.specs.Updates.{writes_in}
use Rattle.gl_sim.proofs.Fresh.{zeros_length, zeros_at}
use Rattle.gl_sim.proofs.Draws.{state_along}
use Rattle.gl_sim.proofs.simulator.Sim.new.Goals as goal

pub invariant_of-result : goal.invariant_of-result
invariant_of-result c =
    let ds = (module_of c.args.design).declarations in
    let count : length c.as_slice-declarations.result.now ≡ length ds = ap (λ (xs : List Declaration). length xs) c.as_slice-declarations.ensures ∙ sym (length_map declaration_of c.args.design.declarations) in (
      record {
        runnable = c.requires;
        order = c.in_ok-order.ensures;
        ports = c.in_ok-ports.ensures ∙ ap (λ (xs : List Declaration). inputs_from 0 (map declaration_of xs)) c.as_slice-declarations.ensures;
        store = c.begin.ensures.store;
        shown = ap (λ (xs : List ℕ). length xs) c.in_ok-shown.ensures ∙ zeros_length _ ∙ count;
        room = subst (λ (xs : List Statement). writes_in (chained xs) ≤ vec_capacity c.in_ok-waiting.waiting) c.as_slice.ensures c.in_ok-waiting.ensures.room;
      },
      c.in_ok-waiting.ensures.none,
    )

pub begin-requires-clause-zero_values : goal.begin-requires-clause-zero_values
begin-requires-clause-zero_values c =
    let ds = (module_of c.args.design).declarations in
    let count : length c.as_slice-declarations.result.now ≡ length ds = ap (λ (xs : List Declaration). length xs) c.as_slice-declarations.ensures ∙ sym (length_map declaration_of c.args.design.declarations) in
    c.in_ok-values.ensures ∙ ap (λ (n : ℕ). replicate n 0) count

pub begin-requires-clause-zero_words : goal.begin-requires-clause-zero_words
begin-requires-clause-zero_words c = c.in_ok-banks.ensures ∙ ap (λ (xs : List Declaration). map zero_bank (map declaration_of xs)) c.as_slice-declarations.ensures

pub returns-clause-started : goal.returns-clause-started
returns-clause-started c = λ value word starts. state_along (module_of c.args.design).declarations _ _ _ _ _ _ c.begin.ensures.started starts

pub returns-clause-shown : goal.returns-clause-shown
returns-clause-shown c = λ port. ap (λ (xs : List ℕ). slice_index xs port) c.in_ok-shown.ensures ∙ zeros_at _ port
