use Rattle.std.proofs.Common.{◌≡◌, ◌<◌, ◌∷◌, [], length, subst, List, ℕ, arith, get_or}
use Rattle.std.proofs.lemmas.List.{take_more}
use Rattle.gl_bits.proofs.AllLists.{taken_next}
use Rattle.gl_net.specs.Net.{IsPort}
use Rattle.gl_net.specs.declared.node.Bus.{Bus}
use Rattle.gl_net.specs.declared.node.Direction.TheVariants.{Out}
use Rattle.gl_schema.specs.Ports.{out_column}
use Rattle.gl_wiring.specs.Naming.{Naming, naming_of}
use Rattle.gl_wiring.specs.Emitted.{Puts}
use Rattle.gl_wiring.specs.EmittedPorts.{output}
use Rattle.gl_wiring.proofs.Inputs.{extends_then}
use Rattle.gl_wiring.proofs.OutputLemmas.{named_next, nothing_then, shown_push}
use Rattle.gl_wiring.proofs.output.put_columns.Goals as goal

pub loop-at-preserved : goal.loop-at-preserved
unfolding out_column
loop-at-preserved c =
    let inv = c.loop-at.invariant in
    let i = c.loop-at.at in
    let names = c.args.names.now in
    let columns = c.args.columns.now in
    let naming : Naming = naming_of c.args.face.now in
    let old = c.args.net.now in
    let mid = c.loop-at.net in
    let net = c.put_output.new.net in
    let name = c.index-names-at.result in
    let none : Bus = record { node = 0; width = 0 } in
    let bus : Bus = get_or columns i none in
    let e = c.in_ok-put_output.ensures in
    let named : c.deref.result.now ≡ naming (out_column name) = cc (c.in_ok-name.ensures, c.as_slice.ensures, c.deref.ensures.value) in
    let lt : i < length columns = omega (arith, c.loop-at-test.true, c.requires.lengths) in
    let more = taken_next names i name c.loop-at-test.true c.index-names-at.is in
    let more_columns = take_more columns i none lt in
    let ports : Puts mid net (output (naming (out_column name)) bus.width ∷ []) = subst (λ (n : List ℕ). Puts mid net (output n bus.width ∷ [])) named e.ports in
    let port : IsPort net Out (naming (out_column name)) bus.node = subst (λ (n : List ℕ). IsPort net Out n bus.node) named e.port in
    record {
      extends = extends_then old mid net inv.extends e.extends;
      ports = named_next naming old mid net columns names i bus name c.requires.lengths more_columns more inv.ports ports;
      cost = nothing_then old mid net inv.cost e.cost;
      shown = rw (more, more_columns) (shown_push naming mid net _ _ name bus e.extends inv.shown port);
    }
