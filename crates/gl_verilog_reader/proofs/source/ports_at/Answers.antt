use Rattle.std.proofs.Common.{List, [], map, sym, subst, arith}
use Rattle.std.specs.List.{AllZip}
use Rattle.std.proofs.lemmas.List.{append-nil, drop_all}
use Rattle.gl_verilog_tokens.specs.declared.written.WrittenPort.{WrittenPort}
use Rattle.gl_verilog_tokens.specs.View.{port_of}
use Rattle.gl_verilog_tokens.specs.Placed.{places_in}
use Rattle.gl_verilog_reader.specs.Sources.{IsAt, port_tokens}
use Rattle.gl_verilog_reader.proofs.source.ports_at.Goals as goal

pub returns : goal.returns
returns c =
    let R = IsAt (places_in c.args.lexemes.now) in
    let ports = c.args.ports.now in
    subst (AllZip R (port_tokens 3 (map port_of ports))) (append-nil c.loop-port.places.items)
    (c.loop-port.invariant.placed [] (subst (λ (left : List WrittenPort). AllZip R (port_tokens c.loop-port.next (map port_of left)) []) (sym (drop_all c.loop-port.port-index ports (omega arith))) tt))
