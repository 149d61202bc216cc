use Rattle.std.proofs.Common.{ap, arith}
use Rattle.gl_vcd.specs.Written.{declarations}
use Rattle.gl_vcd.proofs.Headers.{count_more, few_left, left_clock, left_none, left_port}
use Rattle.gl_tuples.proofs.Puts.{failed}
use Rattle.gl_vcd.proofs.OnWay.{way_cut, way_done, way_first, way_next}
use Rattle.gl_vcd.proofs.writing.put_declarations.Goals as goal
use Rattle.gl_vcd.proofs.writing.put_declarations.Goals.{then-is_dumped+in_ok-put_declaration, else-is_dumped}

pub loop-port-init : goal.loop-port-init
loop-port-init g c = record { count = omega arith; way = way_first _ _ }

pub put_declaration-requires : goal.put_declaration-requires
put_declaration-requires g c =
    let next = left_port c.args.ports.now c.loop-port.port-index c.port-item.result c.loop-port-test.true c.port-item.is c.if-is_dumped.ensures in
    few_left c.args.ports.now c.loop-port.port-index c.loop-port.number c.port-item.result next c.loop-port.invariant.count c.requires

pub returns-in_err-put_declaration : goal.returns-in_err-put_declaration
returns-in_err-put_declaration g c =
    let next = left_port c.args.ports.now c.loop-port.port-index c.port-item.result c.loop-port-test.true c.port-item.is c.if-is_dumped.ensures in
    failed _ _ _ _ c.from_residual.result c.from_residual.ensures.1
    (way_cut _ _ _ _ _ _ _ (ap (declarations c.loop-port.number) next) c.loop-port.invariant.way c.in_err-put_declaration.ensures)

pub loop-port-preserved : goal.loop-port-preserved
loop-port-preserved g c = elim c.if-is_dumped.branch [
  | then-is_dumped+in_ok-put_declaration w ↦
      let next = left_port c.args.ports.now c.loop-port.port-index c.port-item.result c.loop-port-test.true c.port-item.is w.if-is_dumped.ensures in
      rw (w.number-is, w.out-is) (record {
        count = count_more c.args.ports.now c.loop-port.port-index c.loop-port.number c.port-item.result next c.loop-port.invariant.count;
        way = way_next _ _ _ _ _ _ _ (ap (declarations c.loop-port.number) next) c.loop-port.invariant.way w.in_ok-put_declaration.ensures;
      })
  | else-is_dumped w ↦
      let same = left_clock c.args.ports.now c.loop-port.port-index c.port-item.result c.loop-port-test.true c.port-item.is w.if-is_dumped.ensures in
      rw (w.number-is, w.out-is, ← same) (record {
        count = c.loop-port.invariant.count;
        way = c.loop-port.invariant.way;
      })
]

pub returns : goal.returns
returns g c =
    way_done _ _ _ _ (ap (declarations c.loop-port.number) (left_none c.args.ports.now c.loop-port.port-index (omega (arith, c.loop-port-test.false)))) c.loop-port.invariant.way
