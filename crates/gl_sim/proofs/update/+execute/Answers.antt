use Rattle.std.proofs.Common.{◌∙◌, ◌+◌, ◌≤◌, sym, ap, subst, arith, rules, refl, le_refl, vec_len, vec_capacity, ◌<◌, unwrap_or, slice_index}
use Rattle.gl_verilog.specs.Module as spec
use Rattle.gl_verilog.specs.Module.{assigned, written, later_or}
use Rattle.gl_verilog.specs.View.{statement_of}
use Rattle.gl_verilog.specs.Evaluate.{nets_of, memories_of}
use Rattle.gl_sim.specs.Updates.{CanExecute, writes_in, put_of}
use Rattle.gl_sim.proofs.Waiting.{under_way_first, parts_of}
use Rattle.gl_sim.proofs.update.+execute.Goals as goal
use Rattle.gl_verilog_check.proofs.Blocks.{chained_here, chained_end, block_chain}

pub loop-statement-init : goal.loop-statement-init
loop-statement-init t c =
    let whole = block_chain c.args.statement.now c.in-Block.statements c.deref-statement-items.result.now c.in-Block.is c.deref-statement-items.ensures.value in
    record {
      way = under_way_first _ _ _ _ _ _ _ (subst (CanExecute c.args.values.now c.args.banks.now) whole c.requires.can) c.requires.inside;
      capacity = refl;
      small = le_refl _;
      room = le_refl _;
    }

pub execute-requires : goal.execute-requires
execute-requires t c =
    let whole = block_chain c.args.statement.now c.in-Block.statements c.deref-statement-items.result.now c.in-Block.is c.deref-statement-items.ensures.value in
    let here = chained_here c.deref-statement-items.result.now c.loop-statement.statement-index c.statement-item.result c.loop-statement-test.true c.statement-item.is in
    let smaller : parts_of (statement_of c.statement-item.result) < parts_of (statement_of c.args.statement.now) =
    omega (arith, ap parts_of whole, ap parts_of here, c.loop-statement.invariant.small) in
    let can : CanExecute c.args.values.now c.args.banks.now (statement_of c.statement-item.result) =
    (subst (CanExecute c.args.values.now c.args.banks.now) here c.loop-statement.invariant.way.can).0 in
    let room : vec_len c.loop-statement.waiting + writes_in (statement_of c.statement-item.result) ≤ vec_capacity c.loop-statement.waiting =
    omega (arith, ap writes_in whole, ap writes_in here, c.requires.room, c.loop-statement.invariant.room, c.loop-statement.invariant.capacity) in
    let size = c.loop-statement.invariant.way.size ∙ c.requires.size in
    (search rules, (can, (size, (room, c.loop-statement.invariant.way.inside))))

pub returns-after-loop-statement-clause-room : goal.returns-after-loop-statement-clause-room
returns-after-loop-statement-clause-room t c =
    let whole = block_chain c.args.statement.now c.in-Block.statements c.deref-statement-items.result.now c.in-Block.is c.deref-statement-items.ensures.value in
    omega (arith, ap writes_in whole, c.loop-statement.invariant.room)

pub returns-after-loop-statement-clause-registers : goal.returns-after-loop-statement-clause-registers
returns-after-loop-statement-clause-registers t c = λ r.
    let whole = block_chain c.args.statement.now c.in-Block.statements c.deref-statement-items.result.now c.in-Block.is c.deref-statement-items.ensures.value in
    let done = chained_end c.deref-statement-items.result.now c.loop-statement.statement-index c.loop-statement-test.false in
    ap (λ (s : spec.Statement). unwrap_or (assigned (nets_of c.args.values.now) (memories_of c.args.banks.now) s r) (slice_index c.loop-statement.next.items r)) (sym done)
    ∙ c.loop-statement.invariant.way.registers r
    ∙ ap (λ (s : spec.Statement). unwrap_or (assigned (nets_of c.args.values.now) (memories_of c.args.banks.now) s r) (slice_index c.args.next.now.items r)) (sym whole)

pub returns-after-loop-statement-clause-words : goal.returns-after-loop-statement-clause-words
returns-after-loop-statement-clause-words t c = λ k at.
    let whole = block_chain c.args.statement.now c.in-Block.statements c.deref-statement-items.result.now c.in-Block.is c.deref-statement-items.ensures.value in
    let done = chained_end c.deref-statement-items.result.now c.loop-statement.statement-index c.loop-statement-test.false in
    ap (λ (s : spec.Statement). later_or (written (nets_of c.args.values.now) (memories_of c.args.banks.now) s k at) (put_of c.loop-statement.waiting.items k at)) (sym done)
    ∙ c.loop-statement.invariant.way.words k at
    ∙ ap (λ (s : spec.Statement). later_or (written (nets_of c.args.values.now) (memories_of c.args.banks.now) s k at) (put_of c.args.waiting.now.items k at)) (sym whole)
