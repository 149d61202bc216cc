use Rattle.std.proofs.Common.{◌∙◌, ℕ, List, length, ap, map}
use Rattle.gl_verilog.specs.View.{module_of, statement_of, chained}
use Rattle.gl_sim.proofs.Edges.{can_execute, keeps_chain, after_edge, AfterEdge}
use Rattle.gl_sim.proofs.edge.clock.Goals as goal

pub run_blocks-requires-clause-can : goal.run_blocks-requires-clause-can
run_blocks-requires-clause-can c =
    let ds = (module_of c.args.design.now).declarations in
    rw (c.as_slice.ensures, c.deref.ensures.value)
    (can_execute ds c.args.settled.now c.args.banks.now.items (chained c.args.design.now.blocks) c.requires.runnable.sizes c.requires.store (keeps_chain ds c.args.design.now.blocks c.requires.runnable.blocks))

pub returns-clause-store : goal.returns-clause-store
returns-clause-store c =
    let ds = (module_of c.args.design.now).declarations in
    let edge : AfterEdge ds (map statement_of c.args.design.now.blocks) c.args.settled.now c.run_blocks.new.next.items c.args.banks.now.items c.write_words.new.banks.items =
    after_edge ds c.args.design.now.blocks c.args.settled.now c.run_blocks.new.next.items c.args.banks.now.items c.write_words.new.banks.items c.run_blocks.new.waiting.items c.requires.store c.requires.runnable.blocks
    (c.run_blocks.ensures.size ∙ ap (λ (xs : List ℕ). length xs) c.requires.same)
    (rw (c.as_slice.ensures, c.deref.ensures.value, c.requires.same) at c.run_blocks.ensures.registers)
    (rw (c.as_slice.ensures, c.deref.ensures.value, c.requires.none) at c.run_blocks.ensures.words)
    c.write_words.ensures.size c.write_words.ensures.sizes
    (rw c.deref-2.ensures.value at c.write_words.ensures.words) in
    edge.store

pub returns-clause-registers : goal.returns-clause-registers
returns-clause-registers c =
    let ds = (module_of c.args.design.now).declarations in
    let edge : AfterEdge ds (map statement_of c.args.design.now.blocks) c.args.settled.now c.run_blocks.new.next.items c.args.banks.now.items c.write_words.new.banks.items =
    after_edge ds c.args.design.now.blocks c.args.settled.now c.run_blocks.new.next.items c.args.banks.now.items c.write_words.new.banks.items c.run_blocks.new.waiting.items c.requires.store c.requires.runnable.blocks
    (c.run_blocks.ensures.size ∙ ap (λ (xs : List ℕ). length xs) c.requires.same)
    (rw (c.as_slice.ensures, c.deref.ensures.value, c.requires.same) at c.run_blocks.ensures.registers)
    (rw (c.as_slice.ensures, c.deref.ensures.value, c.requires.none) at c.run_blocks.ensures.words)
    c.write_words.ensures.size c.write_words.ensures.sizes
    (rw c.deref-2.ensures.value at c.write_words.ensures.words) in
    edge.registers

pub returns-clause-words : goal.returns-clause-words
returns-clause-words c =
    let ds = (module_of c.args.design.now).declarations in
    let edge : AfterEdge ds (map statement_of c.args.design.now.blocks) c.args.settled.now c.run_blocks.new.next.items c.args.banks.now.items c.write_words.new.banks.items =
    after_edge ds c.args.design.now.blocks c.args.settled.now c.run_blocks.new.next.items c.args.banks.now.items c.write_words.new.banks.items c.run_blocks.new.waiting.items c.requires.store c.requires.runnable.blocks
    (c.run_blocks.ensures.size ∙ ap (λ (xs : List ℕ). length xs) c.requires.same)
    (rw (c.as_slice.ensures, c.deref.ensures.value, c.requires.same) at c.run_blocks.ensures.registers)
    (rw (c.as_slice.ensures, c.deref.ensures.value, c.requires.none) at c.run_blocks.ensures.words)
    c.write_words.ensures.size c.write_words.ensures.sizes
    (rw c.deref-2.ensures.value at c.write_words.ensures.words) in
    edge.words
