use Rattle.std.proofs.Common.{◌<◌, ◌∙◌, ℕ, List, [], length, subst, sym, ap, rules, unwrap_or}
use Rattle.std.specs.Prelude.{slice_index_or}
use Rattle.std.proofs.lemmas.List.{drop_all}
use Rattle.gl_verilog.specs.Evaluate.{memories_of}
use Rattle.gl_sim.specs.declared.update.Update.{Update}
use Rattle.gl_sim.specs.Updates.{put_of}
use Rattle.gl_sim.proofs.Words.{inside_here, has_put-more, get_or_default}
use Rattle.gl_sim.proofs.cycle.write_words.Goals as goal

pub index_mut-bank-requires : goal.index_mut-bank-requires
index_mut-bank-requires c =
    let within = inside_here c.loop-update.banks.items c.args.updates.now c.loop-update.update-index (record { memory = 0; address = 0; value = 0 }) c.loop-update-test.true c.loop-update.invariant.inside in
    search (rules, within.0.0)

pub set-requires : goal.set-requires
set-requires c =
    let within = inside_here c.loop-update.banks.items c.args.updates.now c.loop-update.update-index (record { memory = 0; address = 0; value = 0 }) c.loop-update-test.true c.loop-update.invariant.inside in
    let bank = c.index_mut-bank.ensures.value ∙ get_or_default c.loop-update.banks.items (slice_index_or c.args.updates.now c.loop-update.update-index (record { memory = 0; address = 0; value = 0 })).memory c.index_mut-bank.result.now [] within.0.0 in
    subst (λ (b : List ℕ). (slice_index_or c.args.updates.now c.loop-update.update-index (record { memory = 0; address = 0; value = 0 })).address < length b) (sym bank) within.0.1

pub loop-update-preserved : goal.loop-update-preserved
loop-update-preserved c =
    let d : Update = record { memory = 0; address = 0; value = 0 } in
    let within = inside_here c.loop-update.banks.items c.args.updates.now c.loop-update.update-index d c.loop-update-test.true c.loop-update.invariant.inside in
    let bank = c.index_mut-bank.ensures.value ∙ get_or_default c.loop-update.banks.items (slice_index_or c.args.updates.now c.loop-update.update-index d).memory c.index_mut-bank.result.now [] within.0.0 in
    has_put-more c.args.updates.now c.args.banks.now.items c.loop-update.banks.items c.args.updates.now c.loop-update.update-index d c.set.new.self c.loop-update-test.true c.loop-update.invariant (rw bank at c.set.ensures)

pub returns-clause-words : goal.returns-clause-words
returns-clause-words c = λ k at.
    ap (λ (us : List Update). unwrap_or (put_of us k at) (memories_of c.loop-update.banks.items k at)) (sym (drop_all c.loop-update.update-index c.args.updates.now c.loop-update-test.false)) ∙ c.loop-update.invariant.words k at
