use Rattle.std.proofs.Common.{◌≡◌, ◌∙◌, ◌*◌, ◌<◌, ℕ, List, [], length, subst, sym, ap, arith}
use Rattle.std.specs.Prelude.{slice_set, slice_index_or}
use Rattle.gl_bits.proofs.AllLists.{length_map, all_at}
use Rattle.gl_verilog.specs.View.{module_of, declaration_of, kind_of}
use Rattle.gl_verilog.specs.Module as spec
use Rattle.gl_verilog.specs.Run.{IsRegister}
use Rattle.gl_verilog.specs.Widths.{HasSize, words_in}
use Rattle.gl_verilog.specs.declared.module.Kind.{Kind}
use Rattle.gl_verilog.proofs.Stores.{same_item}
use Rattle.gl_sim.specs.Starts.{DrawsOne, draw, draws_for}
use Rattle.gl_sim.proofs.Words.{get_or_default}
use Rattle.gl_sim.proofs.Draws.{draws_register, draws_memory, draws_none, IsDrawnIn, declared_at}
use Rattle.gl_sim.proofs.draw.draw_one.Goals as goal

pub draw_word-requires : goal.draw_word-requires
draw_word-requires c =
    let there = declared_at c.args.design.now.declarations c.as_slice.result.now c.args.n c.index-as_slice-n.result c.as_slice.ensures c.requires.within c.index-as_slice-n.is in
    let ds = (module_of c.args.design.now).declarations in
    (all_at HasSize ds c.args.n (declaration_of c.index-as_slice-n.result) there c.requires.runnable.sizes).0.most

pub draw_word-requires-in-Register : goal.draw_word-requires-in-Register
draw_word-requires-in-Register c =
    let there = declared_at c.args.design.now.declarations c.as_slice.result.now c.args.n c.index-as_slice-n.result c.as_slice.ensures c.requires.within c.index-as_slice-n.is in
    let ds = (module_of c.args.design.now).declarations in
    (all_at HasSize ds c.args.n (declaration_of c.index-as_slice-n.result) there c.requires.runnable.sizes).0.most

pub draw_bank-requires : goal.draw_bank-requires
draw_bank-requires c =
    let there = declared_at c.args.design.now.declarations c.as_slice.result.now c.args.n c.index-as_slice-n.result c.as_slice.ensures c.requires.within c.index-as_slice-n.is in
    let ds = (module_of c.args.design.now).declarations in
    (all_at HasSize ds c.args.n (declaration_of c.index-as_slice-n.result) there c.requires.runnable.sizes).0.most

pub returns-in-OutputRegister : goal.returns-in-OutputRegister
returns-in-OutputRegister c = λ d e.
    let there = declared_at c.args.design.now.declarations c.as_slice.result.now c.args.n c.index-as_slice-n.result c.as_slice.ensures c.requires.within c.index-as_slice-n.is in
    let ds = (module_of c.args.design.now).declarations in
    let st = c.args.state.now in
    subst (λ (x : spec.Declaration). DrawsOne ds c.args.n x c.args.state.now c.draw_word.new.state c.args.values.now.items (slice_set c.args.values.now.items c.args.n c.draw_word.result) c.args.banks.now.items c.args.banks.now.items) (same_item ds c.args.n (declaration_of c.index-as_slice-n.result) d there e)
    (draws_register ds c.args.n (declaration_of c.index-as_slice-n.result) st c.draw_word.new.state c.draw_word.result c.args.values.now.items c.args.banks.now.items c.requires.store there
    (subst (λ (x : Kind). IsRegister (kind_of x)) (sym c.in-OutputRegister.is) tt) c.draw_word.ensures.state c.draw_word.ensures.value)

pub returns-in-Register : goal.returns-in-Register
returns-in-Register c = λ d e.
    let there = declared_at c.args.design.now.declarations c.as_slice.result.now c.args.n c.index-as_slice-n.result c.as_slice.ensures c.requires.within c.index-as_slice-n.is in
    let ds = (module_of c.args.design.now).declarations in
    let st = c.args.state.now in
    subst (λ (x : spec.Declaration). DrawsOne ds c.args.n x c.args.state.now c.draw_word-in-Register.new.state c.args.values.now.items (slice_set c.args.values.now.items c.args.n c.draw_word-in-Register.result) c.args.banks.now.items c.args.banks.now.items) (same_item ds c.args.n (declaration_of c.index-as_slice-n.result) d there e)
    (draws_register ds c.args.n (declaration_of c.index-as_slice-n.result) st c.draw_word-in-Register.new.state c.draw_word-in-Register.result c.args.values.now.items c.args.banks.now.items c.requires.store there
    (subst (λ (x : Kind). IsRegister (kind_of x)) (sym c.in-Register.is) tt) c.draw_word-in-Register.ensures.state c.draw_word-in-Register.ensures.value)

pub returns-in-Memory : goal.returns-in-Memory
returns-in-Memory c = λ d e.
    let there = declared_at c.args.design.now.declarations c.as_slice.result.now c.args.n c.index-as_slice-n.result c.as_slice.ensures c.requires.within c.index-as_slice-n.is in
    let ds = (module_of c.args.design.now).declarations in
    let item = declaration_of c.index-as_slice-n.result in
    let bs = c.args.banks.now.items in
    let old : c.index_mut-bank.result.now ≡ slice_index_or bs c.args.n [] = c.index_mut-bank.ensures.value ∙ get_or_default bs c.args.n c.index_mut-bank.result.now [] (let size = c.requires.store.memories in let lt = c.requires.within in omega (arith, length_map declaration_of c.args.design.now.declarations)) in
    let size : length c.index_mut-bank.result.now ≡ words_in item.kind = ap (λ (b : List ℕ). length b) old ∙ c.requires.store.words c.args.n item there in
    let drawn : IsDrawnIn c.args.state.now c.draw_bank.new.state (words_in item.kind) item.width (slice_index_or bs c.args.n []) c.draw_bank.new.bank = record {
      moved = c.draw_bank.ensures.state ∙ ap (λ (n : ℕ). draw c.args.state.now (2 * n)) size;
      size = c.draw_bank.ensures.size ∙ ap (λ (b : List ℕ). length b) old;
      words = λ at lt. c.draw_bank.ensures.words at (subst (λ (n : ℕ). at < n) (sym size) lt);
    } in
    subst (λ (x : spec.Declaration). DrawsOne ds c.args.n x c.args.state.now c.draw_bank.new.state c.args.values.now.items c.args.values.now.items bs (slice_set bs c.args.n c.draw_bank.new.bank)) (same_item ds c.args.n item d there e)
    (draws_memory ds c.args.n item c.in-Memory.address_bits c.args.state.now c.draw_bank.new.state c.draw_bank.new.bank c.args.values.now.items bs c.requires.store there (ap (λ (x : Kind). kind_of x) c.in-Memory.is) drawn)

pub returns-in-Input : goal.returns-in-Input
returns-in-Input c = λ d e.
    let there = declared_at c.args.design.now.declarations c.as_slice.result.now c.args.n c.index-as_slice-n.result c.as_slice.ensures c.requires.within c.index-as_slice-n.is in
    let ds = (module_of c.args.design.now).declarations in
    subst (λ (x : spec.Declaration). DrawsOne ds c.args.n x c.args.state.now c.args.state.now c.args.values.now.items c.args.values.now.items c.args.banks.now.items c.args.banks.now.items) (same_item ds c.args.n (declaration_of c.index-as_slice-n.result) d there e)
    (draws_none ds c.args.n (declaration_of c.index-as_slice-n.result) c.args.state.now c.args.values.now.items c.args.banks.now.items c.requires.store
    (λ (r : IsRegister (kind_of c.index-as_slice-n.result.kind)). subst (λ (x : Kind). IsRegister (kind_of x)) c.in-Input.is r) (ap (λ (x : Kind). draws_for (kind_of x)) c.in-Input.is) (ap (λ (x : Kind). words_in (kind_of x)) c.in-Input.is))

pub returns-in-OutputWire : goal.returns-in-OutputWire
returns-in-OutputWire c = λ d e.
    let there = declared_at c.args.design.now.declarations c.as_slice.result.now c.args.n c.index-as_slice-n.result c.as_slice.ensures c.requires.within c.index-as_slice-n.is in
    let ds = (module_of c.args.design.now).declarations in
    subst (λ (x : spec.Declaration). DrawsOne ds c.args.n x c.args.state.now c.args.state.now c.args.values.now.items c.args.values.now.items c.args.banks.now.items c.args.banks.now.items) (same_item ds c.args.n (declaration_of c.index-as_slice-n.result) d there e)
    (draws_none ds c.args.n (declaration_of c.index-as_slice-n.result) c.args.state.now c.args.values.now.items c.args.banks.now.items c.requires.store
    (λ (r : IsRegister (kind_of c.index-as_slice-n.result.kind)). subst (λ (x : Kind). IsRegister (kind_of x)) c.in-OutputWire.is r) (ap (λ (x : Kind). draws_for (kind_of x)) c.in-OutputWire.is) (ap (λ (x : Kind). words_in (kind_of x)) c.in-OutputWire.is))

pub returns-in-Wire : goal.returns-in-Wire
returns-in-Wire c = λ d e.
    let there = declared_at c.args.design.now.declarations c.as_slice.result.now c.args.n c.index-as_slice-n.result c.as_slice.ensures c.requires.within c.index-as_slice-n.is in
    let ds = (module_of c.args.design.now).declarations in
    subst (λ (x : spec.Declaration). DrawsOne ds c.args.n x c.args.state.now c.args.state.now c.args.values.now.items c.args.values.now.items c.args.banks.now.items c.args.banks.now.items) (same_item ds c.args.n (declaration_of c.index-as_slice-n.result) d there e)
    (draws_none ds c.args.n (declaration_of c.index-as_slice-n.result) c.args.state.now c.args.values.now.items c.args.banks.now.items c.requires.store
    (λ (r : IsRegister (kind_of c.index-as_slice-n.result.kind)). subst (λ (x : Kind). IsRegister (kind_of x)) c.in-Wire.is r) (ap (λ (x : Kind). draws_for (kind_of x)) c.in-Wire.is) (ap (λ (x : Kind). words_in (kind_of x)) c.in-Wire.is))
