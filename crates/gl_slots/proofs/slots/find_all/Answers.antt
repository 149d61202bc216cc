use Rattle.std.proofs.Common.{List, length, subst, sym, ap, ◌∙◌}
use Rattle.gl_net.specs.declared.node.Bit.{Bit}
use Rattle.gl_net.proofs.Determined.{keeps_then}
use Rattle.gl_wire_registers.specs.Lines.{AddsLines, AreBits}
use Rattle.gl_wire_registers.proofs.LineLemmas.{bits_kept}
use Rattle.gl_slots.specs.Choices.{chosen_to}
use Rattle.gl_slots.proofs.SlotNet.{found_are, keys_of_kept}
use Rattle.gl_slots.proofs.slots.find_all.Goals as goal

pub same_each-requires-clause-keys : goal.same_each-requires-clause-keys
same_each-requires-clause-keys c = keys_of_kept c.args.net.now c.with_all.new.net c.args.wanted.here c.args.keys.now c.in_ok-kept.ensures.keeps c.requires.keys

pub choose_each-requires-clause-yes : goal.choose_each-requires-clause-yes
choose_each-requires-clause-yes c = subst (AreBits c.same_each.new.net) (sym c.as_slice.ensures) c.in_ok-same.ensures.bits

pub choose_each-requires-clause-no : goal.choose_each-requires-clause-no
choose_each-requires-clause-no c =
    subst (AreBits c.same_each.new.net) (sym c.as_slice-2.ensures)
    (bits_kept c.args.net.now c.same_each.new.net c.args.homes.now
    (keeps_then c.args.net.now c.with_all.new.net c.same_each.new.net c.in_ok-kept.ensures.keeps c.in_ok-same.ensures.keeps) c.requires.homes)

pub choose_each-requires-clause-count : goal.choose_each-requires-clause-count
choose_each-requires-clause-count c =
    ap (λ (bs : List Bit). length bs) c.as_slice-2.ensures ∙ c.requires.homes_count ∙ sym c.requires.count ∙ sym c.in_ok-same.ensures.count
    ∙ sym (ap (λ (bs : List Bit). length bs) c.as_slice.ensures)

pub pairwise-requires-clause-lefts : goal.pairwise-requires-clause-lefts
pairwise-requires-clause-lefts c =
    bits_kept c.with_all.new.net c.choose_each.new.net c.in_ok-kept.kept
    (keeps_then c.with_all.new.net c.same_each.new.net c.choose_each.new.net c.in_ok-same.ensures.keeps c.in_ok-has.ensures.keeps) c.in_ok-kept.ensures.bits

pub pairwise-requires-clause-count : goal.pairwise-requires-clause-count
pairwise-requires-clause-count c =
    c.in_ok-has.ensures.count ∙ ap (λ (bs : List Bit). length bs) c.as_slice.ensures ∙ c.in_ok-same.ensures.count ∙ c.requires.count ∙ sym c.in_ok-kept.ensures.count

pub returns : goal.returns
returns c =
    let chosen = subst (λ (bs : List Bit). AddsLines c.same_each.new.net c.choose_each.new.net (length c.in_ok-same.same) 1 c.in_ok-has.has (chosen_to c.args.wanted.ask c.in_ok-same.same bs))
    c.as_slice-2.ensures
    (subst (λ (bs : List Bit). AddsLines c.same_each.new.net c.choose_each.new.net (length bs) 1 c.in_ok-has.has (chosen_to c.args.wanted.ask bs c.as_slice-2.result.now)) c.as_slice.ensures c.in_ok-has.ensures) in
    found_are c.args.net.now c.with_all.new.net c.same_each.new.net c.choose_each.new.net c.pairwise.new.net c.any.new.net c.args.used.now c.args.keys.now c.args.wanted.free c.args.wanted.ask c.args.wanted.here c.args.homes.now
    c.in_ok-kept.kept c.in_ok-same.same c.in_ok-has.has c.in_ok-found.found c.in_ok-one.one c.requires.count c.in_ok-kept.ensures c.in_ok-same.ensures chosen c.in_ok-found.ensures c.in_ok-one.ensures
