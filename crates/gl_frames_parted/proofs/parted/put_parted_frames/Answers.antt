use Rattle.std.proofs.Common.{ℕ, List, length, map, sym, ap, ◌∙◌, subst}
use Rattle.std.specs.Prelude.{All}
use Rattle.gl_algebra.specs.Known.{FrameKnown}
use Rattle.gl_values.specs.Kinds.{width_of}
use Rattle.gl_values.specs.Results.{Row}
use Rattle.gl_frames_asked.specs.Among.{pick_kinds, renumber, renumber_key}
use Rattle.gl_frames_asked.specs.Asked.{asked_columns}
use Rattle.gl_frames_asked.proofs.FormLemmas.{forms_same}
use Rattle.gl_frames_parted.specs.Picked.{HasColumns}
use Rattle.gl_frames_parted.proofs.PickedLemmas.{wire_picked}
use Rattle.gl_frames_parted.proofs.ServedLemmas.{kinds_picked, parted_as}
use Rattle.gl_frames_parted.proofs.KnownLemmas.{items_known}
use Rattle.gl_wire.specs.Wire.{widths}
use Rattle.gl_frames_parted.proofs.parted.put_parted_frames.Goals as goal

pub put_over_all-requires-clause-wire : goal.put_over_all-requires-clause-wire
put_over_all-requires-clause-wire c = wire_picked c.deref.result.now c.args.wire.now c.in_ok-picked.picked c.in_ok-picked.ensures c.args.net.now c.requires.wire

pub put_over_all-requires-clause-kinds : goal.put_over_all-requires-clause-kinds
put_over_all-requires-clause-kinds c =
    let kinds = c.args.scope.kinds.now in
    let asked : List ℕ = asked_columns (length kinds) c.args.by.key c.args.items.now in
    let are = c.in_ok-asked.ensures ∙ ap (λ (k : ℕ). asked_columns (length kinds) k c.args.items.now) c.from.ensures in
    let has = subst (λ (ks : List ℕ). HasColumns ks c.args.wire.now c.in_ok-picked.picked) (c.deref.ensures.value ∙ are) c.in_ok-picked.ensures in
    let same = c.nodes_are_same.ensures.nodes kinds c.args.by c.args.items.now c.requires.key.0 c.requires.fit in
    let same_kinds = c.deref-5.ensures.value ∙ c.in_ok-kinds.ensures ∙ ap (λ (ks : List ℕ). pick_kinds ks kinds) (c.deref-2.ensures.value ∙ are) in
    kinds_picked asked kinds c.args.wire.now c.in_ok-picked.picked has c.requires.kinds same.widths ∙ ap (map width_of) (sym same_kinds)

pub put_over_all-requires-clause-known : goal.put_over_all-requires-clause-known
put_over_all-requires-clause-known c =
    let words = widths c.args.scope.words.now in
    subst (All (FrameKnown words)) (sym (c.deref-6.ensures.value ∙ c.in_ok-items.ensures))
    (items_known words c.deref-3.result.now c.args.items.now c.requires.known)

pub returns : goal.returns
returns c =
    let kinds = c.args.scope.kinds.now in
    let items = c.args.items.now in
    let are = c.in_ok-asked.ensures ∙ ap (λ (k : ℕ). asked_columns (length kinds) k items) c.from.ensures in
    let has = subst (λ (ks : List ℕ). HasColumns ks c.args.wire.now c.in_ok-picked.picked) (c.deref.ensures.value ∙ are) c.in_ok-picked.ensures in
    let same_kinds = c.deref-5.ensures.value ∙ c.in_ok-kinds.ensures ∙ ap (λ (ks : List ℕ). pick_kinds ks kinds) (c.deref-2.ensures.value ∙ are) in
    let same_key = c.renumber_key-by.ensures ∙ ap (λ (ks : List ℕ). renumber_key ks c.args.by) (c.deref-4.ensures.value ∙ are) in
    let same_items = c.deref-6.ensures.value ∙ c.in_ok-items.ensures ∙ ap (λ (ks : List ℕ). map (renumber ks) items) (c.deref-3.ensures.value ∙ are) in
    parted_as c.partitions_serve.ensures c.nodes_are_same.ensures.nodes c.nodes_make_same.ensures (forms_same {A = Row} {B = Row} {C = Row}) kinds c.args.by items c.requires.key.0 c.requires.fit c.args.wire.now
    c.in_ok-picked.picked has c.in_ok-frames.frames c.args.net.now c.put_over_all.new.net c.deref-5.result.now c.renumber_key-by.result c.deref-6.result.now same_kinds same_key
    same_items c.in_ok-frames.ensures
