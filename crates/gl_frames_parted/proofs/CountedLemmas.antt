-- Over the columns that are asked for a node counts what it counts.
use Rattle.std.proofs.Common.{◌≡◌, ℕ, ◌+◌, List, length, map, Some, ap, ◌∙◌, subst, arith}
use Rattle.std.proofs.lemmas.List.{length-map}
use Rattle.gl_algebra.specs.Columns.{kind_of_column}
use Rattle.gl_algebra.specs.Cost.{store_by_key}
use Rattle.gl_algebra.specs.Weights.{weight_by_key}
use Rattle.gl_frames_asked.specs.Among.{pick_kinds, renumber, renumber_key}
use Rattle.gl_frames_asked.specs.Asked.{asked_columns}
use Rattle.gl_frames_asked.specs.Laws.{ColumnsAreAsked, NodesAreSame}
use Rattle.gl_frames_stages.specs.DoublingNets.{DoublingsAreBits}
use Rattle.gl_wire.specs.Counted.{IsCounted}
use Rattle.gl_wire.specs.Costs.{Cost}
use Rattle.gl_frames_parted.specs.Parted.{KeyFramesAreCounted, cost_by_key}
use Rattle.gl_frames_parted.proofs.KeyCosts.{over_all_counted}

counted_as : (cost : Cost) (weight weight' store store' : ℕ) → weight' ≡ weight → store' ≡ store → IsCounted cost weight' weight' store' → IsCounted cost weight weight store
counted_as cost weight weight' store store' w s h =
    subst (λ (n : ℕ). IsCounted cost weight weight n) s (subst (λ (n : ℕ). IsCounted cost n n store') w h)

pub key_frames_counted : DoublingsAreBits → ColumnsAreAsked → NodesAreSame → KeyFramesAreCounted
key_frames_counted bits_are columns_are nodes_are kinds by items all fit key =
    let asked : List ℕ = asked_columns (length kinds) by.key items in
    let are = columns_are kinds by.key items key.0 fit in
    let same = nodes_are kinds by items key.0 fit in
    let items' = map (renumber asked) items in
    let many : length items' ≡ length items = length-map items (renumber asked) in
    let columns : length (pick_kinds asked kinds) ≡ length asked = length-map asked (kind_of_column kinds) in
    let few = are.few in
    let counted = over_all_counted bits_are (pick_kinds asked kinds) (renumber_key asked by) items' (same.are_kinds all) same.items_fit (same.key_fits key) (omega (arith, many, columns, few)) in
    counted_as (cost_by_key kinds by items) _ _ _ _
    (same.weight (length items' + 2) ∙ ap (λ (n : ℕ). weight_by_key kinds (n + 2) (Some by) items) many)
    (same.store (length items' + 2) ∙ ap (λ (n : ℕ). store_by_key kinds (n + 2) (Some by) items) many)
    counted
