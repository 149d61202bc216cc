-- A wire over some columns of another, and what it carries.
use Rattle.std.proofs.Common.{◌≡◌, ℕ, zero, suc, ◌+◌, ◌<◌, List, [], ◌∷◌, ◌++◌, length, map, take, Some, None, Bool, true, false, refl, sym, ap, ◌∙◌, subst}
use Rattle.std.specs.Prelude.{if◌then◌else◌, option_map, slice_get, slice_index, slice_index_or}
use Rattle.std.proofs.lemmas.List.{map_more, map_push}
use Rattle.std.proofs.lemmas.Option.{slice_get-get_or}
use Rattle.gl_values.specs.Results.{Row}
use Rattle.gl_net.specs.declared.node.Bit.{Bit}
use Rattle.gl_net.specs.declared.node.Bus.{Bus}
use Rattle.gl_net.specs.Net.{Net, Run, IsBit}
use Rattle.gl_frames_asked.specs.Among.{pick}
use Rattle.gl_wire.specs.declared.wire.Wire.{Wire}
use Rattle.gl_wire.specs.Wire.{Carried, IsWire, carried, line_at, row_at, tuple_at, widths}
use Rattle.gl_wire.proofs.StageLemmas.{tuple_by}
use Rattle.gl_frames_parted.specs.Picked.{HasColumns}

-- ---- columns

-- what a column has, at its place
at_place : (f : Bus → ℕ) (cs : List Bus) (k : ℕ) (b : Bus) → slice_get cs k ≡ Some b → slice_index (map f cs) k ≡ f b
at_place f [] k b h = absurd (cc)
at_place f (c ∷ cs) zero b h = let e : c ≡ b = cc in ap f e
at_place f (c ∷ cs) (suc k) b h = at_place f cs k b h

values_picked : (f : Bus → ℕ) (cs bs : List Bus) (asked : List ℕ) → map Some bs ≡ map (slice_get cs) asked → map f bs ≡ pick asked (map f cs)
values_picked f cs [] [] h = refl
values_picked f cs [] (k ∷ ks) h = absurd (cc)
values_picked f cs (b ∷ bs) [] h = absurd (cc)
values_picked f cs (b ∷ bs) (k ∷ ks) h =
    let there : slice_get cs k ≡ Some b = cc in
    let others : map Some bs ≡ map (slice_get cs) ks = cc in
    let here = at_place f cs k b there in
    let rest = values_picked f cs bs ks others in
    cc (here, rest)

-- each is a column of the other wire
place_of : (cs bs : List Bus) (asked : List ℕ) → map Some bs ≡ map (slice_get cs) asked → (k : ℕ) (b : Bus) → slice_get bs k ≡ Some b → (j : ℕ) × (slice_get cs j ≡ Some b)
place_of cs [] asked h k b e = absurd (cc)
place_of cs (x ∷ bs) [] h k b e = absurd (cc)
place_of cs (x ∷ bs) (j ∷ js) h zero b e =
    let there : slice_get cs j ≡ Some x = cc in
    let same : x ≡ b = cc in
    (j, there ∙ ap Some same)
place_of cs (x ∷ bs) (j ∷ js) h (suc k) b e = let others : map Some bs ≡ map (slice_get cs) js = cc in place_of cs bs js others k b e

-- one column more
pub column_picked : (cs all : List Bus) (asked : List ℕ) (i : ℕ) (d : Bus) → i < length asked → slice_index asked i < length cs → map Some all ≡ map (slice_get cs) (take i asked)
    → map Some (all ++ slice_index_or cs (slice_index asked i) d ∷ []) ≡ map (slice_get cs) (take (i + 1) asked)
column_picked cs all asked i d more there h =
    let b : Bus = slice_index_or cs (slice_index asked i) d in
    map_push Some all b ∙ ap (λ os. os ++ Some b ∷ []) h
    ∙ ap (λ o. map (slice_get cs) (take i asked) ++ o ∷ []) (sym (slice_get-get_or cs (slice_index asked i) d there)) ∙ sym (map_more (slice_get cs) asked i 0 more)

-- ---- wires

-- one wire carries of each row of another what a function makes of it
pub record IsPicked (of : Row → Row) (a b : Carried) : Type 0 where
  pub tuples : (c : ℕ) → b.tuple c ≡ option_map of (a.tuple c)
  pub ends : (c : ℕ) → b.ends c ≡ a.ends c

module _ (asked : List ℕ) (source picked : Wire) (has : HasColumns asked source picked) where
  pub widths_picked : widths picked.columns ≡ pick asked (widths source.columns)
  widths_picked = values_picked (λ b. b.width) source.columns picked.columns asked has.columns

  pub wire_picked : (net : Net) → IsWire net source → IsWire net picked
  wire_picked net is = record {
    valid = subst (IsBit net) (sym has.same_valid) is.valid;
    eos = subst (IsBit net) (sym has.same_eos) is.eos;
    columns = record { each = λ k b e. (let at = place_of source.columns picked.columns asked has.columns k b e in is.columns.each at.0 b at.1) };
  }

  module _ (run : Run) where
    row_picked : (t : ℕ) → row_at run t picked.columns ≡ pick asked (row_at run t source.columns)
    unfolding row_at
    row_picked t = values_picked (λ b. run.at t b.node) source.columns picked.columns asked has.columns

    tuple_picked : (t : ℕ) → tuple_at run picked.valid picked.columns t ≡ option_map (pick asked) (tuple_at run source.valid source.columns t)
    tuple_picked t =
        tuple_by run picked.valid picked.columns t
        ∙ ap (λ (v : Bit). if line_at run v t then Some (row_at run t picked.columns) else None) has.same_valid
        ∙ ap (λ (r : Row). if line_at run source.valid t then Some r else None) (row_picked t)
        ∙ by (line_at run source.valid t)
        ∙ sym (ap (option_map (pick asked)) (tuple_by run source.valid source.columns t))
      where
        by : (v : Bool) → (if v then Some (pick asked (row_at run t source.columns)) else None) ≡ option_map (pick asked) (if v then Some (row_at run t source.columns) else None)
        by true = refl
        by false = refl

    pub wire_carries : IsPicked (pick asked) (carried run source) (carried run picked)
    wire_carries = record { tuples = tuple_picked; ends = λ c. ap (λ (l : Bit). line_at run l c) has.same_eos }
