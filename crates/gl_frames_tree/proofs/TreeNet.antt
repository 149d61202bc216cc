-- The lane of the first keys, from the rows behind all levels.
use Rattle.std.proofs.Common.{◌≡◌, ℕ, zero, suc, ◌/◌, ◌^◌, List, [], ◌∷◌, Bool, true, false, refl, sym, ap, ◌∙◌, arith}
use Rattle.std.specs.Prelude.{◌*◌, if◌then◌else◌, nat_eq, option_to_list}
use Rattle.std.proofs.Math.Nat.{div-one}
use Rattle.gl_values.specs.Results.{Row}
use Rattle.gl_net.specs.Net.{Run}
use Rattle.gl_wire.specs.declared.wire.Wire.{Wire}
use Rattle.gl_wire.specs.Wire.{line_at, row_at}
use Rattle.gl_wire.proofs.StageLemmas.{line_first}
use Rattle.gl_wire_lanes.specs.Shares.{lane_of, rows_of}
use Rattle.gl_wire_registers.specs.Held.{held_at}
use Rattle.gl_slots.specs.Slots.{of_slot}
use Rattle.gl_frames_keys.specs.Lanes.{IsKeyedLane, first_keys}
use Rattle.gl_frames_lanes.specs.LaneNets.{IsLaneBehind, key_in}
use Rattle.gl_frames_lanes.specs.declared.lane.KeyLane.{KeyLane}
use Rattle.gl_frames_lanes.specs.declared.lane.Keys.{Keys}
use Rattle.gl_frames_tree.specs.declared.level.Climb.{Climb}
use Rattle.gl_frames_tree.specs.Growing.{Leads, Numbered}
use Rattle.gl_frames_tree.specs.TreeNets.{IsClimb, name_before, rows_at_level}
use Rattle.gl_frames_tree.proofs.LaneLemmas.{first_is, further_is, kept_is, takes_row}

-- with no level behind it a name is the key
key_itself : (key : ℕ) → name_before 0 key ≡ key
key_itself key = let none : 2 * 0 ≡ 0 = omega arith in ap (λ (k : ℕ). key / 2 ^ k) none ∙ div-one key

module _ (run : Run) (keys : Keys) (source : Wire) (levels : ℕ) (climb : Climb) (h : IsClimb levels 0 run keys source climb) where
  abbrev n : ℕ
  n = keys.groups

  abbrev key : Row → ℕ
  key = key_in keys.column

  abbrev m : Numbered
  m = rows_at_level run h.asks h.name climb

  leads : Leads n key h.late (λ x. x) m
  leads = record {
    none = h.leads.none;
    name = λ c r p e. h.leads.name c r p e ∙ key_itself (key r);
    ends = h.leads.ends;
    kept = h.leads.kept;
  }

  abbrev lane : KeyLane
  lane = record { wire = climb.wire; slot = climb.node; first = climb.fresh; further = climb.lost }

  -- in the reset cycle there is no row, whatever the slot's bus carries
  takes : (c k : ℕ) → (if nat_eq (run.at c climb.node.node) k then (if line_at run climb.wire.valid c then row_at run c climb.wire.columns ∷ [] else []) else [])
      ≡ option_to_list (of_slot key (first_keys n key h.late c) k (h.late.tuple c))
  unfolding held_at
  takes zero k = no_row (run.at 0 climb.node.node) ∙ sym (no_row 0) ∙ takes_row n key h.late m h.numbered leads (rows_of run climb.wire) h.rows 0 k
    where
      none : (b : Bool) (xs : List Row) → xs ≡ [] → (if b then xs else []) ≡ []
      none true xs e = e
      none false xs e = refl

      no_row : (slot : ℕ) → (if nat_eq slot k then (if line_at run climb.wire.valid 0 then row_at run 0 climb.wire.columns ∷ [] else []) else []) ≡ []
      no_row slot = none (nat_eq slot k) _ (ap (λ (b : Bool). if b then row_at run 0 climb.wire.columns ∷ [] else []) (line_first run climb.wire.valid))
  takes (suc c) k = takes_row n key h.late m h.numbered leads (rows_of run climb.wire) h.rows (suc c) k

  is_lane : IsKeyedLane n key h.late (lane_of run climb.wire climb.node climb.fresh) (rows_of run climb.wire)
  is_lane = record {
    takes = takes;
    valid = λ c. kept_is n key h.late m h.numbered leads c;
    first = λ c. first_is n key h.late m h.numbered leads c;
    ends = h.leads.ends;
  }

  pub lane_is : IsLaneBehind levels run keys source lane
  lane_is = record {
    late = h.late;
    behind = h.behind;
    lane = is_lane;
    further = λ c. h.lost c ∙ further_is n key h.late m h.numbered leads c;
  }
