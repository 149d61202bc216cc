-- The partition of a node's key and items is one that the circuit of slots takes.
use Rattle.std.proofs.Common.{◌+◌, ◌≤◌, List, Some, All, arith}
use Rattle.gl_algebra.specs.Columns.{FrameFits}
use Rattle.gl_algebra.specs.Fits.{KeyFits}
use Rattle.gl_algebra.specs.Keys.{width_of_key}
use Rattle.gl_algebra.specs.declared.node.Operand.TheVariants.{Column}
use Rattle.gl_algebra.specs.declared.node.PlanFrame.{PlanFrame}
use Rattle.gl_algebra.specs.declared.node.PlanKey.{PlanKey}
use Rattle.gl_bits.specs.Words.{IsWidth}
use Rattle.gl_totals.proofs.KindLemmas.{operand_width}
use Rattle.gl_values.specs.Kinds.{IsKind}
use Rattle.gl_values.specs.declared.kind.Kind.{Kind}
use Rattle.gl_frames_slots.specs.Items.{IsSlotItem}
use Rattle.gl_frames_slots.specs.declared.keyed.Partition.{Partition}
use Rattle.gl_frames_wire.specs.Reaches.{IsPlaceWidth}
use Rattle.gl_frames_parted.specs.Parted.{partition_by}
use Rattle.gl_frames_parted.proofs.MadeItems.{items_fit}
use Rattle.gl_frames_parted.proofs.PartedLemmas.{places_fit, slot_few, slot_width, wait_few}

pub record IsTaken (p : Partition) (items : List PlanFrame) : Type 0 where
  pub width : IsWidth p.keys.width
  pub bits : IsPlaceWidth p.bits
  pub address : p.keys.width + p.bits ≤ 32
  pub wait : p.wait ≤ 100
  pub slot_items : All (IsSlotItem p.bits) items

pub partition_taken : (kinds : List Kind) (by : PlanKey) (items : List PlanFrame) → All IsKind kinds → All (FrameFits kinds) items → KeyFits kinds (Some by) → IsTaken (partition_by kinds by items) items
partition_taken kinds by items are fit key =
    let few = slot_few by.groups key.1.most in
    let places = places_fit kinds items fit in
    let bits = places.most in
    record {
      width = slot_width by.groups key.1.most;
      bits = places;
      address = omega (arith, few, bits);
      wait = (let cycles = wait_few (width_of_key kinds by) by.groups (operand_width kinds (Column by.key) are key.0) in omega (arith, cycles));
      slot_items = items_fit items;
    }
