-- The numbers of assignments in an order in which each can be evaluated once.
use Rattle.std.specs.Prelude.{◌≡◌, ℕ, ◌<◌, List, Option, None, length, map, slice_get}
use Rattle.std.specs.List.{AllByRecursion, filter_map}
use Rattle.std.specs.List.Sorted.{IsPermutation}
use Rattle.gl_verilog.specs.Module as spec
use Rattle.gl_verilog.specs.Order.{IsOrdered, CanBeOrdered}
use Rattle.gl_verilog.specs.View.{assignment_of}
use Rattle.gl_verilog.specs.declared.module.Assignment.{Assignment}
use Rattle.gl_verilog_check.specs.Kept.{AreNets}

-- what assignments in code mean
abbrev pub meant : List Assignment → List spec.Assignment
meant assignments = map assignment_of assignments

-- the assignments with these numbers, in this order
abbrev pub picked : List spec.Assignment → List ℕ → List spec.Assignment
picked assignments order = filter_map (slice_get assignments) order

-- each assignment has its number there once, and each reads only what stands before it
pub record IsOrderOf (assignments : List spec.Assignment) (order : List ℕ) : Type 0 where
  pub in_range : AllByRecursion (λ k. k < length assignments) order
  pub same : IsPermutation assignments (picked assignments order)
  pub ordered : IsOrdered (picked assignments order)

-- no order is told only where there is none; the assignments read and drive none but so many nets
abbrev pub IsMissing : {A : Type 0} → ℕ → List spec.Assignment → Option A → Type 0
IsMissing nets assignments o = AreNets nets assignments → o ≡ None → CanBeOrdered assignments → ⊥
