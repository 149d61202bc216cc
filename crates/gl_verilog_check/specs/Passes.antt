-- Nets whose assignments wait for a place in an order, and passes that place those that read none that waits.
use Rattle.std.specs.Prelude.{◌≡◌, ◌<◌, Bool, true, false, not, ◌&&◌, ◌||◌, unwrap_or, ℕ, List, [], ◌∷◌, ◌++◌, Some, length, slice_get, slice_set, if◌then◌else◌}
use Rattle.std.specs.List.{AllByRecursion}
use Rattle.std.specs.List.Sorted.{IsPermutation}
use Rattle.gl_verilog.specs.Module.{Assignment}
use Rattle.gl_verilog.specs.Order.{IsUndriven, IsOrdered}
use Rattle.gl_verilog_check.specs.Kept.{reads, AreNets}
use Rattle.gl_verilog_check.specs.Orders.{picked}

-- no net is driven twice
abbrev pub AreOnce : List Assignment → Type 0
AreOnce [] = Unit {0}
AreOnce (a ∷ rest) = IsUndriven rest a.target × AreOnce rest

-- each assignment drives another net, of so many
abbrev pub CanMark : ℕ → List Assignment → Type 0
CanMark nets assignments = AreNets nets assignments × AreOnce assignments

-- whether the net waits
abbrev pub waits : List Bool → ℕ → Bool
waits marks n = unwrap_or (slice_get marks n) false

-- whether the assignment waits, and reads no net that waits
abbrev pub is_ready : List Bool → Assignment → Bool
is_ready marks a = waits marks a.target && not (reads marks a.value)

-- the assignment has its place, if it is ready
abbrev pub placed : List Bool → Assignment → List Bool
placed marks a = if is_ready marks a then slice_set marks a.target false else marks

-- the assignments are placed, one after another, as far as they are ready
abbrev pub passed : List Bool → List Assignment → List Bool
passed marks [] = marks
passed marks (a ∷ rest) = passed (placed marks a) rest

-- whether one of them is ready when its turn comes
abbrev pub finds : List Bool → List Assignment → Bool
finds marks [] = false
finds marks (a ∷ rest) = is_ready marks a || finds (placed marks a) rest

-- one assignment more, if it waits
abbrev pub keep : Bool → Assignment → List Assignment → List Assignment
keep true a rest = a ∷ rest
keep false a rest = rest

-- the assignments whose nets wait
abbrev pub left : List Bool → List Assignment → List Assignment
left marks [] = []
left marks (a ∷ rest) = keep (waits marks a.target) a (left marks rest)

-- while an order is found: those with these numbers have their place, before whatever order those that wait are put in
pub record IsPlacing (assignments : List Assignment) (marks : List Bool) (order : List ℕ) : Type 0 where
  pub in_range : AllByRecursion (λ k. k < length assignments) order
  pub same : IsPermutation assignments (picked assignments order ++ left marks assignments)
  pub ordered : (rest : List Assignment) → IsPermutation (left marks assignments) rest → IsOrdered rest
      → IsOrdered (picked assignments order ++ rest)
  pub driven : (n : ℕ) → slice_get marks n ≡ Some true → IsUndriven assignments n → ⊥
