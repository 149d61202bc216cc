-- Assignments in an order in which each can be evaluated once.
use Rattle.std.specs.Prelude.{◌≢◌, ℕ, nat_eq, if◌then◌else◌, List, [], ◌∷◌}
use Rattle.std.specs.List.{AllByRecursion}
use Rattle.std.specs.List.Sorted.{IsPermutation}
use Rattle.gl_verilog.specs.Module.{Expr, Net, Literal, Invert, Binary, Choose, Join, Select, Read, Assignment, Nets, Memories, value_of}

-- P holds of each net that an expression reads; a memory is none
abbrev pub EachRead : (ℕ → Type 0) → Expr → Type 0
EachRead P (Net n) = P n
EachRead P (Literal value width) = Unit {0}
EachRead P (Invert width arg) = EachRead P arg
EachRead P (Binary op width left right) = EachRead P left × EachRead P right
EachRead P (Choose test yes' no') = EachRead P test × EachRead P yes' × EachRead P no'
EachRead P (Join low_width high low) = EachRead P high × EachRead P low
EachRead P (Select high low n) = P n
EachRead P (Read memory address) = EachRead P address

-- no assignment of the list drives the net
abbrev pub IsUndriven : List Assignment → ℕ → Type 0
IsUndriven assignments n = AllByRecursion (λ a. a.target ≢ n) assignments

-- each reads neither its own target nor one behind it, and no net is driven twice
abbrev pub IsOrdered : List Assignment → Type 0
IsOrdered [] = Unit {0}
IsOrdered (a ∷ rest) = EachRead (IsUndriven (a ∷ rest)) a.value × IsUndriven rest a.target × IsOrdered rest

-- no net depends on itself through assignments: they can be put in such an order
pub record CanBeOrdered (assignments : List Assignment) : Type 0 where
  pub order : List Assignment
  pub same : IsPermutation assignments order
  pub ordered : IsOrdered order

-- the net has this value, all others as before
abbrev pub with_net : Nets → ℕ → ℕ → Nets
with_net v t x = λ n. if nat_eq t n then x else v n

-- the assignments evaluated once each, in this order
abbrev pub evaluated : List Assignment → Memories → Nets → Nets
evaluated [] m v = v
evaluated (a ∷ rest) m v = evaluated rest m (with_net v a.target (value_of v m a.value))
