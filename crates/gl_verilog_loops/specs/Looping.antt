-- The nets on which a net depends, found by passes over the assignments.
use Rattle.std.specs.Prelude.{◌≡◌, ℕ, Bool, true, false, List, [], ◌∷◌, ◌++◌, fold, length, max, nat_eq, nat_lt, nat_le, if◌then◌else◌, slice_get, Option, Some, None}
use Rattle.std.specs.Option.{option_map_or}
use Rattle.std.specs.List.{list_any, AllByRecursion}
use Rattle.gl_verilog.specs.Module.{Expr, Net, Literal, Invert, Binary, Choose, Join, Select, Read, Assignment}
use Rattle.gl_verilog.specs.Valid.{depends, IsChain}
use Rattle.gl_verilog_faults.specs.Demands.{IsLooped}

-- the nets that stand in an expression
abbrev pub nets_in : Expr → List ℕ
nets_in (Net n) = n ∷ []
nets_in (Literal value width) = []
nets_in (Invert width arg) = nets_in arg
nets_in (Binary op width left right) = nets_in left ++ nets_in right
nets_in (Choose test yes' no') = nets_in test ++ (nets_in yes' ++ nets_in no')
nets_in (Join low_width high low) = nets_in high ++ nets_in low
nets_in (Select high low n) = n ∷ []
nets_in (Read memory address) = nets_in address

-- a net is among those that were found
abbrev pub is_found : List ℕ → ℕ → Bool
is_found found n = list_any (nat_eq n) found

-- one net more
abbrev pub with_net : List ℕ → ℕ → List ℕ
with_net found n = if is_found found n then found else found ++ n ∷ []

-- the nets that were found, with those that an expression names
abbrev pub with_nets : List ℕ → Expr → List ℕ
with_nets found value = fold with_net found (nets_in value)

-- what an assignment to a net reads, where the net is told by a test
abbrev pub led : Bool → List ℕ → Expr → List ℕ
led leads found value = if leads then with_nets found value else found

-- what the assignments to a net read, from the last one on
abbrev pub seeded : ℕ → List Assignment → List ℕ → List ℕ
seeded t [] found = found
seeded t (a ∷ rest) found = led (nat_eq a.target t) (seeded t rest found) a.value

-- what the assignments to nets that are found read, from the last one on
abbrev pub spread : List Assignment → List ℕ → List ℕ
spread [] found = found
spread (a ∷ rest) found = led (is_found (spread rest found) a.target) (spread rest found) a.value

-- ---- ranks

-- the rank of a net; 0 where it has none
abbrev pub rank_of : List ℕ → ℕ → ℕ
rank_of ranks n = option_map_or (λ r. r) (slice_get ranks n) 0

-- the highest rank of the nets in an expression
abbrev pub highest : List ℕ → Expr → ℕ
highest ranks (Net n) = rank_of ranks n
highest ranks (Literal value width) = 0
highest ranks (Invert width arg) = highest ranks arg
highest ranks (Binary op width left right) = max (highest ranks left) (highest ranks right)
highest ranks (Choose test yes' no') = max (highest ranks test) (max (highest ranks yes') (highest ranks no'))
highest ranks (Join low_width high low) = max (highest ranks high) (highest ranks low)
highest ranks (Select high low n) = rank_of ranks n
highest ranks (Read memory address) = highest ranks address

-- the nets that read one of their own rank; none are told where a net reads one of a higher rank
abbrev pub levelled : List ℕ → List Assignment → List ℕ → Option (List ℕ)
levelled ranks [] found = Some found
levelled ranks (a ∷ rest) found =
    if nat_lt (rank_of ranks a.target) (highest ranks a.value) then None
    else levelled ranks rest (if nat_le (rank_of ranks a.target) (highest ranks a.value) then with_net found a.target
    else found)

-- a net may depend on itself, where some that may are told
abbrev pub is_suspect : Option (List ℕ) → ℕ → Bool
is_suspect None n = true
is_suspect (Some found) n = is_found found n

-- the others do not
abbrev pub AreSuspects : List Assignment → Option (List ℕ) → Type 0
AreSuspects assignments suspects = (n : ℕ) → is_suspect suspects n ≡ false → IsLooped assignments n → ⊥

-- ---- what a search finds

-- a net depends on each that is found
abbrev pub Reached : List Assignment → ℕ → List ℕ → Type 0
Reached all t found = (n : ℕ) → is_found found n ≡ true → (us : List ℕ) × IsChain (depends all) t us n

-- more is found, and nothing on which a net does not depend that depended on all before
pub record Grows (all : List Assignment) (old new : List ℕ) : Type 0 where
  pub kept : (n : ℕ) → is_found old n ≡ true → is_found new n ≡ true
  pub reached : (t : ℕ) → Reached all t old → Reached all t new

-- a thing is so, or is not, as told
abbrev pub IsTold : Bool → Type 0 → Type 0
IsTold true P = P
IsTold false P = P → ⊥

-- the first assignment whose net depends on itself, by its number
pub record IsFirstLooped (assignments : List Assignment) (i : ℕ) : Type 0 where
  pub front : List Assignment
  pub looped : Assignment
  pub back : List Assignment
  pub parts : assignments ≡ front ++ looped ∷ back
  pub place : length front ≡ i
  pub free : AllByRecursion (λ a. IsLooped assignments a.target → ⊥) front
  pub loops : IsLooped assignments looped.target

-- no assignment's target depends on itself
abbrev pub IsFree : List Assignment → Type 0
IsFree assignments = AllByRecursion (λ a. IsLooped assignments a.target → ⊥) assignments

-- the first that loops, or none
abbrev pub IsFirstOf : List Assignment → Option ℕ → Type 0
IsFirstOf assignments None = IsFree assignments
IsFirstOf assignments (Some i) = IsFirstLooped assignments i
