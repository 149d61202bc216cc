-- What is said of the ports of one result is said of the module's.
use Rattle.std.proofs.Common.{◌≡◌, ℕ, Bool, true, false, List, ◌++◌, refl, codes}
use Rattle.std.specs.Prelude.{bytes_eq, take, drop, if◌then◌else◌}
use Rattle.gl_schema.specs.Ports.{PortValues, out_valid, out_column, out_eos, fault_group, fault_queue}
use Rattle.gl_testbench.specs.Driven.{Property}
use Rattle.gl_testbench.specs.Emission.{IsPastClock}
use Rattle.gl_testbench.specs.Views.{WorkedViews, seen_as, within}
use Rattle.gl_testbench.proofs.Showing.{SameAt}

-- only the clock has the clock's name
pub other_within : (result name : List ℕ) → bytes_eq name (codes "clk") ≡ false → bytes_eq (within result name) (codes "clk") ≡ false
other_within result name other = pick (bytes_eq (take 5 name) (codes "out__")) (bytes_eq (take 7 name) (codes "fault__"))
  where
    pick : (a b : Bool) → bytes_eq (if a then codes "out__" ++ result ++ codes "__" ++ drop 5 name else if b then codes "fault__" ++ result ++ codes "__" ++ drop 7 name else name) (codes "clk") ≡ false
    pick true b = refl
    pick false true = refl
    pick false false = other

-- in a cycle in which two modules carry the same, one result's ports carry the same
pub view_steady : (result : List ℕ) (t : ℕ) (port port' : PortValues) → SameAt t port port' → SameAt t (seen_as result port) (seen_as result port')
view_steady result t port port' same name other = same (within result name) (other_within result name other)

-- what does not look at the clock on a view of the ports does not look at it on the ports
pub past_view : (view : PortValues → PortValues) → ((t : ℕ) (port port' : PortValues) → SameAt t port port' → SameAt t (view port) (view port')) → (P : Property) → IsPastClock P → IsPastClock (λ beats port. P beats (view port))
past_view view steady P past = λ beats port port' same. past beats (view port) (view port') (λ t. steady t port port' (same t))

-- and so on the ports of one result
pub past_within : (result : List ℕ) (P : Property) → IsPastClock P → IsPastClock (λ beats port. P beats (seen_as result port))
past_within result P past = past_view (seen_as result) (view_steady result) P past

-- ---- the ports by which a result is shown

pub valid_within : (result : List ℕ) → within result out_valid ≡ codes "out__" ++ result ++ codes "__" ++ codes "valid"
unfolding out_valid
valid_within result = refl

pub column_within : (result column : List ℕ) → within result (out_column column) ≡ codes "out__" ++ result ++ codes "__" ++ column
unfolding out_column
column_within result column = refl

pub eos_within : (result : List ℕ) → within result out_eos ≡ codes "out__" ++ result ++ codes "__" ++ codes "eos"
unfolding out_eos
eos_within result = refl

pub group_within : (result : List ℕ) → within result fault_group ≡ codes "fault__" ++ result ++ codes "__" ++ codes "group"
unfolding fault_group
group_within result = refl

pub queue_within : (result : List ℕ) → within result fault_queue ≡ codes "fault__" ++ result ++ codes "__" ++ codes "queue"
unfolding fault_queue
queue_within result = refl

-- ---- worked

pub worked : WorkedViews
worked = record { valid = refl; column = refl; fault = refl; shared = refl; clock = refl }
