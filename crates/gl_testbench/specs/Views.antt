-- The ports of one result among those of several.
use Rattle.std.specs.Prelude.{◌≡◌, ℕ, List, ◌++◌, codes, take, drop, bytes_eq, if◌then◌else◌}
use Rattle.gl_schema.specs.Ports.{PortValues}

-- the name that a port of a result has where the result stands beside others: an output and a fault line have the
-- result's name in theirs, and the inputs, which all results share, keep theirs
abbrev pub within : List ℕ → List ℕ → List ℕ
within result name =
    if bytes_eq (take 5 name) (codes "out__") then codes "out__" ++ result ++ codes "__" ++ drop 5 name
    else if bytes_eq (take 7 name) (codes "fault__") then codes "fault__" ++ result ++ codes "__" ++ drop 7 name
    else name

-- the ports of one result of a module, under the names that they have where it stands alone
abbrev pub seen_as : List ℕ → PortValues → PortValues
seen_as result port t name = port t (within result name)

-- worked names
pub record WorkedViews : Type 0 where
  pub valid : within (codes "totals") (codes "out__valid") ≡ codes "out__totals__valid"
  pub column : within (codes "a") (codes "out__price") ≡ codes "out__a__price"
  pub fault : within (codes "a") (codes "fault__group") ≡ codes "fault__a__group"
  pub shared : within (codes "a") (codes "in__trades__price") ≡ codes "in__trades__price"
  pub clock : within (codes "a") (codes "clk") ≡ codes "clk"
