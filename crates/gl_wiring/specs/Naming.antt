-- What the ports of a result are called, by the names that they have where the result stands alone.
use Rattle.std.specs.Prelude.{◌≡◌, ℕ, List, ◌++◌, codes, take, drop, bytes_eq, if◌then◌else◌}
use Rattle.gl_schema.specs.Ports.{PortValues}
use Rattle.gl_wiring.specs.declared.names.Face.{Face}
use Rattle.gl_wiring.specs.declared.names.Face.TheVariants.{Alone, Among}

abbrev pub Naming : Type 0
Naming = List ℕ → List ℕ

-- where it stands alone
abbrev pub plain : Naming
plain name = name

-- where it stands beside others: an output and a fault line have the result's name in theirs, and the inputs, which all
-- results share, keep theirs
abbrev pub beside_others : List ℕ → Naming
beside_others result name =
    if bytes_eq (take 5 name) (codes "out__") then codes "out__" ++ result ++ codes "__" ++ drop 5 name
    else if bytes_eq (take 7 name) (codes "fault__") then codes "fault__" ++ result ++ codes "__" ++ drop 7 name
    else name

abbrev pub naming_of : Face → Naming
naming_of Alone = plain
naming_of (Among result) = beside_others result

-- what a port shows, behind the front of its name
abbrev pub with_shown : Face → List ℕ → List ℕ → List ℕ
with_shown Alone front what = front ++ what
with_shown (Among result) front what = front ++ result ++ codes "__" ++ what

-- the ports of a result, under the names that they have where it stands alone
abbrev pub seen_as : Naming → PortValues → PortValues
seen_as naming port t name = port t (naming name)

-- worked names
pub record WorkedNames : Type 0 where
  pub valid : beside_others (codes "totals") (codes "out__valid") ≡ codes "out__totals__valid"
  pub column : beside_others (codes "a") (codes "out__price") ≡ codes "out__a__price"
  pub fault : beside_others (codes "a") (codes "fault__group") ≡ codes "fault__a__group"
  pub shared : beside_others (codes "a") (codes "in__trades__price") ≡ codes "in__trades__price"
