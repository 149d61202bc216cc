-- Small pieces of a module's text.
use Rattle.std.specs.Prelude.{ℕ, List, ◌++◌, codes, decimal}

-- what the names of a family begin with
unfoldable pub family_text : ℕ → List ℕ
family_text family = codes "n" ++ decimal family ++ codes "_"

-- the name of a node's net; the family keeps it apart from the ports' names
unfoldable pub net_name : ℕ → ℕ → List ℕ
net_name family node = family_text family ++ decimal node
