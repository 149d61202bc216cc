-- The kinds that texts can name: a front, and behind it a size.
use Rattle.std.specs.Prelude.{ℕ, ◌+◌, ◌-◌, Bool, List, [], ◌∷◌, codes, map}
use Rattle.std.specs.List.{flat_map, list_any, range_with_len}
use Rattle.gl_values.specs.Operators.{same_kind}
use Rattle.gl_values.specs.declared.kind.Kind.{Kind}
use Rattle.gl_values.specs.declared.kind.Kind.TheVariants.{Unsigned, Signed, Text}

-- a front, the bits of a size of 1, the sizes from the least to the most, and the kind of a size
pub record Written : Type 0 where
  pub front : List ℕ
  pub unit : ℕ
  pub least : ℕ
  pub most : ℕ
  pub make : ℕ → Kind

-- `u1` to `u64`
abbrev pub numbers : Written
numbers = record { front = codes "u"; unit = 1; least = 1; most = 64; make = Unsigned }

-- `s2` to `s64`
abbrev pub signed_numbers : Written
signed_numbers = record { front = codes "s"; unit = 1; least = 2; most = 64; make = Signed }

-- `text1` to `text8`
abbrev pub texts : Written
texts = record { front = codes "text"; unit = 8; least = 1; most = 8; make = Text }

-- the three fronts of kinds: numbers, signed numbers, and texts
abbrev pub table : List Written
table = numbers ∷ signed_numbers ∷ texts ∷ []

-- the kinds of a row
abbrev pub kinds_in : Written → List Kind
kinds_in row = map row.make (range_with_len row.least (row.most + 1 - row.least))

-- all that are written
unfoldable pub kinds : List Kind
kinds = flat_map kinds_in table

-- some text names this kind
unfoldable pub is_written : Kind → Bool
is_written kind = list_any (same_kind kind) kinds
