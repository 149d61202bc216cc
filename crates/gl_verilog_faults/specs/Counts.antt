-- What a token counts for, and the counts behind the first tokens of a text: the limits, for a front of a text too.
use Rattle.std.specs.Prelude.{ℕ, ◌+◌, ◌-◌, Bool, true, false, ◌||◌, List, [], ◌∷◌, nat_lt, if◌then◌else◌}

-- opens or closes a bracket or `begin`; is an operator; a whole expression begins behind it (`=`, `<=`), perhaps with a
-- bracket; is an `if`; begins an item or ends the last one; counts for nothing
pub data Role : Type 0 where
  Opens : Role
  Closes : Role
  Operates : Role
  Starts : Role
  OpensWhole : Role
  Tests : Role
  Begins : Role
  Plain : Role

-- how many brackets and `begin` are open, how many operators of the whole expression and `if` of the item were read
pub record Counts : Type 0 where
  pub brackets : ℕ
  pub operators : ℕ
  pub ifs : ℕ

-- the counts at the start of an item
abbrev pub none_counted : Counts
none_counted = record { brackets = 0; operators = 0; ifs = 0 }

-- the counts behind a token, by its role; a whole expression begins anew, and so does an item
abbrev pub after : Counts → Role → Counts
after n Opens = record n { brackets = n.brackets + 1 }
after n Closes = record n { brackets = n.brackets - 1 }
after n Operates = record n { operators = n.operators + 1 }
after n Starts = record n { operators = 0 }
after n OpensWhole = record n { brackets = n.brackets + 1; operators = 0 }
after n Tests = record n { ifs = n.ifs + 1 }
after n Begins = none_counted
after n Plain = n

-- more than 64 brackets are open, or an expression has over 1,024 operators, or an item over 1,024 `if`
abbrev pub is_past : Counts → Bool
is_past n = nat_lt 64 n.brackets || (nat_lt 1024 n.operators || nat_lt 1024 n.ifs)

-- no count passes its limit behind any of the tokens
abbrev pub keeps_limits : Counts → List Role → Bool
keeps_limits n [] = true
keeps_limits n (r ∷ rs) = if is_past (after n r) then false else keeps_limits (after n r) rs
