-- How many brackets, operators and joins of queries a text may have.
use Rattle.std.specs.Prelude.{ℕ, ◌+◌, ◌-◌, ◌≤◌, Bool, true, false, ◌||◌, List, [], ◌∷◌, nat_lt, if◌then◌else◌}
use Rattle.gl_bits.specs.Limits.{most_brackets, most_joins, most_operators}
use Rattle.gl_query_tokens.specs.declared.token.Plain.{Plain}
use Rattle.gl_query_tokens.specs.declared.token.Plain.TheVariants as plain
use Rattle.gl_query_tokens.specs.declared.token.Token.{Token}
use Rattle.gl_query_tokens.specs.declared.token.Token.TheVariants as token
use Rattle.gl_query_reader.specs.declared.limits.Counts.{Counts}

-- round brackets that are open; operators, `~`, NOT and CAST of the whole expression so far; UNION and CONCAT so far; and
-- whether an operand may begin here
abbrev pub none_counted : Counts
none_counted = record { brackets = 0; operators = 0; joins = 0; operand = false }

-- whether an operand may begin behind a token
abbrev pub begins_after : Plain → Bool
begins_after plain.Select = true
begins_after plain.Where = true
begins_after plain.Comma = true
begins_after plain.LeftSquare = true
begins_after p = false

-- behind such a token an operand begins, so that a minus is the sign of a number; behind CAST its bracket does
abbrev pub begins_operand : Token → Bool
begins_operand (token.Open at) = true
begins_operand (token.Operator o at) = true
begins_operand (token.Tilde at) = true
begins_operand (token.Not at) = true
begins_operand (token.Cast at) = true
begins_operand (token.Plain p) = begins_after p
begins_operand t = false

-- a sign that stands where an operand may begin is no operator, as the `*` of all columns
abbrev pub operators_with : Counts → ℕ
operators_with n = if n.operand then n.operators else n.operators + 1

-- a bracket where no operand begins is that of a function, of OVER or of a query: what is in it counts anew
abbrev pub operators_open : Counts → ℕ
operators_open n = if n.operand then n.operators else 0

-- another whole expression may begin behind these
abbrev pub with_plain : Counts → Plain → Counts
with_plain n plain.Close = record n { brackets = n.brackets - 1 }
with_plain n plain.Select = record n { operators = 0 }
with_plain n plain.Comma = record n { operators = 0 }
with_plain n plain.Where = record n { operators = 0 }
with_plain n p = n

-- the counts with a token
abbrev pub with_token : Counts → Token → Counts
with_token n (token.Open at) = record n { brackets = n.brackets + 1; operators = operators_open n }
with_token n (token.Operator o at) = record n { operators = operators_with n }
with_token n (token.Tilde at) = record n { operators = n.operators + 1 }
with_token n (token.Not at) = record n { operators = n.operators + 1 }
with_token n (token.Cast at) = record n { operators = n.operators + 1 }
with_token n (token.Join join at) = record n { joins = n.joins + 1 }
with_token n (token.Fold fold at) = record n { operators = 0 }
with_token n (token.Wsum at) = record n { operators = 0 }
with_token n (token.Plain p) = with_plain n p
with_token n t = n

-- the counts behind a token
abbrev pub after : Counts → Token → Counts
after n t = record (with_token n t) { operand = begins_operand t }

-- a count is past its limit
abbrev pub is_past : Counts → Bool
is_past n = nat_lt most_brackets n.brackets || nat_lt most_operators n.operators || nat_lt most_joins n.joins

-- no count is past its limit
pub record IsSmall (n : Counts) : Type 0 where
  pub brackets : n.brackets ≤ most_brackets
  pub operators : n.operators ≤ most_operators
  pub joins : n.joins ≤ most_joins

-- the counts behind tokens
abbrev pub counted : Counts → List Token → Counts
counted n [] = n
counted n (t ∷ ts) = counted (after n t) ts

-- no token passes a limit
abbrev pub keeps_limits : Counts → List Token → Bool
keeps_limits n [] = true
keeps_limits n (t ∷ ts) = if is_past (after n t) then false else keeps_limits (after n t) ts
