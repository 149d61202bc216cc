-- Brackets that stand unless what is in them fits without.
use Rattle.std.specs.Prelude.{Bool, true, false, List, [], ◌∷◌}
use Rattle.gl_query_tokens.specs.declared.token.Plain.TheVariants as plain
use Rattle.gl_query_tokens.specs.declared.token.Token.{Token}
use Rattle.gl_query_tokens.specs.declared.token.Token.TheVariants as token
use Rattle.gl_query_reader.specs.Written.{Query, Stream, InBrackets, Select, Windows, Groups, AsOf', Join'}

-- an opening bracket, unless none is needed
abbrev pub opening : Bool → List Token
opening true = []
opening false = token.Open 0 ∷ []

-- a closing bracket, unless none is needed
abbrev pub closing : Bool → List Token
closing true = []
closing false = token.Plain plain.Close ∷ []

-- a source that stands without brackets
abbrev pub is_stream : Query → Bool
is_stream (Stream name) = true
is_stream (InBrackets at q) = false
is_stream (Select pick source window filter grouping) = false
is_stream (Windows at var source window open' body) = false
is_stream (Groups at var source grouping window open' body) = false
is_stream (AsOf' w l r grouping) = true
is_stream (Join' join at l r) = false

-- a side of ASOF that stands without brackets
abbrev pub is_side : Query → Bool
is_side (Stream name) = true
is_side (InBrackets at q) = false
is_side (Select pick source window filter grouping) = false
is_side (Windows at var source window open' body) = false
is_side (Groups at var source grouping window open' body) = false
is_side (AsOf' w l r grouping) = false
is_side (Join' join at l r) = false

-- a right side of a union or CONCAT that stands without brackets
abbrev pub is_term : Query → Bool
is_term (Stream name) = true
is_term (InBrackets at q) = true
is_term (Select pick source window filter grouping) = true
is_term (Windows at var source window open' body) = true
is_term (Groups at var source grouping window open' body) = true
is_term (AsOf' w l r grouping) = true
is_term (Join' join at l r) = false
