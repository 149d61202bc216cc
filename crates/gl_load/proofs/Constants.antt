-- The texts of the load have its schema and its query, which breaks no rule.
use Rattle.std.proofs.Common.{◌≡◌, true, List, [], ◌∷◌, None, codes, refl, subst, arith}
use Rattle.std.specs.Fmt.{digits}
use Rattle.std.specs.List.{IsDistinct}
use Rattle.gl_schema.specs.Names.{is_name, begins_with_letter, has_name_bytes, has_loose_underscore, is_taken, keywords, reserved}
use Rattle.gl_schema.specs.Schemas.{IsSchema, has_column, has_stream}
use Rattle.gl_schema.specs.SchemaText as schemas
use Rattle.gl_schema.specs.SchemaText.{IsSchemaText, OfStream}
use Rattle.gl_schema.specs.Written.{is_written, kinds}
use Rattle.gl_query.specs.Trees.{StatementTree}
use Rattle.gl_query.specs.Faults.{first_fault}
use Rattle.gl_query_tokens.specs.declared.token.Token.{Token}
use Rattle.gl_query_tokens.specs.Tokens.{tokens_of, class_of, sign_token, follow_of, text_token}
use Rattle.gl_query_tokens.specs.Words.{is_keyword, word_token}
use Rattle.gl_query_tokens.specs.Words as words
use Rattle.gl_query_reader.specs.Grammar.{HasStatement, bare_tokens}
use Rattle.gl_query_reader.specs.Written.{spell_statement}
use Rattle.gl_query_reader.specs.Meaning.{statement_meaning}
use Rattle.gl_query_reader.specs.Limits.{keeps_limits, none_counted}
use Rattle.gl_load.specs.Query.{load_columns, load_schema, load_written, query_text, schema_text}

-- ---- the schema

pub is_schema : IsSchema load_schema
unfolding IsDistinct is_name begins_with_letter has_name_bytes has_loose_underscore is_taken keywords reserved is_written kinds
is_schema = record {
  some' = omega arith;
  most = omega arith;
  streams = (
    record {
      name = refl;
      some' = omega arith;
      most = omega arith;
      columns = (record { name = refl; kind = refl }, (record { name = refl; kind = refl }, (record { name = refl; kind = refl }, tt)));
      distinct = ((refl, (refl, tt)), ((refl, tt), (tt, tt)));
    },
    tt,
  );
  distinct = (tt, tt);
  declared = record { most = omega arith; each = tt; distinct = tt };
}

pub schema_spelled : IsSchemaText schema_text load_schema
unfolding schema_text schemas.tokens_of schemas.class_of schemas.kind_text schemas.row_of digits
schema_spelled = record {
  schema' = is_schema;
  all = OfStream (record { name = codes "trades"; columns = load_columns }) ∷ [];
  same = refl;
  spelled = refl;
}

-- ---- the query

abbrev pub load_tree : StatementTree
load_tree = statement_meaning load_written

query_spelled : spell_statement load_written ≡ bare_tokens (tokens_of query_text)
unfolding query_text tokens_of class_of sign_token follow_of text_token is_keyword word_token words.number_of is_name begins_with_letter has_name_bytes has_loose_underscore is_taken keywords reserved
query_spelled = refl

limits_kept : keeps_limits none_counted (bare_tokens (tokens_of query_text)) ≡ true
limits_kept = subst (λ (ts : List Token). keeps_limits none_counted ts ≡ true) query_spelled refl

pub query_has : HasStatement query_text load_tree
query_has = record {
  written = load_written;
  derived = record { grammar = ((tt, (tt, (tt, tt))), tt, (omega arith, omega arith, tt, tt)); spelled = query_spelled };
  limits = limits_kept;
  items = refl;
  means = refl;
}

pub query_faultless : first_fault load_schema load_tree ≡ None
unfolding has_column has_stream
query_faultless = refl
