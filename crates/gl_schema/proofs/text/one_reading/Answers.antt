use Rattle.gl_schema.proofs.Readings.{schema_is_read, one_schema, schema_or_fault, not_both, fault_is_of_text}
use Rattle.gl_schema.proofs.text.one_reading.Goals as goal

pub returns : goal.returns
returns c = record {
  schema = schema_is_read;
  one = one_schema;
  either = schema_or_fault;
  never_both = not_both;
  of_the_text = fault_is_of_text;
}
