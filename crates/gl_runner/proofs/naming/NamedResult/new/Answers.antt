use Rattle.std.proofs.Common.{◌∙◌, ap, subst, sym}
use Rattle.std.specs.List.{AllByRecursion}
use Rattle.gl_values.specs.Kinds.{IsKind}
use Rattle.gl_schema.specs.Schemas.{kinds_of}
use Rattle.gl_runner.proofs.Named.{kinds_are}
use Rattle.gl_runner.proofs.naming.NamedResult.new.Goals as goal

pub zero_row-requires : goal.zero_row-requires
zero_row-requires c = subst (AllByRecursion IsKind) (sym (c.deref.ensures.value ∙ c.in_ok-kinds.ensures ∙ ap kinds_of c.as_slice.ensures)) (kinds_are c.args.face.now.columns c.requires.kinds)
