use Rattle.std.proofs.Common.{[], Some}
use Rattle.gl_frames.specs.Frames.{by_key}
use Rattle.gl_arrival.proofs.ChangeLemmas.{each_never_falls, kept_never_falls, mapped_never_falls, rows_brought, rows_each, rows_kept, rows_mapped, stepped_kept, stepped_mapped, stepped_moved}
use Rattle.gl_arrival.proofs.laws.changes_keep_places.Goals as goal

pub returns-clause-rows : goal.returns-clause-rows
returns-clause-rows g c = record {
  kept = rows_kept;
  mapped = rows_mapped;
  frames = λ f xs. rows_each (λ seen. Some (f seen)) [] xs;
  by_key = λ n key_of f xs. rows_each (by_key n key_of f) [] xs;
  coming = rows_brought;
}

pub returns-clause-steps : goal.returns-clause-steps
returns-clause-steps g c = record { kept = stepped_kept; mapped = stepped_mapped; places = stepped_moved }

pub returns-clause-order : goal.returns-clause-order
returns-clause-order g c = record {
  kept = kept_never_falls;
  mapped = mapped_never_falls;
  frames = λ f xs h. each_never_falls (λ seen. Some (f seen)) [] xs h;
  by_key = λ n key_of f xs h. each_never_falls (by_key n key_of f) [] xs h;
}
