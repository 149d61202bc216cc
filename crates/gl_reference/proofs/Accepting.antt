-- The worked statements are accepted, or not, by computing.
use Rattle.std.proofs.Common.{◌≡◌, false, true, refl, ap, arith, lit≤}
use Rattle.std.specs.List.{IsDistinct}
use Rattle.gl_values.specs.Kinds.{width_of}
use Rattle.gl_schema.specs.Schemas.{has_column, has_stream}
use Rattle.gl_reference.specs.Worked.{AreAccepted, AreRefused}

pub accepted : AreAccepted
unfolding has_column has_stream IsDistinct
accepted = record {
  filtered = (refl, record { picks = tt; filters = record { typed = (refl, (refl, refl), refl, refl); bit = refl } });
  counted = (
    refl,
    record { some_size = lit≤ tt; most_size = lit≤ tt; some_advance = lit≤ tt; most_advance = lit≤ tt; copies = lit≤ tt },
    ((refl, record { picks = tt; filters = record { typed = (refl, (refl, refl), refl, refl); bit = refl } }), record { typed = (tt, tt); columns = record { most = lit≤ tt; distinct = (tt, tt) } }),
    refl,
    refl,
  );
  timed = (
    refl,
    record { some_size = lit≤ tt; most_size = lit≤ tt; some_advance = lit≤ tt; most_advance = lit≤ tt; copies = lit≤ tt },
    (refl, record { typed = (tt, tt); columns = record { most = lit≤ tt; distinct = (tt, tt) } }),
    refl,
    refl,
  );
  summed = (
    (refl, record { picks = record { typed = (refl, tt); result = record { most = lit≤ tt; distinct = (tt, tt) } }; filters = tt }),
    (refl, record { picks = record { typed = ((refl, refl, (refl, refl), refl), tt); result = record { most = lit≤ tt; distinct = (tt, tt) } }; filters = tt }),
    record { paced = refl; same = refl },
    record { most = lit≤ tt; distinct = ((refl, tt), (tt, tt)) },
  );
}

pub refused : AreRefused
unfolding has_column has_stream IsDistinct
refused = record {
  mixed = λ a. let no : false ≡ true = a.1.filters.typed.1.0 in cc;
  wide = λ a. let no : false ≡ true = a.1.filters.typed.1.1 in cc;
  no_bit = λ a. let e = ap width_of a.1.filters.bit in omega (arith, e);
  unlike = λ a. let e = a.2 in cc;
  unpaced = λ a. let e = a.2.same in cc;
  open' = λ a. let e = a.3 in cc;
  many = λ a. let h = a.1.copies in omega (arith, h);
  many_times = λ a. let h = a.1.copies in omega (arith, h);
  no_time = λ a. let e = a.4 in cc;
  no_time_inside = λ a. let e = a.4 in cc;
}
