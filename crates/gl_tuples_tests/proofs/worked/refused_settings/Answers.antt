use Rattle.std.proofs.Common.{refl}
use Rattle.std.specs.Str.Lossy.{utf8_valid_len}
use Rattle.std.specs.Str.{is_utf8 as is_text, chars}
use lib.Utf8.{encode}
use Rattle.gl_tuples.specs.declared.fault.TupleFault.TheVariants.{BadCycle, NotSet, SetTwice}
use Rattle.gl_tuples.specs.Values.{is_utf8, are_digits, is_number, number_in, number_of, word_of}
use Rattle.gl_tuple_reader.specs.Entries.{are_utf8, text_checked, cycle_of, row_of, stream_named, entry_of}
use Rattle.gl_tuple_reader.specs.Filing.{next_filing}
use Rattle.gl_tuple_reader.specs.Settings.{all_set, beats_of, next_progress, parameter_named, says_set, setting_of, sets_checked}
use Rattle.gl_tuple_reader.proofs.FileReadings.{not_both}
use Rattle.gl_tuples_tests.proofs.worked.refused_settings.Goals as goal

pub returns-clause-twice : goal.returns-clause-twice
unfolding beats_of next_progress says_set setting_of parameter_named sets_checked all_set next_filing text_checked are_utf8 is_utf8 utf8_valid_len is_text chars encode cycle_of number_of is_number are_digits number_in entry_of stream_named row_of word_of
returns-clause-twice c beats are = not_both _ _ beats (SetTwice 2) are refl

pub returns-clause-none : goal.returns-clause-none
unfolding beats_of next_progress says_set setting_of parameter_named sets_checked all_set next_filing text_checked are_utf8 is_utf8 utf8_valid_len is_text chars encode cycle_of number_of is_number are_digits number_in entry_of stream_named row_of word_of
returns-clause-none c beats are = not_both _ _ beats (NotSet 1) are refl

pub returns-clause-late : goal.returns-clause-late
unfolding beats_of next_progress says_set setting_of parameter_named sets_checked all_set next_filing text_checked are_utf8 is_utf8 utf8_valid_len is_text chars encode cycle_of number_of is_number are_digits number_in entry_of stream_named row_of word_of
returns-clause-late c beats are = not_both _ _ beats (BadCycle 3) are refl
