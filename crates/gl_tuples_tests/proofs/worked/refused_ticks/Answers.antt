use Rattle.std.proofs.Common.{refl}
use Rattle.std.specs.Str.Lossy.{utf8_valid_len}
use Rattle.std.specs.Str.{is_utf8 as is_text, chars}
use lib.Utf8.{encode}
use Rattle.gl_tuples.specs.declared.fault.TupleFault.TheVariants.{FieldCount, TickTwice}
use Rattle.gl_tuples.specs.Values.{is_utf8, are_digits, is_number, number_in, number_of, word_of}
use Rattle.gl_tuple_reader.specs.Entries.{are_utf8, text_checked, cycle_of, row_of, stream_named, entry_of}
use Rattle.gl_tuple_reader.specs.Filing.{next_filing}
use Rattle.gl_tuple_reader.specs.Settings.{all_set, beats_of, next_progress, says_set, sets_checked}
use Rattle.gl_tuple_reader.proofs.FileReadings.{not_both}
use Rattle.gl_tuples_tests.proofs.worked.refused_ticks.Goals as goal

pub returns-clause-twice : goal.returns-clause-twice
unfolding beats_of next_progress says_set sets_checked all_set next_filing text_checked are_utf8 is_utf8 utf8_valid_len is_text chars encode cycle_of number_of is_number are_digits number_in entry_of stream_named row_of word_of
returns-clause-twice c beats are = not_both _ _ beats (TickTwice 2) are refl

pub returns-clause-behind : goal.returns-clause-behind
unfolding beats_of next_progress says_set sets_checked all_set next_filing text_checked are_utf8 is_utf8 utf8_valid_len is_text chars encode cycle_of number_of is_number are_digits number_in entry_of stream_named row_of word_of
returns-clause-behind c beats are = not_both _ _ beats (FieldCount 1) are refl

pub returns-clause-twice_behind : goal.returns-clause-twice_behind
unfolding beats_of next_progress says_set sets_checked all_set next_filing text_checked are_utf8 is_utf8 utf8_valid_len is_text chars encode cycle_of number_of is_number are_digits number_in entry_of stream_named row_of word_of
returns-clause-twice_behind c beats are = not_both _ _ beats (FieldCount 2) are refl
