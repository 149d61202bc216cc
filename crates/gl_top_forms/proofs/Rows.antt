-- Worked command lines compute.
use Rattle.std.proofs.Common.{refl}
use Rattle.gl_tuples.specs.Values.{number_of, is_number, are_digits, number_in}
use Rattle.gl_top_forms.specs.Forms.{command_named, command_of, extra_of, is_command, load_of, names_of, option_word, topic_of, values_of, start_of}
use Rattle.gl_top_forms.specs.Worked.{WorkedForms}

pub worked_forms : WorkedForms
unfolding command_named command_of is_command extra_of load_of topic_of names_of option_word values_of start_of number_of is_number are_digits number_in
worked_forms = record {
  compile = (refl, refl);
  figures = (refl, refl);
  explain = (refl, refl);
  plain = ((refl, refl), refl);
  first = ((refl, refl), refl);
  within = ((refl, refl), refl);
  last = ((refl, refl), refl);
  joined_zero = ((refl, refl), refl);
  zero_apart = ((refl, refl), refl);
  greatest = ((refl, refl), refl);
  too_great = refl;
  without_value = refl;
  no_number = refl;
  empty_value = refl;
  two_values = refl;
  no_option = refl;
  a_name_too_few = refl;
  a_name_too_many = refl;
  start_of_no_run = refl;
  extra_of_no_sim = refl;
  sim_last = ((refl, refl), refl);
  sim_joined = ((refl, refl), refl);
  sim_most = ((refl, refl), refl);
  sim_too_many = refl;
  sim_no_extra = refl;
  sim_two_extras = refl;
  sim_without_value = refl;
  sim_empty_value = refl;
  sim_below_zero = refl;
  sim_start = refl;
  sim_both = refl;
  sim_a_name_too_few = refl;
  sim_a_name_too_many = refl;
  sim_no_option = refl;
  sim_help = refl;
  dumps = (refl, refl);
  dumps_from = (refl, refl);
  dumps_no_extra = refl;
  dumps_too_few = refl;
  undumps = (refl, refl);
  undumps_nothing = refl;
  undumps_two = refl;
  undumps_no_start = refl;
  many = (refl, refl);
  many_no_start = refl;
  many_no_tuples = refl;
  many_figures = (refl, refl);
  many_figures_no_start = refl;
  many_runs = ((refl, refl), refl);
  many_runs_from = ((refl, refl), refl);
  many_runs_too_few = refl;
  many_runs_no_extra = refl;
  why = (refl, refl);
  why_run = (refl, refl);
  why_too_few = refl;
  why_too_many = refl;
  why_no_start = refl;
  load_some = (refl, refl);
  load_one = (refl, refl);
  load_most = (refl, refl);
  load_zero = refl;
  load_nothing = refl;
  load_too_many = refl;
  load_no_number = refl;
  load_twice = refl;
  load_start = refl;
  load_dashed = refl;
  version = (refl, refl);
  version_and_a_name = refl;
  version_and_an_option = refl;
  version_twice = refl;
  dashed_help = (refl, refl);
  dashed_help_on_run = refl;
  dashed_help_of_run = refl;
  help = (refl, refl);
  help_on_run = (refl, refl);
  help_on_help = (refl, refl);
  help_on_nothing = refl;
  help_on_version = refl;
  help_on_two = refl;
  help_is_a_name = (refl, refl);
  no_command = refl;
  no_word = refl;
}
