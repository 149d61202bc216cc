use Rattle.gl_wiring.proofs.below.laws_below.Goals as goal

pub returns : goal.returns
returns c = record {
  bodies_read_their_input = c.bodies_read_their_input.ensures;
  closing_nodes_wait = c.closing_nodes_wait.ensures;
  columns_have_kinds = c.columns_have_kinds.ensures;
  figures_are_sound = c.figures_are_sound.ensures;
  nodes_follow_tables = c.nodes_follow_tables.ensures;
  paces_fix_figures = c.paces_fix_figures.ensures;
  results_are_untimed = c.results_are_untimed.ensures;
  results_go_by_order = c.results_go_by_order.ensures;
  once_is_less = c.once_is_less.ensures;
  ends_serve = c.ends_serve.ensures;
  followers_keep_pace = c.followers_keep_pace.ensures;
  own_beats_fit = c.own_beats_fit.ensures;
  steady_serves = c.steady_serves.ensures;
  totals_come_with_ends = c.totals_come_with_ends.ensures;
  unspaced_is_apart = c.unspaced_is_apart.ensures;
  rows_serve_once = c.rows_serve_once.ensures;
  begins_behind = c.begins_behind.ensures;
  running_settles = c.running_serves.ensures.settles;
  running_keeps_pace = c.running_serves.ensures.pace;
  frames_are_counted = c.frames_are_counted.ensures;
  key_frames_are_counted = c.key_frames_are_counted.ensures;
  windows_rotate = c.windows_rotate.ensures;
  rotations_are_counted = c.costs_are_counted.ensures;
  times_rotate = c.times_rotate.ensures;
  times_are_counted = c.times_are_counted.ensures;
  spares_rotate = c.spares_rotate.ensures;
  spares_are_counted = c.costs_are_counted-2.ensures;
  groups_group = c.groups_group.ensures;
  groupings_are_counted = c.costs_are_counted-3.ensures;
  lanes_serve = c.lanes_serve.ensures;
  partitions_partition = c.partitions_partition.ensures;
  partitionings_are_counted = c.costs_are_counted-4.ensures;
  joiners_are_counted = c.costs_are_counted-5.ensures.joiners;
  spacers_are_counted = c.costs_are_counted-5.ensures.spacers;
  unions_are_counted = c.costs_are_counted-5.ensures.unions;
  turns_are_counted = c.turns_are_counted.ensures.weight;
}
