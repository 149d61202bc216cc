-- What is cited here of the crates below.
use Rattle.gl_algebra.specs.Laws.{BodiesReadTheirInput, ClosingNodesWait, ColumnsHaveKinds, FiguresAreSound, NodesFollowTables, PacesFixFigures, ResultsGoByOrder, UntimedResults}
use Rattle.gl_figures.specs.Reach.{OnceIsLess}
use Rattle.gl_wire.specs.Laws.{EndsServe, FollowersKeepPace, OwnBeatsFit, SteadyServes, TotalsComeWithEnds, UnspacedIsApart}
use Rattle.gl_above.specs.Above.{RowsServeOnce}
use Rattle.gl_wire_lanes.specs.Laws.{BeginsBehind}
use Rattle.gl_frames_wire.specs.Laws.{RunningKeepsPace, RunningSettles}
use Rattle.gl_frames_stages.specs.Counted.{FramesAreCounted}
use Rattle.gl_frames_parted.specs.Parted.{KeyFramesAreCounted}
use Rattle.gl_windows.specs.Costs.{RotationsAreCounted, TimesAreCounted}
use Rattle.gl_windows.specs.Laws.{WindowsRotate}
use Rattle.gl_windows.specs.TimeRotations.{TimesRotate}
use Rattle.gl_spare.specs.Costs.{SparesAreCounted}
use Rattle.gl_spare.specs.Laws.{SparesRotate}
use Rattle.gl_groups.specs.Costs.{GroupingsAreCounted}
use Rattle.gl_groups.specs.LaneLaws.{LanesServe}
use Rattle.gl_groups.specs.Laws.{GroupsGroup}
use Rattle.gl_partition.specs.Costs.{PartitioningsAreCounted}
use Rattle.gl_partition.specs.Laws.{PartitionsPartition}
use Rattle.gl_turns.specs.Counted.{TurnsAreCounted}
use Rattle.gl_queue.specs.Counted.{JoinersAreCounted, SpacersAreCounted, UnionsAreCounted}

-- the laws of plans, of wires, and of the blocks that stand between them
pub record LawsBelow : Type 0 where
  pub bodies_read_their_input : BodiesReadTheirInput
  pub closing_nodes_wait : ClosingNodesWait
  pub columns_have_kinds : ColumnsHaveKinds
  pub figures_are_sound : FiguresAreSound
  pub nodes_follow_tables : NodesFollowTables
  pub paces_fix_figures : PacesFixFigures
  pub results_are_untimed : UntimedResults
  pub results_go_by_order : ResultsGoByOrder
  pub once_is_less : OnceIsLess
  pub ends_serve : EndsServe
  pub followers_keep_pace : FollowersKeepPace
  pub own_beats_fit : OwnBeatsFit
  pub steady_serves : SteadyServes
  pub totals_come_with_ends : TotalsComeWithEnds
  pub unspaced_is_apart : UnspacedIsApart
  pub rows_serve_once : RowsServeOnce
  pub begins_behind : BeginsBehind
  pub running_settles : RunningSettles
  pub running_keeps_pace : RunningKeepsPace
  pub frames_are_counted : FramesAreCounted
  pub key_frames_are_counted : KeyFramesAreCounted
  pub windows_rotate : WindowsRotate
  pub rotations_are_counted : RotationsAreCounted
  pub times_rotate : TimesRotate
  pub times_are_counted : TimesAreCounted
  pub spares_rotate : SparesRotate
  pub spares_are_counted : SparesAreCounted
  pub groups_group : GroupsGroup
  pub groupings_are_counted : GroupingsAreCounted
  pub lanes_serve : LanesServe
  pub partitions_partition : PartitionsPartition
  pub partitionings_are_counted : PartitioningsAreCounted
  pub joiners_are_counted : JoinersAreCounted
  pub spacers_are_counted : SpacersAreCounted
  pub unions_are_counted : UnionsAreCounted
  pub turns_are_counted : TurnsAreCounted
