use Rattle.gl_top_inputs.proofs.Texts.{one_asks, tuples_pass}
use Rattle.gl_top_inputs.proofs.judging.judge_file.Goals as goal

pub judge_tuples-requires-clause-asks : goal.judge_tuples-requires-clause-asks
judge_tuples-requires-clause-asks g c =
    one_asks _ c.args.words.now c.args.compiled _ _ c.requires.runs c.requires.passes c.requires.compiled c.schema.ensures c.gaps-gaps.ensures

pub returns-clause-ready : goal.returns-clause-ready
returns-clause-ready g c = record {
  compiled = c.requires.compiled;
  passes =
      tuples_pass _ c.args.words.now c.args.compiled _ _ c.in_ok-beats.beats c.requires.runs c.requires.passes c.requires.compiled c.schema.ensures c.gaps-gaps.ensures
      (c.in_ok-beats.ensures.fine, c.in_ok-beats.ensures.gaps, c.in_ok-beats.ensures.text);
}
