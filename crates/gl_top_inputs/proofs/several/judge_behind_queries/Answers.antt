use Rattle.gl_top_inputs.proofs.Texts.{all_ask, tuples_pass_all}
use Rattle.gl_top_inputs.proofs.several.judge_behind_queries.Goals as goal

pub judge_tuples-requires-clause-asks : goal.judge_tuples-requires-clause-asks
judge_tuples-requires-clause-asks g c =
    all_ask _ c.args.words.now c.args.many _ _ c.requires.runs c.requires.passes c.requires.compiled c.schema.ensures c.gaps-gaps.ensures

pub returns-clause-ready : goal.returns-clause-ready
returns-clause-ready g c = record {
  compiled = c.requires.compiled;
  passes =
      tuples_pass_all _ c.args.words.now c.args.many _ _ c.in_ok-beats.beats c.requires.runs c.requires.passes c.requires.compiled c.schema.ensures c.gaps-gaps.ensures
      (c.in_ok-beats.ensures.fine, c.in_ok-beats.ensures.gaps, c.in_ok-beats.ensures.text);
}
