use Rattle.gl_asof.proofs.SentenceLemmas.{is_the_sentence}
use Rattle.gl_asof.proofs.laws.as_of_is_the_sentence.Goals as goal

pub returns : goal.returns
returns g c = is_the_sentence
