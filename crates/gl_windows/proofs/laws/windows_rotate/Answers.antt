use Rattle.gl_windows.proofs.WindowLemmas.{windows_rotate}
use Rattle.gl_windows.proofs.laws.windows_rotate.Goals as goal

pub returns : goal.returns
returns c = windows_rotate
