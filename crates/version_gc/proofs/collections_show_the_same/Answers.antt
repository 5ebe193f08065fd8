use Rattle.version_gc.proofs.Collections.{same_shown}
use Rattle.version_gc.proofs.collections_show_the_same.Goals as goal

pub returns : goal.returns
returns c = λ safe ts h versions rise le. same_shown safe ts h le versions rise
