use Rattle.prefix_laws.proofs.Tagging.{clip_nothing, clip_says, order_left, order_right}
use Rattle.prefix_laws.proofs.laws.files.clipped_files_say_their_part.Goals as goal

pub returns-clause-inside : goal.returns-clause-inside
returns-clause-inside c = λ range h files held. clip_says range h files held

pub returns-clause-outside : goal.returns-clause-outside
returns-clause-outside c = λ range h k files out. clip_nothing range h k files out

pub returns-clause-left : goal.returns-clause-left
returns-clause-left c = λ l r h held out. order_left l.range r.range l.named r.named l.more r.more h held out

pub returns-clause-right : goal.returns-clause-right
returns-clause-right c = λ l r h held out. order_right l.range r.range l.named r.named l.more r.more h held out
