use Rattle.tool_text.proofs.OneCommand.{asks_once}
use Rattle.tool_text.proofs.words.words_ask_for_one_command.Goals as goal

pub returns : goal.returns
returns c = asks_once
